-- Several properties, each once.
use Rattle.std.proofs.Common.{◌≡◌, Bool, true, false, not, cond, List, [], ◌∷◌, ◌++◌, filter, inl, inr, refl, ap, sym, ◌∙◌, subst}
use Rattle.std.proofs.lemmas.Bool.{cases_Bool}
use Rattle.std.proofs.lemmas.List.{append-nil}
use Rattle.std.proofs.Math.Path.{fun_ext}
use Rattle.binding_graph.specs.declared.place.Place.{Place}
use Rattle.binding_graph.specs.declared.binding.Binding.{Binding}
use Rattle.binding_graph.specs.Places.{In, Distinct, is_in, same_place}
use Rattle.binding_graph.specs.Bindings.{without_all}
use Rattle.prop_bindings.specs.Changes.{once}
use Rattle.binding_graph.proofs.Places.{decide_in, decide_place, different, same_place-refl}
use Rattle.binding_graph.proofs.Several.{distinct-filter, filter-in, filter-keeps, in-filter, is_in-of, is_in-not, without_all-left}

-- all but this property
abbrev forgotten : Place → List Place → List Place
forgotten p qs = filter (λ q. not (same_place q p)) qs

forgotten-out : (p : Place) (ps : List Place) → In p (forgotten p ps) → ⊥
forgotten-out p ps i = (let kept : not (same_place p p) ≡ true = filter-keeps (λ q. not (same_place q p)) ps p i in let same : same_place p p ≡ true = same_place-refl p in cc (ap not same, kept))

in-forgotten : (p : Place) (ps : List Place) (q : Place) → In q ps → (p ≡ q → ⊥) → In q (forgotten p ps)
in-forgotten p ps q i apart = filter-in (λ r. not (same_place r p)) ps q i (ap not (different q p (λ e. apart (sym e))))

forgotten-none : (p : Place) (ps : List Place) → (In p ps → ⊥) → forgotten p ps ≡ ps
forgotten-none p [] out = refl
forgotten-none p (x ∷ xs) out =
    ap (λ (b : Bool). cond (not b) (x ∷ forgotten p xs) (forgotten p xs)) (different x p (λ e. out (inl e)))
    ∙ ap (λ (ys : List Place). x ∷ ys) (forgotten-none p xs (λ i. out (inr i)))

pub once-distinct : (ps : List Place) → Distinct (once ps)
once-distinct [] = tt
once-distinct (p ∷ ps) = (forgotten-out p (once ps), distinct-filter (λ q. not (same_place q p)) (once ps) (once-distinct ps))

pub distinct-once : (ps : List Place) → Distinct ps → once ps ≡ ps
distinct-once [] d = refl
distinct-once (p ∷ ps) d = ap (λ (qs : List Place). p ∷ forgotten p qs) (distinct-once ps d.1) ∙ ap (λ (qs : List Place). p ∷ qs) (forgotten-none p ps d.0)

pub in-once : (ps : List Place) (q : Place) → In q ps → In q (once ps)
in-once [] q i = i
in-once (p ∷ ps) q i = elim (decide_place p q) [
  | inl e ↦ inl e
  | inr f ↦ elim i [
    | inl e ↦ inl e
    | inr j ↦ inr (in-forgotten p (once ps) q (in-once ps q j) (λ e. (let same : same_place p q ≡ true = subst (λ (r : Place). same_place p r ≡ true) e (same_place-refl p) in cc (same, f))))
  ]
]

pub once-in : (ps : List Place) (q : Place) → In q (once ps) → In q ps
once-in [] q i = i
once-in (p ∷ ps) q i = elim i [
  | inl e ↦ inl e
  | inr j ↦ inr (once-in ps q (in-filter (λ r. not (same_place r p)) (once ps) q j))
]

pub is_in-once : (ps : List Place) (q : Place) → is_in (once ps) q ≡ is_in ps q
is_in-once ps q = elim (decide_in q ps) [
  | inl i ↦ is_in-of (once ps) q (in-once ps q i) ∙ sym (is_in-of ps q i)
  | inr out ↦ is_in-not (once ps) q (λ i. out (once-in ps q i)) ∙ sym (is_in-not ps q out)
]

pub without_all-once : (ps : List Place) (bs : List Binding) → without_all (once ps) bs ≡ without_all ps bs
without_all-once ps bs =
    without_all-left (once ps) bs
    ∙ ap (λ (keep : Binding → Bool). filter keep bs) (fun_ext (λ b. ap not (is_in-once ps b.target)))
    ∙ sym (without_all-left ps bs)

-- one more at the end
filter-push : (keep : Place → Bool) (xs : List Place) (q : Place) → filter keep (xs ++ q ∷ []) ≡ filter keep xs ++ filter keep (q ∷ [])
filter-push keep [] q = refl
filter-push keep (x ∷ xs) q = elim (cases_Bool (keep x)) [
  | inl t ↦
      ap (λ (b : Bool). cond b (x ∷ filter keep (xs ++ q ∷ [])) (filter keep (xs ++ q ∷ []))) t
      ∙ ap (λ (ys : List Place). x ∷ ys) (filter-push keep xs q)
      ∙ sym (ap (λ (b : Bool). cond b (x ∷ filter keep xs) (filter keep xs) ++ filter keep (q ∷ [])) t)
  | inr f ↦
      ap (λ (b : Bool). cond b (x ∷ filter keep (xs ++ q ∷ [])) (filter keep (xs ++ q ∷ []))) f
      ∙ filter-push keep xs q
      ∙ sym (ap (λ (b : Bool). cond b (x ∷ filter keep xs) (filter keep xs) ++ filter keep (q ∷ [])) f)
]

forgotten-again : (p : Place) (xs : List Place) → forgotten p (xs ++ p ∷ []) ≡ forgotten p xs
forgotten-again p xs =
    filter-push (λ q. not (same_place q p)) xs p
    ∙ ap (λ (b : Bool). forgotten p xs ++ cond (not b) (p ∷ []) []) (same_place-refl p)
    ∙ append-nil (forgotten p xs)

forgotten-push : (p q : Place) (xs : List Place) → same_place q p ≡ false → forgotten p (xs ++ q ∷ []) ≡ forgotten p xs ++ q ∷ []
forgotten-push p q xs apart =
    filter-push (λ r. not (same_place r p)) xs q
    ∙ ap (λ (b : Bool). forgotten p xs ++ cond (not b) (q ∷ []) []) apart

pub once-new : (ps : List Place) (q : Place) → (In q ps → ⊥) → once (ps ++ q ∷ []) ≡ once ps ++ q ∷ []
once-new [] q out = refl
once-new (p ∷ ps) q out =
    ap (λ (qs : List Place). p ∷ forgotten p qs) (once-new ps q (λ i. out (inr i)))
    ∙ ap (λ (qs : List Place). p ∷ qs) (forgotten-push p q (once ps) (different q p (λ e. out (inl (sym e)))))

pub once-again : (ps : List Place) (q : Place) → In q ps → once (ps ++ q ∷ []) ≡ once ps
once-again [] q i = absurd i
once-again (p ∷ ps) q i = elim (decide_in q ps) [
  | inl j ↦ ap (λ (qs : List Place). p ∷ forgotten p qs) (once-again ps q j)
  | inr out ↦ elim i [
    | inl e ↦ subst (λ (r : Place). once (p ∷ ps ++ r ∷ []) ≡ once (p ∷ ps)) e (ap (λ (qs : List Place). p ∷ forgotten p qs) (once-new ps p (λ j. out (subst (λ (r : Place). In r ps) e j))) ∙ ap (λ (qs : List Place). p ∷ qs) (forgotten-again p (once ps)))
    | inr j ↦ absurd (out j)
  ]
]
