-- Several properties, and the bindings that are left once they lose theirs.
use Rattle.std.proofs.Common.{◌≡◌, ◌||◌, Bool, true, false, not, cond, List, [], ◌∷◌, filter, inl, inr, Some, None, refl, ap, sym, ◌∙◌, subst}
use Rattle.std.proofs.lemmas.Bool.{cases_Bool}
use Rattle.binding_graph.specs.declared.place.Place.{Place}
use Rattle.binding_graph.specs.declared.binding.Binding.{Binding}
use Rattle.binding_graph.specs.Places.{In, Distinct, is_in, same_place}
use Rattle.binding_graph.specs.Bindings.{binding_at, without, without_all}
use Rattle.binding_graph.proofs.Keyed.{same_place-sym}
use Rattle.binding_graph.proofs.Places.{decide_in, different, is_in-true, is_in-false}
use Rattle.binding_graph.proofs.Replaced.{without-at, without-fewer, without-other}

-- ---- the bindings as a function from properties
pub without_all-other : (ps : List Place) (bs : List Binding) (q : Place) → (In q ps → ⊥) → binding_at (without_all ps bs) q ≡ binding_at bs q
without_all-other [] bs q out = refl
without_all-other (p ∷ ps) bs q out = without_all-other ps (without p bs) q (λ i. out (inr i)) ∙ without-other p bs q (different p q (λ e. out (inl e)))

pub without_all-at : (ps : List Place) (bs : List Binding) (q : Place) → In q ps → binding_at (without_all ps bs) q ≡ None
without_all-at [] bs q i = absurd i
without_all-at (p ∷ ps) bs q i = elim (decide_in q ps) [
  | inl j ↦ without_all-at ps (without p bs) q j
  | inr out ↦ elim i [
    | inl e ↦ without_all-other ps (without p bs) q out ∙ subst (λ (r : Place). binding_at (without p bs) r ≡ None) e (without-at p bs)
    | inr j ↦ absurd (out j)
  ]
]

pub without_all-fewer : (ps : List Place) (bs : List Binding) (q : Place) (b : Binding) → binding_at (without_all ps bs) q ≡ Some b → binding_at bs q ≡ Some b
without_all-fewer [] bs q b some = some
without_all-fewer (p ∷ ps) bs q b some = without-fewer p bs q b (without_all-fewer ps (without p bs) q b some)

-- what is bound still isn't one of these
pub bound-out : (ps : List Place) (bs : List Binding) (q : Place) (b : Binding) → binding_at (without_all ps bs) q ≡ Some b → In q ps → ⊥
bound-out ps bs q b some i = let none : binding_at (without_all ps bs) q ≡ None = without_all-at ps bs q i in cc (none, some)

-- ---- the bindings as a list
abbrev pub left : List Place → List Binding → List Binding
left ps bs = filter (λ b. not (is_in ps b.target)) bs

left-none : (bs : List Binding) → bs ≡ left [] bs
left-none [] = refl
left-none (b ∷ bs) = ap (λ (cs : List Binding). b ∷ cs) (left-none bs)

left-step : (p : Place) (ps : List Place) (bs : List Binding) → left ps (without p bs) ≡ left (p ∷ ps) bs
left-step p ps [] = refl
left-step p ps (b ∷ bs) =
    let rest : List Binding = left (p ∷ ps) bs in
    elim (cases_Bool (same_place b.target p)) [
      | inl t ↦
          ap (λ (x : Bool). left ps (cond (not x) (b ∷ without p bs) (without p bs))) t
          ∙ left-step p ps bs
          ∙ sym (ap (λ (x : Bool). cond (not (x || is_in ps b.target)) (b ∷ rest) rest) (same_place-sym p b.target ∙ t))
      | inr f ↦
          ap (λ (x : Bool). left ps (cond (not x) (b ∷ without p bs) (without p bs))) f
          ∙ ap (λ (cs : List Binding). cond (not (is_in ps b.target)) (b ∷ cs) cs) (left-step p ps bs)
          ∙ sym (ap (λ (x : Bool). cond (not (x || is_in ps b.target)) (b ∷ rest) rest) (same_place-sym p b.target ∙ f))
    ]

pub without_all-left : (ps : List Place) (bs : List Binding) → without_all ps bs ≡ left ps bs
without_all-left [] bs = left-none bs
without_all-left (p ∷ ps) bs = without_all-left ps (without p bs) ∙ left-step p ps bs

-- ---- some of several properties
pub in-filter : (keep : Place → Bool) (xs : List Place) (q : Place) → In q (filter keep xs) → In q xs
in-filter keep [] q i = i
in-filter keep (x ∷ xs) q i = elim (cases_Bool (keep x)) [
  | inl t ↦ elim (subst (λ (b : Bool). In q (cond b (x ∷ filter keep xs) (filter keep xs))) t i) [
    | inl e ↦ inl e
    | inr j ↦ inr (in-filter keep xs q j)
  ]
  | inr f ↦ inr (in-filter keep xs q (subst (λ (b : Bool). In q (cond b (x ∷ filter keep xs) (filter keep xs))) f i))
]

pub filter-keeps : (keep : Place → Bool) (xs : List Place) (q : Place) → In q (filter keep xs) → keep q ≡ true
filter-keeps keep [] q i = absurd i
filter-keeps keep (x ∷ xs) q i = elim (cases_Bool (keep x)) [
  | inl t ↦ elim (subst (λ (b : Bool). In q (cond b (x ∷ filter keep xs) (filter keep xs))) t i) [
    | inl e ↦ subst (λ (r : Place). keep r ≡ true) e t
    | inr j ↦ filter-keeps keep xs q j
  ]
  | inr f ↦ filter-keeps keep xs q (subst (λ (b : Bool). In q (cond b (x ∷ filter keep xs) (filter keep xs))) f i)
]

pub filter-in : (keep : Place → Bool) (xs : List Place) (q : Place) → In q xs → keep q ≡ true → In q (filter keep xs)
filter-in keep [] q i kept = i
filter-in keep (x ∷ xs) q i kept = elim i [
  | inl e ↦ subst (λ (b : Bool). In q (cond b (x ∷ filter keep xs) (filter keep xs))) (sym (subst (λ (r : Place). keep r ≡ true) (sym e) kept)) (inl e)
  | inr j ↦ elim (cases_Bool (keep x)) [
    | inl t ↦ subst (λ (b : Bool). In q (cond b (x ∷ filter keep xs) (filter keep xs))) (sym t) (inr (filter-in keep xs q j kept))
    | inr f ↦ subst (λ (b : Bool). In q (cond b (x ∷ filter keep xs) (filter keep xs))) (sym f) (filter-in keep xs q j kept)
  ]
]

pub distinct-filter : (keep : Place → Bool) (xs : List Place) → Distinct xs → Distinct (filter keep xs)
distinct-filter keep [] d = tt
distinct-filter keep (x ∷ xs) d = elim (cases_Bool (keep x)) [
  | inl t ↦ subst (λ (b : Bool). Distinct (cond b (x ∷ filter keep xs) (filter keep xs))) (sym t) ((λ i. d.0 (in-filter keep xs x i)), distinct-filter keep xs d.1)
  | inr f ↦ subst (λ (b : Bool). Distinct (cond b (x ∷ filter keep xs) (filter keep xs))) (sym f) (distinct-filter keep xs d.1)
]

pub is_in-of : (ps : List Place) (q : Place) → In q ps → is_in ps q ≡ true
is_in-of ps q i = elim (cases_Bool (is_in ps q)) [ inl t ↦ t | inr f ↦ absurd (is_in-false ps q f i) ]

pub is_in-not : (ps : List Place) (q : Place) → (In q ps → ⊥) → is_in ps q ≡ false
is_in-not ps q out = elim (cases_Bool (is_in ps q)) [ inl t ↦ absurd (out (is_in-true ps q t)) | inr f ↦ f ]
