-- What a write and a bind make of settled values, where what follows was found.
use Rattle.std.proofs.Common.{◌≡◌, true, false, List, [], ◌∷◌, inl, inr, Option, Some, None, refl, ap, sym, ◌∙◌, subst}
use Rattle.std.proofs.Math.Path.{fun_ext}
use Rattle.basic_types.specs.declared.value.Value.{Value}
use Rattle.binding_graph.specs.declared.place.Place.{Place}
use Rattle.binding_graph.specs.declared.binding.Binding.{Binding}
use Rattle.binding_graph.specs.Places.{In, same_place}
use Rattle.binding_graph.specs.Bindings.{binding_at, without, without_all, replaced, reads_any, value_of, Chain, Settled, Loop}
use Rattle.binding_graph.specs.code.Orders.{AreBound, Ordered, update, given, evaluated, pass, bound, IsAffected, IsLater}
use Rattle.binding_graph.proofs.Acyclic.{chain-more}
use Rattle.binding_graph.proofs.Naming.{reads_any-true}
use Rattle.binding_graph.proofs.Places.{decide_place, different}
use Rattle.binding_graph.proofs.Passes.{pass-unbound, settled_by_affected, settled_by_later}
use Rattle.binding_graph.proofs.Loops.{chain-ends, chain-of-one, later-acyclic}
use Rattle.binding_graph.proofs.Walks.{bound-same, bound-other, chain-on, not-reached}
use Rattle.binding_graph.proofs.Replaced.{without-at, without-other, installed-is, loop-installed}
use Rattle.binding_graph.proofs.Several.{bound-out, without_all-at, without_all-fewer, without_all-other}

-- the passes of bindings that agree on the list are one
pub pass-same : (F G : Place → Option Binding) (xs : List Place) (e : Place → Option Value) → ((q : Place) → In q xs → G q ≡ F q) → pass G xs e ≡ pass F xs e
pass-same F G [] e h = refl
pass-same F G (x ∷ xs) e h = ap (λ (o : Option Binding). pass G xs (given o x e)) (h x (inl refl)) ∙ pass-same F G xs (given (F x) x e) (λ q i. h q (inr i))

-- ---- a write
pub affected-away : (bs : List Binding) (ps reached : List Place) → IsAffected (binding_at (without_all ps bs)) ps reached → (q : Place) → In q ps → In q reached → ⊥
affected-away bs ps reached affected q i j =
    let found = chain-ends (binding_at (without_all ps bs)) (affected.reached q j).2 in
    bound-out ps bs q found.0 found.1 i

-- what follows is bound
pub affected-bound : (bs : List Binding) (ps reached : List Place) → IsAffected (binding_at (without_all ps bs)) ps reached → AreBound (binding_at bs) reached
affected-bound bs ps reached affected q i =
    let found = chain-ends (binding_at (without_all ps bs)) (affected.reached q i).2 in
    (found.0, without_all-fewer ps bs q found.0 found.1)

-- d are the values once these have theirs, and nothing followed
module _ (bs : List Binding) (ps reached : List Place) (e d f : Place → Option Value)
    (affected : IsAffected (binding_at (without_all ps bs)) ps reached)
    (settled : Settled (binding_at bs) e)
    (other : (q : Place) → (In q ps → ⊥) → d q ≡ e q)
    (is : (q : Place) → f q ≡ pass (binding_at bs) reached d q) where
  abbrev Left : Place → Option Binding
  Left = binding_at (without_all ps bs)

  passed : (q : Place) → f q ≡ pass Left reached d q
  passed q = is q ∙ sym (ap (λ (g : Place → Option Value). g q) (pass-same (binding_at bs) Left reached d (λ r i. without_all-other ps bs r (λ j. affected-away bs ps reached affected r j i))))

  pub written-value : (q : Place) → In q ps → f q ≡ d q
  written-value q i = passed q ∙ pass-unbound Left reached d q (without_all-at ps bs q i)

  pub written-settled : Settled Left f
  written-settled = subst (λ (g : Place → Option Value). Settled Left g) (sym (fun_ext passed))
      (settled_by_affected Left ps reached e d affected (λ q b some. settled q b (without_all-fewer ps bs q b some)) (without_all-at ps bs) other)

  pub written-kept : (q : Place) → Left q ≡ None → (In q ps → ⊥) → f q ≡ e q
  written-kept q none out = passed q ∙ pass-unbound Left reached d q none ∙ other q out

-- ---- a bind
ordered-same : (F G : Place → Option Binding) (xs : List Place) → ((q : Place) → In q xs → G q ≡ F q) → Ordered F xs → Ordered G xs
ordered-same F G [] same o = tt
ordered-same F G (x ∷ xs) same o = ((λ b g. o.0 b (sym (same x (inl refl)) ∙ g)), ordered-same F G xs (λ q i. same q (inr i)) o.1)

module _ (bs : List Binding) (b : Binding) (reached : List Place) (affected : IsAffected (binding_at (without b.target bs)) (b.target ∷ []) reached) where
  -- without the target's binding, and with the new one
  abbrev H : Place → Option Binding
  H = binding_at (without b.target bs)

  abbrev G : Place → Option Binding
  G = bound (binding_at bs) b.target b

  kept : (q : Place) → same_place b.target q ≡ false → G q ≡ H q
  kept q f = bound-other (binding_at bs) b.target b q f ∙ sym (without-other b.target bs q f)

  more : (q : Place) (z : Binding) → H q ≡ Some z → G q ≡ Some z
  more q z h = elim (decide_place b.target q) [
    | inl e ↦ let none : H q ≡ None = subst (λ (y : Place). H y ≡ None) e (without-at b.target bs) in absurd (cc (none, h))
    | inr f ↦ kept q f ∙ h
  ]

  away : (q : Place) → In q reached → same_place b.target q ≡ false
  away q i = different b.target q (λ e. affected-away bs (b.target ∷ []) reached affected q (inl e) i)

  chains : (q : Place) → In q reached → Chain G b.target q
  chains q i = chain-more H G more (chain-of-one H b.target q (affected.reached q i))

  -- one that reads what follows from its target closes a chain
  pub closes-loop : reads_any b (b.target ∷ reached) ≡ true → Loop (binding_at (replaced bs b))
  closes-loop found =
      let r = reads_any-true b (b.target ∷ reached) found in
      loop-installed bs b (b.target, chain-on G b.target reached chains r.0 b.target b r.1 (bound-same (binding_at bs) b.target b) r.2)

  module _ (free : reads_any b (b.target ∷ reached) ≡ false) where
    pub later-is : IsLater (binding_at bs) G b.target (b.target ∷ reached)
    later-is = record {
      ordered = (not-reached G b.target (b.target ∷ reached) (Some b) (bound-same (binding_at bs) b.target b) free, ordered-same H G reached (λ q i. kept q (away q i)) affected.ordered);
      distinct = (affected-away bs (b.target ∷ []) reached affected b.target (inl refl), affected.distinct);
      here = inl refl;
      reached = λ q i. elim i [ inl e ↦ inl e | inr j ↦ inr (chains q j) ];
      others = λ q z g out. elim (decide_place b.target q) [
        | inl e ↦ absurd (out (inl e))
        | inr f ↦ (
          sym (bound-other (binding_at bs) b.target b q f) ∙ g,
          λ m i r. out (inr (affected.closed q m z (sym (kept q f) ∙ g) r (elim i [ inl e ↦ inl (inl e) | inr j ↦ inr j ]))),
        )
      ];
    }

    pub installed-later : IsLater (binding_at bs) (binding_at (replaced bs b)) b.target (b.target ∷ reached)
    installed-later = subst (λ (F : Place → Option Binding). IsLater (binding_at bs) F b.target (b.target ∷ reached)) (sym (installed-is bs b)) later-is

    pub installed-acyclic : (Loop (binding_at bs) → ⊥) → Loop (binding_at (replaced bs b)) → ⊥
    installed-acyclic acyclic loop = later-acyclic (binding_at bs) (binding_at (replaced bs b)) b.target (b.target ∷ reached) installed-later acyclic loop

    module _ (v : Value) (e f : Place → Option Value) (settled : Settled (binding_at bs) e)
        (has : value_of b e ≡ Some v) (is : (q : Place) → f q ≡ pass (binding_at bs) reached (update e b.target (Some v)) q) where
      first : evaluated G b.target e ≡ update e b.target (Some v)
      first = ap (λ (found : Option Binding). given found b.target e) (bound-same (binding_at bs) b.target b) ∙ ap (λ (found : Option Value). update e b.target found) has

      passed-all : (q : Place) → f q ≡ pass G (b.target ∷ reached) e q
      passed-all q =
          is q
          ∙ sym (ap (λ (d : Place → Option Value). d q) (pass-same (binding_at bs) G reached (update e b.target (Some v)) (λ r i. bound-other (binding_at bs) b.target b r (away r i))))
          ∙ sym (ap (λ (d : Place → Option Value). pass G reached d q) first)

      pub installed-settled : Settled (binding_at (replaced bs b)) f
      installed-settled = subst (λ (F : Place → Option Binding). Settled F f) (sym (installed-is bs b))
          (subst (λ (d : Place → Option Value). Settled G d) (sym (fun_ext passed-all))
          (settled_by_later (binding_at bs) G b.target (b.target ∷ reached) e later-is settled))

      pub installed-kept : (q : Place) → binding_at (replaced bs b) q ≡ None → f q ≡ e q
      installed-kept q none = passed-all q ∙ pass-unbound G (b.target ∷ reached) e q (sym (ap (λ (F : Place → Option Binding). F q) (installed-is bs b)) ∙ none)
