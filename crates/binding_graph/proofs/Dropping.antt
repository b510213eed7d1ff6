-- The bindings of an object that is gone are removed one by one.
use Rattle.std.proofs.Common.{◌≡◌, ℕ, zero, suc, Bool, true, false, cond, not, List, [], ◌∷◌, Option, inl, inr, None, Some, refl, ap, sym, ◌∙◌, subst}
use Rattle.std.specs.Prelude.{slice_get}
use Rattle.std.proofs.lemmas.Bool.{false≢true, cases_Bool}
use Rattle.std.proofs.lemmas.Option.{same_Some}
use Rattle.binding_graph.specs.declared.place.Place.{Place}
use Rattle.binding_graph.specs.declared.binding.Binding.{Binding}
use Rattle.binding_graph.specs.Places.{same_place}
use Rattle.binding_graph.specs.Bindings.{binding_at, AreApart, touches, without, dropped}
use Rattle.binding_graph.specs.code.Graph.{touches_too}
use Rattle.binding_graph.proofs.Keyed.{none-stands, without-none}
use Rattle.binding_graph.proofs.Places.{same_place-refl, same_place-true}

-- a binding that stands there is its target's
pub found-at : (bs : List Binding) (i : ℕ) (b : Binding) → AreApart bs → slice_get bs i ≡ Some b → binding_at bs b.target ≡ Some b
found-at [] i b apart at = absurd (cc at)
found-at (x ∷ xs) zero b apart at =
    let same : x ≡ b = same_Some x b at in
    let hit : same_place x.target b.target ≡ true = subst (λ (z : Binding). same_place x.target z.target ≡ true) same (same_place-refl x.target) in
    ap (λ (y : Bool). cond y (Some x) (binding_at xs b.target)) hit ∙ ap Some same
found-at (x ∷ xs) (suc i) b apart at = elim (cases_Bool (same_place x.target b.target)) [
  | inl t ↦ absurd (none-stands xs x.target i b apart.0 at (sym (same_place-true x.target b.target t)))
  | inr f ↦ ap (λ (y : Bool). cond y (Some x) (binding_at xs b.target)) f ∙ found-at xs i b apart.1 at
]

-- once one that touches the object is removed, the others are those that they were
pub dropped-same : (o : ℕ) (bs : List Binding) (p : Place) (b : Binding) → AreApart bs → binding_at bs p ≡ Some b → touches o b ≡ true → dropped o (without p bs) ≡ dropped o bs
dropped-same o [] p b apart some t = absurd (cc some)
dropped-same o (x ∷ xs) p b apart some t = elim (cases_Bool (same_place x.target p)) [
  | inl h ↦
      let same : x ≡ b = same_Some x b (sym (ap (λ (y : Bool). cond y (Some x) (binding_at xs p)) h) ∙ some) in
      let gone : touches o x ≡ true = ap (touches o) same ∙ t in
      let none : binding_at xs p ≡ None = subst (λ (q : Place). binding_at xs q ≡ None) (same_place-true x.target p h) apart.0 in
      ap (λ (y : Bool). dropped o (cond (not y) (x ∷ without p xs) (without p xs))) h
      ∙ ap (dropped o) (without-none xs p none)
      ∙ sym (ap (λ (y : Bool). cond (not y) (x ∷ dropped o xs) (dropped o xs)) gone)
  | inr f ↦
      let rest : binding_at xs p ≡ Some b = sym (ap (λ (y : Bool). cond y (Some x) (binding_at xs p)) f) ∙ some in
      ap (λ (y : Bool). dropped o (cond (not y) (x ∷ without p xs) (without p xs))) f
      ∙ ap (λ (ys : List Binding). cond (not (touches o x)) (x ∷ ys) ys) (dropped-same o xs p b apart.1 rest t)
]

pub dropped-bound : (o : ℕ) (bs : List Binding) (p : Place) → AreApart bs → touches_too (binding_at bs p) o ≡ true → dropped o (without p bs) ≡ dropped o bs
dropped-bound o bs p apart t = by_binding (binding_at bs p) refl t
  where
    by_binding : (there : Option Binding) → binding_at bs p ≡ there → touches_too there o ≡ true → dropped o (without p bs) ≡ dropped o bs
    by_binding None is t = absurd (false≢true t)
    by_binding (Some b) is t = dropped-same o bs p b apart is t

-- ---- where none touches the object
all-away : (o : ℕ) (bs : List Binding) → ((i : ℕ) (b : Binding) → slice_get bs i ≡ Some b → touches o b ≡ false) → dropped o bs ≡ bs
all-away o [] away = refl
all-away o (x ∷ xs) away = ap (λ (y : Bool). cond (not y) (x ∷ dropped o xs) (dropped o xs)) (away 0 x refl) ∙ ap (λ (ys : List Binding). x ∷ ys) (all-away o xs (λ i b at. away (suc i) b at))

pub none-dropped : (o : ℕ) (bs : List Binding) (test : Bool) → AreApart bs → ((q : Place) (b : Binding) → binding_at bs q ≡ Some b → touches o b ≡ true → test ≡ true) → test ≡ false → dropped o bs ≡ bs
none-dropped o bs test apart touched out = all-away o bs (λ i b at. elim (cases_Bool (touches o b)) [
  | inl t ↦ absurd (false≢true (sym out ∙ touched b.target b (found-at bs i b apart at) t))
  | inr f ↦ f
])
