-- Bindings and properties by their numbers.
use Rattle.std.proofs.Common.{◌≡◌, ℕ, zero, suc, Bool, true, false, cond, not, List, [], ◌∷◌, inl, inr, None, Some, refl, ap, sym, ◌∙◌, subst, eqb}
use Rattle.std.specs.Prelude.{slice_get}
use Rattle.std.proofs.lemmas.Bool.{false≢true, cases_Bool, eqb-true, and_parts}
use Rattle.std.proofs.lemmas.Option.{same_Some}
use Rattle.binding_graph.specs.declared.place.Place.{Place}
use Rattle.binding_graph.specs.declared.binding.Binding.{Binding}
use Rattle.binding_graph.specs.Places.{property_of, same_place}
use Rattle.binding_graph.specs.code.Keys.{key_of, same_key}
use Rattle.binding_graph.specs.Bindings.{binding_at, without}
use Rattle.binding_graph.proofs.Places.{decide_place, same_place-true, same_place-refl, different}

pub same_place-sym : (p q : Place) → same_place p q ≡ same_place q p
same_place-sym p q = elim (decide_place p q) [
  | inl e ↦ subst (λ (r : Place). same_place p r ≡ same_place r p) e refl
  | inr f ↦ f ∙ sym (different q p (λ e. false≢true (sym f ∙ subst (λ (r : Place). same_place p r ≡ true) (sym e) (same_place-refl p))))
]

pub key-same : (p q : ℕ × ℕ) → same_key p q ≡ true → p ≡ q
key-same p q h = ap (λ (x : ℕ). (x, p.1)) (eqb-true p.0 q.0 (and_parts (eqb p.0 q.0) (eqb p.1 q.1) h).0) ∙ ap (λ (y : ℕ). (q.0, y)) (eqb-true p.1 q.1 (and_parts (eqb p.0 q.0) (eqb p.1 q.1) h).1)

pub key-refl : (p : ℕ × ℕ) → same_key p p ≡ true
key-refl p = same_place-refl (property_of p.0 p.1)

-- a function that is asked at a key, or at another where the two are the same, is asked at one
pub at_key : {X : Type 0} (f : ℕ × ℕ → X) (p q : ℕ × ℕ) → cond (same_key p q) (f p) (f q) ≡ f q
at_key f p q = by_test (same_key p q) refl
  where
    by_test : (b : Bool) → same_key p q ≡ b → cond b (f p) (f q) ≡ f q
    by_test true h = ap f (key-same p q h)
    by_test false h = refl

pub without-none : (bs : List Binding) (p : Place) → binding_at bs p ≡ None → without p bs ≡ bs
without-none [] p none = refl
without-none (b ∷ bs) p none = elim (cases_Bool (same_place b.target p)) [
  | inl t ↦ let some : binding_at (b ∷ bs) p ≡ Some b = ap (λ (x : Bool). cond x (Some b) (binding_at bs p)) t in absurd (cc (some, none))
  | inr f ↦
      let rest : binding_at bs p ≡ None = sym (ap (λ (x : Bool). cond x (Some b) (binding_at bs p)) f) ∙ none in
      ap (λ (x : Bool). cond (not x) (b ∷ without p bs) (without p bs)) f ∙ ap (λ (xs : List Binding). b ∷ xs) (without-none bs p rest)
]

-- no binding of a property stands where it has none
pub none-stands : (bs : List Binding) (q : Place) (i : ℕ) (c : Binding) → binding_at bs q ≡ None → slice_get bs i ≡ Some c → c.target ≡ q → ⊥
none-stands [] q i c none at to = cc at
none-stands (x ∷ xs) q zero c none at to =
    let same : x ≡ c = same_Some x c at in
    let hit : same_place x.target q ≡ true = subst (λ (r : Place). same_place x.target r ≡ true) (ap (λ (z : Binding). z.target) same ∙ to) (same_place-refl x.target) in
    let some : binding_at (x ∷ xs) q ≡ Some x = ap (λ (y : Bool). cond y (Some x) (binding_at xs q)) hit in
    cc (some, none)
none-stands (x ∷ xs) q (suc i) c none at to = elim (cases_Bool (same_place x.target q)) [
  | inl t ↦ (let some : binding_at (x ∷ xs) q ≡ Some x = ap (λ (y : Bool). cond y (Some x) (binding_at xs q)) t in cc (some, none))
  | inr g ↦ none-stands xs q i c (sym (ap (λ (y : Bool). cond y (Some x) (binding_at xs q)) g) ∙ none) at to
]

pub target-of : (bs : List Binding) (p : Place) (b : Binding) → binding_at bs p ≡ Some b → b.target ≡ p
target-of [] p b some = absurd (cc some)
target-of (x ∷ xs) p b some = elim (cases_Bool (same_place x.target p)) [
  | inl t ↦
      let same : x ≡ b = same_Some x b (sym (ap (λ (y : Bool). cond y (Some x) (binding_at xs p)) t) ∙ some) in
      ap (λ (z : Binding). z.target) (sym same) ∙ same_place-true x.target p t
  | inr f ↦ target-of xs p b (sym (ap (λ (y : Bool). cond y (Some x) (binding_at xs p)) f) ∙ some)
]

pub key-places : (p q : Place) → key_of p ≡ key_of q → p ≡ q
key-places p q e = same_place-true p q (ap (λ (k : ℕ × ℕ). same_key k (key_of q)) e ∙ key-refl (key_of q))
