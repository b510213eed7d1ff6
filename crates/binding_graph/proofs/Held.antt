-- One property that is held alone.
use Rattle.std.proofs.Common.{◌≡◌, ◌∙◌, ◌||◌, ℕ, Bool, true, false, cond, List, [], ◌∷◌, inl, inr, refl, ap, sym}
use Rattle.std.proofs.lemmas.Bool.{cases_Bool, false≢true}
use Rattle.binding_graph.specs.Places.{property_of}
use Rattle.binding_graph.specs.code.Keys.{same_key}
use Rattle.binding_graph.specs.code.Lists.{is_key_in}
use Rattle.binding_graph.proofs.Keyed.{key-same, same_place-sym}

or-none : (b : Bool) → (b || false) ≡ cond b true false
or-none true = refl
or-none false = refl

pub one-held : (key k : ℕ × ℕ) → is_key_in k (key ∷ []) ≡ cond (same_key key k) true false
one-held key k = or-none (same_key k key) ∙ ap (λ (b : Bool). cond b true false) (same_place-sym (property_of k.0 k.1) (property_of key.0 key.1))

pub same-alone : (first second : ℕ × ℕ) → same_key first second ≡ true → (k : ℕ × ℕ) → is_key_in k (first ∷ []) ≡ cond (same_key second k) true (is_key_in k (first ∷ []))
same-alone first second same k = elim (cases_Bool (same_key second k)) [
  | inl t ↦
      let here : same_key first k ≡ true = ap (λ (x : ℕ × ℕ). same_key x k) (key-same first second same) ∙ t in
      one-held first k ∙ ap (λ (b : Bool). cond b true false) here ∙ sym (ap (λ (b : Bool). cond b true (is_key_in k (first ∷ []))) t)
  | inr f ↦ sym (ap (λ (b : Bool). cond b true (is_key_in k (first ∷ []))) f)
]

pub gone-alone : (only key : ℕ × ℕ) → same_key only key ≡ true → (k : ℕ × ℕ) → false ≡ cond (same_key key k) false (is_key_in k (only ∷ []))
gone-alone only key same k = elim (cases_Bool (same_key key k)) [
  | inl t ↦ sym (ap (λ (b : Bool). cond b false (is_key_in k (only ∷ []))) t)
  | inr f ↦
      let away : same_key only k ≡ false = ap (λ (x : ℕ × ℕ). same_key x k) (key-same only key same) ∙ f in
      sym (ap (λ (b : Bool). cond b false (is_key_in k (only ∷ []))) f ∙ one-held only k ∙ ap (λ (b : Bool). cond b true false) away)
]

pub kept-alone : (only key : ℕ × ℕ) → same_key only key ≡ false → (k : ℕ × ℕ) → is_key_in k (only ∷ []) ≡ cond (same_key key k) false (is_key_in k (only ∷ []))
kept-alone only key other k = elim (cases_Bool (same_key key k)) [
  | inl t ↦
      let away : same_key only k ≡ false = ap (same_key only) (sym (key-same key k t)) ∙ other in
      one-held only k ∙ ap (λ (b : Bool). cond b true false) away ∙ sym (ap (λ (b : Bool). cond b false (is_key_in k (only ∷ []))) t)
  | inr f ↦ sym (ap (λ (b : Bool). cond b false (is_key_in k (only ∷ []))) f)
]
