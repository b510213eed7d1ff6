-- Types are the same, or they are not.
use Rattle.std.proofs.Common.{◌≡◌, ℕ, zero, suc, Bool, true, false, List, [], ◌∷◌, ◌⊎◌, inl, inr, refl, ap, ◌∙◌}
use Rattle.basic_types.specs.declared.qtype.QType.{QType}

abbrev Decided : Type 0 → Type 0
Decided A = A ⊎ (¬ A)

number : (a b : ℕ) → Decided (a ≡ b)
number zero zero = inl refl
number zero (suc b) = inr (λ e. cc)
number (suc a) zero = inr (λ e. cc)
number (suc a) (suc b) = elim (number a b) [ inl e ↦ inl (ap suc e) | inr n ↦ inr (λ e. n (cc)) ]

truth : (a b : Bool) → Decided (a ≡ b)
truth true true = inl refl
truth true false = inr (λ e. cc)
truth false true = inr (λ e. cc)
truth false false = inl refl

name : (a b : List ℕ) → Decided (a ≡ b)
name [] [] = inl refl
name [] (y ∷ ys) = inr (λ e. cc)
name (x ∷ xs) [] = inr (λ e. cc)
name (x ∷ xs) (y ∷ ys) =
    elim (number x y) [
      | inr n ↦ inr (λ e. n (cc))
      | inl e ↦ elim (name xs ys) [ inr n ↦ inr (λ f. n (cc)) | inl f ↦ inl (ap (λ z. z ∷ xs) e ∙ ap (λ zs. y ∷ zs) f) ]
    ]

abbrev type_of : List ℕ → Bool → Bool → QType
type_of n c p = record { name = n; constant = c; pointer = p }

same_type : (T U : QType) → Decided (T ≡ U)
same_type T U =
    elim (name T.name U.name) [
      | inr n ↦ inr (λ e. n (ap (λ (V : QType). V.name) e))
      | inl a ↦ elim (truth T.constant U.constant) [
        | inr n ↦ inr (λ e. n (ap (λ (V : QType). V.constant) e))
        | inl b ↦ elim (truth T.pointer U.pointer) [
          | inr n ↦ inr (λ e. n (ap (λ (V : QType). V.pointer) e))
          | inl c ↦ inl (ap (λ x. type_of x T.constant T.pointer) a ∙ ap (λ x. type_of U.name x T.pointer) b ∙ ap (λ x. type_of U.name U.constant x) c)
        ]
      ]
    ]

-- the types are none, or this one alone, or neither
pub carries : (types : List QType) (T : QType) → Decided ((types ≡ []) ⊎ (types ≡ T ∷ []))
carries [] T = inl (inl refl)
carries (U ∷ []) T = elim (same_type U T) [ inl e ↦ inl (inr (ap (λ x. x ∷ []) e)) | inr n ↦ inr (λ h. elim h [ inl e ↦ absurd (cc) | inr e ↦ n (cc) ]) ]
carries (U ∷ V ∷ types) T = inr (λ h. elim h [ inl e ↦ absurd (cc) | inr e ↦ absurd (cc) ])
