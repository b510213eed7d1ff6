-- The first elements of a list.
use Rattle.std.proofs.Common.{◌≡◌, ◌↔◌, ◌⊎◌, inl, inr, ℕ, ◌+◌, ◌<◌, List, [], ◌∷◌, ◌++◌, length, get_or, take, sym, subst, arith}
use Rattle.std.specs.List.{Contains}
use Rattle.std.proofs.lemmas.List.{take_more}
use Rattle.std.proofs.lemmas.List.Elements.{Contains-append_left, Contains-push, Contains-push_cases}

pub no_members : {X : Type 0} (x : X) → ¬ Contains [] x
no_members x h = absurd (omega (arith, h.1))

module _ {X : Type 0} (xs : List X) (i : ℕ) (d : X) (inside : i < length xs) where
  pub first_more : (x : X) → Contains (take (i + 1) xs) x ↔ (Contains (take i xs) x ⊎ (x ≡ get_or xs i d))
  first_more x = (
    λ h. elim (Contains-push_cases (take i xs) (get_or xs i d) x (subst (λ (l : List X). Contains l x) (take_more xs i d inside) h)) [ inl old ↦ inl old | inr e ↦ inr (sym e) ],
    λ h.
        elim h [
          | inl old ↦ subst (λ (l : List X). Contains l x) (sym (take_more xs i d inside)) (Contains-append_left (take i xs) (get_or xs i d ∷ []) x old)
          | inr e ↦ subst (λ (l : List X). Contains l x) (sym (take_more xs i d inside)) (subst (λ (y : X). Contains (take i xs ++ get_or xs i d ∷ []) y) (sym e) (Contains-push (take i xs) (get_or xs i d)))
        ],
  )
