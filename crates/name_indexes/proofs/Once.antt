-- Elements that appear once.
use Rattle.std.proofs.Common.{◌≡◌, ℕ, zero, suc, ◌+◌, List, [], ◌∷◌, ◌++◌, length, slice_get, Some, Any, ◌⊎◌, inl, inr, refl, sym, ap, subst, arith}
use Rattle.std.proofs.lemmas.Option.{none-some, same_Some}
use Rattle.name_indexes.specs.Twice.{StandsTwice}
use Rattle.name_indexes.proofs.Zips.{any_of}

module _ {X : Type 0} (alike : X → X → Type 0) where
  -- where no element appears twice, two elements that are alike are at one place
  pub once : (xs : List X) → (¬ StandsTwice alike xs) → (i j : ℕ) (x y : X) → slice_get xs i ≡ Some x → slice_get xs j ≡ Some y → alike x y → alike y x → i ≡ j
  once [] not_twice i j x y ex ey a b = absurd (none-some x ex)
  once (z ∷ xs) not_twice zero zero x y ex ey a b = refl
  once (z ∷ xs) not_twice zero (suc j) x y ex ey a b =
      absurd (not_twice (inl (any_of (alike z) xs j (record { item = y; is = ey; has = subst (λ v. alike v y) (sym (same_Some _ _ ex)) a }))))
  once (z ∷ xs) not_twice (suc i) zero x y ex ey a b =
      absurd (not_twice (inl (any_of (alike z) xs i (record { item = x; is = ex; has = subst (λ v. alike v x) (sym (same_Some _ _ ey)) b }))))
  once (z ∷ xs) not_twice (suc i) (suc j) x y ex ey a b = ap suc (once xs (λ t. not_twice (inr t)) i j x y ex ey a b)

pub none_at : {X : Type 0} (P : X → Type 0) (xs : List X) → (¬ Any P xs) → (k : ℕ) (x : X) → slice_get xs k ≡ Some x → ¬ P x
none_at P xs none k x e has = none (any_of P xs k (record { item = x; is = e; has = has }))

-- a place in two lists in a row, and how far it is in the second
pub get_split_at : {A : Type 0} (xs ys : List A) (i : ℕ) (x : A) → slice_get (xs ++ ys) i ≡ Some x → (slice_get xs i ≡ Some x) ⊎ ((j : ℕ) × (i ≡ length xs + j) × (slice_get ys j ≡ Some x))
get_split_at [] ys i x e = inr (i, omega arith, e)
get_split_at (a ∷ xs) ys zero x e = inl e
get_split_at (a ∷ xs) ys (suc i) x e =
    elim (get_split_at xs ys i x e) [ inl h ↦ inl h | inr r ↦ inr (r.0, omega (arith, r.1), r.2) ]
