-- The fronts of lists, by their places.
use Rattle.std.proofs.Common.{◌≡◌, ℕ, zero, suc, ◌<◌, ◌≤◌, List, [], ◌∷◌, ◌++◌, take, drop, length, slice_get, Some, refl, ap, arith}
use Rattle.std.proofs.lemmas.Option.{none-some, same_Some}

module _ {A : Type 0} where
  -- what is in a front is at the same place in the list
  pub get_take : (n : ℕ) (xs : List A) (k : ℕ) (x : A) → slice_get (take n xs) k ≡ Some x → (slice_get xs k ≡ Some x) × (k < n)
  get_take zero xs k x e = absurd (none-some x e)
  get_take (suc n) [] k x e = absurd (none-some x e)
  get_take (suc n) (y ∷ xs) zero x e = (e, omega arith)
  get_take (suc n) (y ∷ xs) (suc k) x e = let r = get_take n xs k x e in (r.0, omega (arith, r.1))

  -- a front and the next element
  pub next_take : (xs : List A) (n : ℕ) (x : A) → slice_get xs n ≡ Some x → take (suc n) xs ≡ take n xs ++ x ∷ []
  next_take [] n x e = absurd (none-some x e)
  next_take (y ∷ xs) zero x e = ap (λ z. z ∷ []) (same_Some _ _ e)
  next_take (y ∷ xs) (suc n) x e = ap (λ zs. y ∷ zs) (next_take xs n x e)

  -- each place before the end has an element
  pub inside : (xs : List A) (k : ℕ) → k < length xs → (x : A) × (slice_get xs k ≡ Some x)
  inside [] k h = absurd (omega (arith, h))
  inside (x ∷ xs) zero h = (x, refl)
  inside (x ∷ xs) (suc k) h = inside xs k (omega (arith, h))

  -- the last element of a list
  pub last_at : (xs : List A) (x : A) → slice_get (xs ++ x ∷ []) (length xs) ≡ Some x
  last_at [] x = refl
  last_at (y ∷ xs) x = last_at xs x

  pub last_of : (x y : A) (j : ℕ) → slice_get (x ∷ []) j ≡ Some y → (j ≡ 0) × (x ≡ y)
  last_of x y zero e = (refl, same_Some _ _ e)
  last_of x y (suc j) e = absurd (none-some y e)

-- what is in a list is in its fronts
pub take_get : {A : Type 0} (n : ℕ) (xs : List A) (k : ℕ) (x : A) → slice_get xs k ≡ Some x → k < n → slice_get (take n xs) k ≡ Some x
take_get n [] k x e below = absurd (none-some x e)
take_get zero (y ∷ xs) k x e below = absurd (omega (arith, below))
take_get (suc n) (y ∷ xs) zero x e below = e
take_get (suc n) (y ∷ xs) (suc k) x e below = take_get n xs k x e (omega (arith, below))

-- what is left behind a front
pub drop_at : {A : Type 0} (xs : List A) (i : ℕ) (x : A) → slice_get xs i ≡ Some x → drop i xs ≡ x ∷ drop (suc i) xs
drop_at [] i x e = absurd (none-some x e)
drop_at (y ∷ xs) zero x e = ap (λ z. z ∷ xs) (same_Some _ _ e)
drop_at (y ∷ xs) (suc i) x e = drop_at xs i x e

pub drop_end : {A : Type 0} (xs : List A) (i : ℕ) → length xs ≤ i → drop i xs ≡ []
drop_end [] zero past = refl
drop_end [] (suc i) past = refl
drop_end (y ∷ xs) zero past = absurd (omega arith)
drop_end (y ∷ xs) (suc i) past = drop_end xs i (omega arith)
