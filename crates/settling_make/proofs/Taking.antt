-- The first elements of a list of numbers, and one more.
use Rattle.std.proofs.Common.{◌≡◌, ◌⊎◌, ℕ, ◌+◌, ◌<◌, ◌≤◌, List, [], ◌∷◌, length, take, drop, get_or, sym, ◌∙◌, subst, arith}
use Rattle.std.specs.List.{Contains}
use Rattle.std.proofs.lemmas.List.{take_more, take_all, length-take, take-append-drop, get_or-take}
use Rattle.std.proofs.lemmas.List.Elements.{Contains-push, Contains-push_cases, Contains-append_left, Contains-get_or}

module _ (xs : List ℕ) (i : ℕ) (more : i < length xs) where
  -- it is one of those before, or the one more
  pub one_of : (b : ℕ) → Contains (take (i + 1) xs) b → Contains (take i xs) b ⊎ (get_or xs i 0 ≡ b)
  one_of b h = Contains-push_cases (take i xs) (get_or xs i 0) b (subst (λ (l : List ℕ). Contains l b) (take_more xs i 0 more) h)

  pub before_too : (b : ℕ) → Contains (take i xs) b → Contains (take (i + 1) xs) b
  before_too b h = subst (λ (l : List ℕ). Contains l b) (sym (take_more xs i 0 more)) (Contains-append_left (take i xs) (get_or xs i 0 ∷ []) b h)

  pub one_more : Contains (take (i + 1) xs) (get_or xs i 0)
  one_more = subst (λ (l : List ℕ). Contains l (get_or xs i 0)) (sym (take_more xs i 0 more)) (Contains-push (take i xs) (get_or xs i 0))

pub none_taken : (xs : List ℕ) (b : ℕ) → ¬ Contains (take 0 xs) b
none_taken xs b h = absurd (omega (arith, h.1))

pub all_taken : (xs : List ℕ) (i b : ℕ) → length xs ≤ i → Contains xs b → Contains (take i xs) b
all_taken xs i b past h = subst (λ (l : List ℕ). Contains l b) (sym (take_all i xs past)) h

pub length_taken : (xs : List ℕ) (i : ℕ) → length (take i xs) ≤ i
length_taken xs i = let e = length-take i xs in omega (arith, e)

pub taken_in : (xs : List ℕ) (i b : ℕ) → Contains (take i xs) b → Contains xs b
taken_in xs i b h = subst (λ (l : List ℕ). Contains l b) (take-append-drop i xs) (Contains-append_left (take i xs) (drop i xs) b h)

-- an element that stands early enough
pub taken_at : (xs : List ℕ) (i j b : ℕ) → j < i → j < length xs → get_or xs j 0 ≡ b → Contains (take i xs) b
taken_at xs i j b early low is =
    let e = length-take i xs in
    let inside : j < length (take i xs) = omega (arith, e, early, low) in
    subst (λ (x : ℕ). Contains (take i xs) x) (get_or-take i xs j 0 early ∙ is) (Contains-get_or (take i xs) j 0 inside)
