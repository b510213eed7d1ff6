-- The first item that passes a test, by its place.
use Rattle.std.proofs.Common.{◌≡◌, ℕ, zero, suc, ◌<◌, Bool, true, List, [], ◌∷◌, length, drop, None, Some, refl, arith, ap, subst, get_or, if◌then◌else◌}
use Rattle.std.specs.List.{find, remove}
use Rattle.event_loops.specs.declared.item.Posted.{Posted}
use Rattle.event_loops.specs.Queues.{without_first}
use Rattle.event_loops.specs.code.Rings.{place_of_first}

pub find-nowhere : (test : Posted → Bool) (xs : List Posted) → place_of_first test xs ≡ None → find test xs ≡ None
find-nowhere test [] e = refl
find-nowhere test (x ∷ xs) e = grind (arith, find-nowhere test xs)

pub without_first-nowhere : (test : Posted → Bool) (xs : List Posted) → place_of_first test xs ≡ None → without_first test xs ≡ xs
without_first-nowhere test [] e = refl
without_first-nowhere test (x ∷ xs) e = grind (arith, without_first-nowhere test xs)

pub find-place : (test : Posted → Bool) (xs : List Posted) (k : ℕ) (d : Posted) → place_of_first test xs ≡ Some k → find test xs ≡ Some (get_or xs k d)
find-place test [] k d e = grind arith
find-place test (x ∷ xs) zero d e = grind (arith)
find-place test (x ∷ xs) (suc k) d e = grind (arith, find-place test xs k d)

pub without_first-place : (test : Posted → Bool) (xs : List Posted) (k : ℕ) → place_of_first test xs ≡ Some k → without_first test xs ≡ remove xs k
without_first-place test [] k e = grind arith
without_first-place test (x ∷ xs) zero e = grind (arith)
without_first-place test (x ∷ xs) (suc k) e = grind (arith, without_first-place test xs k)

pub place_of-within : (test : Posted → Bool) (xs : List Posted) (k : ℕ) → place_of_first test xs ≡ Some k → k < length xs
place_of-within test [] k e = grind arith
place_of-within test (x ∷ xs) zero e = grind (arith)
place_of-within test (x ∷ xs) (suc k) e = grind (arith, place_of-within test xs k)

-- the very first passes it
pub find-front : (test : Posted → Bool) (xs : List Posted) (x : Posted) → 0 < length xs → x ≡ get_or xs 0 x → test x ≡ true → find test xs ≡ Some x
find-front test [] x some is passes = absurd (omega (arith, some))
find-front test (y ∷ xs) x some is passes =
    let Found : Posted → Type 0 = λ z. find test (z ∷ xs) ≡ Some x in
    subst Found is (ap (λ b. if b then Some x else find test xs) passes)

pub without_first-front : (test : Posted → Bool) (xs : List Posted) (x : Posted) → 0 < length xs → x ≡ get_or xs 0 x → test x ≡ true → without_first test xs ≡ drop 1 xs
without_first-front test [] x some is passes = absurd (omega (arith, some))
without_first-front test (y ∷ xs) x some is passes =
    let Left : Posted → Type 0 = λ z. without_first test (z ∷ xs) ≡ xs in
    subst Left is (ap (λ b. if b then xs else x ∷ without_first test xs) passes)

-- there is none
pub find-empty : (test : Posted → Bool) (xs : List Posted) → length xs ≡ 0 → find test xs ≡ None
find-empty test [] none = refl
find-empty test (x ∷ xs) none = absurd (omega (arith, none))

pub without_first-empty : (test : Posted → Bool) (xs : List Posted) → length xs ≡ 0 → without_first test xs ≡ xs
without_first-empty test [] none = refl
without_first-empty test (x ∷ xs) none = absurd (omega (arith, none))

pub ruleset by_place = (find-nowhere, without_first-nowhere, find-place, without_first-place, place_of-within, find-front, without_first-front, find-empty, without_first-empty)
