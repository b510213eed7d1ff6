-- Each call keeps what holds of the items' numbers.
use Rattle.std.proofs.Common.{◌≡◌, ⊎_elim, ◌≢◌, ℕ, zero, suc, ◌+◌, ◌<◌, ◌≤◌, ◌^◌, ◌-◌, Bool, true, false, cond, not, List, [], ◌∷◌, map, Option, None, Some, refl, arith, count_by}
use Rattle.std.proofs.lemmas.Bool.{cases_eq, cases_lt, ne_eqb}
use Rattle.std.proofs.lemmas.List.Sums.{sum_by-cons, sum_by_push, sum_by-remove}
use Rattle.std.proofs.lemmas.List.Filters.{sum_by-filter_both}
use Rattle.event_loops.specs.declared.item.Posted.{Posted}
use Rattle.event_loops.specs.declared.item.Item.{Item}
use Rattle.event_loops.specs.Queues.{Loop, Queues, change, is_before, is_for, without_first, none_for, with_items, with_item, posted_to, taken_before, dropped, with_loop}
use Rattle.event_loops.specs.code.Rings.{place_of_first}
use Rattle.event_loops.specs.Numbers.{has_number, count_under, IsNumbered}
use Rattle.event_loops.specs.code.Counts.{count_where}
use Rattle.event_loops.proofs.Places.{without_first-nowhere, without_first-place, place_of-within}

pub count_where-cons : (test : Posted → Bool) (l : Loop) (loops : List Loop) → count_where test (l ∷ loops) ≡ count_by test l.items + count_where test loops
count_where-cons test l loops = sum_by-cons (λ (m : Loop). count_by test m.items) l loops

-- ---- items are left out

-- a change of a list that leaves items out
pub record Thins (f : List Posted → List Posted) : Type 0 where
  pub fewer : (counted : Posted → Bool) (items : List Posted) → count_by counted (f items) ≤ count_by counted items

pub thins-none_for : (object : ℕ) → Thins (none_for object)
thins-none_for object = record {
  fewer = λ counted items. omega (arith, sum_by-filter_both (λ p. not (is_for object p.item)) (λ p. not (not (is_for object p.item))) (λ _. refl) (λ p. cond (counted p) 1 0) items);
}

pub thins-without_first : (test : Posted → Bool) → Thins (without_first test)
thins-without_first test = record { fewer = λ counted items. fewer_at counted items (place_of_first test items) refl }
  where
    fewer_at : (counted : Posted → Bool) (items : List Posted) (place : Option ℕ) → place_of_first test items ≡ place → count_by counted (without_first test items) ≤ count_by counted items
    fewer_at counted items None e = rw (without_first-nowhere test items e) (omega arith)
    fewer_at counted [] (Some k) e = omega arith
    fewer_at counted (p ∷ items) (Some k) e =
        rw (without_first-place test (p ∷ items) k e)
        (omega (arith, sum_by-remove (λ q. cond (counted q) 1 0) (p ∷ items) k p (place_of-within test (p ∷ items) k e)))

pub count_where-change : {f : List Posted → List Posted} → Thins f → (counted : Posted → Bool) (home : ℕ) (loops : List Loop) → count_where counted (change home (with_items f) loops) ≤ count_where counted loops
count_where-change t counted home [] = omega arith
count_where-change {f} t counted zero (l ∷ loops) =
    omega (arith, t.fewer counted l.items, count_where-cons counted l loops, count_where-cons counted (with_items f l) loops)
count_where-change {f} t counted (suc home) (l ∷ loops) =
    omega (arith, count_where-change t counted home loops, count_where-cons counted l loops, count_where-cons counted l (change home (with_items f) loops))

pub count_where-map : {f : List Posted → List Posted} → Thins f → (counted : Posted → Bool) (loops : List Loop) → count_where counted (map (with_items f) loops) ≤ count_where counted loops
count_where-map t counted [] = omega arith
count_where-map {f} t counted (l ∷ loops) =
    omega (arith, t.fewer counted l.items, count_where-map t counted loops, count_where-cons counted l loops, count_where-cons counted (with_items f l) (map (with_items f) loops))

-- with fewer items, each of which has its number
pub fewer_numbered : (s : Queues) (loops : List Loop) → ((number : ℕ) → count_under number loops ≤ count_under number s.loops) → IsNumbered s → IsNumbered (record s { loops = loops })
fewer_numbered s loops fewer n = record {
  within = n.within;
  distinct = λ number. omega (arith, fewer number, n.distinct number);
  given = λ number waits. n.given number (omega (arith, fewer number, waits));
}

pub IsNumbered-taken : (home number : ℕ) (s : Queues) → IsNumbered s → IsNumbered (taken_before home number s)
IsNumbered-taken home number s n =
    fewer_numbered s _ (λ k. count_where-change (thins-without_first (is_before number)) (has_number k) home s.loops) n

pub IsNumbered-dropped : (object : ℕ) (s : Queues) → IsNumbered s → IsNumbered (dropped object s)
IsNumbered-dropped object s n =
    fewer_numbered s _ (λ k. count_where-map (thins-none_for object) (has_number k) s.loops) n

-- ---- a loop more

pub IsNumbered-with_loop : (name : List ℕ) (s : Queues) → IsNumbered s → IsNumbered (with_loop name s)
IsNumbered-with_loop name s n =
    fewer_numbered s _
    (λ k. omega (arith, sum_by_push (λ (l : Loop). count_by (has_number k) l.items) s.loops (record { name = name; items = [] }))) n

-- ---- an item more

pub count-posted : (counted : Posted → Bool) (home : ℕ) (p : Posted) (loops : List Loop) → count_where counted (change home (with_item p) loops) ≤ count_where counted loops + cond (counted p) 1 0
count-posted counted home p [] = omega arith
count-posted counted zero p (l ∷ loops) =
    omega (arith, sum_by_push (λ q. cond (counted q) 1 0) l.items p, count_where-cons counted l loops, count_where-cons counted (with_item p l) loops)
count-posted counted (suc home) p (l ∷ loops) =
    omega (arith, count-posted counted home p loops, count_where-cons counted l loops, count_where-cons counted l (change home (with_item p) loops))

at_most_one : (b : Bool) → cond {A = ℕ} b 1 0 ≤ 1
at_most_one true = omega arith
at_most_one false = omega arith

pub IsNumbered-posted : (home : ℕ) (item : Item) (s : Queues) → s.posted < 2 ^ 63 - 1 → IsNumbered s → IsNumbered (posted_to home item s)
IsNumbered-posted home item s room n = record {
  within = omega (arith, room);
  distinct = λ number. ⊎_elim
      (λ (same : s.posted + 1 ≡ number). omega (arith, upto number, none number same, at_most_one (has_number number p)))
      (λ (other : s.posted + 1 ≢ number). omega (arith, upto number, not_new number other, n.distinct number))
      (cases_eq (s.posted + 1) number);
  given = λ number waits. ⊎_elim
      (λ (same : s.posted + 1 ≡ number). (omega (arith, same), omega (arith, same)))
      (λ (other : s.posted + 1 ≢ number).
      let was : (0 < number) × (number ≤ s.posted) = n.given number (omega (arith, upto number, not_new number other, waits)) in
      (was.0, omega (arith, was.1)))
      (cases_eq (s.posted + 1) number);
}
  where
    p : Posted
    p = record { number = s.posted + 1; item = item }

    upto : (number : ℕ) → count_under number (change home (with_item p) s.loops) ≤ count_under number s.loops + cond {A = ℕ} (has_number number p) 1 0
    upto number = count-posted (has_number number) home p s.loops

    -- under the new number nothing waited
    none : (number : ℕ) → s.posted + 1 ≡ number → count_under number s.loops ≤ 0
    none number same = ⊎_elim
        (λ (waits : 0 < count_under number s.loops). absurd (omega (arith, same, (n.given number waits).1)))
        (λ (h : count_under number s.loops ≤ 0). h)
        (cases_lt 0 (count_under number s.loops))

    not_new : (number : ℕ) → s.posted + 1 ≢ number → (cond {A = ℕ} (has_number number p) 1 0) ≡ 0
    not_new number other = rw (ne_eqb (s.posted + 1) number other) refl
