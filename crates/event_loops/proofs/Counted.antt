-- No more items wait for an object than its mark says, after each call.
use Rattle.std.proofs.Common.{◌≡◌, ℕ, zero, suc, ◌+◌, ◌-◌, ◌<◌, ◌≤◌, Bool, true, false, not, ◌||◌, ◌&&◌, cond, eqb, nat_lt, List, [], ◌∷◌, ◌++◌, length, map, Option, None, Some, ⊎_elim, inl, inr, refl, arith, ap, sym, subst, ◌∙◌, if◌then◌else◌, count_by}
use Rattle.std.specs.List.{find, list_all, list_any}
use Rattle.std.specs.Map.{lookup}
use Rattle.std.proofs.lemmas.Bool.{and_from, eq-eqb, eqb-true, false≢true, lt-ltb}
use Rattle.std.proofs.lemmas.List.Sums.{sum_by-cons, sum_by_push}
use Rattle.std.proofs.lemmas.Option.{same_Some}
use Rattle.event_loops.specs.declared.item.Posted.{Posted}
use Rattle.event_loops.specs.declared.marks.WaitMark.{WaitMark}
use Rattle.event_loops.specs.declared.marks.Marks.{Marks}
use Rattle.event_loops.specs.Queues.{Loop, receiver_of, items_at, is_before, none_for, change, with_items, with_item, without_first, without_first_before, without_object}
use Rattle.event_loops.specs.code.Rings.{goes, gathered}
use Rattle.event_loops.specs.code.Counts.{count_where, awaits, waiting_in, waiting_of, AreCounted, CountsMore, CountsFewer, CountsLess, CountsNone, CountAlike}
use Rattle.event_loops.specs.code.Sure.{AllAt}
use Rattle.event_loops.proofs.Numbers.{count_where-cons, count_where-change, count_where-map, count-posted, thins-without_first, thins-none_for}
use Rattle.event_loops.proofs.Rehoming.{count-gathered}

count-cons : (test : Posted → Bool) (p : Posted) (items : List Posted) → count_by test (p ∷ items) ≡ cond (test p) 1 0 + count_by test items
count-cons test p items = sum_by-cons (λ q. cond (test q) 1 0) p items

-- what is asked at a number, or at another where the two are the same, is asked at one
pub at_number : {X : Type 0} (f : ℕ → X) (a q : ℕ) → (if eqb a q then f a else f q) ≡ f q
at_number f a q = by_test (eqb a q) refl
  where
    by_test : (b : Bool) → eqb a q ≡ b → (if b then f a else f q) ≡ f q
    by_test true t = ap f (eqb-true a q t)
    by_test false t = refl

module _ (old new : Marks) (object : ℕ) where
  one-more : CountsMore object old new → (q : ℕ) → waiting_of new q ≡ waiting_of old q + cond (eqb object q) 1 0
  one-more more q = by_test (eqb object q) refl (more q)
    where
      by_test : (b : Bool) → eqb object q ≡ b → waiting_of new q ≡ (if b then waiting_of old object + 1 else waiting_of old q) → waiting_of new q ≡ waiting_of old q + cond b 1 0
      by_test true t is = is ∙ ap (λ (k : ℕ). waiting_of old k + 1) (eqb-true object q t)
      by_test false t is = omega (arith, is)

  one-less : CountsFewer object old new → (q : ℕ) → waiting_of new q ≡ waiting_of old q - cond (eqb object q) 1 0
  one-less less q = by_test (eqb object q) refl (less q)
    where
      by_test : (b : Bool) → eqb object q ≡ b → waiting_of new q ≡ (if b then waiting_of old object - 1 else waiting_of old q) → waiting_of new q ≡ waiting_of old q - cond b 1 0
      by_test true t is = is ∙ ap (λ (k : ℕ). waiting_of old k - 1) (eqb-true object q t)
      by_test false t is = omega (arith, is)

pub counted-alike : (loops : List Loop) (old new : Marks) → CountAlike old new → AreCounted loops old → AreCounted loops new
counted-alike loops old new same h q = let is = same q in omega (arith, is, h q)

-- where a post ran out of memory, more may be noted than waits
pub counted-more : (loops : List Loop) (old new : Marks) (object : ℕ) → CountsMore object old new → AreCounted loops old → AreCounted loops new
counted-more loops old new object more h q = let is = one-more old new object more q in omega (arith, is, h q)

pub counted-posted : (home : ℕ) (p : Posted) (loops : List Loop) (old new : Marks) → CountsMore (receiver_of p.item) old new → AreCounted loops old → AreCounted (change home (with_item p) loops) new
counted-posted home p loops old new more h q = let is = one-more old new (receiver_of p.item) more q in omega (arith, is, h q, count-posted (awaits q) home p loops)

pub counted-with_loop : (name : List ℕ) (loops : List Loop) (marks : Marks) → AreCounted loops marks → AreCounted (loops ++ record { name = name; items = [] } ∷ []) marks
counted-with_loop name loops marks h q =
    omega (arith, h q, sum_by_push (λ (l : Loop). count_by (awaits q) l.items) loops (record { name = name; items = [] }))

pub counted-gathered : (going : ℕ → Bool) (home : ℕ) (loops : List Loop) (marks : Marks) → AreCounted loops marks → AreCounted (gathered going home loops) marks
counted-gathered going home loops marks h q = omega (arith, h q, count-gathered (awaits q) going home loops)

-- ---- an item that is taken
count-first : (test counted : Posted → Bool) (items : List Posted) (p : Posted) → find test items ≡ Some p → count_by counted (without_first test items) + cond (counted p) 1 0 ≡ count_by counted items
count-first test counted [] p e = absurd (cc e)
count-first test counted (x ∷ items) p e = by_test (test x) e (count-first test counted items p)
  where
    by_test : (b : Bool) → (if b then Some x else find test items) ≡ Some p → (find test items ≡ Some p → count_by counted (without_first test items) + cond (counted p) 1 0 ≡ count_by counted items) → count_by counted (if b then items else x ∷ without_first test items) + cond (counted p) 1 0 ≡ count_by counted (x ∷ items)
    by_test true is rest =
        let Counts : Posted → Type 0 = λ y. count_by counted items + cond (counted y) 1 0 ≡ count_by counted (x ∷ items) in
        subst Counts (same_Some x p is) (omega (arith, count-cons counted x items))
    by_test false is rest = omega (arith, rest is, count-cons counted x items, count-cons counted x (without_first test items))

count-first_at : (test counted : Posted → Bool) (home : ℕ) (loops : List Loop) (p : Posted) → find test (items_at loops home) ≡ Some p → count_where counted (change home (with_items (without_first test)) loops) + cond (counted p) 1 0 ≡ count_where counted loops
count-first_at test counted home [] p e = absurd (cc e)
count-first_at test counted zero (l ∷ loops) p e =
    omega (arith, count-first test counted l.items p e, count_where-cons counted l loops, count_where-cons counted (with_items (without_first test) l) loops)
count-first_at test counted (suc home) (l ∷ loops) p e =
    omega (arith, count-first_at test counted home loops p e, count_where-cons counted l loops, count_where-cons counted l (change home (with_items (without_first test)) loops))

pub counted-taken : (number home : ℕ) (loops : List Loop) (old new : Marks) (taken : Option Posted) → taken ≡ find (is_before number) (items_at loops home) → CountsLess taken old new → AreCounted loops old → AreCounted (change home (without_first_before number) loops) new
counted-taken number home loops old new None is less h q =
    let alike = less q in omega (arith, alike, h q, count_where-change (thins-without_first (is_before number)) (awaits q) home loops)
counted-taken number home loops old new (Some p) is less h q =
    let fewer = one-less old new (receiver_of p.item) less q in omega (arith, fewer, h q, count-first_at (is_before number) (awaits q) home loops p (sym is))

-- ---- an object that is forgotten
none-for : (object : ℕ) (items : List Posted) → count_by (awaits object) (none_for object items) ≡ 0
none-for object [] = refl
none-for object (p ∷ items) = by_test (awaits object p) refl (none-for object items)
  where
    by_test : (b : Bool) → awaits object p ≡ b → count_by (awaits object) (none_for object items) ≡ 0 → count_by (awaits object) (if not b then p ∷ none_for object items else none_for object items) ≡ 0
    by_test true told rest = rest
    by_test false told rest =
        let here : (cond {A = ℕ} (awaits object p) 1 0) ≡ 0 = ap (λ (b : Bool). cond {A = ℕ} b 1 0) told in
        omega (arith, here, rest, count-cons (awaits object) p (none_for object items))

none-for_all : (object : ℕ) (loops : List Loop) → count_where (awaits object) (map (without_object object) loops) ≡ 0
none-for_all object [] = refl
none-for_all object (l ∷ loops) =
    omega (arith, none-for object l.items, none-for_all object loops, count_where-cons (awaits object) (without_object object l) (map (without_object object) loops))

pub counted-dropped : (object : ℕ) (loops : List Loop) (old new : Marks) → CountsNone object old new → AreCounted loops old → AreCounted (map (without_object object) loops) new
counted-dropped object loops old new none h q = by_test (eqb object q) refl (none q)
  where
    by_test : (b : Bool) → eqb object q ≡ b → waiting_of new q ≡ (if b then 0 else waiting_of old q) → count_where (awaits q) (map (without_object object) loops) ≤ waiting_of new q
    by_test true told is =
        let Few : ℕ → Type 0 = λ o. count_where (awaits o) (map (without_object object) loops) ≤ waiting_of new q in
        let nothing = none-for_all object loops in
        subst Few (eqb-true object q told) (omega (arith, nothing))
    by_test false told is = omega (arith, is, h q, count_where-map (thins-none_for object) (awaits q) loops)

-- ---- what waits is counted
abbrev pub is_noted : Marks → Posted → Bool
is_noted marks p = nat_lt 0 (waiting_of marks (receiver_of p.item))

all-counted : (w : ℕ → ℕ) (items : List Posted) → ((o : ℕ) → count_by (awaits o) items ≤ w o) → list_all (λ p. nat_lt 0 (w (receiver_of p.item))) items ≡ true
all-counted w [] h = refl
all-counted w (p ∷ items) h =
    let o : ℕ = receiver_of p.item in
    let one : (cond {A = ℕ} (awaits o p) 1 0) ≡ 1 = ap (λ (b : Bool). cond {A = ℕ} b 1 0) (eq-eqb o o refl) in
    let some : 0 < w o = omega (arith, h o, one, count-cons (awaits o) p items) in
    and_from (nat_lt 0 (w o)) (list_all (λ q. nat_lt 0 (w (receiver_of q.item))) items) (lt-ltb 0 (w o) some)
    (all-counted w items (λ k. omega (arith, h k, count-cons (awaits k) p items)))

-- for the object of each item that waits, something does by its mark
pub all-noted : (marks : Marks) (loops : List Loop) → AreCounted loops marks → AllAt (is_noted marks) loops
all-noted marks loops h home = at_home loops h home
  where
    at_home : (ls : List Loop) → ((o : ℕ) → count_where (awaits o) ls ≤ waiting_of marks o) → (home : ℕ) → list_all (is_noted marks) (items_at ls home) ≡ true
    at_home [] h home = refl
    at_home (l ∷ ls) h zero = all-counted (waiting_of marks) l.items (λ o. omega (arith, h o, count_where-cons (awaits o) l ls))
    at_home (l ∷ ls) h (suc home) = at_home ls (λ o. omega (arith, h o, count_where-cons (awaits o) l ls)) home

-- those go that are among the objects and for which something waits, where all that are among them do
pub goes-noted : (marks : Marks) (objects : List ℕ) (going : ℕ → Bool) → ((o : ℕ) → going o ≡ (list_any (λ k. eqb o k) objects && nat_lt 0 (waiting_of marks o))) → (p : Posted) → is_noted marks p ≡ true → goes going p ≡ goes (λ o. list_any (λ k. eqb o k) objects) p
goes-noted marks objects going is p noted =
    is (receiver_of p.item)
    ∙ ap (λ (b : Bool). list_any (λ k. eqb (receiver_of p.item) k) objects && b) noted
    ∙ and-true (list_any (λ k. eqb (receiver_of p.item) k) objects)
  where
    and-true : (b : Bool) → (b && true) ≡ b
    and-true true = refl
    and-true false = refl

-- where there are no marks, none says that something waits
nothing-in : (es : List (ℕ × WaitMark)) (o : ℕ) → length es ≡ 0 → waiting_in (lookup (eqb o) es) ≡ 0
nothing-in [] o z = refl
nothing-in (e ∷ es) o z = absurd (omega (arith, z))

pub none-noted : (marks : Marks) → length marks.by_object.entries ≡ 0 → (p : Posted) → is_noted marks p ≡ true → ⊥
none-noted marks z p h = false≢true (sym (ap (λ (n : ℕ). nat_lt 0 n) (nothing-in marks.by_object.entries (receiver_of p.item) z)) ∙ h)

-- .. so nothing goes
pub goes-unmarked : (marks : Marks) → length marks.by_object.entries ≡ 0 → (g : ℕ → Bool) (p : Posted) → is_noted marks p ≡ true → goes (λ _. false) p ≡ goes g p
goes-unmarked marks z g p h = absurd (none-noted marks z p h)
