-- Items that move to another loop: what waits then, and under which numbers.
use Rattle.std.proofs.Common.{◌≡◌, ℕ, zero, suc, ◌+◌, ◌≤◌, Bool, true, false, not, ◌||◌, ◌&&◌, List, [], ◌∷◌, ◌++◌, map, filter, Option, None, Some, is_some, append-nil, inl, inr, refl, arith, ap, sym, ◌∙◌, if◌then◌else◌, eqb, cond, count_by}
use Rattle.std.specs.List.{list_all, list_any}
use Rattle.std.proofs.Math.Path.{fun_ext}
use Rattle.std.proofs.lemmas.Bool.{and_from, and_parts, cases_Bool, ne_eqb, false≢true}
use Rattle.std.proofs.lemmas.List.Elements.{filter-append}
use Rattle.std.proofs.lemmas.List.Folds.{list_all-append}
use Rattle.std.proofs.lemmas.List.Sums.{sum_by-append}
use Rattle.std.proofs.lemmas.List.Filters.{sum_by-filter_both}
use Rattle.event_loops.specs.declared.item.Posted.{Posted}
use Rattle.event_loops.specs.Queues.{Loop, Queues, receiver_of, items_at, all_items, items_elsewhere, with_items, change, rehomed}
use Rattle.event_loops.specs.code.Sure.{AllAt}
use Rattle.event_loops.specs.code.Rings.{goes, those_going, those_staying, without_going, gathered}
use Rattle.event_loops.specs.code.Marks.{waits, is_above, waiting, visible}
use Rattle.event_loops.specs.Numbers.{has_number, IsNumbered}
use Rattle.event_loops.specs.code.Counts.{count_where}
use Rattle.event_loops.proofs.Entries.{put-same}
use Rattle.event_loops.proofs.Waiting.{same_cons, visible-change, items_at-visible}
use Rattle.event_loops.proofs.Numbers.{count_where-cons, fewer_numbered}

-- the same items pass two tests, in whatever order they are asked
filters-swap : (p q : Posted → Bool) (xs : List Posted) → filter p (filter q xs) ≡ filter q (filter p xs)
filters-swap p q [] = refl
filters-swap p q (x ∷ xs) = by_tests (p x) refl (q x) refl (filters-swap p q xs)
  where
    by_tests : (a : Bool) → p x ≡ a → (b : Bool) → q x ≡ b → filter p (filter q xs) ≡ filter q (filter p xs)
        → filter p (if b then x ∷ filter q xs else filter q xs) ≡ filter q (if a then x ∷ filter p xs else filter p xs)
    by_tests true is true also rest = rw is (rw also (ap (λ ys. x ∷ ys) rest))
    by_tests true is false also rest = rw also rest
    by_tests false is true also rest = rw is rest
    by_tests false is false also rest = rest

abbrev emptied : List Posted → List Posted
emptied items = []

-- ---- what waits

module _ (since : ℕ → Option ℕ) where
  all_items-visible : (loops : List Loop) → waiting since (all_items loops) ≡ all_items (visible since loops)
  all_items-visible [] = refl
  all_items-visible (l ∷ loops) =
      filter-append (waits since) l.items (all_items loops) ∙ ap (λ items. waiting since l.items ++ items) (all_items-visible loops)

  visible-emptied : (home : ℕ) (loops : List Loop) → visible since (change home (with_items emptied) loops) ≡ change home (with_items emptied) (visible since loops)
  visible-emptied home loops = visible-change since emptied emptied (λ items. refl) home loops

  pub elsewhere-visible : (home : ℕ) (loops : List Loop) → waiting since (items_elsewhere home loops) ≡ items_elsewhere home (visible since loops)
  elsewhere-visible home loops = all_items-visible (change home (with_items emptied) loops) ∙ ap all_items (visible-emptied home loops)

  module _ (going : ℕ → Bool) where
    visible-staying : (loops : List Loop) → visible since (map (without_going going) loops) ≡ map (without_going going) (visible since loops)
    visible-staying [] = refl
    visible-staying (l ∷ loops) =
        same_cons _ _ (ap (λ items. record l { items = items }) (filters-swap (waits since) (λ p. not (goes going p)) l.items)) (visible-staying loops)

    -- what waits is gathered where all is
    pub visible-gathered : (home : ℕ) (loops : List Loop) → visible since (gathered going home loops) ≡ gathered going home (visible since loops)
    visible-gathered home loops =
        let moved : waiting since (those_going going (items_elsewhere home loops)) ≡ those_going going (items_elsewhere home (visible since loops)) =
        filters-swap (waits since) (goes going) (items_elsewhere home loops) ∙ ap (those_going going) (elsewhere-visible home loops) in
        let own : waiting since (items_at loops home) ≡ items_at (visible since loops) home = sym (items_at-visible since loops home) in
        let all : waiting since (items_at loops home ++ those_going going (items_elsewhere home loops)) ≡ items_at (visible since loops) home ++ those_going going (items_elsewhere home (visible since loops)) =
        filter-append (waits since) (items_at loops home) (those_going going (items_elsewhere home loops))
        ∙ ap (λ items. items ++ waiting since (those_going going (items_elsewhere home loops))) own
        ∙ ap (λ items. items_at (visible since loops) home ++ items) moved in
        let rest : visible since (map (without_going going) (change home (with_items emptied) loops)) ≡ map (without_going going) (change home (with_items emptied) (visible since loops)) =
        visible-staying (change home (with_items emptied) loops) ∙ ap (map (without_going going)) (visible-emptied home loops) in
        visible-change since
        (λ items. items_at loops home ++ those_going going (items_elsewhere home loops))
        (λ items. items_at (visible since loops) home ++ those_going going (items_elsewhere home (visible since loops)))
        (λ items. all) home (map (without_going going) (change home (with_items emptied) loops))
        ∙ ap (change home (with_items (λ items. items_at (visible since loops) home ++ those_going going (items_elsewhere home (visible since loops))))) rest

-- ---- which items go

module _ (going : ℕ → Bool) where
  -- a list that is put in is there, whatever was
  put-over : (items : List Posted) (home : ℕ) (loops : List Loop) → change home (with_items (λ _. items)) (map (without_going going) (change home (with_items emptied) loops)) ≡ change home (with_items (λ _. items)) (map (without_going going) loops)
  put-over items home [] = refl
  put-over items zero (l ∷ loops) = refl
  put-over items (suc home) (l ∷ loops) = ap (λ ls. without_going going l ∷ ls) (put-over items home loops)

  pub gathered-over : (home : ℕ) (loops : List Loop) → gathered going home loops ≡ change home (with_items (λ _. items_at loops home ++ those_going going (items_elsewhere home loops))) (map (without_going going) loops)
  gathered-over home loops = put-over (items_at loops home ++ those_going going (items_elsewhere home loops)) home loops

-- the list at a place is taken out, those that go leave all others and come after its own, and it is put back
pub gathered-by : (going : ℕ → Bool) (home : ℕ) (loops cleared left last : List Loop) (own all empty : List Posted) → empty ≡ []
    → cleared ≡ change home (with_items (λ _. empty)) loops → own ≡ items_at loops home → left ≡ map (without_going going) cleared
    → all ≡ own ++ those_going going (all_items cleared) → last ≡ change home (with_items (λ _. all)) left → last ≡ gathered going home loops
gathered-by going home loops cleared left last own all empty none clear was stays moved put =
    let out : cleared ≡ change home (with_items (λ _. [])) loops = clear ∙ ap (λ (items : List Posted). change home (with_items (λ _. items)) loops) none in
    let whole : all ≡ items_at loops home ++ those_going going (items_elsewhere home loops) =
    moved
    ∙ ap (λ (items : List Posted). items ++ those_going going (all_items cleared)) was
    ∙ ap (λ (ls : List Loop). items_at loops home ++ those_going going (all_items ls)) out in
    put
    ∙ ap (λ (ls : List Loop). change home (with_items (λ _. all)) ls) (stays ∙ ap (map (without_going going)) out)
    ∙ ap (λ (items : List Posted). change home (with_items (λ _. items)) (map (without_going going) (change home (with_items (λ _. [])) loops))) whole

-- those for these objects go
pub gathered-rehomed : (objects : List ℕ) (going : ℕ → Bool) → ((o : ℕ) → going o ≡ list_any (λ k. eqb o k) objects) → (home : ℕ) (s : Queues) → gathered going home s.loops ≡ (rehomed objects home s).loops
gathered-rehomed objects going is home s =
    let alike : going ≡ (λ o. list_any (λ k. eqb o k) objects) = fun_ext is in
    ap (λ (g : ℕ → Bool). gathered g home s.loops) alike ∙ gathered-over (λ o. list_any (λ k. eqb o k) objects) home s.loops

-- ---- what each item passes

all-filter : (q test : Posted → Bool) (items : List Posted) → list_all q items ≡ true → list_all q (filter test items) ≡ true
all-filter q test [] h = h
all-filter q test (p ∷ items) h =
    let parts = and_parts (q p) (list_all q items) h in by_test (test p) (all-filter q test items parts.1) (and_from (q p) (list_all q (filter test items)) parts.0 (all-filter q test items parts.1))
  where
    by_test : (b : Bool) → list_all q (filter test items) ≡ true → (q p && list_all q (filter test items)) ≡ true → list_all q (if b then p ∷ filter test items else filter test items) ≡ true
    by_test true rest kept = kept
    by_test false rest kept = rest

module _ (q : Posted → Bool) where
  all-put : (items : List Posted) → list_all q items ≡ true → (home : ℕ) (loops : List Loop) → AllAt q loops → AllAt q (change home (with_items (λ _. items)) loops)
  all-put items all home [] h k = h k
  all-put items all zero (l ∷ loops) h zero = all
  all-put items all zero (l ∷ loops) h (suc k) = h (suc k)
  all-put items all (suc home) (l ∷ loops) h zero = h zero
  all-put items all (suc home) (l ∷ loops) h (suc k) = all-put items all home loops (λ j. h (suc j)) k

  all-staying : (going : ℕ → Bool) (loops : List Loop) → AllAt q loops → AllAt q (map (without_going going) loops)
  all-staying going [] h k = h k
  all-staying going (l ∷ loops) h zero = all-filter q (λ p. not (goes going p)) l.items (h zero)
  all-staying going (l ∷ loops) h (suc k) = all-staying going loops (λ j. h (suc j)) k

  all-all_items : (loops : List Loop) → AllAt q loops → list_all q (all_items loops) ≡ true
  all-all_items [] h = refl
  all-all_items (l ∷ loops) h = list_all-append q l.items (all_items loops) ∙ and_from _ _ (h zero) (all-all_items loops (λ j. h (suc j)))

  pub all-gathered : (going : ℕ → Bool) (home : ℕ) (loops : List Loop) → AllAt q loops → AllAt q (gathered going home loops)
  all-gathered going home loops h =
      let rest : AllAt q (change home (with_items emptied) loops) = all-put [] refl home loops h in
      let moved : list_all q (those_going going (items_elsewhere home loops)) ≡ true = all-filter q (goes going) (items_elsewhere home loops) (all-all_items (change home (with_items emptied) loops) rest) in
      let all : list_all q (items_at loops home ++ those_going going (items_elsewhere home loops)) ≡ true =
      list_all-append q (items_at loops home) (those_going going (items_elsewhere home loops)) ∙ and_from _ _ (h home) moved in
      all-put (items_at loops home ++ those_going going (items_elsewhere home loops)) all home (map (without_going going) (change home (with_items emptied) loops)) (all-staying going (change home (with_items emptied) loops) rest)

-- ---- two tests that agree on each item
module _ (g h : ℕ → Bool) (alike : Posted → Bool) (same : (p : Posted) → alike p ≡ true → goes g p ≡ goes h p) where
  going-alike : (items : List Posted) → list_all alike items ≡ true → those_going g items ≡ those_going h items
  going-alike [] all = refl
  going-alike (p ∷ items) all =
      let parts = and_parts (alike p) (list_all alike items) all in
      ap (λ (b : Bool). if b then p ∷ those_going g items else those_going g items) (same p parts.0)
      ∙ ap (λ ps. if goes h p then p ∷ ps else ps) (going-alike items parts.1)

  staying-alike : (items : List Posted) → list_all alike items ≡ true → those_staying g items ≡ those_staying h items
  staying-alike [] all = refl
  staying-alike (p ∷ items) all =
      let parts = and_parts (alike p) (list_all alike items) all in
      ap (λ (b : Bool). if not b then p ∷ those_staying g items else those_staying g items) (same p parts.0)
      ∙ ap (λ ps. if not (goes h p) then p ∷ ps else ps) (staying-alike items parts.1)

  loops-alike : (loops : List Loop) → AllAt alike loops → map (without_going g) loops ≡ map (without_going h) loops
  loops-alike [] all = refl
  loops-alike (l ∷ loops) all = same_cons _ _ (ap (λ items. record l { items = items }) (staying-alike l.items (all zero))) (loops-alike loops (λ home. all (suc home)))

  pub gathered-alike : (home : ℕ) (loops : List Loop) → AllAt alike loops → gathered g home loops ≡ gathered h home loops
  gathered-alike home loops all =
      let rest : AllAt alike (change home (with_items emptied) loops) = all-put alike [] refl home loops all in
      ap (λ items. change home (with_items (λ _. items_at loops home ++ items)) (map (without_going g) (change home (with_items emptied) loops)))
      (going-alike (items_elsewhere home loops) (all-all_items alike (change home (with_items emptied) loops) rest))
      ∙ ap (change home (with_items (λ _. items_at loops home ++ those_going h (items_elsewhere home loops)))) (loops-alike (change home (with_items emptied) loops) rest)

-- ---- where nothing goes
none-go : (items : List Posted) → those_going (λ _. false) items ≡ []
none-go [] = refl
none-go (p ∷ items) = none-go items

all-stay : (items : List Posted) → those_staying (λ _. false) items ≡ items
all-stay [] = refl
all-stay (p ∷ items) = ap (λ ps. p ∷ ps) (all-stay items)

loops-stay : (loops : List Loop) → map (without_going (λ _. false)) loops ≡ loops
loops-stay [] = refl
loops-stay (l ∷ loops) = same_cons _ _ (ap (λ items. record l { items = items }) (all-stay l.items)) (loops-stay loops)

pub nothing-gathered : (home : ℕ) (loops : List Loop) → gathered (λ _. false) home loops ≡ loops
nothing-gathered home loops =
    gathered-over (λ _. false) home loops
    ∙ ap (λ items. change home (with_items (λ _. items_at loops home ++ items)) (map (without_going (λ _. false)) loops)) (none-go (items_elsewhere home loops))
    ∙ ap (λ items. change home (with_items (λ _. items)) (map (without_going (λ _. false)) loops)) (append-nil (items_at loops home))
    ∙ ap (change home (with_items (λ _. items_at loops home))) (loops-stay loops)
    ∙ put-same home loops

-- ---- how many of them pass a test

module _ (counted : Posted → Bool) where
  count-append : (xs ys : List Posted) → count_by counted (xs ++ ys) ≡ count_by counted xs + count_by counted ys
  count-append xs ys = sum_by-append (λ p. cond (counted p) 1 0) xs ys

  count-put : (items : List Posted) (home : ℕ) (loops : List Loop) → count_where counted (change home (with_items (λ _. items)) loops) ≤ count_where counted loops + count_by counted items
  count-put items home [] = omega arith
  count-put items zero (l ∷ loops) =
      omega (arith, count_where-cons counted l loops, count_where-cons counted (with_items (λ _. items) l) loops)
  count-put items (suc home) (l ∷ loops) =
      omega (arith, count-put items home loops, count_where-cons counted l loops, count_where-cons counted l (change home (with_items (λ _. items)) loops))

  -- the items of one loop, and the others
  count-apart : (home : ℕ) (loops : List Loop) → count_where counted (change home (with_items emptied) loops) + count_by counted (items_at loops home) ≡ count_where counted loops
  count-apart home [] = omega arith
  count-apart zero (l ∷ loops) =
      omega (arith, count_where-cons counted l loops, count_where-cons counted (with_items emptied l) loops)
  count-apart (suc home) (l ∷ loops) =
      omega (arith, count-apart home loops, count_where-cons counted l loops, count_where-cons counted l (change home (with_items emptied) loops))

  -- those that go, and those that stay
  count-parted : (going : ℕ → Bool) (loops : List Loop) → count_where counted (map (without_going going) loops) + count_by counted (those_going going (all_items loops)) ≡ count_where counted loops
  count-parted going [] = omega arith
  count-parted going (l ∷ loops) =
      let here : count_by counted (those_going going l.items) + count_by counted (those_staying going l.items) ≡ count_by counted l.items =
      sum_by-filter_both (goes going) (λ p. not (goes going p)) (λ _. refl) (λ p. cond (counted p) 1 0) l.items in
      let all : count_by counted (those_going going (l.items ++ all_items loops)) ≡ count_by counted (those_going going l.items) + count_by counted (those_going going (all_items loops)) =
      ap (count_by counted) (filter-append (goes going) l.items (all_items loops)) ∙ count-append (those_going going l.items) (those_going going (all_items loops)) in
      omega (arith, here, all, count-parted going loops, count_where-cons counted l loops, count_where-cons counted (without_going going l) (map (without_going going) loops))

  pub count-gathered : (going : ℕ → Bool) (home : ℕ) (loops : List Loop) → count_where counted (gathered going home loops) ≤ count_where counted loops
  count-gathered going home loops =
      let own = items_at loops home in
      let moved = those_going going (items_elsewhere home loops) in
      omega (
        arith,
        count-put (own ++ moved) home (map (without_going going) (change home (with_items emptied) loops)),
        count-append own moved,
        count-parted going (change home (with_items emptied) loops),
        count-apart home loops,
      )

pub IsNumbered-gathered : (going : ℕ → Bool) (home : ℕ) (s : Queues) → IsNumbered s → IsNumbered (record s { loops = gathered going home s.loops })
IsNumbered-gathered going home s n = fewer_numbered s _ (λ k. count-gathered (has_number k) going home s.loops) n
