-- Which of the items in the rings wait, by their numbers.
use Rattle.std.specs.Prelude.{◌≡◌, ℕ, ◌||◌, Bool, true, List, Option}
use Rattle.std.specs.List.{list_all}
use Rattle.std.specs.declared.collections.VecDeque.{VecDeque}
use Rattle.indexmap.specs.IndexMap.{IndexMap}
use Rattle.event_loops.specs.declared.item.Posted.{Posted}
use Rattle.event_loops.specs.declared.marks.Marks.{Marks}
use Rattle.event_loops.specs.Queues.{Loop, items_at}
use Rattle.event_loops.specs.code.Rings.{loops_in}
use Rattle.event_loops.specs.code.Marks.{since_of, waits, is_upto}
use Rattle.event_loops.specs.code.Kept.{Kept}
use Rattle.event_loops.specs.code.Counts.{Counted}

-- each item in a ring passes the test
abbrev pub AllAt : (Posted → Bool) → List Loop → Type 0
AllAt test loops = (home : ℕ) → list_all test (items_at loops home) ≡ true

-- the item has at most this number, or waits
abbrev pub is_sure : ℕ → (ℕ → Option ℕ) → Posted → Bool
is_sure last since p = is_upto last p || waits since p

-- an item waits that has a higher number than any that may be stale
abbrev pub is_told : Marks → Posted → Bool
is_told marks p = is_sure marks.last_stale (since_of marks) p

abbrev pub AreTold : Marks → List Posted → Type 0
AreTold marks items = list_all (is_told marks) items ≡ true

abbrev pub AllTold : {A S : Type 0} → IndexMap (List ℕ) (VecDeque Posted A) S → Marks → Type 0
AllTold queues marks = AllAt (is_told marks) (loops_in queues)

-- what the loops keep, that the items in them are told apart by their numbers where these are high enough, and how many wait
-- for each object
pub record Held {A S : Type 0} (queues : IndexMap (List ℕ) (VecDeque Posted A) S) (marks : Marks) (posted : ℕ) : Type 0 where
  pub kept : Kept queues marks posted
  pub told : AllTold queues marks
  pub counted : Counted queues marks
