-- What the loops show, and what they keep.
use Rattle.std.specs.Prelude.{ℕ, List}
use Rattle.std.specs.declared.collections.VecDeque.{VecDeque}
use Rattle.indexmap.specs.IndexMap.{IndexMap}
use Rattle.event_loops.specs.declared.item.Posted.{Posted}
use Rattle.event_loops.specs.declared.marks.Marks.{Marks}
use Rattle.event_loops.specs.Queues.{Loop}
use Rattle.event_loops.specs.code.Rings.{loops_in}
use Rattle.event_loops.specs.code.Marks.{since_of, visible, AreUpto, MarkedUpto}
use Rattle.event_loops.specs.Numbers.{IsNumbered}

abbrev pub seen : {A S : Type 0} → IndexMap (List ℕ) (VecDeque Posted A) S → Marks → List Loop
seen queues marks = visible (since_of marks) (loops_in queues)

-- so many items were posted at least
pub record Within {A S : Type 0} (last : ℕ) (queues : IndexMap (List ℕ) (VecDeque Posted A) S) (marks : Marks) : Type 0 where
  pub upto : AreUpto last (loops_in queues)
  pub marked : MarkedUpto last (since_of marks)

-- where at least so many items were posted, that still holds
abbrev pub StayWithin : {A S : Type 0} → IndexMap (List ℕ) (VecDeque Posted A) S → Marks → IndexMap (List ℕ) (VecDeque Posted A) S → Marks → Type 0
StayWithin queues marks queues' marks' = (last : ℕ) → Within last queues marks → Within last queues' marks'

-- the items that wait are numbered, and nothing has a number that wasn't given
pub record Kept {A S : Type 0} (queues : IndexMap (List ℕ) (VecDeque Posted A) S) (marks : Marks) (posted : ℕ) : Type 0 where
  pub numbered : IsNumbered (record { loops = seen queues marks; posted = posted })
  pub within : Within posted queues marks
