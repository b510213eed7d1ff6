use Rattle.std.proofs.Common.{◌≡◌, List}
use Rattle.std.specs.VecDeque.{deque_len}
use Rattle.event_loops.specs.declared.item.Posted.{Posted}
use Rattle.event_loops.specs.declared.marks.Marks.{Marks}
use Rattle.event_loops.specs.code.Marks.{since_of, trimmed}
use Rattle.event_loops.specs.code.Sure.{AreTold}
use Rattle.event_loops.proofs.queue.trim.Given as goal

-- what is left begins with the same item that waits
pub record Left (marks : Marks) (now old : List Posted) : Type 0 where
  pub same : trimmed (since_of marks) now ≡ trimmed (since_of marks) old
  pub told : AreTold marks now

abbrev pub invariant-trim : goal.invariant-trim
invariant-trim l = Left l.marks l.items.items l.initial.items.items

abbrev pub decreases-trim : goal.decreases-trim
decreases-trim l = deque_len l.items
