use Rattle.std.proofs.Common.{◌≡◌}
use Rattle.event_loops.specs.code.Marks.{since_of, WaitAlike}
use Rattle.event_loops.specs.code.Counts.{CountAlike}
use Rattle.event_loops.proofs.marks.Marks.rehome.Given as goal

-- as many wait, and are told apart by the same number
abbrev pub invariant-loop-number : goal.invariant-loop-number
invariant-loop-number l = WaitAlike (since_of l.fn.self) (since_of l.self) × (CountAlike l.fn.self l.self × (l.self.last_stale ≡ l.fn.self.last_stale))
