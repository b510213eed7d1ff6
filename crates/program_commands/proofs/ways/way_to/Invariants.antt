use Rattle.std.proofs.Common.{◌+◌, ◌-◌, length}
use Rattle.program_commands.proofs.Searching.{AtPlace, AtEdge}
use Rattle.program_commands.proofs.ways.way_to.Given as goal

abbrev pub invariant-loop-target : goal.invariant-loop-target
invariant-loop-target l = AtEdge l.rows l.fn.closed l.ends l.from l.search l.at l.node l.target-items l.target-index

abbrev pub invariant-loop-at : goal.invariant-loop-at
invariant-loop-at l = AtPlace l.rows l.fn.closed l.ends l.from l.search l.at

abbrev pub decreases-loop-at : goal.decreases-loop-at
decreases-loop-at l = length l.rows + 1 - l.at
