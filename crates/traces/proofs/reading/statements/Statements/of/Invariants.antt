use Rattle.std.proofs.Common.{length}
use Rattle.traces.proofs.Skipping.{StatementsSoFar}
use Rattle.traces.proofs.reading.statements.Statements.of.Given as goal

abbrev pub invariant-loop-line : goal.invariant-loop-line
invariant-loop-line l = StatementsSoFar l.fn.script l.left l.lines.items

abbrev pub decreases-loop-line : goal.decreases-loop-line
decreases-loop-line l = length l.left
