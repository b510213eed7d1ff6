use Rattle.std.proofs.Common.{length}
use Rattle.traces.proofs.Laying.{LaidOutSoFar}
use Rattle.traces.proofs.pages.laid_out.laid_out_beside.Given as goal

abbrev pub invariant-loop-line : goal.invariant-loop-line
invariant-loop-line l = LaidOutSoFar l.fn.colours l.fn.statements l.fn.trace l.left l.shown.items

abbrev pub decreases-loop-line : goal.decreases-loop-line
decreases-loop-line l = length l.left
