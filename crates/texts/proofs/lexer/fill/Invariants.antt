use Rattle.std.proofs.Common.{length}
use Rattle.texts.proofs.Cut.{CutSoFar}
use Rattle.texts.proofs.lexer.fill.Given as goal

abbrev pub invariant-loop-rest : goal.invariant-loop-rest
invariant-loop-rest l = CutSoFar l.bytes l.found.items l.rest

abbrev pub decreases-loop-rest : goal.decreases-loop-rest
decreases-loop-rest l = length l.rest
