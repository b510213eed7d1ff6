use Rattle.std.proofs.Common.{length}
use Rattle.texts.proofs.Placing.{PlacedSoFar}
use Rattle.texts.proofs.placed.placed_tokens.Given as goal

abbrev pub invariant-loop-rest : goal.invariant-loop-rest
invariant-loop-rest l = PlacedSoFar l.text l.found l.rest

abbrev pub decreases-loop-rest : goal.decreases-loop-rest
decreases-loop-rest l = length l.rest
