use Rattle.std.proofs.Common.{◌<◌, ℕ}
use Rattle.name_indexes.specs.Places.{StandsAt}
use Rattle.edge_reasons.specs.Reasons.{WireJoins}
use Rattle.edge_reasons.proofs.reasons.joining_wire.Given as goal

abbrev pub invariant-loop-place : goal.invariant-loop-place
invariant-loop-place l = (k : ℕ) → k < l.place → ¬ StandsAt (WireJoins l.meta l.from l.to) l.wire-items k
