use Rattle.std.proofs.Common.{◌<◌, ℕ}
use Rattle.rank_check.specs.Entries.{IsPlaced}
use Rattle.rank_check.proofs.places.first_extra.Given as goal

abbrev pub invariant-loop-place : goal.invariant-loop-place
invariant-loop-place l = (k : ℕ) → k < l.place → IsPlaced l.numbers l.places k
