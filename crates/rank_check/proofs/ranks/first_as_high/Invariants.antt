use Rattle.std.proofs.Common.{◌≡◌, ◌<◌, ℕ, get_or, slice_get, Some}
use Rattle.rank_check.specs.declared.entries.NodeClaim.{NodeClaim}
use Rattle.rank_check.proofs.ranks.first_as_high.Given as goal

abbrev pub invariant-loop-target : goal.invariant-loop-target
invariant-loop-target l = (k : ℕ) → k < l.target-index → (y : NodeClaim) → slice_get l.entries (get_or l.targets k 0) ≡ Some y → y.rank < l.rank
