use Rattle.std.proofs.Common.{◌≡◌, ◌<◌, ℕ, slice_get, Some}
use Rattle.effect_scan.specs.Rows.{row}
use Rattle.rank_check.specs.declared.entries.NodeClaim.{NodeClaim}
use Rattle.rank_check.specs.ByNumbers.{AreLower}
use Rattle.rank_check.proofs.ranks.first_rise.Given as goal

abbrev pub invariant-loop-node : goal.invariant-loop-node
invariant-loop-node l = (a : ℕ) → a < l.node → (x : NodeClaim) → slice_get l.entries a ≡ Some x → AreLower (row l.scan.rows a) l.entries x.rank
