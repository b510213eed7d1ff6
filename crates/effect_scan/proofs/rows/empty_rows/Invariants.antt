use Rattle.std.proofs.Common.{◌≡◌, [], replicate}
use Rattle.effect_scan.proofs.rows.empty_rows.Given as goal

abbrev pub invariant-loop-node : goal.invariant-loop-node
invariant-loop-node l = l.rows.items ≡ replicate l._node []
