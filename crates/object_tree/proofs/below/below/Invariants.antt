use Rattle.std.proofs.Common.{suc, length, ◌-◌, ◌≤◌}
use Rattle.object_tree.proofs.Descents.{WalkedUpto}
use Rattle.object_tree.proofs.below.below.Given as goal

-- what is found is passed, or left to pass
abbrev pub invariant-loop-passed : goal.invariant-loop-passed
invariant-loop-passed l = record {
  within : l.passed ≤ length l.found.items;
  walked : WalkedUpto l.objects l.fn.object l.passed l.found.items;
}

abbrev pub decreases-loop-passed : goal.decreases-loop-passed
decreases-loop-passed l = suc (length l.objects) - l.passed
