use Rattle.std.proofs.Common.{◌≡◌, suc, length, take, ◌-◌, ◌≤◌}
use Rattle.object_tree.specs.Moving.{all_in_loop}
use Rattle.object_tree.proofs.Descents.{WalkedUpto}
use Rattle.object_tree.proofs.moves.move_below.Given as goal

-- what is found is passed, and in the other loop, or left to pass
abbrev pub invariant-loop-passed : goal.invariant-loop-passed
invariant-loop-passed l = record {
  within : l.passed ≤ length l.found.items;
  walked : WalkedUpto l.fn.objects l.fn.object l.passed l.found.items;
  moved : l.objects ≡ all_in_loop (take l.passed l.found.items) l.home l.fn.objects;
}

abbrev pub decreases-loop-passed : goal.decreases-loop-passed
decreases-loop-passed l = suc (length l.fn.objects) - l.passed
