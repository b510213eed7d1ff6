use Rattle.std.proofs.Common.{◌↔◌}
use Rattle.object_tree.specs.Family.{Above}
use Rattle.object_tree.proofs.Walks.{depth}
use Rattle.object_tree.proofs.ancestors.is_above.Given as goal

-- the object is above the first one exactly where it is above the one that the walk has come to
abbrev pub invariant-climb : goal.invariant-climb
invariant-climb l = Above l.objects l.above l.fn.object ↔ Above l.objects l.above l.at

abbrev pub decreases-climb : goal.decreases-climb
decreases-climb l = depth l.objects l.at
