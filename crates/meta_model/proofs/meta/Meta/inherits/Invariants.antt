use Rattle.std.proofs.Common.{◌↔◌}
use Rattle.meta_model.specs.Members.{Below}
use Rattle.meta_model.proofs.meta.Meta.inherits.Given as goal

-- the class is below the other where the one that was reached is
abbrev pub invariant-loop-below : goal.invariant-loop-below
invariant-loop-below l = Below l.self l.below l.other ↔ Below l.self l.class l.other

abbrev pub decreases-loop-below : goal.decreases-loop-below
decreases-loop-below l = l.below
