use Rattle.std.proofs.Common.{◌↔◌}
use Rattle.meta_model.specs.Members.{Owns}
use Rattle.meta_model.proofs.meta.Meta.owns.Given as goal

-- what holds of the class that was reached holds of the parent's
abbrev pub invariant-classes : goal.invariant-classes
invariant-classes l = Owns l.self l.class l.child ↔ Owns l.self l.fn.parent l.child

abbrev pub decreases-classes : goal.decreases-classes
decreases-classes l = l.class
