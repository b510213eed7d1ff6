use Rattle.std.proofs.Common.{refl}
use Rattle.meta_objects.proofs.clashes.repeated_parameter.Goals as goal

pub returns-in-Some : goal.returns-in-Some
returns-in-Some c = (c.in-Some.ensures.0, rw c.twice.ensures refl)
