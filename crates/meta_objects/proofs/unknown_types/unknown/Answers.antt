use Rattle.std.proofs.Common.{refl}
use Rattle.meta_objects.proofs.unknown_types.unknown.Goals as goal

pub returns-in-Some : goal.returns-in-Some
returns-in-Some c = λ lacks. lacks _ c.in-Some.ensures

pub returns-in-None : goal.returns-in-None
returns-in-None c = (c.in-None.ensures, refl)
