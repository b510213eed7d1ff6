use Rattle.std.proofs.Common.{refl}
use Rattle.settling_make.proofs.Driving.{number_here, number_past}
use Rattle.settling_make.proofs.components.number_at.Goals as goal

pub returns-in-Some : goal.returns-in-Some
returns-in-Some c = number_here _ _ _ _ refl c.in-Some.ensures

pub returns-in-None : goal.returns-in-None
returns-in-None c = number_past _ _ _ refl c.in-None.ensures
