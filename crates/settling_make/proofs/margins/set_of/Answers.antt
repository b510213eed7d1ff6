use Rattle.settling_make.proofs.Asking.{place_here, place_past}
use Rattle.settling_make.proofs.margins.set_of.Goals as goal

pub returns-in-Some : goal.returns-in-Some
returns-in-Some c = place_here _ _ _ _ c.as_slice.ensures c.in-Some.ensures

pub returns-in-None : goal.returns-in-None
returns-in-None c = place_past _ _ _ c.as_slice.ensures c.in-None.ensures
