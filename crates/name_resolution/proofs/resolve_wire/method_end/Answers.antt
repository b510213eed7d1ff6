use Rattle.name_resolution.proofs.Ends.{an_end, no_class_end, no_end}
use Rattle.name_resolution.proofs.resolve_wire.method_end.Goals as goal

pub returns-in_default : goal.returns-in_default
returns-in_default c = no_class_end _ _ _ c.in_default.ensures

pub returns-in-Some-place_of_signed : goal.returns-in-Some-place_of_signed
returns-in-Some-place_of_signed c = an_end _ _ _ _ _ _ c.in-Some.ensures c.in-Some-place_of_signed.ensures

pub returns-in-None : goal.returns-in-None
returns-in-None c = no_end _ _ _ _ _ c.in-Some.ensures c.in-None.ensures
