use Rattle.std.proofs.Common.{inr}
use Rattle.name_resolution.proofs.resolve_wire.resolve_one_owns.Goals as goal

pub returns-in_default : goal.returns-in_default
returns-in_default c = inr (c.undeclared.ensures, λ loaded is. c.in_default.ensures _ is.parent.at)

pub returns-in_default-place_of : goal.returns-in_default-place_of
returns-in_default-place_of c = inr (c.undeclared-in_default-place_of.ensures, λ loaded is. c.in_default-place_of.ensures _ is.child.at)
