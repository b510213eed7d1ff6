use Rattle.std.proofs.Common.{inr}
use Rattle.class_outlines.proofs.OutlineSteps.{an_outline}
use Rattle.class_outlines.proofs.outlining.outline_class.Goals as goal

pub returns-in_default : goal.returns-in_default
returns-in_default c = inr (c.missing_base.ensures, c.in_default.ensures)

pub returns : goal.returns
returns c =
    an_outline _ _ _ _ _ c.in-Some.ensures _ _ _ c.in_ok-name.ensures c.in_ok-methods.ensures c.in_ok-properties.ensures
