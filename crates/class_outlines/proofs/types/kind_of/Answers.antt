use Rattle.class_outlines.proofs.LackedTypes.{no_pointer}
use Rattle.class_outlines.proofs.types.kind_of.Goals as goal

pub returns-in-None : goal.returns-in-None
returns-in-None c = no_pointer _ _ c.if-declared.true c.in-None.ensures
