use Rattle.name_indexes.proofs.Choices.{fails}
use Rattle.class_outlines.proofs.indexed.near_name.Goals as goal

pub returns-then-has_named : goal.returns-then-has_named
returns-then-has_named c = c.has_named.ensures.0 c.if-has_named.true

pub returns-else-has_named : goal.returns-else-has_named
returns-else-has_named c = fails _ c.has_named.ensures c.if-has_named.false
