use Rattle.class_outlines.proofs.class_table.ClassTable.of.Goals as goal

pub invariant_of-result : goal.invariant_of-result
invariant_of-result c = rw c.as_slice.ensures at c.in_ok-names.ensures
