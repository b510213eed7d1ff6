use Rattle.meta_model.proofs.meta.Meta.of.Goals as goal

pub invariant_of-result : goal.invariant_of-result
invariant_of-result c = (c.requires.sound, rw c.as_slice.ensures at c.in_ok-index.ensures, rw c.as_slice-2.ensures at c.in_ok-site_names.ensures, rw c.as_slice-3.ensures at (rw c.len.ensures at c.in_ok-wires_from.ensures), rw c.as_slice-4.ensures at (rw c.len-2.ensures at c.in_ok-owned_by.ensures))
