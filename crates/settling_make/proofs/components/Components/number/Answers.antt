use Rattle.settling_make.proofs.components.Components.number.Goals as goal

pub returns : goal.returns
returns c = rw c.as_slice.ensures at c.number_at.ensures
