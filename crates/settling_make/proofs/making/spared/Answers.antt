use Rattle.settling_make.proofs.making.spared.Goals as goal

pub first_ending-requires-clause-destroyed : goal.first_ending-requires-clause-destroyed
first_ending-requires-clause-destroyed c = rw c.as_slice.ensures c.in_ok-ended.ensures
