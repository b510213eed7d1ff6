use Rattle.meta_objects.proofs.refusal.first_offence.Goals as goal

pub returns-in-Ok : goal.returns-in-Ok
returns-in-Ok c = (_, c.in-Ok.ensures)
