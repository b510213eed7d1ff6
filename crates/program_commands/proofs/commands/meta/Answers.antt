use Rattle.program_commands.proofs.commands.meta.Goals as goal

pub returns : goal.returns
returns g c = record { outcome = c.meta_outcome.result; comes = rw c.standard.ensures at c.meta_outcome.ensures; takes = c.write.ensures }
