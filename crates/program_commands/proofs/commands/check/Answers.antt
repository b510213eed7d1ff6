use Rattle.program_commands.proofs.commands.check.Goals as goal

pub returns : goal.returns
returns g c = record { outcome = c.check_outcome.result; comes = rw c.standard.ensures at c.check_outcome.ensures; takes = c.write.ensures }
