use Rattle.program_commands.proofs.settling_commands.commands.check_settling.Goals as goal

pub returns : goal.returns
returns g c = record { outcome = c.check_settling_outcome.result; comes = rw c.standard.ensures at c.check_settling_outcome.ensures; takes = c.write.ensures }
