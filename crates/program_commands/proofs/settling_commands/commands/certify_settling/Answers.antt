use Rattle.program_commands.proofs.settling_commands.commands.certify_settling.Goals as goal

pub returns : goal.returns
returns g c = record { outcome = c.certify_settling_outcome.result; comes = rw c.standard.ensures at c.certify_settling_outcome.ensures; takes = c.write.ensures }
