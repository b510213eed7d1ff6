use Rattle.program_commands.proofs.commands.certify.Goals as goal

pub returns : goal.returns
returns g c = record { outcome = c.certify_outcome.result; comes = rw c.standard.ensures at c.certify_outcome.ensures; takes = c.write.ensures }
