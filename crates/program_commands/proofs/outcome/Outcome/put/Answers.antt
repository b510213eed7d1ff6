use Rattle.program_commands.proofs.outcome.Outcome.put.Goals as goal

pub returns-in-Certificate : goal.returns-in-Certificate
returns-in-Certificate g c = rw c.in-Certificate.is (rw c.text.ensures at c.put-in-Certificate.ensures)
