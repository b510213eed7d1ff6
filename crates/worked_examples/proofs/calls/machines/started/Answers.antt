use Rattle.worked_examples.proofs.calls.machines.started.Goals as goal

-- closures that fit keep what the program expects of them
pub returns : goal.returns
returns g c = rw c.in_ok-machine.ensures c.in_ok-fits.ensures.promises
