use Rattle.memory_runs.proofs.machines.started.Goals as goal

-- closures that fit keep what the program expects of them
pub checked-requires-clause-promises : goal.checked-requires-clause-promises
checked-requires-clause-promises g c = rw c.meta.ensures.value at c.in-Ok.ensures.promises

pub returns : goal.returns
returns g c = rw c.in_ok-machine.ensures.begins (rw c.meta.ensures.value at c.in-Ok.ensures.promises)
