use Rattle.machine_state.proofs.Trying.{unplanned}
use Rattle.machine_state.proofs.world.World.plan_write.Goals as goal

pub returns-in-Ok-clause-fits : goal.returns-in-Ok-clause-fits
returns-in-Ok-clause-fits c = c.in-Ok.ensures.value.0.0

pub returns-in-Err-clause-err : goal.returns-in-Err-clause-err
returns-in-Err-clause-err c = rw c.fault_of.ensures (unplanned c.in-Err.ensures.value)
