use Rattle.program_commands.specs.Steps.{fails, goes_on}
use Rattle.trace_tool.specs.Commands.{short_of_memory}
use Rattle.trace_tool.proofs.Preparing.{done-now, done-prepares, ready-prepares, faultless-begun}
use Rattle.trace_tool.proofs.any_machine.runs.prepare_run.Goals as goal

pub returns-in-Err : goal.returns-in-Err
returns-in-Err g c = done-prepares _ _ _ c.refused.ensures (fails c.in-Err.refusal c.in-Err.ensures.accepting)

pub checked-requires-clause-promises : goal.checked-requires-clause-promises
checked-requires-clause-promises g c = c.in-Ok.ensures.promises

pub returns : goal.returns
returns g c =
    let machine = c.in-Ok-checked.ensures in
    let begins = machine.begins in
    ready-prepares _ _ _ (rw begins c.in-Ok.ensures.promises)
    (λ end so. goes_on _ _ c.in-Ok.ensures.accepting (faultless-begun begins machine.checked machine.arguments machine.acyclic machine.spared machine.shallow machine.typed machine.settled end so))

pub returns-in_default : goal.returns-in_default
returns-in_default g c = done-now _ _ _ (goes_on _ _ c.in-Ok.ensures.accepting short_of_memory)
