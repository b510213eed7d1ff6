use Rattle.program_commands.specs.Steps.{fails, goes_on}
use Rattle.trace_tool.specs.Commands.{short}
use Rattle.trace_tool.proofs.Preparing.{done-now, done-prepares, ready-prepares, runs-begun}
use Rattle.trace_tool.proofs.any_machine.runs.prepare_unchecked_run.Goals as goal

pub returns-in-Err : goal.returns-in-Err
returns-in-Err g c = done-prepares _ _ _ c.refused.ensures (fails c.in-Err.refusal c.in-Err.ensures.loading)

pub unchecked-requires-clause-promises : goal.unchecked-requires-clause-promises
unchecked-requires-clause-promises g c = c.in-Ok.ensures.promises

pub returns : goal.returns
returns g c =
    let begins = c.in-Ok-unchecked.ensures in
    ready-prepares _ _ _ (rw begins c.in-Ok.ensures.promises)
    (λ end so. goes_on _ _ c.in-Ok.ensures.loading (runs-begun begins end so))

pub returns-in_default : goal.returns-in_default
returns-in_default g c = done-now _ _ _ (goes_on _ _ c.in-Ok.ensures.loading short)
