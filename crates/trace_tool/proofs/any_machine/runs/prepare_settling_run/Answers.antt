use Rattle.std.proofs.Common.{arith}
use Rattle.program_commands.specs.Steps.{fails, goes_on}
use Rattle.trace_tool.specs.Commands.{short_settling}
use Rattle.trace_tool.proofs.Preparing.{done-now, done-prepares, ready-prepares, settling-begun}
use Rattle.trace_tool.proofs.any_machine.runs.prepare_settling_run.Goals as goal

pub returns-in-Err : goal.returns-in-Err
returns-in-Err g c = done-prepares _ _ _ c.refused.ensures (fails c.in-Err.refusal c.in-Err.ensures.accepting)

pub settling_machine-requires-clause-promises : goal.settling_machine-requires-clause-promises
settling_machine-requires-clause-promises g c = c.in-Ok.ensures.promises

pub returns : goal.returns
returns g c =
    let machine = c.in-Ok-settling_machine.ensures in
    let begins = machine.begins in
    ready-prepares _ _ _ (rw begins c.in-Ok.ensures.promises)
    (λ end so. goes_on _ _ c.in-Ok.ensures.accepting (settling-begun begins (record { arguments = machine.arguments; acyclic = machine.acyclic; spared = machine.spared; shallow = machine.shallow; typed = machine.typed; settled = machine.settled; carries = machine.carries; changes = machine.changes; stops = machine.stops }) end so))

pub returns-in_default : goal.returns-in_default
returns-in_default g c = done-now _ _ _ (goes_on _ _ c.in-Ok.ensures.accepting short_settling)
