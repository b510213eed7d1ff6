use Rattle.std.proofs.Common.{sym, ap}
use Rattle.program_commands.specs.Steps.{fails, goes_on}
use Rattle.trace_tool.specs.Commands.{read_of}
use Rattle.trace_tool.proofs.Preparing.{done-now, done-prepares, prepares-as}
use Rattle.trace_tool.proofs.any_machine.command_line.prepare_for.Goals as goal

pub returns-in_default : goal.returns-in_default
returns-in_default g c = done-prepares _ _ _ c.prepared_usage.ensures (fails tt c.in_default.ensures.said)

pub returns-in-Ok : goal.returns-in-Ok
returns-in-Ok g c =
    prepares-as _ _ (λ end comes. goes_on c.in-Some.line _ c.in-Some.ensures.said (goes_on _ _ (sym (ap read_of c.in-Ok.is)) comes)) (rw c.limits_of.ensures at c.prepare.ensures)

pub returns-in-Err : goal.returns-in-Err
returns-in-Err g c = done-now _ _ _ (goes_on c.in-Some.line _ c.in-Some.ensures.said (fails c.in-Err.fault (sym (ap read_of c.in-Err.is))))
