use Rattle.command_lines.proofs.Sending.{sent}
use Rattle.trace_tool.proofs.any_machine.outcome.Ran.put.Goals as goal

pub returns-in-Ok : goal.returns-in-Ok
returns-in-Ok g c = rw c.in-Ok.is (rw c.trace.ensures at c.entries.ensures)

pub returns-in-Err : goal.returns-in-Err
returns-in-Err g c = rw c.in-Err.is (sent (rw c.trace.ensures at c.entries.ensures) (rw c.number.ensures at c.numbered.ensures))
