use Rattle.std.proofs.Common.{rules}
use Rattle.command_lines.proofs.Sending.{finished, finished_faults}
use Rattle.trace_tool.proofs.any_machine.outcome.Outcome.write.Goals as goal

pub returns-clause-takes : goal.returns-clause-takes
returns-clause-takes g c = finished c.new-output.ensures.begun c.put.ensures (rw c.status.ensures at c.finish-status.ensures) (search rules)

pub returns-clause-failed : goal.returns-clause-failed
returns-clause-failed g c = finished_faults c.new-output.ensures.begun c.put.ensures c.finish-status.ensures c.failing.ensures
