use Rattle.std.proofs.Common.{refl}
use Rattle.trace_tool.proofs.Preparing.{carried-done}
use Rattle.trace_tool.proofs.any_machine.prepared.Prepared.carry_out.Goals as goal

pub returns-in-Done : goal.returns-in-Done
returns-in-Done g c = rw c.in-Done.is (carried-done _ c.in-Done.outcome refl c.write-written.ensures.takes c.write-written.ensures.failed)

pub stream-requires : goal.stream-requires
stream-requires g c = rw c.in-Ready.is at c.requires

pub returns-in-Ready : goal.returns-in-Ready
returns-in-Ready g c = rw c.in-Ready.is c.stream.ensures
