use Rattle.std.proofs.Common.{refl}
use Rattle.trace_tool.proofs.any_machine.prepared.Prepared.outcome.Goals as goal

pub returns-in-Done : goal.returns-in-Done
returns-in-Done g c = rw c.in-Done.is refl

pub run-requires : goal.run-requires
run-requires g c = rw c.in-Ready.is at c.requires

pub returns-in-Ready : goal.returns-in-Ready
returns-in-Ready g c = rw c.in-Ready.is (_, c.run.ensures, refl)
