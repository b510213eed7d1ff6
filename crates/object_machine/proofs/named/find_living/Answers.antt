use Rattle.std.proofs.Common.{sym}
use Rattle.object_machine.specs.code.Judgement.{refused}
use Rattle.object_machine.proofs.Judging.Naming.{living-free, living-dead}
use Rattle.object_machine.proofs.named.find_living.Goals as goal

pub returns-in_default-clause-refused : goal.returns-in_default-clause-refused
returns-in_default-clause-refused c = refused (living-free c.in_default.ensures)

pub returns-in-None-clause-refused : goal.returns-in-None-clause-refused
returns-in-None-clause-refused c = refused (living-dead c.in-Some.number c.in-Some.ensures (sym c.in-None.ensures))
