use Rattle.object_machine.proofs.OneTaking as law
use Rattle.object_machine.proofs.laws.one_taking.Goals as goal

pub returns : goal.returns
returns c = law.one_taking
