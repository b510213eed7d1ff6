use Rattle.object_machine.proofs.OneTaking as law
use Rattle.object_machine.proofs.laws.one_judgement.Goals as goal

pub returns : goal.returns
returns c = law.one_judgement
