use Rattle.object_machine.proofs.OneRun as law
use Rattle.object_machine.proofs.laws.one_prefix_of_answers.Goals as goal

pub returns : goal.returns
returns g c = law.one_prefix_of_answers (g.N.Answering.gives c.args._natives.now)
