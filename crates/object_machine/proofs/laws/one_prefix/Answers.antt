use Rattle.object_machine.proofs.OneRun as law
use Rattle.object_machine.proofs.laws.one_prefix.Goals as goal

pub returns : goal.returns
returns g c = law.one_prefix (g.N.Answering.gives c.args._natives.now)
