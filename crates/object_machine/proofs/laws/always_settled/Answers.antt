use Rattle.object_machine.proofs.Keeping as law
use Rattle.object_machine.proofs.laws.always_settled.Goals as goal

pub returns : goal.returns
returns g c = law.always_settled (g.N.Answering.gives c.args._natives.now)
