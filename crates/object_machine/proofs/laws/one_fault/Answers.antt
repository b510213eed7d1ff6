use Rattle.object_machine.proofs.OneFault as law
use Rattle.object_machine.proofs.laws.one_fault.Goals as goal

pub returns : goal.returns
returns g c = law.one_fault (g.N.Answering.gives c.args._natives.now)
