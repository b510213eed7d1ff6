use Rattle.settled_runs.proofs.Claims as law
use Rattle.settled_runs.proofs.laws.each_carries_one.Goals as goal

pub returns : goal.returns
returns g c = law.each_carries_one (g.N.Answering.gives c.args._natives.now)
