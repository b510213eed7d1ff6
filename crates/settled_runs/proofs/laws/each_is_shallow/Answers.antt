use Rattle.settled_runs.proofs.Claims as law
use Rattle.settled_runs.proofs.laws.each_is_shallow.Goals as goal

pub returns : goal.returns
returns g c = law.each_is_shallow c.stacks_are_shallow.ensures (g.N.Answering.gives c.args._natives.now)
