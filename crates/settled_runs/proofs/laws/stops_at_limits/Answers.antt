use Rattle.settled_runs.proofs.Faultless as law
use Rattle.settled_runs.proofs.laws.stops_at_limits.Goals as goal

pub returns : goal.returns
returns g c = law.stops_at_limits c.stacks_are_shallow.ensures (g.N.Answering.takes c.args._natives.now) (g.N.Answering.gives c.args._natives.now)
