use Rattle.settled_runs.proofs.Claims as law
use Rattle.settled_runs.proofs.laws.stops_for_few.Goals as goal

pub returns : goal.returns
returns g c = law.stops_for_few c.stacks_are_shallow.ensures (g.N.Answering.gives c.args._natives.now)
