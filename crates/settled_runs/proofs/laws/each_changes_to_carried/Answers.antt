use Rattle.settled_runs.proofs.Claims as law
use Rattle.settled_runs.proofs.laws.each_changes_to_carried.Goals as goal

pub returns : goal.returns
returns g c = law.each_changes_to_carried (g.N.Answering.gives c.args._natives.now)
