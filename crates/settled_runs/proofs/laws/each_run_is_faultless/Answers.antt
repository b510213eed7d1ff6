use Rattle.settled_runs.proofs.Faultless as law
use Rattle.settled_runs.proofs.laws.each_run_is_faultless.Goals as goal

pub returns : goal.returns
returns g c = law.each_run_is_faultless c.stacks_are_shallow.ensures (g.N.Answering.takes c.args._natives.now) (g.N.Answering.gives c.args._natives.now)
