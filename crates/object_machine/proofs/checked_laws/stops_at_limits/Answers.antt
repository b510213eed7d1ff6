use Rattle.object_machine.proofs.CheckedRuns.Claims as law
use Rattle.object_machine.proofs.checked_laws.stops_at_limits.Goals as goal

pub returns : goal.returns
returns g c = law.stops_at_limits (g.N.Answering.takes c.args._natives.now) (g.N.Answering.gives c.args._natives.now)
