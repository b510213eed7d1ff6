use Rattle.object_machine.proofs.CheckedRuns.Claims as law
use Rattle.object_machine.proofs.checked_laws.each_is_faultless.Goals as goal

pub returns : goal.returns
returns g c = law.each_is_faultless (g.N.Answering.takes c.args._natives.now) (g.N.Answering.gives c.args._natives.now)
