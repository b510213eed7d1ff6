use Rattle.object_machine.proofs.CheckedRuns.Claims as law
use Rattle.object_machine.proofs.checked_laws.never_stuck.Goals as goal

pub returns : goal.returns
returns g c = law.never_stuck (g.N.Answering.gives c.args._natives.now)
