use Rattle.object_machine.proofs.CheckedRuns.Claims as law
use Rattle.object_machine.proofs.checked_laws.never_too_deep.Goals as goal

pub returns : goal.returns
returns g c = law.never_too_deep (g.N.Answering.gives c.args._natives.now)
