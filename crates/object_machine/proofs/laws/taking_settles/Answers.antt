use Rattle.object_machine.proofs.Settling as law
use Rattle.object_machine.proofs.laws.taking_settles.Goals as goal

pub returns : goal.returns
returns c = law.taking_settles
