use Rattle.settling.proofs.Levels.{shallow}
use Rattle.settling.proofs.laws.stacks_are_shallow.Goals as goal

pub returns : goal.returns
returns c = λ sets objects bound step height level places few s. shallow sets few objects bound step s
