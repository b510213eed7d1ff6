use Rattle.settled_runs.proofs.Depth.{levels-shallow}
use Rattle.settled_runs.proofs.laws.levels_are_shallow.Goals as goal

pub returns : goal.returns
returns c = λ p certificate cost classes objects levels costs inside are. levels-shallow p cost classes objects costs inside c.stacks_are_shallow.ensures levels are
