use Rattle.settled_runs.proofs.OneValue.{carry-one}
use Rattle.settled_runs.proofs.laws.levels_carry_one.Goals as goal

pub returns : goal.returns
returns c = λ p certificate cost classes objects levels costs are i j a b here there at_a at_b is_here is_there same. carry-one p cost classes objects costs levels are i j a b here there at_a at_b is_here is_there same
