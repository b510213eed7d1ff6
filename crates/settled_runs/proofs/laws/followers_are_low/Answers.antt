use Rattle.settled_runs.proofs.Unwritten.{followers-low}
use Rattle.settled_runs.proofs.laws.followers_are_low.Goals as goal

pub returns : goal.returns
returns c = λ p certificate classes before after old new written line sound valid are low q upper is changed. followers-low sound valid are line low q upper is changed
