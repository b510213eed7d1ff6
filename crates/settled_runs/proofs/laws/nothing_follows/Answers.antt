use Rattle.settled_runs.proofs.Unwritten.{nothing-follows}
use Rattle.settled_runs.proofs.laws.nothing_follows.Goals as goal

pub returns : goal.returns
returns c = λ p certificate classes before after old new written sound valid are still q other. nothing-follows sound valid are still q other
