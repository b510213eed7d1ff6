use Rattle.settled_runs.proofs.Unwritten.{followers-leave}
use Rattle.settled_runs.proofs.laws.followers_leave.Goals as goal

pub returns : goal.returns
returns c = λ p certificate classes before after old new written q set round x line upper sound valid are at member there is low other changed. followers-leave sound valid are set round at member there is q upper low other changed
