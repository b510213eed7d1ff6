use Rattle.settling.proofs.Following.{nothing_follows}
use Rattle.settling.proofs.laws.nothing_follows.Goals as goal

pub returns : goal.returns
returns c = λ before after old new written write so q other. nothing_follows write so q other
