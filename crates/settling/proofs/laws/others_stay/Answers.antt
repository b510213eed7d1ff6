use Rattle.settling.proofs.Following.{others_stay}
use Rattle.settling.proofs.laws.others_stay.Goals as goal

pub returns : goal.returns
returns c = λ before after old new written step cost write fall q other high. others_stay write step cost fall q other high
