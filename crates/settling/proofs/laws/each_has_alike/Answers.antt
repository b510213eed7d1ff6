use Rattle.settling.proofs.Alike.{has_alike}
use Rattle.settling.proofs.laws.each_has_alike.Goals as goal

pub returns : goal.returns
returns c = has_alike
