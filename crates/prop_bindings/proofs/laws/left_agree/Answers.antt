use Rattle.prop_bindings.proofs.Leaving
use Rattle.prop_bindings.proofs.laws.left_agree.Goals as goal

pub returns : goal.returns
returns c = Leaving.left_agree
