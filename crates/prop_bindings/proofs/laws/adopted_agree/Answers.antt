use Rattle.prop_bindings.proofs.Agreeing
use Rattle.prop_bindings.proofs.laws.adopted_agree.Goals as goal

pub returns : goal.returns
returns c = Agreeing.adopted_agree
