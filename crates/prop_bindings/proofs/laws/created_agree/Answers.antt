use Rattle.prop_bindings.proofs.Agreeing
use Rattle.prop_bindings.proofs.laws.created_agree.Goals as goal

pub returns : goal.returns
returns c = Agreeing.created_agree
