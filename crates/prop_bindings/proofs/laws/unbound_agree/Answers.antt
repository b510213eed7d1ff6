use Rattle.prop_bindings.proofs.Agreeing
use Rattle.prop_bindings.proofs.laws.unbound_agree.Goals as goal

pub returns : goal.returns
returns c = Agreeing.unbound_agree
