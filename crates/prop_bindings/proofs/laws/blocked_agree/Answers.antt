use Rattle.prop_bindings.proofs.Agreeing
use Rattle.prop_bindings.proofs.laws.blocked_agree.Goals as goal

pub returns : goal.returns
returns c = Agreeing.blocked_agree
