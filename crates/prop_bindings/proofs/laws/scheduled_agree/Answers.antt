use Rattle.prop_bindings.proofs.Agreeing
use Rattle.prop_bindings.proofs.laws.scheduled_agree.Goals as goal

pub returns : goal.returns
returns c = Agreeing.scheduled_agree
