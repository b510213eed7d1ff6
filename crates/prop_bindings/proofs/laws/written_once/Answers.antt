use Rattle.prop_bindings.proofs.Once
use Rattle.prop_bindings.proofs.laws.written_once.Goals as goal

pub returns : goal.returns
returns c = Once.written_once
