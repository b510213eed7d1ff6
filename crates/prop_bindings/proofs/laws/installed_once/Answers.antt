use Rattle.prop_bindings.proofs.Once
use Rattle.prop_bindings.proofs.laws.installed_once.Goals as goal

pub returns : goal.returns
returns c = Once.installed_once
