use Rattle.machine_rules.proofs.Keeps.{rules-kept}
use Rattle.machine_rules.proofs.reaching.laws.rules_keep.Goals as goal

pub returns : goal.returns
returns g c = λ p depth s t left after rules. rules-kept rules
