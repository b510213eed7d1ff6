use Rattle.machine_rules.proofs.Agreeing.{rules-settled}
use Rattle.machine_rules.proofs.laws.stays_settled.Goals as goal

pub returns : goal.returns
returns g c = λ p depth s t left after agree rules. rules-settled rules agree
