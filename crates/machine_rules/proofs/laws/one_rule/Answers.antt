use Rattle.machine_rules.proofs.OneRule.{rule-one}
use Rattle.machine_rules.proofs.laws.one_rule.Goals as goal

pub returns : goal.returns
returns g c = λ once p. rule-one p (g.N.Answering.gives c.args._natives.now) once
