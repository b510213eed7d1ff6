use Rattle.machine_rules.proofs.Agreeing.{rule-agrees}
use Rattle.machine_rules.proofs.laws.rule_settles.Goals as goal

pub returns : goal.returns
returns g c = λ p s t agree rule well. rule-agrees agree well (g.N.Answering.gives c.args._natives.now) s.stack rule
