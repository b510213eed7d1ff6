use Rattle.machine_rules.proofs.Fields.{member-at}
use Rattle.run_context.proofs.context.RunContext.member.Goals as goal

pub returns-in_default-method_at : goal.returns-in_default-method_at
returns-in_default-method_at c = λ x k is. c.in_default-method_at.ensures.value k (member-at c.in-Some.ensures.value is)
