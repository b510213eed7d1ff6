use Rattle.std.proofs.Common.{sym, arith}
use Rattle.machine_rules.proofs.Inherited.{declared-above, declared-baseless, declared-here}
use Rattle.run_context.proofs.answers.+declaring.Goals as goal

pub returns-in-Some : goal.returns-in-Some
returns-in-Some t c = declared-above (sym c.in-Some.ensures.value) (omega (arith, c.if-method-method_count.true, c.method_count.ensures)) c.declaring.ensures

pub returns-in_default : goal.returns-in_default
returns-in_default t c = declared-here (sym c.in-Some.ensures.value) (omega (arith, c.if-method-method_count.false, c.method_count.ensures))

pub returns-in_default-2 : goal.returns-in_default-2
returns-in_default-2 t c = declared-baseless (sym c.in_default.ensures.value)
