use Rattle.object_machine.proofs.Judging.Invoking.{none-asked}
use Rattle.object_machine.proofs.invoking.method_of.Goals as goal

pub returns-in_default : goal.returns-in_default
returns-in_default c = λ m is. c.in_default.ensures.value m.number (record { method = m.it; is = is.is; named = is.named; counted = is.counted })

pub returns-else-may : goal.returns-else-may
returns-else-may c = none-asked c.args.invocation c.in-Some.ensures.only c.in-Some-method_at.ensures.value (λ may. absurd (cc (c.may.ensures.1 may, c.if-may.false)))

pub returns-in_default-method_at : goal.returns-in_default-method_at
returns-in_default-method_at c = let found = c.in-Some.ensures.value in absurd (c.in_default-method_at.ensures.value found.method found.is)
