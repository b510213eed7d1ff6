use Rattle.std.proofs.Common.{refl}
use Rattle.object_machine.proofs.Judging.Ends.{is-signal, not-signal}
use Rattle.object_machine.proofs.ends.signal_of.Goals as goal

pub returns-in_default : goal.returns-in_default
returns-in_default c = λ g is. c.in_default.ensures.value g is.0

pub returns-in-Some-method_at : goal.returns-in-Some-method_at
returns-in-Some-method_at c = is-signal c.in-Some.ensures.value c.in-Some-method_at.ensures.value (c.if-is_signal.ensures.0 refl)

pub returns-in_default-method_at : goal.returns-in_default-method_at
returns-in_default-method_at c = not-signal c.in-Some.ensures.only c.in-Some-method_at.ensures.value (λ w. absurd (cc (c.if-is_signal.ensures.1 w)))

pub returns-in_default-method_at-2 : goal.returns-in_default-method_at-2
returns-in_default-method_at-2 c =
    let found = c.in-Some.ensures.value in
    absurd ((rw c.in_default-method_at.is at c.method_at.ensures.value) found.method found.is)
