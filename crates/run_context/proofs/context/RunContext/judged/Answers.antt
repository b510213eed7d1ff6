use Rattle.run_context.proofs.Linking.{lacks-signal, lacks-method}
use Rattle.run_context.proofs.context.RunContext.judged.Goals as goal

pub returns-in_default-method_at : goal.returns-in_default-method_at
returns-in_default-method_at c = lacks-signal c.in-Some.ensures.value c.in_default-method_at.ensures.value

pub returns-in_default-method_at-2 : goal.returns-in_default-method_at-2
returns-in_default-method_at-2 c = lacks-method c.in-Some-get.ensures.value c.in_default-method_at-2.ensures.value

pub returns : goal.returns
returns c = record {
  spelled = record {
    sender = c.in-Some.field-0-0.now;
    signal = c.in-Some-method_at.signal.now;
    sends = record { life = c.in-Some.sender.now; lives = c.in-Some.ensures.value; is_method = c.in-Some-method_at.ensures.value };
    receiver = c.in-Some-get.field-0-0.now;
    method = c.in-Some-method_at-2.method.now;
    receives = record { life = c.in-Some-get.receiver.now; lives = c.in-Some-get.ensures.value; is_method = c.in-Some-method_at-2.ensures.value };
  };
  is = rw (c.kept_ends.ensures, c.deref.ensures, c.deref-2.ensures) at c.may_connect.ensures;
}
