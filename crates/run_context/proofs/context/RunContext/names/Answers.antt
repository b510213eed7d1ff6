use Rattle.std.proofs.Common.{inl, refl}
use Rattle.run_context.proofs.context.RunContext.names.Goals as goal

pub returns-in_default-clause-err : goal.returns-in_default-clause-err
returns-in_default-clause-err c = inl (λ there. c.in_default.ensures _ _ there.sends, refl)

pub returns-in_default-member-clause-err : goal.returns-in_default-member-clause-err
returns-in_default-member-clause-err c = inl (λ there. c.in_default-member.ensures _ _ there.receives, refl)

pub returns-clause-ok : goal.returns-clause-ok
returns-clause-ok c = record {
  there = record { sender = c.in-Some.sender.now; signal = c.in-Some.signal.now; sends = c.in-Some.ensures; receiver = c.in-Some-member.receiver.now; method = c.in-Some-member.method.now; receives = c.in-Some-member.ensures };
  is = rw (c.in_ok-copy.ensures, c.in_ok-copy-2.ensures, c.in_ok-copy-3.ensures, c.in_ok-copy-4.ensures) refl;
}
