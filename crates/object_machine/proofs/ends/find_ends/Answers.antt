use Rattle.object_machine.specs.code.Judgement.{refused}
use Rattle.object_machine.specs.Events.{find_ends}
use Rattle.object_machine.proofs.Judged.{then-ends, then-on, err-is}
use Rattle.object_machine.proofs.Judging.Ends.{no-signal, no-method, finds-ends}
use Rattle.object_machine.proofs.Judging.Naming.{living-ok}
use Rattle.object_machine.proofs.ends.find_ends.Goals as goal

pub returns-in_err-sender-clause-refused : goal.returns-in_err-sender-clause-refused
returns-in_err-sender-clause-refused c =
    err-is {Judged = find_ends c.args.context.now.meta c.args.world.now.store.tree c.args.named.now} c.from_residual.result (then-ends c.in_err-sender.ensures.refused) c.from_residual.ensures.1

pub returns-in_err-receiver-clause-refused : goal.returns-in_err-receiver-clause-refused
returns-in_err-receiver-clause-refused c =
    err-is {Judged = find_ends c.args.context.now.meta c.args.world.now.store.tree c.args.named.now} c.from_residual-in_err-receiver.result (then-on _ (living-ok _ c.in_ok-sender.ensures.found) (then-ends c.in_err-receiver.ensures.refused)) c.from_residual-in_err-receiver.ensures.1

pub returns-in_default-clause-refused : goal.returns-in_default-clause-refused
returns-in_default-clause-refused c = refused (no-signal c.args.context.now.meta c.args.world.now.store.tree c.args.named.now _ _ c.in_ok-sender.ensures.found c.in_ok-receiver.ensures.found (rw c.deref.ensures at c.in_default.ensures))

pub returns-in_default-method-clause-refused : goal.returns-in_default-method-clause-refused
returns-in_default-method-clause-refused c =
    refused (no-method c.args.context.now.meta c.args.world.now.store.tree c.args.named.now _ _ c.in_ok-sender.ensures.found c.in_ok-receiver.ensures.found _ (rw c.deref.ensures at c.in-Some.ensures) (rw c.deref-2.ensures at c.in_default-method.ensures.value))

pub returns-clause-found : goal.returns-clause-found
returns-clause-found c =
    rw (c.named_signal.ensures, c.new.ensures, c.new-2.ensures) (finds-ends c.args.context.now.meta c.args.world.now.store.tree c.args.named.now _ _ c.in_ok-sender.ensures.found c.in_ok-receiver.ensures.found _ (rw c.deref.ensures at c.in-Some.ensures) (rw c.deref-2.ensures at c.in-Some-method.ensures.value))
