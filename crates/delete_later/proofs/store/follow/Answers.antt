use Rattle.std.proofs.Common.{Err, sym, ap, ◌∙◌}
use Rattle.delete_later.specs.Moving.{bound_out}
use Rattle.delete_later.proofs.Moving.{follow-refused}
use Rattle.delete_later.proofs.store.follow.Goals as goal

pub returns-then-joins-clause-refused : goal.returns-then-joins-clause-refused
returns-then-joins-clause-refused c = bound_out (sym c.joins.ensures ∙ c.if-joins.true)

pub returns-in_err-rehome-clause-refused : goal.returns-in_err-rehome-clause-refused
returns-in_err-rehome-clause-refused c =
    follow-refused c.args.objects.now c.args.home c.args.bindings.now c.args.loops.now c.in_err-rehome.field-0.0 c.from_residual.result
    (λ e. c.in_err-rehome.ensures.no_loop.0 (ap Err e)) c.from_residual.ensures.1
