use Rattle.std.proofs.Common.{sym, ◌∷◌, [], ◌++◌}
use Rattle.std.proofs.lemmas.Result.{on_ok_weaker, on_err_weaker}
use Rattle.event_loops.proofs.Entries.{change-ring, same-ring}
use Rattle.event_loops.proofs.rings.push_at.Goals as goal

pub returns-clause-pushed : goal.returns-clause-pushed
returns-clause-pushed c =
    on_ok_weaker c.push.result
    (λ pushed. change-ring (λ items. items ++ c.args.posted ∷ []) c.args.queues.now.entries c.args.home c.in-Some.items.now c.push.new.items (sym c.in-Some.ensures.value) pushed)
    c.push.ensures.ok

pub returns-clause-err : goal.returns-clause-err
returns-clause-err c =
    on_err_weaker c.push.result
    (λ still. same-ring c.args.queues.now.entries c.args.home c.in-Some.items.now c.push.new.items (sym c.in-Some.ensures.value) still)
    c.push.ensures.err
