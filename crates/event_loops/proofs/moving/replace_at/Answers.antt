use Rattle.std.proofs.Common.{sym, ap, ◌∙◌}
use Rattle.event_loops.proofs.Entries.{change-ring, items_at-ring, length-ring}
use Rattle.event_loops.proofs.moving.replace_at.Goals as goal

pub returns-clause-there : goal.returns-clause-there
returns-clause-there c = length-ring c.args.queues.now.entries c.args.home c.replace.new.dest

pub returns-clause-put : goal.returns-clause-put
returns-clause-put c =
    change-ring (λ items. c.args.ring.items) c.args.queues.now.entries c.args.home c.in-Some.items.now c.replace.new.dest (sym c.in-Some.ensures.value) (ap (λ v. v.items) c.replace.ensures.after)

pub returns-clause-old : goal.returns-clause-old
returns-clause-old c =
    ap (λ v. v.items) c.replace.ensures.value
    ∙ sym (items_at-ring c.args.queues.now.entries c.args.home c.in-Some.items.now (sym c.in-Some.ensures.value))
