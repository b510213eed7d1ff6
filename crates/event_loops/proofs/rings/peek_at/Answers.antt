use Rattle.std.proofs.Common.{sym, subst, ◌∙◌, ap}
use Rattle.std.specs.List.{find}
use Rattle.event_loops.specs.Queues.{is_before}
use Rattle.event_loops.specs.code.Rings.{loops_in}
use Rattle.event_loops.specs.code.Marks.{since_of, waiting}
use Rattle.event_loops.specs.code.Sure.{AreTold}
use Rattle.event_loops.proofs.Entries.{items_at-entry, items_at-none}
use Rattle.event_loops.proofs.Waiting.{find-waiting, items_at-visible}
use Rattle.event_loops.proofs.rings.peek_at.Goals as goal

pub returns-in-None : goal.returns-in-None
returns-in-None c =
    let since = since_of c.args.marks.now in
    sym (ap (find (is_before c.args.number))
    (items_at-visible since (loops_in c.args.queues.now) c.args.home
    ∙ ap (waiting since) (items_at-none c.args.queues.now.entries c.args.home (sym c.in-None.ensures.entry))))

pub returns-in-Some : goal.returns-in-Some
returns-in-Some c =
    let since = since_of c.args.marks.now in
    c.peek_before.ensures
    ∙ find-waiting since c.args.number c.in-Some.items.now.items
    ∙ ap (find (is_before c.args.number))
    (sym (items_at-visible since (loops_in c.args.queues.now) c.args.home
    ∙ ap (waiting since) (items_at-entry c.args.queues.now.entries c.args.home (c.in-Some.field-0-0.now, c.in-Some.items.now) (sym c.in-Some.ensures.entry))))

pub peek_before-requires : goal.peek_before-requires
peek_before-requires c =
    subst (AreTold c.args.marks.now) (items_at-entry c.args.queues.now.entries c.args.home (c.in-Some.field-0-0.now, c.in-Some.items.now) (sym c.in-Some.ensures.entry)) (c.requires c.args.home)
