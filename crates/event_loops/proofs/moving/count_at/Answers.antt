use Rattle.std.proofs.Common.{List, length, eqb, sym, ap, ◌∙◌}
use Rattle.indexmap.specs.IndexSet.{contains}
use Rattle.event_loops.specs.declared.item.Posted.{Posted}
use Rattle.event_loops.specs.code.Rings.{those_going}
use Rattle.event_loops.proofs.Entries.{items_at-entry, items_at-none}
use Rattle.event_loops.proofs.moving.count_at.Goals as goal

pub returns-in-None : goal.returns-in-None
returns-in-None c =
    sym (ap (λ (items : List Posted). length (those_going (contains eqb c.args.going.now) items))
    (items_at-none c.args.queues.now.entries c.args.place (sym c.in-None.ensures.entry)))

pub returns-in-Some : goal.returns-in-Some
returns-in-Some c =
    c.count_in.ensures
    ∙ ap (λ (items : List Posted). length (those_going (contains eqb c.args.going.now) items))
    (sym (items_at-entry c.args.queues.now.entries c.args.place (c.in-Some.field-0-0.now, c.in-Some.items.now) (sym c.in-Some.ensures.entry)))
