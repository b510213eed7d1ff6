use Rattle.std.proofs.Common.{List, sym, subst, ◌∙◌, ap}
use Rattle.std.specs.List.{find}
use Rattle.event_loops.specs.Queues.{Loop, is_before}
use Rattle.event_loops.specs.code.Rings.{loops_in}
use Rattle.event_loops.specs.code.Marks.{since_of, waiting, visible, taken_due, is_upto, AreUpto}
use Rattle.event_loops.specs.code.Sure.{AllAt, AreTold, is_told}
use Rattle.event_loops.proofs.Entries.{change-ring, change-nowhere, items_at-ring, items_at-nowhere}
use Rattle.event_loops.proofs.Waiting.{find-waiting, items_at-visible, visible-taken, all-taken}
use Rattle.event_loops.proofs.rings.take_at.Goals as goal

pub returns-in-None-clause-taken : goal.returns-in-None-clause-taken
returns-in-None-clause-taken c =
    let since = since_of c.args.marks.now in
    sym (ap (find (is_before c.args.number))
    (items_at-visible since (loops_in c.args.queues.now) c.args.home
    ∙ ap (waiting since) (items_at-nowhere c.args.queues.now.entries c.args.home (sym c.in-None.ensures.value))))

pub returns-in-None-clause-rest : goal.returns-in-None-clause-rest
returns-in-None-clause-rest c =
    let since = since_of c.args.marks.now in
    ap (visible since) (sym (change-nowhere _ c.args.queues.now.entries c.args.home (sym c.in-None.ensures.value)))
    ∙ visible-taken since c.args.number c.args.home (loops_in c.args.queues.now)

pub returns-in-Some-clause-taken : goal.returns-in-Some-clause-taken
returns-in-Some-clause-taken c =
    let since = since_of c.args.marks.now in
    c.take_before.ensures.taken
    ∙ find-waiting since c.args.number c.in-Some.items.now.items
    ∙ ap (find (is_before c.args.number))
    (sym (items_at-visible since (loops_in c.args.queues.now) c.args.home
    ∙ ap (waiting since) (items_at-ring c.args.queues.now.entries c.args.home c.in-Some.items.now (sym c.in-Some.ensures.value))))

pub returns-in-Some-clause-rest : goal.returns-in-Some-clause-rest
returns-in-Some-clause-rest c =
    let since = since_of c.args.marks.now in
    ap (visible since) (change-ring (taken_due since c.args.number) c.args.queues.now.entries c.args.home c.in-Some.items.now c.take_before.new.items (sym c.in-Some.ensures.value) c.take_before.ensures.rest)
    ∙ visible-taken since c.args.number c.args.home (loops_in c.args.queues.now)

pub returns-in-Some-clause-within : goal.returns-in-Some-clause-within
returns-in-Some-clause-within c = λ last w.
    let since = since_of c.args.marks.now in
    let Upto : List Loop → Type 0 = AreUpto last in
    record {
      upto = subst Upto
          (sym (change-ring (taken_due since c.args.number) c.args.queues.now.entries c.args.home c.in-Some.items.now c.take_before.new.items (sym c.in-Some.ensures.value) c.take_before.ensures.rest))
          (all-taken since c.args.number c.args.home (loops_in c.args.queues.now) (is_upto last) w.upto);
      marked = w.marked;
    }

pub returns-in-Some-clause-told : goal.returns-in-Some-clause-told
returns-in-Some-clause-told c =
    let since = since_of c.args.marks.now in
    subst (AllAt (is_told c.args.marks.now))
    (sym (change-ring (taken_due since c.args.number) c.args.queues.now.entries c.args.home c.in-Some.items.now c.take_before.new.items (sym c.in-Some.ensures.value) c.take_before.ensures.rest))
    (all-taken since c.args.number c.args.home (loops_in c.args.queues.now) (is_told c.args.marks.now) c.requires)

pub take_before-requires : goal.take_before-requires
take_before-requires c =
    subst (AreTold c.args.marks.now) (items_at-ring c.args.queues.now.entries c.args.home c.in-Some.items.now (sym c.in-Some.ensures.value)) (c.requires c.args.home)
