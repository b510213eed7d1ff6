use Rattle.std.proofs.Common.{List, sym, subst, ◌∙◌, ap}
use Rattle.event_loops.specs.Queues.{Loop}
use Rattle.event_loops.specs.code.Rings.{loops_in}
use Rattle.event_loops.specs.code.Marks.{since_of, visible, trimmed, is_upto, AreUpto}
use Rattle.event_loops.specs.code.Sure.{AllAt, AreTold, is_told}
use Rattle.event_loops.proofs.Entries.{change-ring, items_at-ring}
use Rattle.event_loops.proofs.Waiting.{visible-trimmed, all-trimmed_at}
use Rattle.event_loops.proofs.rings.trim_at.Goals as goal

pub returns-in-Some-clause-seen : goal.returns-in-Some-clause-seen
returns-in-Some-clause-seen c =
    let since = since_of c.args.marks.now in
    ap (visible since) (change-ring (trimmed since) c.args.queues.now.entries c.args.home c.in-Some.items.now c.trim.new.items (sym c.in-Some.ensures.value) c.trim.ensures)
    ∙ visible-trimmed since c.args.home (loops_in c.args.queues.now)

pub returns-in-Some-clause-within : goal.returns-in-Some-clause-within
returns-in-Some-clause-within c = λ last w.
    let since = since_of c.args.marks.now in
    let Upto : List Loop → Type 0 = AreUpto last in
    record {
      upto = subst Upto
          (sym (change-ring (trimmed since) c.args.queues.now.entries c.args.home c.in-Some.items.now c.trim.new.items (sym c.in-Some.ensures.value) c.trim.ensures))
          (all-trimmed_at since c.args.home (loops_in c.args.queues.now) (is_upto last) w.upto);
      marked = w.marked;
    }

pub returns-in-Some-clause-told : goal.returns-in-Some-clause-told
returns-in-Some-clause-told c =
    let since = since_of c.args.marks.now in
    subst (AllAt (is_told c.args.marks.now))
    (sym (change-ring (trimmed since) c.args.queues.now.entries c.args.home c.in-Some.items.now c.trim.new.items (sym c.in-Some.ensures.value) c.trim.ensures))
    (all-trimmed_at since c.args.home (loops_in c.args.queues.now) (is_told c.args.marks.now) c.requires)

pub trim-requires : goal.trim-requires
trim-requires c =
    subst (AreTold c.args.marks.now) (items_at-ring c.args.queues.now.entries c.args.home c.in-Some.items.now (sym c.in-Some.ensures.value)) (c.requires c.args.home)
