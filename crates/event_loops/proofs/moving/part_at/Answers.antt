use Rattle.std.proofs.Common.{◌≡◌, ◌≤◌, ◌+◌, ◌++◌, List, length, eqb, append-nil, sym, ap, ◌∙◌, subst, arith}
use Rattle.std.specs.VecDeque.{deque_len, deque_capacity}
use Rattle.indexmap.specs.IndexSet.{contains}
use Rattle.event_loops.specs.declared.item.Posted.{Posted}
use Rattle.event_loops.specs.Queues.{items_at}
use Rattle.event_loops.specs.code.Rings.{loops_in, those_going, those_staying}
use Rattle.event_loops.proofs.Entries.{change-ring, change-nowhere, items_at-ring, items_at-nowhere}
use Rattle.event_loops.proofs.moving.part_at.Goals as goal

pub part-requires : goal.part-requires
part-requires c =
    let going = contains eqb c.args.going.now in
    record {
      room = subst (λ (items : List Posted). deque_len c.args.ring.now + length (those_going going items) ≤ deque_capacity c.args.ring.now)
          (items_at-ring c.args.queues.now.entries c.args.place c.in-Some.items.now (sym c.in-Some.ensures.value)) c.requires.room;
    }

pub returns-in-None-clause-left : goal.returns-in-None-clause-left
returns-in-None-clause-left c = sym (change-nowhere _ c.args.queues.now.entries c.args.place (sym c.in-None.ensures.value))

pub returns-in-None-clause-moved : goal.returns-in-None-clause-moved
returns-in-None-clause-moved c =
    let going = contains eqb c.args.going.now in
    sym (ap (λ (items : List Posted). c.args.ring.now.items ++ those_going going items) (items_at-nowhere c.args.queues.now.entries c.args.place (sym c.in-None.ensures.value))
    ∙ append-nil c.args.ring.now.items)

pub returns-in-None-clause-len : goal.returns-in-None-clause-len
returns-in-None-clause-len c =
    let going = contains eqb c.args.going.now in
    let none : length (those_going going (items_at (loops_in c.args.queues.now) c.args.place)) ≡ 0 =
    ap (λ (items : List Posted). length (those_going going items)) (items_at-nowhere c.args.queues.now.entries c.args.place (sym c.in-None.ensures.value)) in
    omega (arith, none)

pub returns-in-Some-clause-left : goal.returns-in-Some-clause-left
returns-in-Some-clause-left c =
    change-ring (those_staying (contains eqb c.args.going.now)) c.args.queues.now.entries c.args.place c.in-Some.items.now c.part.new.items (sym c.in-Some.ensures.value) c.part.ensures.left

pub returns-in-Some-clause-moved : goal.returns-in-Some-clause-moved
returns-in-Some-clause-moved c =
    let going = contains eqb c.args.going.now in
    c.part.ensures.moved
    ∙ ap (λ (items : List Posted). c.args.ring.now.items ++ those_going going items)
    (sym (items_at-ring c.args.queues.now.entries c.args.place c.in-Some.items.now (sym c.in-Some.ensures.value)))

pub returns-in-Some-clause-len : goal.returns-in-Some-clause-len
returns-in-Some-clause-len c =
    let going = contains eqb c.args.going.now in
    c.part.ensures.len
    ∙ ap (λ (items : List Posted). deque_len c.args.ring.now + length (those_going going items))
    (sym (items_at-ring c.args.queues.now.entries c.args.place c.in-Some.items.now (sym c.in-Some.ensures.value)))
