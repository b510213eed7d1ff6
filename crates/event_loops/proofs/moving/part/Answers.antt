use Rattle.std.proofs.Common.{◌+◌, ◌<◌, ◌++◌, List, length, eqb, take, drop, sym, ap, ◌∙◌, arith}
use Rattle.std.proofs.lemmas.List.{length-append, append_assoc}
use Rattle.indexmap.specs.IndexSet.{contains}
use Rattle.event_loops.specs.declared.item.Posted.{Posted}
use Rattle.event_loops.specs.code.Rings.{those_going, those_staying}
use Rattle.event_loops.proofs.Gathering.{turned, going-next, turned-next, going-within}
use Rattle.event_loops.proofs.moving.part.Goals as goal

pub part_first-requires : goal.part_first-requires
part_first-requires c =
    let going = contains eqb c.args.going.now in
    let items = c.args.items.now.items in
    let k = c.loop-turn.turn in
    let below : k < length items = omega (arith, c.loop-turn-test.true, c.len-turn-end.ensures, c.args.items.now.ok.0) in
    let first = those_going going (take 1 (turned going items k)) in
    record {
      room = omega (
        arith,
        c.requires.room,
        c.loop-turn.invariant.len,
        c.loop-turn.invariant.capacity,
        ap (λ (xs : List Posted). length (those_going going (take 1 xs))) c.loop-turn.invariant.left,
        ap (λ (xs : List Posted). length xs) (going-next going items k below),
        length-append (those_going going (take k items)) first,
        going-within going items (k + 1),
      );
    }

pub loop-turn-preserved : goal.loop-turn-preserved
loop-turn-preserved c =
    let going = contains eqb c.args.going.now in
    let items = c.args.items.now.items in
    let ring = c.args.ring.now.items in
    let k = c.loop-turn.turn in
    let below : k < length items = omega (arith, c.loop-turn-test.true, c.len-turn-end.ensures, c.args.items.now.ok.0) in
    let before = those_going going (take k items) in
    let first = those_going going (take 1 (turned going items k)) in
    record {
      left = c.part_first.ensures.left
          ∙ ap (λ (xs : List Posted). drop 1 xs ++ those_staying going (take 1 xs)) c.loop-turn.invariant.left
          ∙ turned-next going items k below;
      moved = c.part_first.ensures.moved
          ∙ ap (λ (xs : List Posted). c.loop-turn.ring.items ++ those_going going (take 1 xs)) c.loop-turn.invariant.left
          ∙ ap (λ (xs : List Posted). xs ++ first) c.loop-turn.invariant.moved
          ∙ append_assoc ring before first
          ∙ ap (λ (xs : List Posted). ring ++ xs) (sym (going-next going items k below));
      len = omega (
        arith,
        c.part_first.ensures.len,
        c.loop-turn.invariant.len,
        ap (λ (xs : List Posted). length (those_going going (take 1 xs))) c.loop-turn.invariant.left,
        ap (λ (xs : List Posted). length xs) (going-next going items k below),
        length-append before first,
      );
      capacity = c.part_first.ensures.capacity ∙ c.loop-turn.invariant.capacity;
    }
