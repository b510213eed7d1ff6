use Rattle.std.proofs.Common.{◌≡◌, ◌≤◌, ◌+◌, ◌++◌, ℕ, List, length, eqb, refl, sym, ap, ◌∙◌, subst, arith}
use Rattle.std.specs.VecDeque.{deque_len, deque_capacity}
use Rattle.std.proofs.lemmas.List.{length-append, append_assoc, length-map}
use Rattle.indexmap.specs.IndexSet.{contains}
use Rattle.event_loops.specs.declared.item.Posted.{Posted}
use Rattle.event_loops.specs.Queues.{Loop, all_items, items_at}
use Rattle.event_loops.specs.code.Rings.{loop_of, loops_in, those_going, without_going}
use Rattle.event_loops.proofs.Gathering.{map_from, map_from-start, map_from-step, map_from-end, length-change, going_from, going-step, going-changed}
use Rattle.event_loops.proofs.moving.gather.Goals as goal

pub loop-place-init : goal.loop-place-init
loop-place-init c =
    let going = contains eqb c.args.going.now in
    record {
      left = map_from-start (without_going going) (loops_in c.args.queues.now);
      moved = ap (λ (items : List Posted). items ++ those_going going (all_items (loops_in c.args.queues.now))) c.in_ok-reserve.ensures.items;
      room = subst (λ (count : ℕ). deque_len c.reserve.new.self + count ≤ deque_capacity c.reserve.new.self) c.in-Some.ensures c.in_ok-reserve.ensures.ok;
      there = refl;
    }

pub part_at-requires : goal.part_at-requires
part_at-requires c =
    let going = contains eqb c.args.going.now in
    let loops = loops_in c.loop-place.queues in
    let k = c.loop-place.place in
    record {
      room = omega (
        arith,
        c.loop-place.invariant.room,
        ap (λ (items : List Posted). length items) (going-step going k loops),
        length-append (those_going going (items_at loops k)) (going_from going (k + 1) loops),
      );
    }

pub loop-place-preserved : goal.loop-place-preserved
loop-place-preserved c =
    let going = contains eqb c.args.going.now in
    let loops = loops_in c.loop-place.queues in
    let after = loops_in c.part_at.new.queues in
    let k = c.loop-place.place in
    let ring = c.loop-place.ring.items in
    let here = those_going going (items_at loops k) in
    let rest : going_from going (k + 1) after ≡ going_from going (k + 1) loops =
    ap (λ (ls : List Loop). going_from going (k + 1) ls) c.part_at.ensures.left ∙ going-changed going k (without_going going) loops in
    record {
      left = ap (λ (ls : List Loop). map_from (k + 1) (without_going going) ls) c.part_at.ensures.left ∙ map_from-step k (without_going going) loops ∙ c.loop-place.invariant.left;
      moved = ap (λ (items : List Posted). items ++ going_from going (k + 1) after) c.part_at.ensures.moved
          ∙ ap (λ (items : List Posted). ring ++ here ++ items) rest
          ∙ append_assoc ring here (going_from going (k + 1) loops)
          ∙ ap (λ (items : List Posted). ring ++ items) (sym (going-step going k loops))
          ∙ c.loop-place.invariant.moved;
      room = omega (
        arith,
        c.loop-place.invariant.room,
        c.part_at.ensures.len,
        c.part_at.ensures.capacity,
        ap (λ (items : List Posted). length items) rest,
        ap (λ (items : List Posted). length items) (going-step going k loops),
        length-append here (going_from going (k + 1) loops),
      );
      there = ap (λ (ls : List Loop). length ls) c.part_at.ensures.left ∙ length-change k (without_going going) loops ∙ c.loop-place.invariant.there;
    }

pub returns-clause-left : goal.returns-clause-left
returns-clause-left c =
    let going = contains eqb c.args.going.now in
    let past : length (loops_in c.loop-place.queues) ≤ c.loop-place.place =
    omega (arith, c.loop-place.invariant.there, length-map c.args.queues.now.entries loop_of, c.len-place-end.ensures.len, c.loop-place-test.false) in
    sym (map_from-end c.loop-place.place (without_going going) (loops_in c.loop-place.queues) past) ∙ c.loop-place.invariant.left
