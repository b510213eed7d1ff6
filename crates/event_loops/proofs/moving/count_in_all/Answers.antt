use Rattle.std.proofs.Common.{◌+◌, List, length, eqb, ap, arith}
use Rattle.std.proofs.lemmas.List.{length-append}
use Rattle.indexmap.specs.IndexSet.{contains}
use Rattle.event_loops.specs.declared.item.Posted.{Posted}
use Rattle.event_loops.specs.Queues.{items_at}
use Rattle.event_loops.specs.code.Rings.{loops_in, those_going}
use Rattle.event_loops.proofs.Gathering.{going_from, going-step}
use Rattle.event_loops.proofs.moving.count_in_all.Goals as goal

pub loop-place-preserved : goal.loop-place-preserved
loop-place-preserved c =
    let going = contains eqb c.args.going.now in
    let loops = loops_in c.args.queues.now in
    let k = c.loop-place.place in
    omega (
      arith,
      c.loop-place.invariant,
      c.in_ok-count.ensures.1,
      c.count_at.ensures,
      ap (λ (items : List Posted). length items) (going-step going k loops),
      length-append (those_going going (items_at loops k)) (going_from going (k + 1) loops),
    )
