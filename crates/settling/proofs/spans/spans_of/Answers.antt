use Rattle.std.proofs.Common.{arith}
use Rattle.std.proofs.lemmas.Option.{slice_get-get_or}
use Rattle.settling.proofs.Tallying.{tallies_begun, tallies_more, tallies_all, counts_low}
use Rattle.settling.proofs.spans.spans_of.Goals as goal

pub loop-standing-init : goal.loop-standing-init
loop-standing-init c = tallies_begun c.args.sets.now c.args.standings.now _ c.in_ok-spans.ensures

pub add_node-requires-clause-inside : goal.add_node-requires-clause-inside
add_node-requires-clause-inside c = λ k of.
    let low = c.requires.inside c.loop-standing.standing-index k _ (slice_get-get_or c.args.standings.now c.loop-standing.standing-index _ c.loop-standing-test.true) of in
    let count = c.loop-standing.invariant.count in
    omega (arith, low, count)

pub add_node-requires-clause-room : goal.add_node-requires-clause-room
add_node-requires-clause-room c = λ k span at.
    let low = counts_low c.args.sets.now c.args.standings.now c.loop-standing.standing-index c.loop-standing.spans c.loop-standing.invariant k span at in
    omega (arith, low, c.loop-standing-test.true)

pub loop-standing-preserved : goal.loop-standing-preserved
loop-standing-preserved c =
    tallies_more c.args.sets.now c.args.standings.now c.requires.order c.loop-standing.standing-index _ (slice_get-get_or c.args.standings.now c.loop-standing.standing-index _ c.loop-standing-test.true) c.loop-standing.spans _
    c.loop-standing.invariant c.add_node.ensures

pub returns : goal.returns
returns c = tallies_all c.args.sets.now c.args.standings.now c.loop-standing.standing-index c.loop-standing.spans c.loop-standing-test.false c.loop-standing.invariant
