use Rattle.std.proofs.Common.{◌<◌, ◌∙◌, List, length, ap, arith}
use Rattle.effect_scan.specs.declared.node.Node.{Node}
use Rattle.rank_graph.specs.Solutions.{rank_of}
use Rattle.settling_make.proofs.Chaining.{long_told}
use Rattle.settling_make.proofs.Circling.{node_here}
use Rattle.settling_make.proofs.making.settled.Goals as goal

pub returns-in-Some-first_high : goal.returns-in-Some-first_high
returns-in-Some-first_high c = λ ready.
    let heights = rw c.in-Ok.is at c.in_ok-heights.ensures in
    let high = c.in-Some-first_high.ensures in
    let first = ap (λ (ns : List Node). length ns) c.nodes.ensures in
    let second = ap (λ (ns : List Node). length ns) c.nodes-in-Some-first_high.ensures in
    let inside = high.0 in
    let low : c.in-Some-first_high.number < length c.nodes-in-Some-first_high.result.now = omega (arith, inside, first, second) in
    let long = long_told c.args.meta.now (rank_of c.in-Ok.heights) heights c.in-Some-first_high.number _ (node_here _ _ _ _ (c.nodes-in-Some-first_high.ensures ∙ c.requires.scan.nodes) low) high.1 in
    (ready, long, c.none_is_valid.ensures.long _ long)
