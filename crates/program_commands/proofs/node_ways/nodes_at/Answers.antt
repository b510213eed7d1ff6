use Rattle.std.proofs.Common.{◌<◌, List, length, get_or, ap, arith}
use Rattle.std.proofs.lemmas.List.Elements.{Contains-get_or}
use Rattle.effect_scan.specs.declared.node.Node.{Node}
use Rattle.rank_make.proofs.Steps.{nodes_more}
use Rattle.program_commands.proofs.node_ways.nodes_at.Goals as goal

pub offset_bounds-all-number : goal.offset_bounds-all-number
offset_bounds-all-number c =
    let count = ap (λ (ns : List Node). length ns) c.nodes-all.ensures in
    let inside : get_or c.args.numbers.now c.loop-number.number-index 0 < length c.args.scan.now.nodes = c.requires _ (Contains-get_or c.args.numbers.now c.loop-number.number-index 0 c.loop-number-test.true) in
    omega arith

pub bounds-all-number : goal.bounds-all-number
bounds-all-number c =
    let count = ap (λ (ns : List Node). length ns) c.nodes-all.ensures in
    let inside : get_or c.args.numbers.now c.loop-number.number-index 0 < length c.args.scan.now.nodes = c.requires _ (Contains-get_or c.args.numbers.now c.loop-number.number-index 0 c.loop-number-test.true) in
    omega arith

pub loop-number-preserved : goal.loop-number-preserved
loop-number-preserved c =
    let count = ap (λ (ns : List Node). length ns) c.nodes-all.ensures in
    let inside : get_or c.args.numbers.now c.loop-number.number-index 0 < length c.args.scan.now.nodes = c.requires _ (Contains-get_or c.args.numbers.now c.loop-number.number-index 0 c.loop-number-test.true) in
    let low : get_or c.args.numbers.now c.loop-number.number-index 0 < length c.nodes-all.result.now = omega arith in
    nodes_more c.args.scan.now.nodes c.nodes-all.result.now c.loop-number.nodes _ c.args.numbers.now c.loop-number.number-index _ c.loop-number-test.true c.nodes-all.ensures low c.loop-number.invariant c.in_ok-push.ensures.ok
