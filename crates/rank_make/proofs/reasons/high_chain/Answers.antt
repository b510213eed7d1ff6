use Rattle.std.proofs.Common.{List, length, ◌<◌, ap, arith}
use Rattle.effect_scan.specs.declared.node.Node.{Node}
use Rattle.rank_make.proofs.Told.{chain_inside, chain_told}
use Rattle.rank_make.proofs.reasons.high_chain.Goals as goal

pub nodes_at-requires : goal.nodes_at-requires
nodes_at-requires c =
    let count = ap (λ (ns : List Node). length ns) c.nodes.ensures in
    let low : c.in-Some.from < length c.args.scan.now.nodes = omega (arith, c.in-Some.ensures.0) in
    chain_inside c.args.meta.now c.args.scan.now c.requires.scan c.rows.result.now 256 c.in-Some.from c.in_ok-numbers.numbers _ c.rows.ensures low c.in_ok-numbers.ensures c.as_slice.ensures

pub returns : goal.returns
returns c =
    let count = ap (λ (ns : List Node). length ns) c.nodes.ensures in
    let low : c.in-Some.from < length c.args.scan.now.nodes = omega (arith, c.in-Some.ensures.0) in
    chain_told c.args.meta.now c.args.scan.now c.requires.scan c.rows.result.now c.in-Some.from c.in_ok-numbers.numbers _ c.in_ok-nodes.nodes c.rows.ensures low c.in_ok-numbers.ensures c.as_slice.ensures c.in_ok-nodes.ensures
