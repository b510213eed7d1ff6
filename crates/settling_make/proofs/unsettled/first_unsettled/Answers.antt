use Rattle.std.proofs.Common.{◌∙◌, ◌≤◌, List, length, ap, arith}
use Rattle.effect_scan.specs.declared.node.Node.{Node}
use Rattle.effect_scan.specs.Nodes.{nodes_of}
use Rattle.settling_make.proofs.Circling.{edges_settle, node_here, hand_none, hand_more}
use Rattle.settling_make.proofs.unsettled.first_unsettled.Goals as goal

pub loop-number-init : goal.loop-number-init
loop-number-init c = hand_none c.args.meta.now c.args.scan.now.rows c.args.found.now.numbers

pub unsettled_at-requires-clause-node : goal.unsettled_at-requires-clause-node
unsettled_at-requires-clause-node c = node_here _ _ _ _ (c.nodes-node-items.ensures ∙ c.requires.scan.nodes) c.loop-number-test.true

pub loop-number-preserved : goal.loop-number-preserved
loop-number-preserved c =
    hand_more c.args.meta.now c.args.scan.now.rows c.args.found.now.numbers c.loop-number.number _ (node_here _ _ _ _ (c.nodes-node-items.ensures ∙ c.requires.scan.nodes) c.loop-number-test.true) c.loop-number.invariant c.in-None.ensures

pub returns : goal.returns
returns c =
    let count = ap (λ (ns : List Node). length ns) (c.nodes-node-items.ensures ∙ c.requires.scan.nodes) in
    let past : length (nodes_of c.args.meta.now) ≤ c.loop-number.number = omega arith in
    edges_settle c.args.meta.now c.args.scan.now c.requires.scan c.args.found.now c.requires.found c.edges_join_nodes.ensures c.loop-number.number past c.loop-number.invariant
