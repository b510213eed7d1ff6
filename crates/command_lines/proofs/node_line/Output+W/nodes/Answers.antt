use Rattle.std.proofs.Common.{get_or, refl}
use Rattle.effect_scan.specs.declared.node.Member.TheVariants.{Method}
use Rattle.effect_scan.specs.declared.node.Node.{Node}
use Rattle.command_lines.specs.NodeLines.{after_blank}
use Rattle.command_lines.proofs.Sending.{sent, one_item}
use Rattle.command_lines.proofs.node_line.Output+W.nodes.Goals as goal

pub loop-node-preserved : goal.loop-node-preserved
loop-node-preserved g c =
    let none : Node = record { class = 0; member = Method 0 } in
    let node = get_or c.args.nodes.now c.loop-node.node-index none in
    one_item (after_blank c.args.meta.now) c.args.nodes.now c.loop-node.node-index none node c.loop-node-test.true refl c.loop-node.invariant (sent c.put_byte.ensures c.node_of.ensures)
