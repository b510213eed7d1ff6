use Rattle.program_commands.specs.NodeWays.{IsDestructionOf}
use Rattle.program_commands.proofs.NodeWays.{flags_more}
use Rattle.program_commands.proofs.node_ways.destructions.Goals as goal

pub loop-node-preserved : goal.loop-node-preserved
loop-node-preserved c =
    flags_more (IsDestructionOf c.args.scan.now.closures c.args.class) c.nodes-node-items.result.now c.loop-node.node-index _ c.loop-node.flags c.push.new.self c.destroys.result c.loop-node-test.true c.loop-node.invariant c.destroys.ensures c.in_ok-push.ensures.ok
