use Rattle.settling.specs.Settles.{IsProperty}
use Rattle.program_commands.proofs.NodeWays.{flags_more}
use Rattle.program_commands.proofs.node_ways.properties.Goals as goal

pub loop-node-preserved : goal.loop-node-preserved
loop-node-preserved c =
    flags_more IsProperty c.nodes-node-items.result.now c.loop-node.node-index _ c.loop-node.flags c.push.new.self c.is_property.result c.loop-node-test.true c.loop-node.invariant c.is_property.ensures c.in_ok-push.ensures.ok
