use Rattle.std.proofs.Common.{take}
use Rattle.settling.specs.Settles.{IsProperty}
use Rattle.program_commands.specs.NodeWays.{AreFlags}
use Rattle.program_commands.proofs.node_ways.properties.Given as goal

abbrev pub invariant-loop-node : goal.invariant-loop-node
invariant-loop-node l = AreFlags IsProperty (take l.node-index l.node-items) l.flags
