use Rattle.std.proofs.Common.{take}
use Rattle.program_commands.specs.NodeWays.{AreFlags, IsDestructionOf}
use Rattle.program_commands.proofs.node_ways.destructions.Given as goal

abbrev pub invariant-loop-node : goal.invariant-loop-node
invariant-loop-node l = AreFlags (IsDestructionOf l.scan.closures l.class) (take l.node-index l.node-items) l.flags
