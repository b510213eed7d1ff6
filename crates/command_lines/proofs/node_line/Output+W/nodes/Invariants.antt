use Rattle.std.proofs.Common.{take}
use Rattle.std.specs.List.{flat_map}
use Rattle.command_lines.specs.NodeLines.{after_blank}
use Rattle.command_lines.specs.Sent.{Puts}
use Rattle.command_lines.proofs.node_line.Output+W.nodes.Given as goal

abbrev pub invariant-loop-node : goal.invariant-loop-node
invariant-loop-node g l =
    Puts g.W.Write.contents l.initial.self l.self
    (flat_map (after_blank l.meta) (take l.node-index l.nodes))
