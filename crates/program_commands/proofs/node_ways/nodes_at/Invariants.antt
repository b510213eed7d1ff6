use Rattle.std.proofs.Common.{take}
use Rattle.std.specs.List.{AllZip}
use Rattle.effect_scan.specs.Nodes.{IsAt}
use Rattle.program_commands.proofs.node_ways.nodes_at.Given as goal

abbrev pub invariant-loop-number : goal.invariant-loop-number
invariant-loop-number l = AllZip (λ n x. IsAt l.scan.nodes x n) (take l.number-index l.numbers) l.nodes
