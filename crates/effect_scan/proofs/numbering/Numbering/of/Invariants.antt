use Rattle.std.proofs.Common.{◌≡◌, length, map, take}
use Rattle.effect_scan.specs.Nodes.{shape_of}
use Rattle.effect_scan.specs.Numbering.{Numbers}
use Rattle.effect_scan.proofs.numbering.Numbering.of.Given as goal

abbrev pub invariant-loop-number : goal.invariant-loop-number
invariant-loop-number l = Numbers l.nodes l.shapes l.starts × (length l.shapes ≡ l.number) × (l.shapes ≡ map shape_of (take l.number l.classes))
