use Rattle.std.proofs.Common.{take}
use Rattle.std.specs.List.{flat_map}
use Rattle.command_lines.specs.MetaLines.{property_line}
use Rattle.command_lines.specs.Sent.{Puts}
use Rattle.command_lines.proofs.meta_line.Output+W.properties.Given as goal

abbrev pub invariant-loop-property : goal.invariant-loop-property
invariant-loop-property g l =
    Puts g.W.Write.contents l.initial.self l.self
    (flat_map (property_line l.class) (take l.property-index l.properties))
