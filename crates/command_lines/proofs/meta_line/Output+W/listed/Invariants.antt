use Rattle.std.proofs.Common.{length}
use Rattle.std.specs.List.{flat_map}
use Rattle.command_lines.specs.MetaLines.{described}
use Rattle.command_lines.proofs.Sending.{SentSoFar}
use Rattle.command_lines.proofs.meta_line.Output+W.listed.Given as goal

abbrev pub invariant-loop-class : goal.invariant-loop-class
invariant-loop-class g l =
    SentSoFar g.W.Write.contents l.initial.self l.self
    (flat_map (described l.meta) l.left) (flat_map (described l.meta) l.classes)

abbrev pub decreases-loop-class : goal.decreases-loop-class
decreases-loop-class g l = length l.left
