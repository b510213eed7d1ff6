use Rattle.std.proofs.Common.{◌-◌, length, drop}
use Rattle.command_lines.specs.MetaLines.{method_lines}
use Rattle.command_lines.proofs.Sending.{SentSoFar}
use Rattle.command_lines.proofs.meta_line.Output+W.methods.Given as goal

abbrev pub invariant-loop-method : goal.invariant-loop-method
invariant-loop-method g l =
    SentSoFar g.W.Write.contents l.initial.self l.self
    (method_lines l.number (drop l.number l.methods)) (method_lines l.offset (drop l.offset l.methods))

abbrev pub decreases-loop-method : goal.decreases-loop-method
decreases-loop-method g l = length l.methods - l.number
