use Rattle.std.proofs.Common.{length}
use Rattle.certificate_lang.proofs.Certificates.{LinesSoFar}
use Rattle.certificate_lang.proofs.reader.node_lines.Given as goal

abbrev pub invariant-loop-lines : goal.invariant-loop-lines
invariant-loop-lines l = LinesSoFar l.fn.version l.fn.text l.lines.items l.rest

abbrev pub decreases-loop-lines : goal.decreases-loop-lines
decreases-loop-lines l = length l.rest
