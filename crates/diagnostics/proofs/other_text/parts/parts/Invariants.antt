use Rattle.std.proofs.Common.{map, length}
use Rattle.diagnostics.proofs.Parting.{AreFirstParts}
use Rattle.diagnostics.proofs.other_text.parts.parts.Given as goal

abbrev pub invariant-loop-part : goal.invariant-loop-part
invariant-loop-part l = record { front : AreFirstParts l.fn.line (map (λ part. part.now) l.parts) l.left }

abbrev pub decreases-loop-part : goal.decreases-loop-part
decreases-loop-part l = length l.left
