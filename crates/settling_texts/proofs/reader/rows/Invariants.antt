use Rattle.std.proofs.Common.{length}
use Rattle.settling_texts.proofs.Certificates.{RowsSoFar}
use Rattle.settling_texts.proofs.reader.rows.Given as goal

abbrev pub invariant-loop-sets : goal.invariant-loop-sets
invariant-loop-sets l = RowsSoFar l.fn.text l.lines l.sets l.rest

abbrev pub decreases-loop-sets : goal.decreases-loop-sets
decreases-loop-sets l = length l.rest
