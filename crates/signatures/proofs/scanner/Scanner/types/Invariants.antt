use Rattle.std.proofs.Common.{length}
use Rattle.signatures.proofs.Reading.{Underway}
use Rattle.signatures.proofs.scanner.Scanner.types.Given as goal

abbrev pub invariant-loop-is_last : goal.invariant-loop-is_last
invariant-loop-is_last l = Underway l.fn.self l.types l.is_last l.self

abbrev pub decreases-loop-is_last : goal.decreases-loop-is_last
decreases-loop-is_last l = length l.self
