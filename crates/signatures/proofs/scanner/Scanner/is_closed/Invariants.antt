use Rattle.std.proofs.Common.{◌↔◌, length}
use Rattle.basic_types.specs.Signatures.{IsClosed}
use Rattle.signatures.proofs.scanner.Scanner.is_closed.Given as goal

-- what is left decides
abbrev pub invariant-loop-scanned : goal.invariant-loop-scanned
invariant-loop-scanned l = IsClosed l.ahead ↔ IsClosed l.fn.self

abbrev pub decreases-loop-scanned : goal.decreases-loop-scanned
decreases-loop-scanned l = length l.ahead
