use Rattle.std.proofs.Common.{◌≡◌, length}
use Rattle.basic_types.specs.Tokens.{tokens_of}
use Rattle.signatures.proofs.scanner.Scanner.next.Given as goal

abbrev pub invariant-loop-first : goal.invariant-loop-first
invariant-loop-first l = tokens_of l.rest ≡ l.fn.self

abbrev pub decreases-loop-first : goal.decreases-loop-first
decreases-loop-first l = length l.rest
