use Rattle.std.proofs.Common.{length}
use Rattle.diagnostics.specs.Blank.{IsBlank}
use Rattle.diagnostics.proofs.line.begins_with_word.Given as goal

abbrev pub invariant-loop-first : goal.invariant-loop-first
invariant-loop-first l = IsBlank l.line → IsBlank l.rest

abbrev pub decreases-loop-first : goal.decreases-loop-first
decreases-loop-first l = length l.rest
