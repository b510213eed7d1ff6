use Rattle.std.proofs.Common.{◌<◌}
use Rattle.settling.specs.declared.spans.Span.{Span}
use Rattle.settling.proofs.Passing.{AllFirst}
use Rattle.settling.proofs.resting.have_rounds.Given as goal

abbrev pub invariant-loop-span : goal.invariant-loop-span
invariant-loop-span l = AllFirst (λ k (span : Span). 0 < span.round) l.spans l.span-index
