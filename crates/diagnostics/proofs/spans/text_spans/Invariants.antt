use Rattle.std.proofs.Common.{length, ◌≤◌, All}
use Rattle.diagnostics.specs.declared.spans.Span.{Span}
use Rattle.diagnostics.proofs.spans.text_spans.Given as goal

abbrev pub invariant-loop-line : goal.invariant-loop-line
invariant-loop-line l = record {
  shorter : length l.left ≤ length l.input;
  within : All (λ (s : Span). s.end ≤ length l.input) l.spans.items;
}

abbrev pub decreases-loop-line : goal.decreases-loop-line
decreases-loop-line l = length l.left
