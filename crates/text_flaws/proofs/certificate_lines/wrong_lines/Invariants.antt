use Rattle.std.proofs.Common.{length, ◌≤◌, All}
use Rattle.text_flaws.proofs.certificate_lines.wrong_lines.Given as goal

-- each place lies in the text
abbrev pub invariant-loop-line : goal.invariant-loop-line
invariant-loop-line l = All (λ f. f.at ≤ length l.fn.text) l.flaws.items

abbrev pub decreases-loop-line : goal.decreases-loop-line
decreases-loop-line l = length l.left
