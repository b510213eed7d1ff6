use Rattle.cases.proofs.Ordered.{Reading}
use Rattle.cases.proofs.files.sections.read_sections.Given as goal

-- what was read is in order
abbrev pub invariant-loop-line : goal.invariant-loop-line
invariant-loop-line l = Reading l.sections.items l.current l.number
