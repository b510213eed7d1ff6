use Rattle.program_commands.specs.Certifying.{PutsLines}
use Rattle.program_commands.proofs.certifying.put_lines.Given as goal

abbrev pub invariant-loop-number : goal.invariant-loop-number
invariant-loop-number g l = PutsLines g.W.Write.contents l.meta l.solution l.number l.initial.output l.output
