use Rattle.program_flaws.proofs.IdleRows.{AreRows}
use Rattle.program_flaws.proofs.warned.lineage.Lineage.of.Given as goal

abbrev pub invariant-loop-class : goal.invariant-loop-class
invariant-loop-class l = AreRows l.meta l.class l.rows
