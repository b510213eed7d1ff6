use Rattle.meta_model.specs.Members.{Below}
use Rattle.program_flaws.proofs.IdleRows.{Tells}
use Rattle.program_flaws.proofs.warned.lineage.row_of.Given as goal

abbrev pub invariant-loop-other : goal.invariant-loop-other
invariant-loop-other l = Tells (λ d. Below l.meta l.class d) l.other l.row
