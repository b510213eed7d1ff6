use Rattle.effect_scan.specs.Rows.{Edge}
use Rattle.rank_make.specs.Solved.{own_rows}
use Rattle.settling_make.proofs.Collecting.{CollectedTo}
use Rattle.settling_make.proofs.outer.outer_own.Given as goal

abbrev pub invariant-loop-component : goal.invariant-loop-component
invariant-loop-component l = CollectedTo (λ k. Edge (own_rows l.scan)) l.found.sets l.component l.rows
