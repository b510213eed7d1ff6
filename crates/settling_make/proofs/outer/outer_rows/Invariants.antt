use Rattle.settling_make.specs.Collected.{LeadsOut}
use Rattle.settling_make.proofs.Collecting.{CollectedTo}
use Rattle.settling_make.proofs.outer.outer_rows.Given as goal

abbrev pub invariant-loop-component : goal.invariant-loop-component
invariant-loop-component l = CollectedTo (LeadsOut l.scan.rows l.found.numbers) l.found.sets l.component l.rows
