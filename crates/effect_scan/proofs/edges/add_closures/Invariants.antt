use Rattle.effect_scan.specs.code.Adding.{Adds}
use Rattle.effect_scan.specs.code.Adding.{AmongFirst}
use Rattle.effect_scan.specs.code.Leading.{ClosureLeads}
use Rattle.effect_scan.proofs.edges.add_closures.Given as goal

abbrev pub invariant-loop-class : goal.invariant-loop-class
invariant-loop-class l = Adds (AmongFirst (ClosureLeads l.places) l.closures l.class) l.initial.rows l.rows
