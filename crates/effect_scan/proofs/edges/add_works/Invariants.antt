use Rattle.effect_scan.specs.code.Adding.{Adds}
use Rattle.effect_scan.specs.code.Adding.{AmongFirst}
use Rattle.effect_scan.specs.code.Leading.{MethodsLead}
use Rattle.effect_scan.proofs.edges.add_works.Given as goal

abbrev pub invariant-loop-number : goal.invariant-loop-number
invariant-loop-number l = Adds (AmongFirst (MethodsLead l.places) l.classes l.number) l.initial.rows l.rows
