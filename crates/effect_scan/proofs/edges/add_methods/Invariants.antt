use Rattle.effect_scan.specs.code.Adding.{Adds}
use Rattle.effect_scan.specs.code.Adding.{AmongFirst}
use Rattle.effect_scan.specs.code.Leading.{MethodLeads}
use Rattle.effect_scan.proofs.edges.add_methods.Given as goal

abbrev pub invariant-loop-place : goal.invariant-loop-place
invariant-loop-place l = Adds (AmongFirst (MethodLeads l.places l.number) l.class.methods l.place) l.initial.rows l.rows
