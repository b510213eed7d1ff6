use Rattle.effect_scan.specs.code.Adding.{Adds}
use Rattle.effect_scan.specs.code.Adding.{AmongFirst}
use Rattle.effect_scan.specs.code.Leading.{PropertyLeads}
use Rattle.effect_scan.proofs.edges.add_properties.Given as goal

abbrev pub invariant-loop-place : goal.invariant-loop-place
invariant-loop-place l = Adds (AmongFirst (PropertyLeads l.places l.number) l.class.properties l.place) l.initial.rows l.rows
