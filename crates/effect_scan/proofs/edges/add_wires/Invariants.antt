use Rattle.effect_scan.specs.code.Adding.{Adds}
use Rattle.effect_scan.specs.code.Adding.{AmongFirst}
use Rattle.effect_scan.specs.code.Leading.{WireLeads}
use Rattle.effect_scan.proofs.edges.add_wires.Given as goal

abbrev pub invariant-loop-wire : goal.invariant-loop-wire
invariant-loop-wire l = Adds (AmongFirst (λ _. WireLeads l.places) l.wires l.wire-index) l.initial.rows l.rows
