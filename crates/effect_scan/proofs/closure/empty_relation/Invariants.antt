use Rattle.effect_scan.proofs.Relating.{EmptyFirst}
use Rattle.effect_scan.proofs.closure.empty_relation.Given as goal

abbrev pub invariant-loop-class : goal.invariant-loop-class
invariant-loop-class l = EmptyFirst l.count l._class l.relation.items
