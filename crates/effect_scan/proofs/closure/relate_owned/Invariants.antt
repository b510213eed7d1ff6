use Rattle.effect_scan.specs.code.Adding.{AmongFirst}
use Rattle.effect_scan.specs.code.Relations.{Extends, OwnsRows}
use Rattle.effect_scan.proofs.closure.relate_owned.Given as goal

abbrev pub invariant-loop-owns : goal.invariant-loop-owns
invariant-loop-owns l = Extends (AmongFirst (OwnsRows l.lineage) l.owned l.owns-index) l.initial.relation l.relation
