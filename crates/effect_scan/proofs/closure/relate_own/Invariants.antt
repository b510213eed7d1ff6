use Rattle.effect_scan.specs.code.Relations.{Extends, IsOwn}
use Rattle.effect_scan.proofs.closure.relate_own.Given as goal

abbrev pub invariant-loop-class : goal.invariant-loop-class
invariant-loop-class l = Extends (IsOwn l.class) l.initial.relation l.relation
