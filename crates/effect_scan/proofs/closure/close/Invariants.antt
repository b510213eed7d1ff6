use Rattle.effect_scan.specs.code.Relations.{Closing}
use Rattle.effect_scan.proofs.closure.close.Given as goal

abbrev pub invariant-loop-class : goal.invariant-loop-class
invariant-loop-class l = Closing l.class l.initial.relation l.relation
