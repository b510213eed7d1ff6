use Rattle.class_sets.specs.Marks.{IsMarked}
use Rattle.effect_scan.specs.code.NodePlaces.{Lists}
use Rattle.effect_scan.proofs.closure.marked.Given as goal

abbrev pub invariant-loop-class : goal.invariant-loop-class
invariant-loop-class l = Lists (IsMarked l.set) l.class l.classes
