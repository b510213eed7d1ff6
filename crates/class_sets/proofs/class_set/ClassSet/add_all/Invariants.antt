use Rattle.std.proofs.Common.{take}
use Rattle.std.specs.List.{Contains}
use Rattle.class_sets.specs.Marks.{Marks}
use Rattle.class_sets.proofs.class_set.ClassSet.add_all.Given as goal

abbrev pub invariant-loop-class : goal.invariant-loop-class
invariant-loop-class l = Marks (Contains (take l.class-index l.classes)) l.initial.self l.self
