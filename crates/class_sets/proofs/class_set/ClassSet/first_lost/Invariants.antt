use Rattle.std.proofs.Common.{◌<◌, ℕ}
use Rattle.class_sets.specs.Marks.{IsMarked}
use Rattle.class_sets.proofs.class_set.ClassSet.first_lost.Given as goal

abbrev pub invariant-loop-class : goal.invariant-loop-class
invariant-loop-class l = (d : ℕ) → d < l.class → IsMarked l.self d → IsMarked l.other d
