use Rattle.std.proofs.Common.{◌<◌, ℕ, get_or}
use Rattle.class_sets.specs.Marks.{IsMarked}
use Rattle.settling.proofs.holding.holds_all.Given as goal

abbrev pub invariant-loop-class : goal.invariant-loop-class
invariant-loop-class l = (k : ℕ) → k < l.class-index → IsMarked l.set (get_or l.classes k 0)
