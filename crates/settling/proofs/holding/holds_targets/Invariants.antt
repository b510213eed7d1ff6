use Rattle.class_sets.specs.Marks.{IsWithin}
use Rattle.settling.proofs.Passing.{AllRead}
use Rattle.settling.proofs.holding.holds_targets.Given as goal

abbrev pub invariant-loop-target : goal.invariant-loop-target
invariant-loop-target l = AllRead (λ other. IsWithin other l.set) l.sets l.targets l.target-index
