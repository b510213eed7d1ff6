use Rattle.std.proofs.Common.{ℕ, ◌<◌}
use Rattle.syntax_trees.specs.declared.program.Class.{Class}
use Rattle.class_outlines.specs.Clashes.{IsTaken}
use Rattle.name_indexes.specs.Places.{StandsAt}
use Rattle.meta_objects.proofs.clashes.first_taken.Given as goal

abbrev pub invariant-loop-place : goal.invariant-loop-place
invariant-loop-place l = (k : ℕ) → k < l.place → ¬ StandsAt (λ (class : Class). IsTaken class.name) l.classes k
