use Rattle.std.proofs.Common.{ℕ, ◌<◌}
use Rattle.class_outlines.specs.Conditions.{RepeatsInMethod}
use Rattle.name_indexes.specs.Places.{StandsAt}
use Rattle.meta_objects.proofs.clashes.repeated_in_classes.Given as goal

abbrev pub invariant-loop-number : goal.invariant-loop-number
invariant-loop-number l = (k : ℕ) → k < l.number → ¬ StandsAt RepeatsInMethod l.program.classes k
