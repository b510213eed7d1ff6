use Rattle.std.proofs.Common.{ℕ, ◌<◌}
use Rattle.syntax_trees.specs.declared.program.Signal.{Signal}
use Rattle.class_outlines.specs.Conditions.{RepeatsName}
use Rattle.name_indexes.specs.Places.{StandsAt}
use Rattle.meta_objects.proofs.clashes.repeated_in_signals.Given as goal

abbrev pub invariant-loop-place : goal.invariant-loop-place
invariant-loop-place l = (k : ℕ) → k < l.place → ¬ StandsAt (λ (signal : Signal). RepeatsName signal.parameters) l.class.signals k
