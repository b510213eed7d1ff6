use Rattle.std.proofs.Common.{ℕ, ◌<◌}
use Rattle.std.specs.Prelude.{Any}
use Rattle.syntax_trees.specs.declared.program.Signal.{Signal}
use Rattle.class_outlines.specs.DeclaredKinds.{LacksType}
use Rattle.class_outlines.specs.Outlines.{types_of}
use Rattle.name_indexes.specs.Places.{StandsAt}
use Rattle.meta_objects.proofs.unknown_types.unknown_in_signals.Given as goal

abbrev pub invariant-loop-place : goal.invariant-loop-place
invariant-loop-place l = (k : ℕ) → k < l.place → ¬ StandsAt (λ (s : Signal). Any (LacksType l.outlines) (types_of s.parameters)) l.class.signals k
