use Rattle.std.proofs.Common.{ℕ, ◌<◌}
use Rattle.syntax_trees.specs.declared.program.Parameter.{Parameter}
use Rattle.class_outlines.specs.DeclaredKinds.{LacksType}
use Rattle.name_indexes.specs.Places.{StandsAt}
use Rattle.meta_objects.proofs.unknown_types.unknown_of_parameter.Given as goal

abbrev pub invariant-loop-place : goal.invariant-loop-place
invariant-loop-place l = (k : ℕ) → k < l.place → ¬ StandsAt (λ (p : Parameter). LacksType l.outlines p.kind) l.parameters k
