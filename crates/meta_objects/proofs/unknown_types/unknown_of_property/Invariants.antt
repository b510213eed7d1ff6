use Rattle.std.proofs.Common.{ℕ, ◌<◌}
use Rattle.class_outlines.specs.Conditions.{LacksPropertyType}
use Rattle.name_indexes.specs.Places.{StandsAt}
use Rattle.meta_objects.proofs.unknown_types.unknown_of_property.Given as goal

abbrev pub invariant-loop-place : goal.invariant-loop-place
invariant-loop-place l = (k : ℕ) → k < l.place → ¬ StandsAt (LacksPropertyType l.outlines) l.class.properties k
