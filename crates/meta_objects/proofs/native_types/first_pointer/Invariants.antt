use Rattle.std.proofs.Common.{ℕ, ◌<◌}
use Rattle.class_outlines.specs.Natives.{IsPointer}
use Rattle.name_indexes.specs.Places.{StandsAt}
use Rattle.meta_objects.proofs.native_types.first_pointer.Given as goal

abbrev pub invariant-loop-place : goal.invariant-loop-place
invariant-loop-place l = (k : ℕ) → k < l.place → ¬ StandsAt IsPointer l.types k
