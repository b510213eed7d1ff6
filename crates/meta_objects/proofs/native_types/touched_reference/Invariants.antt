use Rattle.std.proofs.Common.{ℕ, ◌<◌}
use Rattle.class_outlines.specs.Natives.{HasReferenceNative}
use Rattle.name_indexes.specs.Places.{StandsAt}
use Rattle.meta_objects.proofs.native_types.touched_reference.Given as goal

abbrev pub invariant-loop-number : goal.invariant-loop-number
invariant-loop-number l = (k : ℕ) → k < l.number → ¬ StandsAt (HasReferenceNative l.outlines) l.program.classes k
