use Rattle.std.proofs.Common.{ℕ, ◌<◌}
use Rattle.syntax_trees.specs.declared.program.Slot.{Slot}
use Rattle.class_outlines.specs.Natives.{TouchesReference}
use Rattle.name_indexes.specs.Places.{StandsAt}
use Rattle.meta_objects.proofs.native_types.touched_in_class.Given as goal

abbrev pub invariant-loop-place : goal.invariant-loop-place
invariant-loop-place l = (k : ℕ) → k < l.place → ¬ StandsAt (λ (slot : Slot). TouchesReference l.outlines l.class.name slot.parameters slot.work) l.class.slots k
