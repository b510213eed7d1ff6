use Rattle.std.proofs.Common.{ℕ, ◌<◌}
use Rattle.class_outlines.specs.DeclaredSites.{IsReferenceIn}
use Rattle.name_indexes.specs.Places.{StandsAt}
use Rattle.meta_objects.proofs.native_types.named_reference.Given as goal

abbrev pub invariant-loop-place : goal.invariant-loop-place
invariant-loop-place l = (k : ℕ) → k < l.place → ¬ StandsAt (IsReferenceIn l.outlines l.class) l.names k
