use Rattle.std.proofs.Common.{ℕ, ◌<◌}
use Rattle.name_indexes.specs.Places.{StandsAt}
use Rattle.class_outlines.specs.DeclaredSites.{UsesReference}
use Rattle.meta_objects.proofs.site_references.bound_reference.Given as goal

abbrev pub invariant-loop-place : goal.invariant-loop-place
invariant-loop-place l = (k : ℕ) → k < l.place → ¬ StandsAt (UsesReference l.outlines) l.program.sites k
