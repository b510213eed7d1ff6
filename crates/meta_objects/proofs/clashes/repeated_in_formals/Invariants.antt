use Rattle.std.proofs.Common.{ℕ, ◌<◌}
use Rattle.class_outlines.specs.DeclaredSites.{RepeatsFormal}
use Rattle.name_indexes.specs.Places.{StandsAt}
use Rattle.meta_objects.proofs.clashes.repeated_in_formals.Given as goal

abbrev pub invariant-loop-place : goal.invariant-loop-place
invariant-loop-place l = (k : ℕ) → k < l.place → ¬ StandsAt RepeatsFormal l.program.sites k
