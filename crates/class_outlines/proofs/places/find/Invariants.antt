use Rattle.std.proofs.Common.{ℕ, ◌<◌}
use Rattle.name_indexes.specs.Places.{StandsAt}
use Rattle.class_outlines.proofs.places.find.Given as goal

abbrev pub invariant-loop-place : goal.invariant-loop-place
invariant-loop-place g l = (k : ℕ) → k < l.place → ¬ StandsAt (λ item. g.T.Named.has_name item l.name) l.items k
