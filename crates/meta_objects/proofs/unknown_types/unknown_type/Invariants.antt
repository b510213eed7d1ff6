use Rattle.std.proofs.Common.{ℕ, ◌<◌}
use Rattle.name_indexes.specs.Places.{StandsAt}
use Rattle.meta_objects.specs.code.OwnTypes.{DeclaresUnknown}
use Rattle.meta_objects.proofs.unknown_types.unknown_type.Given as goal

abbrev pub invariant-loop-number : goal.invariant-loop-number
invariant-loop-number l = (k : ℕ) → k < l.number → ¬ StandsAt (DeclaresUnknown l.outlines) l.program.classes k
