use Rattle.std.proofs.Common.{ℕ, ◌<◌}
use Rattle.std.specs.Prelude.{Any}
use Rattle.basic_types.specs.declared.sig.Sig.{Sig}
use Rattle.class_outlines.specs.Natives.{IsPointer}
use Rattle.name_indexes.specs.Places.{StandsAt}
use Rattle.meta_objects.proofs.native_types.emitted_reference.Given as goal

abbrev pub invariant-loop-sig : goal.invariant-loop-sig
invariant-loop-sig l = (k : ℕ) → k < l.sig-index → ¬ StandsAt (λ (sig : Sig). Any IsPointer sig.types) l.signals k
