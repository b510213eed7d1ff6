use Rattle.std.proofs.Common.{ℕ, ◌<◌}
use Rattle.name_indexes.specs.Places.{StandsAt}
use Rattle.meta_model.specs.declared.object.MetaWire.{MetaWire}
use Rattle.program_flaws.specs.Wires.{MayServe}
use Rattle.program_flaws.proofs.warned.connects.Wiring.is_served.Given as goal

-- no earlier wire may serve
abbrev pub invariant-loop-wire : goal.invariant-loop-wire
invariant-loop-wire l = (k : ℕ) → k < l.wire-index → ¬ StandsAt (λ (w : MetaWire). MayServe l.self.meta.now w l.wanted) l.wire-items k
