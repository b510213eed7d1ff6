-- Settled values are determined by the bindings and by what isn't bound (docs/machine.md, "Bindings").
use Rattle.std.specs.Prelude.{◌≡◌, List, Option, None}
use Rattle.basic_types.specs.declared.value.Value.{Value}
use Rattle.binding_graph.specs.declared.place.Place.{Place}
use Rattle.binding_graph.specs.declared.binding.Binding.{Binding}
use Rattle.binding_graph.specs.Bindings.{binding_at, AreApart, Settled, Loop}

-- the values agree with e on what isn't bound
abbrev pub AgreesUnbound : (Place → Option Binding) → (Place → Option Value) → (Place → Option Value) → Type 0
AgreesUnbound F e f = (p : Place) → F p ≡ None → f p ≡ e p

-- over whatever other values, there is exactly one settled state
pub record Determines (F : Place → Option Binding) : Type 0 where
  pub some : (e : Place → Option Value) → (f : Place → Option Value) × Settled F f × AgreesUnbound F e f
  pub once : (e f : Place → Option Value) → Settled F e → Settled F f → AgreesUnbound F e f → (p : Place) → f p ≡ e p

-- bindings of which no chain leads from a property back to itself have exactly one settled state over given other values
abbrev pub AcyclicDetermine : Type 0
AcyclicDetermine = (bs : List Binding) → AreApart bs → (¬ Loop (binding_at bs)) → Determines (binding_at bs)
