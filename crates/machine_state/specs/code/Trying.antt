-- Writes of values that may not be of their properties' types.
use Rattle.std.specs.Prelude.{◌≡◌, ℕ, ◌⊎◌, List, Result, Ok, Err}
use Rattle.basic_types.specs.declared.value.Value.{Value}
use Rattle.meta_model.specs.Loaded.{Loaded}
use Rattle.object_tree.specs.declared.object.Object.{Object}
use Rattle.binding_graph.specs.declared.place.Place.{Place}
use Rattle.prop_bindings.specs.declared.plans.fault.WriteFault.{WriteFault}
use Rattle.prop_bindings.specs.declared.plans.fault.WriteFault.TheVariants as write
use Rattle.prop_bindings.specs.Fits.{FitsAt}
use Rattle.trace_entries.specs.declared.fault.Fault.{Fault}
use Rattle.trace_entries.specs.declared.fault.Fault.TheVariants.{BadType, Memory}
use Rattle.machine_state.specs.declared.world.World.{World}
use Rattle.machine_state.specs.Telling.{Alone}
use Rattle.machine_state.specs.code.Changing.{noted, HasWritten}

-- the fault of a run for one of a write
abbrev pub fault_of : WriteFault → Fault
fault_of write.BadType = BadType
fault_of write.Memory = Memory

-- why a write isn't planned: the value isn't of the property's type, or memory was refused
abbrev pub IsUnplanned : Loaded → List Object → Place → Value → Fault → Type 0
IsUnplanned p objects at value fault = (fault ≡ BadType) × (¬ FitsAt p objects at value) ⊎ (fault ≡ Memory)

-- the value is of the property's type, this was written, and it is written down; or nothing changed
abbrev pub TriesWrite : Loaded → ℕ → Place → Value → World → Result (List Place) Fault → World → Type 0
TriesWrite p depth at value w (Ok changed) v =
    FitsAt p w.store.tree at value × HasWritten p depth (Alone at value) w (noted w) changed v
TriesWrite p depth at value w (Err fault) v = IsUnplanned p w.store.tree at value fault × (v ≡ w)
