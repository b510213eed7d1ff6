-- Why nothing is written.
use Rattle.std.proofs.Common.{◌≡◌, ℕ, List, Result, Ok, Err, IsErrAnd, inl, inr, refl, sym, ◌∙◌, subst}
use Rattle.basic_types.specs.declared.value.Value.{Value}
use Rattle.meta_model.specs.Loaded.{Loaded}
use Rattle.object_tree.specs.declared.object.Object.{Object}
use Rattle.binding_graph.specs.declared.place.Place.{Place}
use Rattle.prop_bindings.specs.declared.plans.fault.WriteFault.{WriteFault}
use Rattle.prop_bindings.specs.Calls.{IsNotWritten, bad_type, no_memory}
use Rattle.prop_bindings.specs.Changes.{one}
use Rattle.prop_bindings.specs.Fits.{FitsAt}
use Rattle.trace_entries.specs.declared.entry.Entry.{Entry}
use Rattle.trace_entries.specs.declared.fault.Fault.{Fault}
use Rattle.trace_entries.specs.declared.fault.Fault.TheVariants.{Memory}
use Rattle.machine_state.specs.declared.world.World.{World}
use Rattle.machine_state.specs.Telling.{Assigning}
use Rattle.machine_state.specs.code.Changing.{WritesIn}
use Rattle.machine_state.specs.code.Trying.{fault_of, IsUnplanned, TriesWrite}

-- a write wasn't planned
pub unplanned : {p : Loaded} {objects : List Object} {at : Place} {v : Value} {k : WriteFault} → IsNotWritten p objects (one at v) k → IsUnplanned p objects at v (fault_of k)
unplanned (bad_type not) = inl (refl, λ fits. not (fits, tt))
unplanned no_memory = inr refl

-- .. and nothing was written
pub tries-not : (p : Loaded) (depth : ℕ) (at : Place) (value : Value) (w v : World) {f : Fault} → v ≡ w → (r : Result (List Place) Fault) → IsUnplanned p w.store.tree at value f → IsErrAnd r (λ y. y ≡ f) → TriesWrite p depth at value w r v
tries-not p depth at value w v same (Ok x) why is = absurd is
tries-not p depth at value w v same (Err fault) why is = (subst (IsUnplanned p w.store.tree at value) (sym is) why, same)

-- a value that fits isn't written only where memory was refused
pub writes-not : (p : Loaded) (depth : ℕ) (what : Assigning) (at : Place) (value : Value) (w : World) (told : List Entry → World) {f : Fault} (r : Result (List Place) Fault) → FitsAt p w.store.tree at value → IsUnplanned p w.store.tree at value f → IsErrAnd r (λ y. y ≡ f) → WritesIn p depth what w told r w
writes-not p depth what at value w told (Ok x) fits why is = absurd is
writes-not p depth what at value w told {f} (Err fault) fits why is =
    let short : f ≡ Memory = elim why [
      | inl ill ↦ absurd (ill.1 fits)
      | inr short ↦ short
    ] in
    (is ∙ short, refl)
