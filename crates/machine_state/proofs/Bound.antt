-- What a write and the installing of a binding leave of the world.
use Rattle.std.proofs.Common.{◌≡◌, ℕ, ◌+◌, ◌-◌, List, ◌++◌, refl, ap, sym, ◌∙◌, subst}
use Rattle.meta_model.specs.Loaded.{Loaded}
use Rattle.object_tree.specs.declared.object.Object.{Object}
use Rattle.binding_graph.specs.declared.binding.Binding.{Binding}
use Rattle.binding_graph.specs.declared.place.Place.{Place}
use Rattle.prop_bindings.specs.declared.plans.planned.Planned.{Planned}
use Rattle.binding_graph.specs.Bindings.{without_all}
use Rattle.prop_bindings.specs.Changes.{IsWritten, places_in}
use Rattle.prop_bindings.specs.Fits.{Agree}
use Rattle.prop_bindings.specs.Plans.{after}
use Rattle.trace_entries.specs.declared.entry.Entry.{Entry}
use Rattle.machine_state.specs.declared.world.World.{World}
use Rattle.machine_state.specs.Telling.{Assigning, IsAssigningTold, writes_of}
use Rattle.machine_state.specs.code.Changing.{with_bound, noted, HasWritten}
use Rattle.machine_state.specs.code.Planned.{WillWrite}

-- ---- properties are written
module _ (p : Loaded) (what : Assigning) (w v : World) (plan : Planned) (cs : List Binding) (cs_are : cs ≡ without_all (places_in (writes_of what)) w.store.bindings)
    (will : WillWrite p w.store.tree w.store.bindings (writes_of what) plan) (lines : List Entry) where
  pub has-written : (depth : ℕ) (told : List Entry → World) (changed : List Place) → IsAssigningTold p (after plan w.store.tree) depth what plan.changed lines → changed ≡ plan.changed → v ≡ with_bound (told lines) (after plan w.store.tree) cs → HasWritten p depth what w told changed v
  has-written depth told changed are_told same is =
      let objects : List Object = after plan w.store.tree in
      let made : World = with_bound (told lines) objects cs in
      let writes : IsWritten w.store.bindings cs w.store.tree objects (writes_of what) plan.changed =
      subst (λ (bs : List Binding). IsWritten w.store.bindings bs w.store.tree objects (writes_of what) plan.changed) (sym cs_are) will.writes in
      let has : HasWritten p depth what w told plan.changed made = record { writes = writes; lines = lines; are_told = are_told; gives = refl } in
      subst (λ (xs : List Place). HasWritten p depth what w told xs v) (sym same) (subst (HasWritten p depth what w told plan.changed) (sym is) has)

  pub written-agrees : (told : World) → v ≡ with_bound told (after plan w.store.tree) cs → Agree p v.store.tree v.store.bindings
  written-agrees told is =
      subst (λ (z : World). Agree p z.store.tree z.store.bindings) (sym is)
      (subst (λ (bs : List Binding). Agree p (after plan w.store.tree) bs) (sym cs_are) will.agree)

-- a rule is carried out, and the lines of what it does are written down
pub noted-over : (w v : World) (objects : List Object) (cs : List Binding) (lines trace : List Entry) → trace ≡ w.trace ++ lines → v ≡ with_bound (record w { trace = trace; left = w.left - 1 }) objects cs → v ≡ with_bound (noted w lines) objects cs
noted-over w v objects cs lines trace full is = is ∙ ap (λ (s : List Entry). with_bound (record w { trace = s; left = w.left - 1 }) objects cs) full
