-- What a write and a bind make of a state: all values that follow are settled in the same rule, and then notified
-- (docs/machine.md, "Rules" and "Bindings"; Qt 6, "The Property System": a notify signal is emitted when the value has
-- changed; "Qt Bindable Properties").
use Rattle.std.specs.Prelude.{◌≡◌, ℕ, suc, is_some, List, ◌∷◌, ◌++◌, length, filter, Option}
use Rattle.std.specs.List.{AllByRecursion}
use Rattle.std.specs.Option.{option_and_then}
use Rattle.meta_model.specs.declared.object.MetaProperty.{MetaProperty}
use Rattle.meta_model.specs.Loaded.{Loaded}
use Rattle.meta_model.specs.Members.{property_at}
use Rattle.object_tree.specs.declared.object.Object.{Object}
use Rattle.object_tree.specs.Objects.{class_of}
use Rattle.binding_graph.specs.declared.binding.Binding.{Binding}
use Rattle.binding_graph.specs.declared.place.Place.{Place}
use Rattle.binding_graph.specs.Bindings.{without_all, replaced}
use Rattle.prop_bindings.specs.Changes.{IsWritten, IsInstalled, places_in}
use Rattle.trace_entries.specs.declared.entry.Entry.{Entry}
use Rattle.machine_state.specs.declared.changes.telling.Cause.TheVariants.{Bind}
use Rattle.machine_state.specs.State.{State, Activation, Update}
use Rattle.machine_state.specs.Telling.{AreTold, Assigning, IsAssigningTold, writes_of}
use Rattle.machine_rules.specs.There.{HasField}

-- ---- what is notified

-- the notify signal of a property of a living object, if it has one
abbrev pub signal_at : Loaded → List Object → Place → Option ℕ
signal_at p objects at =
    option_and_then (λ (property : MetaProperty). property.notify)
    (option_and_then (λ class. property_at p class at.property) (class_of objects at.object))

-- ---- what changes

-- Objects and bindings are these from now on. What changed is written down as `Tells` says, and those of the changed
-- properties that have a notify signal are still to be notified.
pub record Settles (p : Loaded) (s : State) (below : List Activation) (Tells : List Entry → Type 0)
    (objects : List Object) (bindings : List Binding) (changed : List Place) (t : State) : Type 0 where
  pub lines : List Entry
  pub told : Tells lines
  pub gives : t ≡ record s {
    objects = objects;
    bindings = bindings;
    stack = Update (filter (λ at. is_some (signal_at p objects at)) changed) ∷ below;
    trace = s.trace ++ lines;
  }

-- Properties that are there are written, which ends their bindings: one, or those of a group, all by one rule.
pub record Writes (p : Loaded) (s : State) (below : List Activation) (what : Assigning) (t : State) : Type 0 where
  pub there : AllByRecursion (HasField p s.objects) (places_in (writes_of what))
  pub objects : List Object
  pub changed : List Place
  pub written : IsWritten s.bindings (without_all (places_in (writes_of what)) s.bindings) s.objects objects (writes_of what) changed
  pub settles : Settles p s below (IsAssigningTold p objects (suc (length below)) what changed) objects
      (without_all (places_in (writes_of what)) s.bindings) changed t

-- A binding is installed in place of its target's old one, and stands last. Whether it closes a chain of bindings is not
-- asked: that is a bad moment, and not forbidden.
pub record Installs (p : Loaded) (s : State) (below : List Activation) (b : Binding) (t : State) : Type 0 where
  pub there : HasField p s.objects b.target
  pub objects : List Object
  pub changed : List Place
  pub installed : IsInstalled s.bindings (replaced s.bindings b) s.objects objects b changed
  pub settles : Settles p s below (AreTold p objects (suc (length below)) Bind b.target changed) objects
      (replaced s.bindings b) changed t

-- ---- a part of these, as the code does it

-- those of the changed properties that have a notify signal, in their order
abbrev pub notified : Loaded → List Object → List Place → List Place
notified p objects changed = filter (λ at. is_some (signal_at p objects at)) changed
