-- Changes of properties that are planned, and not carried out yet.
use Rattle.std.specs.Prelude.{◌≡◌, ℕ, cond, false, List, [], ◌∷◌, ◌++◌, Option}
use Rattle.std.specs.List.{AllByRecursion, AllZip}
use Rattle.basic_types.specs.declared.value.Value.{Value}
use Rattle.meta_model.specs.Loaded.{Loaded}
use Rattle.object_tree.specs.declared.object.Object.{Object}
use Rattle.prop_bindings.specs.declared.plans.assignment.Assignment.{Assignment}
use Rattle.binding_graph.specs.declared.binding.Binding.{Binding}
use Rattle.binding_graph.specs.declared.place.Place.{Place}
use Rattle.prop_bindings.specs.declared.plans.planned.Planned.{Planned}
use Rattle.prop_bindings.specs.declared.plans.planned.PlannedGroup.{PlannedGroup}
use Rattle.prop_bindings.specs.declared.plans.planned.PlannedWrite.{PlannedWrite}
use Rattle.binding_graph.specs.Bindings.{without_all}
use Rattle.prop_bindings.specs.Changes.{DifferInValues, IsWritten, once, one, places_in}
use Rattle.binding_graph.specs.Places.{is_in, same_place}
use Rattle.prop_bindings.specs.Fits.{Agree}
use Rattle.prop_bindings.specs.Plans.{after}
use Rattle.trace_entries.specs.declared.entry.Entry.{Entry}
use Rattle.machine_state.specs.declared.changes.telling.Cause.{Cause}
use Rattle.machine_state.specs.declared.changes.telling.Cause.TheVariants.{Follow}
use Rattle.machine_state.specs.Telling.{AreTold, HasValue, IsGroupTold, IsTold, IsToldWith, IsSetTold, others}

-- these properties have values
abbrev pub HaveValues : Loaded → List Object → List Place → Type 0
HaveValues p objects places = AllByRecursion (HasValue p objects) places

-- the property's line with this value, whatever other values properties have then
abbrev pub WillBeTold : Loaded → List Object → ℕ → Cause → Place → Value → Entry → Type 0
WillBeTold p objects depth cause at value entry =
    (new : List Object) → DifferInValues objects new → HasValue p new at → IsToldWith p new depth cause at value entry

-- what is left of properties behind this one, if it stands first
abbrev pub behind : Place → List Place → List Place
behind p [] = []
behind p (q ∷ qs) = cond (same_place q p) qs (q ∷ qs)

-- those of some properties that change stand first, in their order, and then the others
pub data StandFirst (others : List Place) : List Place → List Place → Type 0 where
  none_left : StandFirst others [] others
  changes : {p : Place} {ps changed : List Place} → StandFirst others ps changed → StandFirst others (p ∷ ps) (p ∷ changed)
  stays : {p : Place} {ps changed : List Place} → is_in changed p ≡ false → StandFirst others ps changed
      → StandFirst others (p ∷ ps) changed

-- The properties that are written or bound and those that will change have values, before it and afterwards, and nothing
-- else differs. Of those that will change the ones that are written or bound stand first.
pub record CanBeTold (p : Loaded) (objects : List Object) (written : List Place) (plan : Planned) : Type 0 where
  pub have : HaveValues p objects written
  pub will_have : HaveValues p (after plan objects) written
  pub changed_have : HaveValues p objects plan.changed
  pub changed_will_have : HaveValues p (after plan objects) plan.changed
  pub differ : DifferInValues objects (after plan objects)
  pub first : StandFirst (others written plan.changed) (once written) plan.changed

-- once the plan is carried out, these are written
pub record WillWrite (p : Loaded) (objects : List Object) (bs : List Binding) (assigned : List Assignment) (plan : Planned)
    : Type 0 where
  pub writes : IsWritten bs (without_all (places_in assigned) bs) objects (after plan objects) assigned plan.changed
  pub agree : Agree p (after plan objects) (without_all (places_in assigned) bs)

-- once a plan of one write is carried out, this is written
pub record WillWriteOne (p : Loaded) (objects : List Object) (bs : List Binding) (at : Place) (value : Value) (plan : PlannedWrite)
    : Type 0 where
  pub target : plan.target ≡ at
  pub will : WillWrite p objects bs (one at value) plan.planned

-- once a plan of several writes is carried out, these are written
pub record WillWriteAll (p : Loaded) (objects : List Object) (bs : List Binding) (writes : List Assignment) (plan : PlannedGroup)
    : Type 0 where
  pub targets : plan.targets ≡ once (places_in writes)
  pub left : without_all plan.targets bs ≡ without_all (places_in writes) bs
  pub will : WillWrite p objects bs writes plan.planned

-- entries were added behind those that stood there
pub record Extends (old new : List Entry) : Type 0 where
  pub more : List Entry
  pub are : new ≡ old ++ more

-- the lines of a group's sets were added
pub record AddsSets (p : Loaded) (objects : List Object) (depth : ℕ) (sets : List (Option Assignment)) (old new : List Entry)
    : Type 0 where
  pub lines : List Entry
  pub told : AllZip (IsSetTold p objects depth) sets lines
  pub are : new ≡ old ++ lines

-- the lines of properties that follow were added
pub record AddsFollowers (p : Loaded) (objects : List Object) (depth : ℕ) (followers : List Place) (old new : List Entry)
    : Type 0 where
  pub lines : List Entry
  pub told : AllZip (IsTold p objects depth Follow) followers lines
  pub are : new ≡ old ++ lines

-- the lines of a property that is written or bound, and of each other one that changes, were added
pub record AddsTold (p : Loaded) (objects : List Object) (depth : ℕ) (cause : Cause) (first : Place) (changed : List Place)
    (old new : List Entry) : Type 0 where
  pub lines : List Entry
  pub told : AreTold p objects depth cause first changed lines
  pub are : new ≡ old ++ lines

-- the lines of a group, of its sets, and of each other property that changes, were added
pub record AddsGroup (p : Loaded) (objects : List Object) (depth : ℕ) (sets : List (Option Assignment)) (changed : List Place)
    (old new : List Entry) : Type 0 where
  pub lines : List Entry
  pub told : IsGroupTold p objects depth sets changed lines
  pub are : new ≡ old ++ lines
