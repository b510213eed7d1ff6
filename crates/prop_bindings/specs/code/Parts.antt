-- The parts of a write and a bind.
use Rattle.std.specs.{Prelude.{◌≡◌, ℕ, List, [], ◌∷◌, ◌++◌, All, Option, Some, Result, Ok, Err}, Option.{is_some, option_map, unwrap_or}}
use Rattle.basic_types.specs.declared.value.Value.{Value}
use Rattle.indexmap.specs.IndexMap.{IndexMap, get}
use Rattle.meta_model.specs.Loaded.{Loaded}
use Rattle.object_tree.specs.{declared.object.Object.{Object}, Objects.{change_life, written}, Typed.{AreTyped}}
use Rattle.binding_graph.specs.{declared.place.Place.{Place}, declared.binding.Binding.{Binding}, Places.{In, is_in}, Bindings.{binding_at, replaced, without_all, value_of, Loop}, code.Keys.{key_of, same_key}, code.Orders.{IsLater}}
use Rattle.prop_bindings.specs.{declared.plans.assignment.Assignment.{Assignment}, declared.plans.fault.BindFault.{BindFault}, declared.plans.planned.Planned.{Planned}, declared.plans.planned.PlannedBind.{PlannedBind}, declared.preparing.PreparedBinding.{PreparedBinding}, Values.{values_in}, Calls.{AllFit, MayBind, IsNotBound, new_binding}, Changes.{AreChanged, IsInstalled, IsWritten, once, one, places_in}, Counts.{CountsReached}, Fits.{FitsAt, IsFit, IsInOneLoop, Agree}, Plans.{assigned, after}}
use Rattle.prop_bindings.specs.declared.plans.fault.BindFault.TheVariants as bind

-- ---- values to come
-- the objects once these properties have their values
abbrev pub ahead : {S : Type 0} → IndexMap (ℕ × ℕ) Value S → List Object → List Object
ahead values objects = assigned values.entries objects

-- what a property reads then: the value that it is to have, if it is to have one, or its own
abbrev pub value_ahead : {S : Type 0} → IndexMap (ℕ × ℕ) Value S → List Object → Place → Option Value
value_ahead values objects q = option_map (unwrap_or (get same_key values (key_of q))) (values_in objects q)

-- no other property is to have another value
abbrev pub GivesOnly : {S : Type 0} → List Place → IndexMap (ℕ × ℕ) Value S → List Object → Type 0
GivesOnly targets values objects = (q : Place) → (¬ In q targets) → values_in (ahead values objects) q ≡ values_in objects q

-- each of these properties has the value already that it is to have
abbrev pub HaveAhead : {S : Type 0} → IndexMap (ℕ × ℕ) Value S → List Object → List Place → Type 0
HaveAhead values objects ps = (q : Place) → In q ps → values_in (ahead values objects) q ≡ values_in objects q

-- the property is added to those of some that changed, if it did
abbrev pub AddsChanged : List Object → List Object → Place → List Place → List Place → Type 0
AddsChanged old new p changed more = (ps : List Place) → AreChanged old new ps changed → AreChanged old new (ps ++ p ∷ []) more

-- ---- values and types alone
abbrev pub AreSound : Loaded → List Object → List Binding → Type 0
AreSound p objects bs = AreTyped p objects × All (IsFit p objects) bs

-- the bindings are sound by some program, and stay so by each by which they were
abbrev pub IsSoundBySome : List Object → List Binding → Type 0
IsSoundBySome objects bs = (p : Loaded) × AreSound p objects bs

abbrev pub StaySound : List Object → List Object → List Binding → Type 0
StaySound old new bs = (p : Loaded) → AreSound p old bs → AreSound p new bs

-- ---- writes
-- the objects once these writes were carried out in turn, and nothing followed from them
abbrev pub wrote : List Assignment → List Object → List Object
wrote [] objects = objects
wrote (a ∷ rest) objects = wrote rest (change_life a.place.object (written a.place.property a.value) objects)

-- the properties that are written, each once, with the values that are written last
pub record AreGiven {S : Type 0} (writes : List Assignment) (targets : List Place) (values : IndexMap (ℕ × ℕ) Value S)
    : Type 0 where
  pub each : targets ≡ once (places_in writes)
  pub keyed : (q : Place) → is_some (get same_key values (key_of q)) ≡ is_in targets q
  pub begun : (objects : List Object) → ahead values objects ≡ wrote writes objects

-- the writes may be, and these are their properties and values
pub record MayGive {S : Type 0} (p : Loaded) (objects : List Object) (bs : List Binding) (writes : List Assignment)
    (targets : List Place) (values : IndexMap (ℕ × ℕ) Value S) : Type 0 where
  pub agree : Agree p objects bs
  pub fits : AllFit p objects writes
  pub given : AreGiven writes targets values

abbrev pub MayGiveSome : {S : Type 0} → List Object → List Binding → List Place → IndexMap (ℕ × ℕ) Value S → Type 0
MayGiveSome objects bs targets values = (p : Loaded) × (writes : List Assignment) × MayGive p objects bs writes targets values

-- these writes lead to the new objects, and what follows from them was evaluated
pub record LeadTo (p : Loaded) (objects : List Object) (bs : List Binding) (writes : List Assignment) (new : List Object)
    (changed : List Place) (n : ℕ) : Type 0 where
  pub written : IsWritten bs (without_all (places_in writes) bs) objects new writes changed
  pub agree : Agree p new (without_all (places_in writes) bs)
  pub counted : CountsReached (binding_at (without_all (places_in writes) bs)) (places_in writes) changed n

-- the plan is of these writes
abbrev pub PlansThem : Loaded → List Object → List Binding → List Assignment → Planned → Type 0
PlansThem p objects bs writes plan = LeadTo p objects bs writes (after plan objects) plan.changed plan.evaluated

-- the plan is of whichever writes give these properties these values
abbrev pub PlansGiven : {S : Type 0} → List Object → List Binding → List Place → IndexMap (ℕ × ℕ) Value S → Planned → Type 0
PlansGiven objects bs targets values plan =
    (p : Loaded) (writes : List Assignment) → MayGive p objects bs writes targets values → PlansThem p objects bs writes plan

-- the value is of the property's type by some program, by which the bindings agree with the objects
abbrev pub MayWriteOne : List Object → List Binding → Place → Value → Type 0
MayWriteOne objects bs at v = (p : Loaded) × Agree p objects bs × FitsAt p objects at v

-- by each such program the plan is of this write
abbrev pub PlansOne : List Object → List Binding → Place → Value → Planned → Type 0
PlansOne objects bs at v plan = (p : Loaded) → Agree p objects bs → FitsAt p objects at v → PlansThem p objects bs (one at v) plan

-- ---- what holds before a bind and after it
-- where a binding is to be installed whose expression has this value
abbrev pub AgreesWith : List Object → List Binding → Binding → Value → Type 0
AgreesWith objects bs b v =
    (p : Loaded) × Agree p objects bs × IsFit p objects b × IsInOneLoop objects b × (value_of b (values_in objects) ≡ Some v)

-- after a bind, bindings and objects agree by each program by which it may be installed
abbrev pub StayAgreeing : List Object → List Object → List Binding → List Binding → Binding → Type 0
StayAgreeing old new bs cs b = (p : Loaded) → Agree p old bs → IsFit p old b → IsInOneLoop old b → Agree p new cs

-- ---- a bind
-- a binding that may be installed if it closes no chain, with its expression's value
pub record IsPrepared (p : Loaded) (objects : List Object) (number target : ℕ)
    (sources : List ℕ) (b : Binding) (v : Value) : Type 0 where
  pub may : MayBind p objects number target sources
  pub is : b ≡ new_binding may
  pub fit : IsFit p objects b
  pub has : value_of b (values_in objects) ≡ Some v

-- whatever is installed already
abbrev pub Prepares : Loaded → ℕ → ℕ → List ℕ → List Object → Result PreparedBinding BindFault → Type 0
Prepares p number target sources objects (Ok found) =
    IsPrepared p objects number target sources found.binding found.value
Prepares p number target sources objects (Err fault) =
    (bs : List Binding) → IsNotBound p objects bs number target sources fault

-- why one that may be isn't
pub data IsNotInstalled (bs : List Binding) (b : Binding) : BindFault → Type 0 where
  loops : Loop (binding_at (replaced bs b)) → IsNotInstalled bs b bind.BindingLoop
  short : IsNotInstalled bs b bind.Memory

-- the plan is to install this binding, which closes no chain
pub record InstallsIt (b : Binding) (bs : List Binding) (objects : List Object) (plan : PlannedBind) : Type 0 where
  pub binding : plan.reader ≡ b
  pub installs : IsInstalled bs (replaced bs plan.reader) objects (after plan.planned objects) b plan.planned.changed
  pub acyclic : ¬ Loop (binding_at (replaced bs plan.reader))

abbrev pub Installs : Binding → List Binding → List Object → Result PlannedBind BindFault → Type 0
Installs b bs objects (Ok plan) = InstallsIt b bs objects plan
Installs b bs objects (Err fault) = IsNotInstalled bs b fault

-- what a planned bind moves in the order of evaluation is its target and what chains lead to from it
pub record MayInstall (bs : List Binding) (plan : PlannedBind) : Type 0 where
  pub later : IsLater (binding_at bs) (binding_at (replaced bs plan.reader)) plan.reader.target plan.moved.items
