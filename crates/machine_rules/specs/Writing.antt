-- When a property may be written, and what may be notified (docs/machine.md, "Rules").
use Rattle.std.specs.Prelude.{◌≡◌, ℕ, ◌<◌, ◌≤◌, Bool, true, false, List, length, Option, Some, slice_get}
use Rattle.meta_model.specs.declared.object.MetaObject.{MetaObject}
use Rattle.meta_model.specs.declared.object.MetaProperty.{MetaProperty}
use Rattle.meta_model.specs.Loaded.{Loaded}
use Rattle.meta_model.specs.Members.{IsClass}
use Rattle.meta_model.specs.Sound.{IsNotifier}
use Rattle.object_tree.specs.declared.life.Life.{Life}
use Rattle.object_tree.specs.declared.object.Object.{Object}
use Rattle.object_tree.specs.Objects.{Lives}
use Rattle.object_tree.specs.Typed.{ReadsAs}
use Rattle.prop_bindings.specs.declared.plans.assignment.Assignment.{Assignment}
use Rattle.binding_graph.specs.declared.place.Place.{Place}
use Rattle.prop_bindings.specs.Calls.{AllFit}
use Rattle.prop_bindings.specs.Fits.{FitsAt}
use Rattle.basic_types.specs.declared.value.Value.{Value}
use Rattle.trace_entries.specs.declared.fault.Fault.{Fault}
use Rattle.trace_entries.specs.declared.fault.Fault.TheVariants.{BadType, TooDeep}
use Rattle.machine_rules.specs.code.Lacking.{IsAfterFit}
use Rattle.machine_rules.specs.There.{IsField, LacksField}

-- ---- properties are written

-- the properties are there, the values are of their types, and an activation may stand over a stack that shows this
pub record MayWrite (p : Loaded) (depth : ℕ) (active : List (Option ℕ)) (objects : List Object) (writes : List Assignment) : Type 0 where
  pub fit : AllFit p objects writes
  pub room : length active < depth

-- why a value may not be a property's: it isn't there, or the value isn't of its type
pub data IsUnfit (p : Loaded) (objects : List Object) (set : Assignment) : Type 0 where
  missing : LacksField p objects set.place.object set.place.property → IsUnfit p objects set
  ill : {x : Object} {property : MetaProperty} → IsField p objects set.place.object set.place.property x property →
      (¬ ReadsAs p objects set.value property.kind) → IsUnfit p objects set

-- whether it may be
abbrev pub FitsOrNot : Loaded → List Object → Place → Value → Bool → Type 0
FitsOrNot p objects at value true = FitsAt p objects at value
FitsOrNot p objects at value false = IsUnfit p objects (record { place = at; value = value })

-- why properties aren't written: the first of the writes that isn't fit, or activations would nest too deep
pub data IsUnwritten (p : Loaded) (depth : ℕ) (active : List (Option ℕ)) (objects : List Object) (writes : List Assignment) : Fault → Type 0 where
  unfit : {set : Assignment} → IsAfterFit p objects writes set → IsUnfit p objects set → IsUnwritten p depth active objects writes BadType
  deep : AllFit p objects writes → depth ≤ length active → IsUnwritten p depth active objects writes TooDeep

-- ---- a property is notified

-- the property of a class has this notify signal
pub record NotifiesBy (p : Loaded) (class q signal : ℕ) : Type 0 where
  pub object : MetaObject
  pub is_class : IsClass p class object
  pub property : MetaProperty
  pub is : slice_get object.properties q ≡ Some property
  pub is_signal : property.notify ≡ Some signal
  pub sound : IsNotifier object property signal

-- the property of a class has some notify signal
pub record HasNotifier (p : Loaded) (class q : ℕ) : Type 0 where
  pub signal : ℕ
  pub is : NotifiesBy p class q signal

-- the property of an object may be notified: as long as the object lives, there is a notify signal
pub record MayNotify (p : Loaded) (objects : List Object) (at : Place) : Type 0 where
  pub created : at.object < length objects
  pub living : (x : Object) (life : Life) → Lives objects at.object x life → HasNotifier p life.class at.property

-- the living object's property has this notify signal
pub record Announces (p : Loaded) (objects : List Object) (at : Place) (signal : ℕ) : Type 0 where
  pub object : Object
  pub life : Life
  pub lives : Lives objects at.object object life
  pub notifies : NotifiesBy p life.class at.property signal
