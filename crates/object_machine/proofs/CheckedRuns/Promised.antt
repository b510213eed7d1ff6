-- What is left of the answers of natives (docs/natives.md, "The promise"): each action names a signal or a property of the
-- object whose body it is, and gives it values of its types.
use Rattle.std.specs.Prelude.{◌≡◌, ℕ, IsTrue, List, Option, Some, slice_get}
use Rattle.std.specs.List.{AllByRecursion}
use Rattle.basic_types.specs.declared.value.Value.{Value}
use Rattle.meta_model.specs.declared.effects.MetaEffects.{MetaEffects}
use Rattle.meta_model.specs.declared.object.MetaMethod.{MetaMethod}
use Rattle.meta_model.specs.declared.object.MetaProperty.{MetaProperty}
use Rattle.meta_model.specs.Loaded.{Loaded}
use Rattle.meta_model.specs.Members.{IsMethod, IsProperty}
use Rattle.native_slots.specs.declared.action.Action.{Action}
use Rattle.native_slots.specs.declared.action.Action.TheVariants as action
use Rattle.native_slots.specs.Plain.{is_of, are_of}
use Rattle.machine_state.specs.State.{Step, Run, Ask, Act, Activation, Body, Emit, Update, Destroy}

-- a write of a property of the class that the native may set, with a value of its type
pub record SetsWithin (p : Loaded) (class : ℕ) (effects : MetaEffects) (place : ℕ) (value : Value) : Type 0 where
  pub number : ℕ
  pub at : slice_get effects.sets place ≡ Some number
  pub property : MetaProperty
  pub is : IsProperty p class number property
  pub typed : IsTrue (is_of value property.kind)

-- an emission of a signal of the class that the native may emit, with arguments of its types
pub record EmitsWithin (p : Loaded) (class : ℕ) (effects : MetaEffects) (place : ℕ) (arguments : List Value) : Type 0 where
  pub number : ℕ
  pub at : slice_get effects.emits place ≡ Some number
  pub signal : MetaMethod
  pub is : IsMethod p class number signal
  pub typed : IsTrue (are_of arguments signal.types)

abbrev pub IsWithin : Loaded → ℕ → MetaEffects → Action → Type 0
IsWithin p class effects (action.Set place value) = SetsWithin p class effects place value
IsWithin p class effects (action.Emit place arguments) = EmitsWithin p class effects place arguments

-- the action lies within the effects, for the class of the object
pub record IsPromised (p : Loaded) (classes : ℕ → Option ℕ) (o : ℕ) (effects : MetaEffects) (action : Action) : Type 0 where
  pub class : ℕ
  pub is : classes o ≡ Some class
  pub within : IsWithin p class effects action

abbrev pub StepIsPromised : Loaded → (ℕ → Option ℕ) → ℕ → Step → Type 0
StepIsPromised p classes o (Run statement) = Unit {0}
StepIsPromised p classes o (Ask effects) = Unit {0}
StepIsPromised p classes o (Act effects action) = IsPromised p classes o effects action

-- .. of all that is left of a body
abbrev pub LeftIsPromised : Loaded → (ℕ → Option ℕ) → Activation → Type 0
LeftIsPromised p classes (Body o m arguments left) = AllByRecursion (StepIsPromised p classes o) left
LeftIsPromised p classes (Emit o g arguments used last) = Unit {0}
LeftIsPromised p classes (Update places) = Unit {0}
LeftIsPromised p classes (Destroy next torn) = Unit {0}

-- .. and of all bodies
abbrev pub AllIsPromised : Loaded → (ℕ → Option ℕ) → List Activation → Type 0
AllIsPromised p classes stack = AllByRecursion (LeftIsPromised p classes) stack
