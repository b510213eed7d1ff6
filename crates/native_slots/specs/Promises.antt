-- What a program may expect of its natives (docs/natives.md, "The promise").
use Rattle.std.specs.Prelude.{◌≡◌, ℕ, Bool, IsTrue, List, Option, Some, slice_get}
use Rattle.std.specs.Coded.{Coded-set, coded_bool, ×_prop, Π_prop}
use Rattle.std.specs.List.{AllZip}
use Rattle.std.specs.Option.{option_and_then}
use Rattle.basic_types.specs.declared.sig.Sig.{Sig}
use Rattle.basic_types.specs.declared.value.Value.{Value}
use Rattle.meta_model.specs.declared.effects.MetaEffects.{MetaEffects}
use Rattle.meta_model.specs.declared.object.MetaMethod.{MetaMethod}
use Rattle.meta_model.specs.declared.object.MetaObject.{MetaObject}
use Rattle.meta_model.specs.declared.object.MetaProperty.{MetaProperty}
use Rattle.meta_model.specs.declared.object.Work.TheVariants.{Native}
use Rattle.meta_model.specs.Loaded.{Loaded}
use Rattle.meta_model.specs.Members.{IsClass, Declares}
use Rattle.meta_model.specs.Values.{Has, HaveTypes}
use Rattle.native_slots.specs.declared.action.Action.{Action}
use Rattle.native_slots.specs.Within.{is_allowed, are_allowed}

-- which calls may be made: the declaring class's name, the native's signature, its arguments, and the values of what it reads
abbrev pub Takes : Type 0
Takes = List ℕ → Sig → List Value → List Value → Bool

-- which lists of actions natives may answer to such a call
abbrev pub Gives : Type 1
Gives = List ℕ → Sig → List Value → List Value → List Action → Type 0

-- method m of class c, which declares it, is a native with these effects
pub record IsNative (p : Loaded) (c m : ℕ) (class : MetaObject) (method : MetaMethod) (effects : MetaEffects) : Type 0 where
  pub is_class : IsClass p c class
  pub is : slice_get class.methods m ≡ Some method
  pub declares : Declares p c m
  pub native : method.work ≡ Native effects

-- a value of property q of the class
pub record IsValueOf (p : Loaded) (classes : ℕ → Option ℕ) (class : MetaObject) (q : ℕ) (v : Value) : Type 0 where
  pub property : MetaProperty
  pub is : slice_get class.properties q ≡ Some property
  pub has : Has p classes v property.kind

-- the signal at this place of those that the native may emit
abbrev pub signal_at : MetaObject → MetaEffects → ℕ → Option MetaMethod
signal_at class effects place = option_and_then (λ m. slice_get class.methods m) (slice_get effects.emits place)

-- the property at this place of those that it may set
abbrev pub property_at : MetaObject → MetaEffects → ℕ → Option MetaProperty
property_at class effects place = option_and_then (λ q. slice_get class.properties q) (slice_get effects.sets place)

-- what lies within the effects that the class declares for the native
abbrev pub is_declared : MetaObject → MetaEffects → Action → Bool
is_declared class effects =
    is_allowed (λ (signal : MetaMethod). signal.types) (λ (property : MetaProperty). property.kind) (signal_at class effects) (property_at class effects)

abbrev pub are_declared : MetaObject → MetaEffects → List Action → Bool
are_declared class effects = are_allowed (is_declared class effects)

-- the native may be called so, and whatever it answers then lies within its effects
abbrev pub KeepsPromise : Takes → Gives → MetaObject → MetaMethod → MetaEffects → List Value → List Value → Type 0
KeepsPromise takes gives class method effects arguments reads =
    IsTrue (takes class.name method.sig arguments reads)
    × ((actions : List Action) → gives class.name method.sig arguments reads actions → IsTrue (are_declared class effects actions))

-- each native that the program declares keeps its promise, called with arguments of its types while the properties that it
-- reads have values of theirs
abbrev pub Promises : Loaded → Takes → Gives → Type 0
Promises p takes gives =
    (c m : ℕ) (class : MetaObject) (method : MetaMethod) (effects : MetaEffects) → IsNative p c m class method effects
    → (classes : ℕ → Option ℕ) (arguments reads : List Value)
    → HaveTypes p classes arguments method.types → AllZip (IsValueOf p classes class) effects.reads reads
    → KeepsPromise takes gives class method effects arguments reads

-- there is one proof of it at most, so that a struct can keep it
pub Promises-prop : (p : Loaded) (takes : Takes) (gives : Gives) → IsProp (Promises p takes gives)
Promises-prop p takes gives =
    Π_prop λ c. Π_prop λ m. Π_prop λ class. Π_prop λ method. Π_prop λ effects. Π_prop λ native.
    Π_prop λ classes. Π_prop λ arguments. Π_prop λ reads. Π_prop λ typed. Π_prop λ valued.
    ×_prop (Coded-set coded_bool _ _) (Π_prop λ actions. Π_prop λ gave. Coded-set coded_bool _ _)
