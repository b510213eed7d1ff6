-- When the closures that are handed in are those that a program declares (docs/natives.md, "Which closure is called").
use Rattle.std.specs.Prelude.{◌≡◌, ℕ, List, None, Some, slice_get, Result, Ok, Err}
use Rattle.std.specs.List.{AllZip}
use Rattle.meta_model.specs.declared.effects.MetaEffects.{MetaEffects}
use Rattle.meta_model.specs.declared.object.MetaMethod.{MetaMethod}
use Rattle.meta_model.specs.declared.object.MetaObject.{MetaObject}
use Rattle.meta_model.specs.declared.object.MetaProperty.{MetaProperty}
use Rattle.meta_model.specs.Loaded.{Loaded}
use Rattle.native_slots.specs.declared.effects.Effects.{Effects}
use Rattle.native_slots.specs.declared.effects.PlainProperty.{PlainProperty}
use Rattle.native_slots.specs.declared.effects.PlainSignal.{PlainSignal}
use Rattle.native_slots.specs.declared.fault.NativeFault.{NativeFault}
use Rattle.native_slots.specs.declared.fault.NativeFault.TheVariants as fault
use Rattle.native_slots.specs.declared.head.NativeHead.{NativeHead}
use Rattle.native_slots.specs.Effects.{types_of}
use Rattle.native_slots.specs.Heads.{first_for}
use Rattle.native_slots.specs.Plain.{kind_of}
use Rattle.native_slots.specs.Promises.{IsNative}

-- property q of the class has this name and this type
pub record IsPropertyAs (class : MetaObject) (q : ℕ) (like : PlainProperty) : Type 0 where
  pub property : MetaProperty
  pub is : slice_get class.properties q ≡ Some property
  pub named : property.name ≡ like.name
  pub typed : property.kind ≡ kind_of like.kind

-- method m of the class has this name and parameters of these types
pub record IsSignalAs (class : MetaObject) (m : ℕ) (like : PlainSignal) : Type 0 where
  pub signal : MetaMethod
  pub is : slice_get class.methods m ≡ Some signal
  pub named : signal.sig.name ≡ like.name
  pub typed : signal.types ≡ types_of like.types

-- the effects that a closure keeps to are those declared, each list in its order
pub record AreAsDeclared (class : MetaObject) (method : MetaMethod) (effects : MetaEffects) (kept : Effects) : Type 0 where
  pub parameters : method.types ≡ types_of kept.parameters
  pub reads : AllZip (IsPropertyAs class) effects.reads kept.reads
  pub emits : AllZip (IsSignalAs class) effects.emits kept.emits
  pub sets : AllZip (IsPropertyAs class) effects.sets kept.sets

-- the native has a closure, of which the first keeps to the effects declared
pub record HasFitting (heads : List NativeHead) (class : MetaObject) (method : MetaMethod) (effects : MetaEffects) : Type 0 where
  pub head : NativeHead
  pub first : first_for class.name method.sig heads ≡ Some head
  pub same : AreAsDeclared class method effects head.effects

-- the native has none
abbrev pub HasNone : List NativeHead → MetaObject → MetaMethod → MetaEffects → Type 0
HasNone heads class method effects = first_for class.name method.sig heads ≡ None

-- the native has a closure, of which the first keeps to other effects
pub record HasOther (heads : List NativeHead) (class : MetaObject) (method : MetaMethod) (effects : MetaEffects) : Type 0 where
  pub head : NativeHead
  pub first : first_for class.name method.sig heads ≡ Some head
  pub differs : ¬ AreAsDeclared class method effects head.effects

-- which natives are meant, by their class, their method and their effects
abbrev pub Natives : Type 1
Natives = MetaObject → MetaMethod → MetaEffects → Type 0

-- each of these natives has P
abbrev pub EachNative : Natives → Natives → Type 0
EachNative Meant P = (class : MetaObject) (method : MetaMethod) (effects : MetaEffects) → Meant class method effects → P class method effects

-- one of them has it
pub record SomeNative (Meant P : Natives) : Type 0 where
  pub class : MetaObject
  pub method : MetaMethod
  pub effects : MetaEffects
  pub meant : Meant class method effects
  pub has : P class method effects

-- each of these natives has a closure that keeps to the effects declared; or one has none; or each has one, and one has a
-- closure that keeps to others
abbrev pub FitAmong : List NativeHead → Natives → Result (Unit {0}) NativeFault → Type 0
FitAmong heads Meant (Ok _) = EachNative Meant (HasFitting heads)
FitAmong heads Meant (Err fault.NoNative) = SomeNative Meant (HasNone heads)
FitAmong heads Meant (Err fault.EffectsDiffer) =
    EachNative Meant (λ class method effects. ¬ HasNone heads class method effects) × SomeNative Meant (HasOther heads)

-- a native of the program
pub record IsNativeOf (p : Loaded) (class : MetaObject) (method : MetaMethod) (effects : MetaEffects) : Type 0 where
  pub c : ℕ
  pub m : ℕ
  pub is : IsNative p c m class method effects

-- how the closures fit the natives that the program declares
abbrev pub Fit : List NativeHead → Loaded → Result (Unit {0}) NativeFault → Type 0
Fit heads p answer = FitAmong heads (IsNativeOf p) answer

-- the closures fit a program in one way: they do, or they are refused for one reason
abbrev pub OneFitting : Type 0
OneFitting =
    (heads : List NativeHead) (p : Loaded) (a b : Result (Unit {0}) NativeFault) → Fit heads p a → Fit heads p b → a ≡ b
