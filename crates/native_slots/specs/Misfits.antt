-- Which native of a program is refused, and for which of its lists (docs/natives.md, "Which closure is called").
use Rattle.std.specs.Prelude.{◌≡◌, ◌<◌, ◌⊎◌, List, Option, None, Some, Result, Ok, Err}
use Rattle.std.specs.List.{AllZip}
use Rattle.meta_model.specs.declared.effects.MetaEffects.{MetaEffects}
use Rattle.meta_model.specs.declared.object.MetaMethod.{MetaMethod}
use Rattle.meta_model.specs.declared.object.MetaObject.{MetaObject}
use Rattle.meta_model.specs.Loaded.{Loaded}
use Rattle.native_slots.specs.declared.effects.Effects.{Effects}
use Rattle.native_slots.specs.declared.fault.NativeFault.{NativeFault}
use Rattle.native_slots.specs.declared.fault.NativeFault.TheVariants as fault
use Rattle.native_slots.specs.declared.head.NativeHead.{NativeHead}
use Rattle.native_slots.specs.declared.misfit.Difference.{Difference}
use Rattle.native_slots.specs.declared.misfit.Difference.TheVariants as list
use Rattle.native_slots.specs.declared.misfit.Misfit.{Misfit}
use Rattle.native_slots.specs.declared.misfit.Misfit.TheVariants as misfit
use Rattle.native_slots.specs.declared.misfit.NativePlace.{NativePlace}
use Rattle.native_slots.specs.Effects.{types_of}
use Rattle.native_slots.specs.Fitting.{IsPropertyAs, IsSignalAs, AreAsDeclared, HasFitting, HasNone, HasOther, Natives, EachNative}
use Rattle.native_slots.specs.Heads.{first_for}
use Rattle.native_slots.specs.Promises.{IsNative}

-- the refusal, without the native
abbrev pub fault_of : Misfit → NativeFault
fault_of (misfit.NoNative at) = fault.NoNative
fault_of (misfit.EffectsDiffer at differing) = fault.EffectsDiffer

-- the native that the refusal is about
abbrev pub place_of : Misfit → NativePlace
place_of (misfit.NoNative at) = at
place_of (misfit.EffectsDiffer at differing) = at

-- ---- lists
-- this is the first list in which the effects that a closure keeps to aren't those declared
abbrev pub DiffersIn : MetaObject → MetaMethod → MetaEffects → Effects → Difference → Type 0
DiffersIn class method effects kept list.Parameters = ¬ (method.types ≡ types_of kept.parameters)
DiffersIn class method effects kept list.Reads = (method.types ≡ types_of kept.parameters) × ¬ AllZip (IsPropertyAs class) effects.reads kept.reads
DiffersIn class method effects kept list.Emits =
    (method.types ≡ types_of kept.parameters) × AllZip (IsPropertyAs class) effects.reads kept.reads
    × ¬ AllZip (IsSignalAs class) effects.emits kept.emits
DiffersIn class method effects kept list.Sets =
    (method.types ≡ types_of kept.parameters) × AllZip (IsPropertyAs class) effects.reads kept.reads
    × AllZip (IsSignalAs class) effects.emits kept.emits × ¬ AllZip (IsPropertyAs class) effects.sets kept.sets

-- the first such list, or `None` where the effects are those declared
abbrev pub TellsDifference : MetaObject → MetaMethod → MetaEffects → Effects → Option Difference → Type 0
TellsDifference class method effects kept None = AreAsDeclared class method effects kept
TellsDifference class method effects kept (Some differing) = DiffersIn class method effects kept differing

-- the native has a closure, of which the first keeps to other effects, and this is the first list in which they differ
pub record HasOtherIn (heads : List NativeHead) (differing : Difference) (class : MetaObject) (method : MetaMethod) (effects : MetaEffects) : Type 0 where
  pub head : NativeHead
  pub first : first_for class.name method.sig heads ≡ Some head
  pub differs : DiffersIn class method effects head.effects differing

-- ---- places
-- which natives are meant, by their places too
abbrev pub Placed : Type 1
Placed = NativePlace → Natives

-- each of them has P
abbrev pub EachPlaced : Placed → Natives → Type 0
EachPlaced Meant P = (at : NativePlace) → EachNative (Meant at) P

-- in the order of the classes and of their methods the one place is before the other
abbrev pub IsBefore : NativePlace → NativePlace → Type 0
IsBefore a b = (a.class < b.class) ⊎ ((a.class ≡ b.class) × (a.method < b.method))

-- the one of them at this place has P, and none of those before it is refused
pub record IsFirst (Meant : Placed) (Refused P : Natives) (at : NativePlace) : Type 0 where
  pub class : MetaObject
  pub method : MetaMethod
  pub effects : MetaEffects
  pub meant : Meant at class method effects
  pub has : P class method effects
  pub none_before : (b : NativePlace) → IsBefore b at → EachNative (Meant b) (λ class method effects. ¬ Refused class method effects)

-- each of these natives has a closure that keeps to the effects declared; or this is the first that has none; or each has
-- one, and this is the first that has one which keeps to others
abbrev pub FitsAmong : List NativeHead → Placed → Result (Unit {0}) Misfit → Type 0
FitsAmong heads Meant (Ok _) = EachPlaced Meant (HasFitting heads)
FitsAmong heads Meant (Err (misfit.NoNative at)) = IsFirst Meant (HasNone heads) (HasNone heads) at
FitsAmong heads Meant (Err (misfit.EffectsDiffer at differing)) =
    EachPlaced Meant (λ class method effects. ¬ HasNone heads class method effects)
    × IsFirst Meant (HasOther heads) (HasOtherIn heads differing) at

-- the native of the program at this place
abbrev pub IsNativeAt : Loaded → Placed
IsNativeAt p at class method effects = IsNative p at.class at.method class method effects

-- the same, of the natives that the program declares
abbrev pub Fits : List NativeHead → Loaded → Result (Unit {0}) Misfit → Type 0
Fits heads p answer = FitsAmong heads (IsNativeAt p) answer

-- there is one answer: they fit, or one native is refused for one reason
abbrev pub OneMisfit : Type 0
OneMisfit =
    (heads : List NativeHead) (p : Loaded) (a b : Result (Unit {0}) Misfit) → Fits heads p a → Fits heads p b → a ≡ b
