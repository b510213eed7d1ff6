-- How the answers for several natives are put together.
use Rattle.std.specs.Prelude.{◌≡◌, ◌≤◌, ℕ, Some, slice_get, Result, Ok, Err}
use Rattle.meta_model.specs.declared.effects.MetaEffects.{MetaEffects}
use Rattle.meta_model.specs.declared.object.MetaMethod.{MetaMethod}
use Rattle.meta_model.specs.declared.object.MetaObject.{MetaObject}
use Rattle.meta_model.specs.declared.object.Work.TheVariants.{Native}
use Rattle.native_slots.specs.declared.misfit.Misfit.{Misfit}
use Rattle.native_slots.specs.declared.misfit.Misfit.TheVariants as misfit
use Rattle.native_slots.specs.declared.misfit.NativePlace.{NativePlace}

-- of two answers, of which the second is for natives behind those of the first, the one of the lower number, and of one
-- number the first
abbrev pub first_of : Result (Unit {0}) Misfit → Result (Unit {0}) Misfit → Result (Unit {0}) Misfit
first_of (Ok _) other = other
first_of (Err (misfit.NoNative at)) other = Err (misfit.NoNative at)
first_of (Err (misfit.EffectsDiffer at differing)) (Ok _) = Err (misfit.EffectsDiffer at differing)
first_of (Err (misfit.EffectsDiffer at differing)) (Err (misfit.NoNative b)) = Err (misfit.NoNative b)
first_of (Err (misfit.EffectsDiffer at differing)) (Err (misfit.EffectsDiffer b other)) = Err (misfit.EffectsDiffer at differing)

-- this method of this class, at this place, where it is a native
pub record IsThis (place : NativePlace) (this_class : MetaObject) (this : MetaMethod) (at : NativePlace) (class : MetaObject) (method : MetaMethod) (effects : MetaEffects) : Type 0 where
  pub here : at ≡ place
  pub same_class : class ≡ this_class
  pub same : method ≡ this
  pub native : method.work ≡ Native effects

-- the natives of this class, which has this number, from this method on
pub record IsNativeFrom (number : ℕ) (this_class : MetaObject) (first : ℕ) (at : NativePlace) (class : MetaObject) (method : MetaMethod) (effects : MetaEffects) : Type 0 where
  pub numbered : at.class ≡ number
  pub same : class ≡ this_class
  pub from : first ≤ at.method
  pub is : slice_get class.methods at.method ≡ Some method
  pub native : method.work ≡ Native effects
