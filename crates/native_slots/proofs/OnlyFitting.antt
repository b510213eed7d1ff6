-- Closures fit a program in one way.
use Rattle.std.proofs.Common.{◌≡◌, refl, sym, ◌∙◌, subst, List, Ok, Err}
use Rattle.std.proofs.lemmas.Option.{none-some, same_Some}
use Rattle.meta_model.specs.declared.effects.MetaEffects.{MetaEffects}
use Rattle.meta_model.specs.declared.object.MetaMethod.{MetaMethod}
use Rattle.meta_model.specs.declared.object.MetaObject.{MetaObject}
use Rattle.native_slots.specs.declared.fault.NativeFault.TheVariants as fault
use Rattle.native_slots.specs.declared.head.NativeHead.{NativeHead}
use Rattle.native_slots.specs.Fitting.{Natives, AreAsDeclared, HasFitting, HasNone, HasOther, EachNative, SomeNative, OneFitting}

-- a native whose first closure fits has one
pub has_some : (heads : List NativeHead) (class : MetaObject) (method : MetaMethod) (effects : MetaEffects) → HasFitting heads class method effects → HasNone heads class method effects → ⊥
has_some heads class method effects fits none = none-some fits.head (sym none ∙ fits.first)

-- .. and it doesn't keep to other effects
pub not_other : (heads : List NativeHead) (class : MetaObject) (method : MetaMethod) (effects : MetaEffects) → HasFitting heads class method effects → HasOther heads class method effects → ⊥
not_other heads class method effects fits other =
    let same : fits.head ≡ other.head = same_Some _ _ (sym fits.first ∙ other.first) in
    other.differs (subst (λ head. AreAsDeclared class method effects head.effects) same fits.same)

-- each of some natives has P and one has Q, which exclude each other
never_both : (Meant P Q : Natives) → ((class : MetaObject) (method : MetaMethod) (effects : MetaEffects) → P class method effects → Q class method effects → ⊥) → EachNative Meant P → SomeNative Meant Q → ⊥
never_both Meant P Q excludes each some = excludes some.class some.method some.effects (each some.class some.method some.effects some.meant) some.has

pub one_fitting : OneFitting
one_fitting heads p (Ok _) (Ok _) a b = refl
one_fitting heads p (Ok _) (Err fault.NoNative) a b = absurd (never_both _ _ _ (has_some heads) a b)
one_fitting heads p (Ok _) (Err fault.EffectsDiffer) a b = absurd (never_both _ _ _ (not_other heads) a b.1)
one_fitting heads p (Err fault.NoNative) (Ok _) a b = absurd (never_both _ _ _ (has_some heads) b a)
one_fitting heads p (Err fault.NoNative) (Err fault.NoNative) a b = refl
one_fitting heads p (Err fault.NoNative) (Err fault.EffectsDiffer) a b = absurd (never_both _ _ _ (λ class method effects lacks none. lacks none) b.0 a)
one_fitting heads p (Err fault.EffectsDiffer) (Ok _) a b = absurd (never_both _ _ _ (not_other heads) b a.1)
one_fitting heads p (Err fault.EffectsDiffer) (Err fault.NoNative) a b = absurd (never_both _ _ _ (λ class method effects lacks none. lacks none) a.0 b)
one_fitting heads p (Err fault.EffectsDiffer) (Err fault.EffectsDiffer) a b = refl
