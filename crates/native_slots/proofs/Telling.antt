-- What is reported of a native without its place, and that its place is one.
use Rattle.std.proofs.Common.{◌≡◌, ◌<◌, ℕ, zero, suc, ◌⊎◌, inl, inr, List, slice_get, Result, Ok, Err, IsErr, IsErrAnd, refl, sym, ◌∙◌, ap, subst, arith}
use Rattle.std.proofs.lemmas.Option.{same_Some}
use Rattle.meta_model.specs.declared.effects.MetaEffects.{MetaEffects}
use Rattle.meta_model.specs.declared.object.MetaMethod.{MetaMethod}
use Rattle.meta_model.specs.declared.object.MetaObject.{MetaObject}
use Rattle.meta_model.specs.declared.object.Work.TheVariants.{Native}
use Rattle.meta_model.specs.Loaded.{Loaded}
use Rattle.native_slots.specs.declared.effects.Effects.{Effects}
use Rattle.native_slots.specs.declared.fault.NativeFault.{NativeFault}
use Rattle.native_slots.specs.declared.head.NativeHead.{NativeHead}
use Rattle.native_slots.specs.declared.misfit.Difference.{Difference}
use Rattle.native_slots.specs.declared.misfit.Difference.TheVariants as list
use Rattle.native_slots.specs.declared.misfit.Misfit.{Misfit}
use Rattle.native_slots.specs.declared.misfit.Misfit.TheVariants as misfit
use Rattle.native_slots.specs.declared.misfit.NativePlace.{NativePlace}
use Rattle.native_slots.specs.Fitting.{AreAsDeclared, HasOther, Fit}
use Rattle.native_slots.specs.Misfits.{fault_of, DiffersIn, HasOtherIn, IsBefore, IsNativeAt, Fits, OneMisfit}
use Rattle.native_slots.specs.Promises.{IsNative}
use Rattle.native_slots.proofs.OnlyFitting.{has_some, not_other}

-- ---- without the place
-- where a list differs the effects aren't as declared
other_effects : (class : MetaObject) (method : MetaMethod) (effects : MetaEffects) (kept : Effects) (differing : Difference) → DiffersIn class method effects kept differing → ¬ AreAsDeclared class method effects kept
other_effects class method effects kept list.Parameters differs same = differs same.parameters
other_effects class method effects kept list.Reads differs same = differs.1 same.reads
other_effects class method effects kept list.Emits differs same = differs.2 same.emits
other_effects class method effects kept list.Sets differs same = differs.3 same.sets

has_other : (heads : List NativeHead) (differing : Difference) (class : MetaObject) (method : MetaMethod) (effects : MetaEffects) → HasOtherIn heads differing class method effects → HasOther heads class method effects
has_other heads differing class method effects h = record { head = h.head; first = h.first; differs = other_effects class method effects h.head.effects differing h.differs }

fault_told : (heads : List NativeHead) (p : Loaded) (m : Misfit) → Fits heads p (Err m) → Fit heads p (Err (fault_of m))
fault_told heads p (misfit.NoNative at) f = record {
  class = f.class;
  method = f.method;
  effects = f.effects;
  meant = record { c = at.class; m = at.method; is = f.meant };
  has = f.has;
}
fault_told heads p (misfit.EffectsDiffer at differing) f = (
  λ class method effects h. f.0 (record { class = h.c; method = h.m }) class method effects h.is,
  record {
    class = f.1.class;
    method = f.1.method;
    effects = f.1.effects;
    meant = record { c = at.class; m = at.method; is = f.1.meant };
    has = has_other heads differing f.1.class f.1.method f.1.effects f.1.has;
  },
)

-- the answer, of which the fault alone is reported
pub told : (heads : List NativeHead) (p : Loaded) (m : Misfit) → Fits heads p (Err m) → (r : Result (Unit {0}) NativeFault) → IsErr r → IsErrAnd r (λ x. x ≡ fault_of m) → Fit heads p r
told heads p m f (Ok u) is same = absurd (cc)
told heads p m f (Err x) is same = subst (λ y. Fit heads p (Err y)) (sym same) (fault_told heads p m f)

pub told_fitting : (heads : List NativeHead) (p : Loaded) → Fits heads p (Ok tt) → Fit heads p (Ok tt)
told_fitting heads p f class method effects h = f (record { class = h.c; method = h.m }) class method effects h.is

-- ---- one answer
-- of two places the one is before the other, or they are one
compare : (m n : ℕ) → (m < n) ⊎ (m ≡ n) ⊎ (n < m)
compare zero zero = inr (inl refl)
compare zero (suc n) = inl (omega arith)
compare (suc m) zero = inr (inr (omega arith))
compare (suc m) (suc n) = elim (compare m n) [
  | inl a ↦ inl (omega arith)
  | inr rest ↦ elim rest [
    | inl e ↦ inr (inl (ap suc e))
    | inr b ↦ inr (inr (omega arith))
  ]
]

one_or_before : (a b : NativePlace) → (a ≡ b) ⊎ IsBefore a b ⊎ IsBefore b a
one_or_before a b = elim (compare a.class b.class) [
  | inl x ↦ inr (inl (inl x))
  | inr rest ↦ elim rest [
    | inl e ↦ elim (compare a.method b.method) [
      | inl x ↦ inr (inl (inr (e, x)))
      | inr more ↦ elim more [
        | inl d ↦ inl (λ i. record { class = e i; method = d i })
        | inr y ↦ inr (inr (inr (sym e, y)))
      ]
    ]
    | inr y ↦ inr (inr (inl y))
  ]
]

-- the effects differ first in one list
one_list : (class : MetaObject) (method : MetaMethod) (effects : MetaEffects) (kept : Effects) (a b : Difference) → DiffersIn class method effects kept a → DiffersIn class method effects kept b → a ≡ b
one_list class method effects kept list.Parameters list.Parameters h k = refl
one_list class method effects kept list.Parameters list.Reads h k = absurd (h k.0)
one_list class method effects kept list.Parameters list.Emits h k = absurd (h k.0)
one_list class method effects kept list.Parameters list.Sets h k = absurd (h k.0)
one_list class method effects kept list.Reads list.Parameters h k = absurd (k h.0)
one_list class method effects kept list.Reads list.Reads h k = refl
one_list class method effects kept list.Reads list.Emits h k = absurd (h.1 k.1)
one_list class method effects kept list.Reads list.Sets h k = absurd (h.1 k.1)
one_list class method effects kept list.Emits list.Parameters h k = absurd (k h.0)
one_list class method effects kept list.Emits list.Reads h k = absurd (k.1 h.1)
one_list class method effects kept list.Emits list.Emits h k = refl
one_list class method effects kept list.Emits list.Sets h k = absurd (h.2 k.2)
one_list class method effects kept list.Sets list.Parameters h k = absurd (k h.0)
one_list class method effects kept list.Sets list.Reads h k = absurd (k.1 h.1)
one_list class method effects kept list.Sets list.Emits h k = absurd (k.2 h.2)
one_list class method effects kept list.Sets list.Sets h k = refl

-- a native's closure differs first in one list
one_difference : (heads : List NativeHead) (p : Loaded) (c m : ℕ) (class other : MetaObject) (method way : MetaMethod) (effects acts : MetaEffects) (a b : Difference)
    → IsNative p c m class method effects → IsNative p c m other way acts → HasOtherIn heads a class method effects → HasOtherIn heads b other way acts → a ≡ b
one_difference heads p c m class other method way effects acts a b is also h k =
    let same : other ≡ class = same_Some _ _ (sym also.is_class.is ∙ is.is_class.is) in
    let called : way ≡ method = same_Some _ _ (sym also.is ∙ ap (λ (x : MetaObject). slice_get x.methods m) same ∙ is.is) in
    let both : Native acts ≡ Native effects = sym also.native ∙ ap (λ (x : MetaMethod). x.work) called ∙ is.native in
    let acting : acts ≡ effects = cc both in
    let there : HasOtherIn heads b class method effects =
    subst (λ (x : MetaEffects). HasOtherIn heads b class method x) acting
    (subst (λ (x : MetaMethod). HasOtherIn heads b class x acts) called (subst (λ (x : MetaObject). HasOtherIn heads b x way acts) same k)) in
    let head : there.head ≡ h.head = same_Some _ _ (sym there.first ∙ h.first) in
    one_list class method effects h.head.effects a b h.differs
    (subst (λ (x : NativeHead). DiffersIn class method effects x.effects b) head there.differs)

pub one_misfit : OneMisfit
one_misfit heads p (Ok _) (Ok _) f g = refl
one_misfit heads p (Ok _) (Err (misfit.NoNative b)) f g = absurd (has_some heads g.class g.method g.effects (f b g.class g.method g.effects g.meant) g.has)
one_misfit heads p (Ok _) (Err (misfit.EffectsDiffer b differing)) f g =
    absurd (not_other heads g.1.class g.1.method g.1.effects (f b g.1.class g.1.method g.1.effects g.1.meant) (has_other heads differing g.1.class g.1.method g.1.effects g.1.has))
one_misfit heads p (Err (misfit.NoNative a)) (Ok _) f g = absurd (has_some heads f.class f.method f.effects (g a f.class f.method f.effects f.meant) f.has)
one_misfit heads p (Err (misfit.EffectsDiffer a differing)) (Ok _) f g =
    absurd (not_other heads f.1.class f.1.method f.1.effects (g a f.1.class f.1.method f.1.effects f.1.meant) (has_other heads differing f.1.class f.1.method f.1.effects f.1.has))
one_misfit heads p (Err (misfit.NoNative a)) (Err (misfit.EffectsDiffer b differing)) f g = absurd (g.0 a f.class f.method f.effects f.meant f.has)
one_misfit heads p (Err (misfit.EffectsDiffer a differing)) (Err (misfit.NoNative b)) f g = absurd (f.0 b g.class g.method g.effects g.meant g.has)
one_misfit heads p (Err (misfit.NoNative a)) (Err (misfit.NoNative b)) f g = elim (one_or_before a b) [
  | inl same ↦ ap (λ (x : NativePlace). Err (misfit.NoNative x)) same
  | inr rest ↦ elim rest [
    | inl before ↦ absurd (g.none_before a before f.class f.method f.effects f.meant f.has)
    | inr before ↦ absurd (f.none_before b before g.class g.method g.effects g.meant g.has)
  ]
]
one_misfit heads p (Err (misfit.EffectsDiffer a x)) (Err (misfit.EffectsDiffer b y)) f g = elim (one_or_before a b) [
  | inl same ↦
      let there : IsNativeAt p a g.1.class g.1.method g.1.effects = subst (λ (q : NativePlace). IsNativeAt p q g.1.class g.1.method g.1.effects) (sym same) g.1.meant in
      let listed : x ≡ y =
      one_difference heads p a.class a.method f.1.class g.1.class f.1.method g.1.method f.1.effects g.1.effects x y f.1.meant there f.1.has g.1.has in
      λ i. Err (misfit.EffectsDiffer (same i) (listed i))
  | inr rest ↦ elim rest [
    | inl before ↦ absurd (g.1.none_before a before f.1.class f.1.method f.1.effects f.1.meant (has_other heads x f.1.class f.1.method f.1.effects f.1.has))
    | inr before ↦ absurd (f.1.none_before b before g.1.class g.1.method g.1.effects g.1.meant (has_other heads y g.1.class g.1.method g.1.effects g.1.has))
  ]
]
