-- The answers for some natives and for others behind them, put together.
use Rattle.std.proofs.Common.{◌≡◌, ◌≤◌, ◌<◌, ◌+◌, ℕ, zero, suc, ◌⊎◌, inl, inr, List, length, slice_get, None, Some, Result, Ok, Err, refl, sym, ◌∙◌, ap, subst, arith}
use Rattle.std.specs.Option.{unwrap_or}
use Rattle.std.proofs.lemmas.Option.{slice_get_within}
use Rattle.meta_model.specs.declared.effects.MetaEffects.{MetaEffects}
use Rattle.meta_model.specs.declared.object.MetaMethod.{MetaMethod}
use Rattle.meta_model.specs.declared.object.MetaObject.{MetaObject}
use Rattle.meta_model.specs.declared.object.Work.TheVariants.{Native}
use Rattle.native_slots.specs.declared.head.NativeHead.{NativeHead}
use Rattle.native_slots.specs.declared.misfit.Difference.{Difference}
use Rattle.native_slots.specs.declared.misfit.Misfit.{Misfit}
use Rattle.native_slots.specs.declared.misfit.Misfit.TheVariants as misfit
use Rattle.native_slots.specs.declared.misfit.NativePlace.{NativePlace}
use Rattle.meta_model.specs.Loaded.{Loaded}
use Rattle.meta_model.specs.Members.{method_offset, method_count, methods_in}
use Rattle.native_slots.specs.Fitting.{HasFitting, HasNone, HasOther, Natives}
use Rattle.native_slots.specs.Heads.{first_for}
use Rattle.native_slots.specs.Misfits.{DiffersIn, HasOtherIn, Placed, EachPlaced, IsBefore, IsFirst, FitsAmong, IsNativeAt, Fits}
use Rattle.native_slots.specs.code.Joining.{IsThis, IsNativeFrom, first_of}
use Rattle.native_slots.proofs.OnlyFitting.{has_some, not_other}

-- ---- places
pub not_both : (a b : NativePlace) → IsBefore a b → IsBefore b a → ⊥
not_both a b (inl x) (inl y) = omega (arith, x, y)
not_both a b (inl x) (inr y) = let e = y.0 in omega (arith, x, e)
not_both a b (inr x) (inl y) = let e = x.0 in omega (arith, e, y)
not_both a b (inr x) (inr y) = let d = x.1 in let e = y.1 in omega (arith, d, e)

not_here : (a b : NativePlace) → a ≡ b → IsBefore a b → ⊥
not_here a b is before = not_both a b before (subst (λ (x : NativePlace). IsBefore x a) is (subst (λ (x : NativePlace). IsBefore a x) (sym is) before))

-- ---- answers for natives that are meant in two ways
abbrev pub Within : Placed → Placed → Type 0
Within A C = (at : NativePlace) (class : MetaObject) (method : MetaMethod) (effects : MetaEffects) → A at class method effects → C at class method effects

abbrev pub Splits : Placed → Placed → Placed → Type 0
Splits A B C = (at : NativePlace) (class : MetaObject) (method : MetaMethod) (effects : MetaEffects) → C at class method effects → A at class method effects ⊎ B at class method effects

abbrev pub Precedes : Placed → Placed → Type 0
Precedes A B =
    (a b : NativePlace) (class : MetaObject) (method : MetaMethod) (effects : MetaEffects) (k : MetaObject) (w : MetaMethod) (e : MetaEffects)
    → A a class method effects → B b k w e → IsBefore a b

-- natives that have closures that fit don't lack them ..
fit_some : (heads : List NativeHead) (A : Placed) → EachPlaced A (HasFitting heads) → EachPlaced A (λ class method effects. ¬ HasNone heads class method effects)
fit_some heads A f at class method effects h none = has_some heads class method effects (f at class method effects h) none

-- .. and these don't keep to others
fit_no_other : (heads : List NativeHead) (A : Placed) → EachPlaced A (HasFitting heads) → EachPlaced A (λ class method effects. ¬ HasOther heads class method effects)
fit_no_other heads A f at class method effects h other = not_other heads class method effects (f at class method effects h) other

module _ (heads : List NativeHead) (A B C : Placed) (split : Splits A B C) (left : Within A C) (right : Within B C) (order : Precedes A B) where
  each_of_both : (P : Natives) → EachPlaced A P → EachPlaced B P → EachPlaced C P
  each_of_both P f g at class method effects h =
      elim (split at class method effects h) [ inl a ↦ f at class method effects a | inr b ↦ g at class method effects b ]

  -- the first on the left is the first of all ..
  first_left : (Refused P : Natives) (at : NativePlace) → IsFirst A Refused P at → IsFirst C Refused P at
  first_left Refused P at f = record {
    class = f.class;
    method = f.method;
    effects = f.effects;
    meant = left at f.class f.method f.effects f.meant;
    has = f.has;
    none_before = λ b before class method effects h bad.
        elim (split b class method effects h) [
          | inl x ↦ f.none_before b before class method effects x bad
          | inr x ↦ not_both b at before (order at b f.class f.method f.effects class method effects f.meant x)
        ];
  }

  -- .. and so is the first on the right, where none on the left is refused
  first_right : (Refused P : Natives) (at : NativePlace) → EachPlaced A (λ class method effects. ¬ Refused class method effects) → IsFirst B Refused P at → IsFirst C Refused P at
  first_right Refused P at none g = record {
    class = g.class;
    method = g.method;
    effects = g.effects;
    meant = right at g.class g.method g.effects g.meant;
    has = g.has;
    none_before = λ b before class method effects h bad.
        elim (split b class method effects h) [
          | inl x ↦ none b class method effects x bad
          | inr x ↦ g.none_before b before class method effects x bad
        ];
  }

  pub joins : (a b : Result (Unit {0}) Misfit) → FitsAmong heads A a → FitsAmong heads B b → FitsAmong heads C (first_of a b)
  joins (Ok u) (Ok v) f g = each_of_both (HasFitting heads) f g
  joins (Ok u) (Err (misfit.NoNative at)) f g = first_right (HasNone heads) (HasNone heads) at (fit_some heads A f) g
  joins (Ok u) (Err (misfit.EffectsDiffer at differing)) f g = (
    each_of_both (λ class method effects. ¬ HasNone heads class method effects) (fit_some heads A f) g.0,
    first_right (HasOther heads) (HasOtherIn heads differing) at (fit_no_other heads A f) g.1,
  )
  joins (Err (misfit.NoNative at)) b f g = first_left (HasNone heads) (HasNone heads) at f
  joins (Err (misfit.EffectsDiffer at differing)) (Ok v) f g = (
    each_of_both (λ class method effects. ¬ HasNone heads class method effects) f.0 (fit_some heads B g),
    first_left (HasOther heads) (HasOtherIn heads differing) at f.1,
  )
  joins (Err (misfit.EffectsDiffer at differing)) (Err (misfit.NoNative b)) f g = first_right (HasNone heads) (HasNone heads) b f.0 g
  joins (Err (misfit.EffectsDiffer at differing)) (Err (misfit.EffectsDiffer b other)) f g = (
    each_of_both (λ class method effects. ¬ HasNone heads class method effects) f.0 g.0,
    first_left (HasOther heads) (HasOtherIn heads differing) at f.1,
  )

-- the same natives, meant otherwise
module _ (heads : List NativeHead) (A C : Placed) (to_a : Within C A) (to_c : Within A C) where
  first_refit : (Refused P : Natives) (at : NativePlace) → IsFirst A Refused P at → IsFirst C Refused P at
  first_refit Refused P at f = record {
    class = f.class;
    method = f.method;
    effects = f.effects;
    meant = to_c at f.class f.method f.effects f.meant;
    has = f.has;
    none_before = λ b before class method effects h bad. f.none_before b before class method effects (to_a b class method effects h) bad;
  }

  pub refit : (a : Result (Unit {0}) Misfit) → FitsAmong heads A a → FitsAmong heads C a
  refit (Ok u) f = λ at class method effects h. f at class method effects (to_a at class method effects h)
  refit (Err (misfit.NoNative at)) f = first_refit (HasNone heads) (HasNone heads) at f
  refit (Err (misfit.EffectsDiffer at differing)) f = (
    λ b class method effects h. f.0 b class method effects (to_a b class method effects h),
    first_refit (HasOther heads) (HasOtherIn heads differing) at f.1,
  )

-- of the numbers below the next one, all but this one are below it
pub split_lt : (m n : ℕ) → m < n + 1 → (m < n) ⊎ (m ≡ n)
split_lt zero zero h = inr refl
split_lt zero (suc n) h = inl (omega arith)
split_lt (suc m) zero h = absurd (omega arith)
split_lt (suc m) (suc n) h = elim (split_lt m n (omega arith)) [ inl a ↦ inl (omega arith) | inr e ↦ inr (ap suc e) ]

-- ---- one method whose closure keeps to other effects
module _ (heads : List NativeHead) (place : NativePlace) (cls : MetaObject) (this : MetaMethod) (declared : MetaEffects) (is : this.work ≡ Native declared) where
  alone : (P : Natives) → P cls this declared → EachPlaced (IsThis place cls this) P
  alone P has at class method effects h =
      let both : Native effects ≡ Native declared = sym h.native ∙ ap (λ (w : MetaMethod). w.work) h.same ∙ is in
      let same : effects ≡ declared = cc both in
      subst (λ (k : MetaObject). P k method effects) (sym h.same_class)
      (subst (λ (w : MetaMethod). P cls w effects) (sym h.same) (subst (λ (e : MetaEffects). P cls this e) (sym same) has))

  pub differs_alone : (list : Difference) (head : NativeHead) → first_for cls.name this.sig heads ≡ Some head → DiffersIn cls this declared head.effects list
      → FitsAmong heads (IsThis place cls this) (Err (misfit.EffectsDiffer place list))
  differs_alone list head first differs = (
    alone (λ class method effects. ¬ HasNone heads class method effects) (λ none. let bad : Some head ≡ None = sym first ∙ none in cc bad),
    record {
      class = cls;
      method = this;
      effects = declared;
      meant = record { here = refl; same_class = refl; same = refl; native = is };
      has = record { head = head; first = first; differs = differs };
      none_before = λ b before class method effects h bad. not_here b place h.here before;
    },
  )

-- ---- the methods of a class
module _ (heads : List NativeHead) (number : ℕ) (cls : MetaObject) (first : ℕ) where
  pub record FromBefore (end : ℕ) (at : NativePlace) (class : MetaObject) (method : MetaMethod) (effects : MetaEffects) : Type 0 where
    pub native : IsNativeFrom number cls first at class method effects
    pub before : at.method < end

  pub no_method : EachPlaced (FromBefore first) (HasFitting heads)
  no_method at class method effects h = let a = h.native.from in let b = h.before in absurd (omega arith)

  pub more_methods : (end : ℕ) (item : MetaMethod) → first ≤ end → slice_get cls.methods end ≡ Some item → (a b : Result (Unit {0}) Misfit)
      → FitsAmong heads (FromBefore end) a → FitsAmong heads (IsThis (record { class = number; method = end }) cls item) b → FitsAmong heads (FromBefore (end + 1)) (first_of a b)
  more_methods end item after there a b f g =
      joins heads (FromBefore end) This (FromBefore (end + 1)) split left right order a b f g
    where
      This : Placed
      This = IsThis (record { class = number; method = end }) cls item

      split : Splits (FromBefore end) This (FromBefore (end + 1))
      split at class method effects h =
          elim (split_lt at.method end h.before) [
            | inl a ↦ inl (record { native = h.native; before = a })
            | inr e ↦ inr (record {
              here = λ i. record { class = h.native.numbered i; method = e i };
              same_class = h.native.same;
              same = ap (λ o. unwrap_or o item) (sym h.native.is ∙ ap (λ (k : MetaObject). slice_get k.methods at.method) h.native.same ∙ ap (λ n. slice_get cls.methods n) e ∙ there);
              native = h.native.native;
            })
          ]

      left : Within (FromBefore end) (FromBefore (end + 1))
      left at class method effects h = let b = h.before in record { native = h.native; before = omega arith }

      right : Within This (FromBefore (end + 1))
      right at class method effects h =
          let e : at.method ≡ end = ap (λ (x : NativePlace). x.method) h.here in
          record {
            native = record {
              numbered = ap (λ (x : NativePlace). x.class) h.here;
              same = h.same_class;
              from = omega (arith, e, after);
              is = ap (λ n. slice_get class.methods n) e ∙ ap (λ (k : MetaObject). slice_get k.methods end) h.same_class ∙ there ∙ ap Some (sym h.same);
              native = h.native;
            };
            before = omega (arith, e);
          }

      order : Precedes (FromBefore end) This
      order a b class method effects k w e x y =
          let met : b.method ≡ end = ap (λ (q : NativePlace). q.method) y.here in
          let lower = x.before in
          inr (x.native.numbered ∙ sym (ap (λ (q : NativePlace). q.class) y.here), omega (arith, met, lower))

  pub all_methods : (n : ℕ) → length cls.methods ≤ n → (a : Result (Unit {0}) Misfit) → FitsAmong heads (FromBefore n) a → FitsAmong heads (IsNativeFrom number cls first) a
  all_methods n end a f = refit heads (FromBefore n) (IsNativeFrom number cls first) there (λ at class method effects h. h.native) a f
    where
      there : Within (IsNativeFrom number cls first) (FromBefore n)
      there at class method effects h =
          let b : at.method < length cls.methods = slice_get_within _ _ _ (sym (ap (λ (k : MetaObject). slice_get k.methods at.method) h.same) ∙ h.is) in
          record { native = h; before = omega arith }

-- ---- the classes of a program
module _ (heads : List NativeHead) (p : Loaded) where
  pub record OfBefore (end : ℕ) (at : NativePlace) (class : MetaObject) (method : MetaMethod) (effects : MetaEffects) : Type 0 where
    pub native : IsNativeAt p at class method effects
    pub before : at.class < end

  pub no_class : EachPlaced (OfBefore 0) (HasFitting heads)
  no_class at class method effects h = let b = h.before in absurd (omega arith)

  pub more_classes : (number : ℕ) (item : MetaObject) → slice_get p.classes number ≡ Some item → (a b : Result (Unit {0}) Misfit)
      → FitsAmong heads (OfBefore number) a → FitsAmong heads (IsNativeFrom number item (method_offset p number)) b → FitsAmong heads (OfBefore (number + 1)) (first_of a b)
  more_classes number item there a b f g =
      joins heads (OfBefore number) This (OfBefore (number + 1)) split left right order a b f g
    where
      This : Placed
      This = IsNativeFrom number item (method_offset p number)

      count : method_count p number ≡ length item.methods
      count = ap methods_in there

      split : Splits (OfBefore number) This (OfBefore (number + 1))
      split at class method effects h =
          elim (split_lt at.class number h.before) [
            | inl a ↦ inl (record { native = h.native; before = a })
            | inr e ↦ inr (record {
              numbered = e;
              same = ap (λ o. unwrap_or o item) (sym h.native.is_class.is ∙ ap (λ n. slice_get p.classes n) e ∙ there);
              from = subst (λ n. method_offset p n ≤ at.method) e h.native.declares.after;
              is = h.native.is;
              native = h.native.native;
            })
          ]

      left : Within (OfBefore number) (OfBefore (number + 1))
      left at class method effects h = let b = h.before in record { native = h.native; before = omega arith }

      right : Within This (OfBefore (number + 1))
      right at class method effects h =
          let b : at.method < length item.methods = slice_get_within _ _ _ (sym (ap (λ (k : MetaObject). slice_get k.methods at.method) h.same) ∙ h.is) in
          let e : at.class ≡ number = h.numbered in
          record {
            native = record {
              is_class = record { is = ap (λ n. slice_get p.classes n) e ∙ there ∙ ap Some (sym h.same) };
              is = h.is;
              declares = record {
                after = subst (λ n. method_offset p n ≤ at.method) (sym e) h.from;
                within = subst (λ n. at.method < method_count p n) (sym e) (subst (λ n. at.method < n) (sym count) b);
              };
              native = h.native;
            };
            before = omega (arith, e);
          }

      order : Precedes (OfBefore number) This
      order a b class method effects k w e x y = let is = y.numbered in let lower = x.before in inl (omega (arith, is, lower))

  pub all_classes : (n : ℕ) → length p.classes ≤ n → (a : Result (Unit {0}) Misfit) → FitsAmong heads (OfBefore n) a → Fits heads p a
  all_classes n end a f = refit heads (OfBefore n) (IsNativeAt p) there (λ at class method effects h. h.native) a f
    where
      there : Within (IsNativeAt p) (OfBefore n)
      there at class method effects h = let b : at.class < length p.classes = slice_get_within _ _ _ h.is_class.is in record { native = h; before = omega arith }
