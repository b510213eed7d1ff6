-- A native's effects that are resolved in outlines, as they are loaded, and what they promise.
use Rattle.std.{proofs.Common.{◌≡◌, ℕ, zero, suc, true, List, [], ◌∷◌, slice_get, Some, Any, inl, inr, refl, sym, ap, ◌∙◌, subst}, specs.Prelude.{All}, specs.List.{AllZip}, proofs.lemmas.Option.{none-some, same_Some}}
use Rattle.basic_types.specs.{declared.qtype.QType.{QType}, declared.sig.Sig.{Sig}}
use Rattle.syntax_trees.specs.{declared.program.EffectNames.{EffectNames}, declared.program.Parameter.{Parameter}}
use Rattle.meta_model.specs.{declared.effects.MetaEffects.{MetaEffects}, declared.object.MetaMethod.{MetaMethod}, declared.object.MetaObject.{MetaObject}, declared.object.MetaProperty.{MetaProperty}, declared.object.ValueType.{ValueType}, Loaded.{Loaded}, Members.{IsPropertyNamed}, Sound.{IsPlain, IsPlainProperty, IsPlainSignal, AreOnce, AreSoundEffects}}
use Rattle.class_outlines.{specs.declared.outline.Outline.{Outline}, specs.code.ReadTypes.{IsReadAs}, specs.Natives.{RepeatsEffect, IsPointer, TakesReference, AffectsReference}, specs.Outlines.{IsOutlineNamed, types_of}, specs.DeclaredSites.{IsReferenceIn}, proofs.Once.{none_at}, proofs.Searches.{same_first}, proofs.Zips.{any_of, place_of_any, zip_right, zip_also}}
use Rattle.name_indexes.specs.Twice.{StandsTwice}
use Rattle.name_resolution.specs.{declared.body_resolution.work.ResolvedWork.{ResolvedWork}, code.Loading.{work_of, IsObject}, code.Natives.{HasPropertyIn, HasSignalIn, AreEffects}}
use Rattle.meta_objects.{specs.LoadedNatives.{IsEmitted, AreLoadedEffects}, proofs.Sited.{all_of, named_in, plain_kind, plain_in}, proofs.Soundness.{IsTyped, FoundMethod, method_at}}

-- ---- numbers appear once where the names that they stand for do
module _ {A : Type 0} (R : A → ℕ → Type 0) (alike : A → A → Type 0) (joined : (x y : A) (n : ℕ) → R x n → R y n → alike x y) where
  twice_back : (xs : List A) (ns : List ℕ) → AllZip R xs ns → StandsTwice (λ (a b : ℕ). a ≡ b) ns → StandsTwice alike xs
  twice_back [] [] h twice = twice
  twice_back [] (n ∷ ns) h twice = absurd h
  twice_back (x ∷ xs) [] h twice = absurd h
  twice_back (x ∷ xs) (n ∷ ns) h (inl any) =
      let at = place_of_any (λ m. n ≡ m) ns any in
      let y = zip_right R xs ns h.1 at.0 at.1.item at.1.is in
      inl (any_of (alike x) xs at.0 (record { item = y.0; is = y.1; has = joined x y.0 n h.0 (subst (λ m. R y.0 m) (sym at.1.has) y.2) }))
  twice_back (x ∷ xs) (n ∷ ns) h (inr more) = inr (twice_back xs ns h.1 more)

  numbers_once : (xs : List A) (ns : List ℕ) → AllZip R xs ns → (¬ StandsTwice alike xs) → AreOnce ns
  numbers_once xs ns h none twice = none (twice_back xs ns h twice)

-- a property's number has one name
one_name : (p : Loaded) (c : ℕ) (name other : List ℕ) (q : ℕ) → IsPropertyNamed p c name q → IsPropertyNamed p c other q → name ≡ other
one_name p c name other q h k =
    let class : h.class ≡ k.class = same_Some _ _ (sym h.is_class.is ∙ k.is_class.is) in
    let property : h.property ≡ k.property = same_Some _ _ (sym h.is ∙ ap (λ (x : MetaObject). slice_get x.properties q) class ∙ k.is) in
    sym h.named ∙ ap (λ (x : MetaProperty). x.name) property ∙ k.named

-- .. and a signal's number one signature
one_sig : (p : Loaded) (c : ℕ) (sig other : Sig) (m : ℕ) → IsEmitted p c sig m → IsEmitted p c other m → sig.name ≡ other.name
one_sig p c sig other m h k =
    let class : h.signal.is.class ≡ k.signal.is.class = same_Some _ _ (sym h.signal.is.is_class.is ∙ k.signal.is.is_class.is) in
    let method : h.signal.method ≡ k.signal.method = same_Some _ _ (sym h.signal.is.is ∙ ap (λ (x : MetaObject). slice_get x.methods m) class ∙ k.signal.is.is) in
    ap (λ (s : Sig). s.name) (sym h.signal.signed ∙ ap (λ (x : MetaMethod). x.sig) method ∙ k.signal.signed)

-- ---- the loaded classes are those of these outlines
module _ (outlines : List Outline) (works : List (List ResolvedWork)) (p : Loaded) (objects : AllZip (IsObject outlines works) outlines p.classes) where
  -- types without references are read as none
  plain_types : (types : List QType) (value_types : List ValueType) → AllZip (IsReadAs outlines) types value_types → (¬ Any IsPointer types) → All IsPlain value_types
  plain_types types value_types read none =
      all_of IsPlain value_types (λ k kind e.
      let T = zip_right (IsReadAs outlines) types value_types read k kind e in
      plain_kind outlines works p objects T.0 kind (none_at IsPointer types none k T.0 T.1) T.2)

  plain_parameter : (ps : List Parameter) (value_types : List ValueType) → AllZip (IsTyped outlines p) (types_of ps) value_types → (¬ TakesReference ps) → (k : ℕ) (kind : ValueType) → slice_get value_types k ≡ Some kind → IsPlain kind
  plain_parameter [] [] typed none k kind e = absurd (none-some kind e)
  plain_parameter [] (l ∷ ls) typed none k kind e = absurd typed
  plain_parameter (x ∷ xs) [] typed none k kind e = absurd typed
  plain_parameter (x ∷ xs) (l ∷ ls) typed none zero kind e =
      subst IsPlain (same_Some _ _ e)
      (plain_kind outlines works p objects x.kind l
      (λ pointer. none (any_of (λ (y : Parameter). IsPointer y.kind) (x ∷ xs) 0 (record { item = x; is = refl; has = pointer }))) typed.0.0)
  plain_parameter (x ∷ xs) (l ∷ ls) typed none (suc k) kind e =
      plain_parameter xs ls typed.1
      (λ any.
      let at = place_of_any (λ (y : Parameter). IsPointer y.kind) xs any in
      none (any_of (λ (y : Parameter). IsPointer y.kind) (x ∷ xs) (suc at.0) (record { item = at.1.item; is = at.1.is; has = at.1.has })))
      k kind e

  pub plain_parameters : (ps : List Parameter) (value_types : List ValueType) → AllZip (IsTyped outlines p) (types_of ps) value_types → (¬ TakesReference ps) → All IsPlain value_types
  plain_parameters ps value_types typed none = all_of IsPlain value_types (plain_parameter ps value_types typed none)

  module _ (class : List ℕ) (c : ℕ) (is_me : IsOutlineNamed outlines class c) where
    same_class : (d : ℕ) → IsOutlineNamed outlines class d → d ≡ c
    same_class d h = same_first (λ (o : Outline). o.name ≡ class) outlines d c h is_me

    property_loads : (name : List ℕ) (q : ℕ) → HasPropertyIn outlines class name q → IsPropertyNamed p c name q
    property_loads name q h =
        subst (λ d. IsPropertyNamed p d name q) (same_class h.number h.is.of_class) (named_in outlines works p objects class name h.number q h.property h.is)

    -- the signal, as it is loaded
    signal_at : (sig : Sig) (m : ℕ) (h : HasSignalIn outlines class sig m) → FoundMethod outlines works p objects h.number m h.is.method.at.item
    signal_at sig m h = method_at outlines works p objects h.number h.is.class.at.item h.is.class.at.is m h.is.method.at.item h.is.method.at.is

    signal_loads : (sig : Sig) (m : ℕ) → HasSignalIn outlines class sig m → IsEmitted p c sig m
    signal_loads sig m h =
        let found = signal_at sig m h in
        subst (λ d. IsEmitted p d sig m) (same_class h.number h.is.class) (record {
          signal = record { method = found.loaded; is = found.is; signed = found.by.signed ∙ h.is.method.at.has.0 };
          signals = found.by.work ∙ ap (λ s. work_of works s) h.is.method.at.has.1;
          emitted = h.emitted;
        })

    pub effects_load : (names : EffectNames) (effects : MetaEffects) → AreEffects outlines class names effects → AreLoadedEffects p c names effects
    effects_load names effects h = record {
      reads = zip_also (HasPropertyIn outlines class) (IsPropertyNamed p c) names.reads effects.reads property_loads h.reads;
      emits = zip_also (HasSignalIn outlines class) (IsEmitted p c) names.emits effects.emits signal_loads h.emits;
      sets = zip_also (HasPropertyIn outlines class) (IsPropertyNamed p c) names.sets effects.sets property_loads h.sets;
    }

    -- ---- where no reference is touched
    properties_plain : (names : List (List ℕ)) (numbers : List ℕ) → AllZip (HasPropertyIn outlines class) names numbers → (¬ Any (IsReferenceIn outlines class) names) → All (IsPlainProperty p c) numbers
    properties_plain names numbers h none =
        all_of (IsPlainProperty p c) numbers (λ k q e.
        let at = zip_right (HasPropertyIn outlines class) names numbers h k q e in
        let found : HasPropertyIn outlines class at.0 q = at.2 in
        let value : ¬ (found.property.kind.pointer ≡ true) =
        λ pointer. none_at (IsReferenceIn outlines class) names none k at.0 at.1
        (record { number = found.number; place = q; property = found.property; is = found.is; pointer = pointer }) in
        subst (λ d. IsPlainProperty p d q) (same_class found.number found.is.of_class)
        (plain_in outlines works p objects class at.0 found.number q found.property found.is value))

    signals_plain : (sigs : List Sig) (numbers : List ℕ) → AllZip (HasSignalIn outlines class) sigs numbers → (¬ Any (λ (sig : Sig). Any IsPointer sig.types) sigs) → All (IsPlainSignal p c) numbers
    signals_plain sigs numbers h none =
        all_of (IsPlainSignal p c) numbers (λ k m e.
        let at = zip_right (HasSignalIn outlines class) sigs numbers h k m e in
        let has : HasSignalIn outlines class at.0 m = at.2 in
        let found = signal_at at.0 m has in
        let values : ¬ Any IsPointer at.0.types = none_at (λ (sig : Sig). Any IsPointer sig.types) sigs none k at.0 at.1 in
        let read : AllZip (IsReadAs outlines) at.0.types found.loaded.types = subst (λ (s : Sig). AllZip (IsReadAs outlines) s.types found.loaded.types) has.is.method.at.has.0 found.by.types in
        subst (λ d. IsPlainSignal p d m) (same_class has.number has.is.class) (record {
          signal = found.loaded;
          is = found.is;
          signals = found.by.work ∙ ap (λ s. work_of works s) has.is.method.at.has.1;
          emitted = has.emitted;
          plain = plain_types at.0.types found.loaded.types read values;
        }))

    pub effects_sound : (names : EffectNames) (effects : MetaEffects) → AreEffects outlines class names effects → (¬ RepeatsEffect names) → (¬ AffectsReference outlines class names) → AreSoundEffects p c effects
    effects_sound names effects h once plain =
        let loaded = effects_load names effects h in
        record {
          reads = properties_plain names.reads effects.reads h.reads (λ any. plain (inl any));
          reads_once = numbers_once (IsPropertyNamed p c) (λ a b. a ≡ b) (one_name p c) names.reads effects.reads loaded.reads (λ twice. once (inl twice));
          emits = signals_plain names.emits effects.emits h.emits (λ any. plain (inr (inl any)));
          emits_once = numbers_once (IsEmitted p c) (λ (a b : Sig). a.name ≡ b.name) (one_sig p c) names.emits effects.emits loaded.emits (λ twice. once (inr (inl twice)));
          sets = properties_plain names.sets effects.sets h.sets (λ any. plain (inr (inr any)));
          sets_once = numbers_once (IsPropertyNamed p c) (λ a b. a ≡ b) (one_name p c) names.sets effects.sets loaded.sets (λ twice. once (inr (inr twice)));
        }
