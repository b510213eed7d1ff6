-- Closures that fit keep what a program may expect of its natives.
use Rattle.std.{proofs.Common.{◌≡◌, ℕ, zero, suc, List, [], ◌∷◌, Bool, true, false, ◌&&◌, IsTrue, length, slice_get, Option, Vec, Result, Ok, Err, refl, sym, ◌∙◌, ap, subst, map}, specs.Prelude.{nat_le, OnOk}, specs.List.{AllZip, list_all}, specs.Option.{option_map, option_map_or, option_and_then, unwrap_or}, specs.declared.alloc.Global.{Global}, specs.declared.alloc.AllocError.{AllocError}}
use Rattle.basic_types.specs.declared.value.Value.{Value}
use Rattle.meta_model.specs.{declared.effects.MetaEffects.{MetaEffects}, declared.object.MetaMethod.{MetaMethod}, declared.object.MetaObject.{MetaObject}, declared.object.MetaProperty.{MetaProperty}, Loaded.{Loaded}, Values.{Has, HaveTypes}}
use Rattle.native_slots.{specs.declared.action.Action.{Action}, specs.declared.action.Action.TheVariants.{Emit, Set}, specs.declared.action.TheConstants.{MOST_ACTIONS}, specs.declared.effects.Effects.{Effects}, specs.declared.effects.PlainProperty.{PlainProperty}, specs.declared.effects.PlainSignal.{PlainSignal}, specs.declared.head.NativeHead.{NativeHead}, specs.declared.misfit.Misfit.{Misfit}, specs.declared.plain_type.PlainType.{PlainType}, specs.Answers.{takes_any, MayAnswer}, specs.Effects.{types_of, kinds_of_properties, accepts, is_within, are_within}, specs.Fitting.{IsPropertyAs, IsSignalAs, AreAsDeclared}, specs.Misfits.{Fits}, specs.Plain.{kind_of, is_of, are_of}, specs.Promises.{IsValueOf, Promises, is_declared, are_declared}, proofs.Asking.{heads_found}, proofs.PlainValues.{of_has}}

both_true : (a b : Bool) → IsTrue a → IsTrue b → IsTrue (a && b)
both_true true b h k = k
both_true false b h k = h

first_true : (a b : Bool) → IsTrue (a && b) → IsTrue a
first_true true b h = refl
first_true false b h = h

second_true : (a b : Bool) → IsTrue (a && b) → IsTrue b
second_true true b h = h
second_true false b h = absurd (false_true h)
  where
    false_true : false ≡ true → ⊥
    false_true e = cc

module _ (p : Loaded) (classes : ℕ → Option ℕ) where
  are_typed : (vs : List Value) (Ts : List PlainType) → HaveTypes p classes vs (types_of Ts) → IsTrue (are_of vs (types_of Ts))
  are_typed [] [] h = refl
  are_typed [] (T ∷ Ts) h = absurd h
  are_typed (v ∷ vs) [] h = absurd h
  are_typed (v ∷ vs) (T ∷ Ts) h = both_true _ _ (of_has p classes v T h.0) (are_typed vs Ts h.1)

  module _ (class : MetaObject) where
    is_valued : (q : ℕ) (v : Value) (like : PlainProperty) → IsPropertyAs class q like → IsValueOf p classes class q v → IsTrue (is_of v (kind_of like.kind))
    is_valued q v like same valued =
        let one : valued.property ≡ same.property = ap (λ o. unwrap_or o same.property) (sym valued.is ∙ same.is) in
        of_has p classes v like.kind (subst (λ T. Has p classes v T) (ap (λ (x : MetaProperty). x.kind) one ∙ same.typed) valued.has)

    are_valued : (qs : List ℕ) (vs : List Value) (likes : List PlainProperty) → AllZip (IsPropertyAs class) qs likes → AllZip (IsValueOf p classes class) qs vs → IsTrue (are_of vs (kinds_of_properties likes))
    are_valued [] [] [] h k = refl
    are_valued [] [] (l ∷ ls) h k = absurd h
    are_valued [] (v ∷ vs) ls h k = absurd k
    are_valued (q ∷ qs) [] ls h k = absurd k
    are_valued (q ∷ qs) (v ∷ vs) [] h k = absurd h
    are_valued (q ∷ qs) (v ∷ vs) (l ∷ ls) h k = both_true _ _ (is_valued q v l h.0 k.0) (are_valued qs vs ls h.1 k.1)

module _ (class : MetaObject) where
  sets_declared : (qs : List ℕ) (likes : List PlainProperty) (place : ℕ) (v : Value) → AllZip (IsPropertyAs class) qs likes
      → IsTrue (option_map_or (λ (property : PlainProperty). is_of v (kind_of property.kind)) (slice_get likes place) false)
      → IsTrue (option_map_or (λ (property : MetaProperty). is_of v property.kind) (option_and_then (λ q. slice_get class.properties q) (slice_get qs place)) false)
  sets_declared [] [] place v h w = w
  sets_declared [] (l ∷ ls) place v h w = absurd h
  sets_declared (q ∷ qs) [] place v h w = absurd h
  sets_declared (q ∷ qs) (l ∷ ls) zero v h w =
      subst (λ o. IsTrue (option_map_or (λ (property : MetaProperty). is_of v property.kind) o false)) (sym h.0.is) (subst (λ T. IsTrue (is_of v T)) (sym h.0.typed) w)
  sets_declared (q ∷ qs) (l ∷ ls) (suc place) v h w = sets_declared qs ls place v h.1 w

  emits_declared : (ms : List ℕ) (likes : List PlainSignal) (place : ℕ) (vs : List Value) → AllZip (IsSignalAs class) ms likes
      → IsTrue (option_map_or (λ (signal : PlainSignal). are_of vs (types_of signal.types)) (slice_get likes place) false)
      → IsTrue (option_map_or (λ (signal : MetaMethod). are_of vs signal.types) (option_and_then (λ m. slice_get class.methods m) (slice_get ms place)) false)
  emits_declared [] [] place vs h w = w
  emits_declared [] (l ∷ ls) place vs h w = absurd h
  emits_declared (m ∷ ms) [] place vs h w = absurd h
  emits_declared (m ∷ ms) (l ∷ ls) zero vs h w =
      subst (λ o. IsTrue (option_map_or (λ (signal : MetaMethod). are_of vs signal.types) o false)) (sym h.0.is) (subst (λ Ts. IsTrue (are_of vs Ts)) (sym h.0.typed) w)
  emits_declared (m ∷ ms) (l ∷ ls) (suc place) vs h w = emits_declared ms ls place vs h.1 w

  module _ (method : MetaMethod) (effects : MetaEffects) (kept : Effects) (same : AreAsDeclared class method effects kept) where
    action_declared : (a : Action) → IsTrue (is_within kept a) → IsTrue (is_declared class effects a)
    action_declared (Emit place vs) w = emits_declared effects.emits kept.emits place vs same.emits w
    action_declared (Set place v) w = sets_declared effects.sets kept.sets place v same.sets w

    each_declared : (actions : List Action) → IsTrue (list_all (is_within kept) actions) → IsTrue (list_all (is_declared class effects) actions)
    each_declared [] w = refl
    each_declared (a ∷ actions) w = both_true _ _ (action_declared a (first_true _ _ w)) (each_declared actions (second_true _ _ w))

    actions_declared : (actions : List Action) → IsTrue (are_within kept actions) → IsTrue (are_declared class effects actions)
    actions_declared actions w = both_true _ _ (first_true (nat_le (length actions) MOST_ACTIONS) _ w) (each_declared actions (second_true (nat_le (length actions) MOST_ACTIONS) _ w))

-- .. where each closure keeps its own promise
module _ {S : Type 0} (head_of : S → NativeHead) (answers : S → List Value → List Value → Result (Vec Action Global) AllocError → Type 0) (slots : List S) (p : Loaded) where
  pub promised : Fits (map head_of slots) p (Ok tt)
      → ((slot : S) (arguments reads : List Value) (v : Vec Action Global) → IsTrue (accepts (head_of slot).effects arguments reads) → answers slot arguments reads (Ok v) → IsTrue (are_within (head_of slot).effects v.items))
      → Promises p (λ class sig arguments reads. takes_any (map head_of slots) class sig arguments reads) (λ class sig arguments reads actions. MayAnswer head_of answers slots class sig arguments reads actions)
  promised fit kept c m class method effects native classes arguments reads typed valued =
      let has = fit (record { class = c; method = m }) class method effects native in
      let accepted : IsTrue (accepts has.head.effects arguments reads) =
      both_true _ _ (are_typed p classes arguments has.head.effects.parameters (subst (λ Ts. HaveTypes p classes arguments Ts) has.same.parameters typed))
      (are_valued p classes class effects.reads reads has.head.effects.reads has.same.reads valued) in (
        subst (λ o. IsTrue (option_map_or (λ (h : NativeHead). accepts h.effects arguments reads) o false)) (sym has.first) accepted,
        λ actions gave.
            let one : head_of gave.slot ≡ has.head =
            ap (λ o. unwrap_or o has.head) (sym (ap (option_map head_of) gave.first) ∙ sym (heads_found head_of slots class.name method.sig) ∙ has.first) in
            let within = kept gave.slot arguments reads gave.answer (subst (λ (h : NativeHead). IsTrue (accepts h.effects arguments reads)) (sym one) accepted) gave.gave in
            actions_declared class method effects has.head.effects has.same actions
            (subst (λ as_list. IsTrue (are_within has.head.effects as_list)) gave.is (subst (λ (h : NativeHead). IsTrue (are_within h.effects gave.answer.items)) one within)),
      )

  pub promised_on_ok : ((slot : S) (arguments reads : List Value) (v : Vec Action Global) → IsTrue (accepts (head_of slot).effects arguments reads) → answers slot arguments reads (Ok v) → IsTrue (are_within (head_of slot).effects v.items))
      → (r : Result (Unit {0}) Misfit) → Fits (map head_of slots) p r
      → OnOk r (Promises p (λ class sig arguments reads. takes_any (map head_of slots) class sig arguments reads) (λ class sig arguments reads actions. MayAnswer head_of answers slots class sig arguments reads actions))
  promised_on_ok kept (Ok u) fit = promised fit kept
  promised_on_ok kept (Err e) fit = tt
