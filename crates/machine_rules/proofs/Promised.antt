-- What a native is asked is there, and so is what it answers, by its promise.
use Rattle.std.{proofs.Common.{◌≡◌, inl, inr, ℕ, zero, suc, ◌<◌, ◌≤◌, ◌&&◌, Bool, true, false, IsTrue, List, [], ◌∷◌, ◌++◌, length, Option, None, Some, slice_get, refl, sym, ap, ◌∙◌, subst, arith}, specs.Prelude.{is_some, nat_le}, specs.List.{AllByRecursion, AllZip, list_all}, specs.Option.{option_and_then, option_map_or}, proofs.lemmas.Bool.{cases_lt}, proofs.lemmas.List.Elements.{recursion_from_All}}
use Rattle.native_slots.specs.{declared.action.TheConstants.{MOST_ACTIONS}, declared.action.Action.{Action}, Plain.{is_of, are_of}, Promises.{IsNative, IsValueOf, is_declared, are_declared, Takes, Gives, KeepsPromise, Promises}}
use Rattle.basic_types.specs.{declared.value.Value.{Value}, Values.{number_has, truth_has, text_has, null_has, object_has}}
use Rattle.basic_types.specs.declared.value.Value.TheVariants as value
use Rattle.meta_model.specs.{declared.effects.MetaEffects.{MetaEffects}, declared.object.MetaMethod.{MetaMethod}, declared.object.MetaObject.{MetaObject}, declared.object.MetaProperty.{MetaProperty}, declared.object.ValueType.{ValueType}, declared.object.Work.{Work}, declared.object.Work.TheVariants.{Native}, Loaded.{Loaded}, Members.{IsClass, IsMethod, IsProperty, Declares, Below, same, under, base_of, method_count, methods_before, methods_in}, Sound.{IsSound, IsPlain, IsPlainProperty, IsSoundNative, IsSoundWork}, Values.{Has, HaveTypes}}
use Rattle.native_slots.specs.declared.action.Action.TheVariants as action
use Rattle.object_tree.{specs.declared.life.Life.{Life}, specs.declared.object.Object.{Object}, proofs.Changing.{life-of-lives}, specs.Objects.{Lives, class_of, life_of}, specs.Seen.{seen_reference}, specs.Typed.{AreTyped, ReadsAs, ReadAs}}
use Rattle.trace_entries.specs.declared.entry.ShownAction.TheVariants as show
use Rattle.machine_state.specs.Objects.{shown, all_shown}
use Rattle.machine_rules.{specs.Good.{ArgumentsFit}, specs.Natives.{DeclaredBy, own, inherited, IsShownAs, AreRead, set_shown, emit_shown}, specs.code.Answering.{HasStored, IsTellable, AreTellable, member_of_action}, specs.Reaches.{DoesWork}, specs.There.{IsMember, IsField}, proofs.Fields.{some-is, class-unique, member-method, old-there, stored-reads}, proofs.Inherited.{method-below, property-below, method-counted, counted-method}}
use Rattle.trace_entries.specs.declared.entry.ShownAction.{ShownAction}

-- ---- the class that declares a native

get-before : {X : Type 0} (xs ys : List X) (k : ℕ) → k < length xs → slice_get (xs ++ ys) k ≡ slice_get xs k
get-before [] ys k less = absurd (omega (arith, less))
get-before (x ∷ xs) ys zero less = refl
get-before (x ∷ xs) ys (suc k) less = get-before xs ys k (omega (arith, less))

-- a class whose base doesn't have a method of it
declares-own : {p : Loaded} {m c : ℕ} {method : MetaMethod} → ((b : ℕ) (k : MetaMethod) → base_of p c ≡ Some b → ¬ IsMethod p b m k) → IsMethod p c m method → Declares p c m
declares-own {p} {m} {c} none is = record { after = by_base (base_of p c) refl; within = method-counted is }
  where
    by_base : (base : Option ℕ) → base_of p c ≡ base → methods_before p base ≤ m
    by_base None e = omega arith
    by_base (Some b) e = elim (cases_lt m (method_count p b)) [
      | inl less ↦ let has = counted-method p b m less in absurd (none b has.0 e has.1)
      | inr past ↦ past
    ]

-- it is the class or above it, and has the method
pub declared-at : {p : Loaded} {m c d : ℕ} {method : MetaMethod} → IsSound p → DeclaredBy p m c d → IsMethod p c m method → Below p c d × IsMethod p d m method × Declares p d m
declared-at sound (own none) is = (same is.is_class, is, declares-own none is)
declared-at {p} {m} {c} {method = method} sound (inherited {b = b} base has rest) is =
    let class_base : is.class.base ≡ Some b = sym (ap (option_and_then (λ (k : MetaObject). k.base)) is.is_class.is) ∙ base in
    let above = (sound.classes c is.class is.is_class).under b class_base in
    let there : slice_get (above.base.methods ++ above.own_methods) m ≡ Some method = ap (λ (l : List MetaMethod). slice_get l m) (sym above.methods) ∙ is.is in
    let count : method_count p b ≡ length above.base.methods = ap methods_in above.is.is in
    let less : m < method_count p b = method-counted has in
    let front : slice_get above.base.methods m ≡ Some method = sym (get-before above.base.methods above.own_methods m (omega (arith, less, count))) ∙ there in
    let up = declared-at sound rest (record { class = above.base; is_class = above.is; is = front }) in
    (under base up.0, up.1, up.2)

-- .. of an object whose life is known
pub declared-of : {p : Loaded} {objects : List Object} {o m number : ℕ} {x : Object} {method : MetaMethod} {life : Life} (is : IsMember p objects o m x method) → life_of objects o ≡ Some life → DeclaredBy p m life.class number → DeclaredBy p m is.life.class number
declared-of {p} {m = m} {number = number} is known declared =
    subst (λ (l : Life). DeclaredBy p m l.class number) (some-is known (life-of-lives is.lives)) declared

-- it is there
pub declaring-there : {p : Loaded} {m c d : ℕ} {method : MetaMethod} → IsSound p → DeclaredBy p m c d → IsMethod p c m method → None ≡ slice_get p.classes d → ⊥
declaring-there sound declared is none =
    let there = (declared-at sound declared is).1.is_class.is in
    absurd (cc (none ∙ there))

-- ---- values of plain types

no-reference : {p : Loaded} {class : ℕ → Option ℕ} {r : Option ℕ} (v : Value) (T : ValueType) → v ≡ value.Ref r → IsPlain T → Has p class v T → ⊥
no-reference v T e plain number_has = absurd (cc e)
no-reference v T e plain truth_has = absurd (cc e)
no-reference v T e plain text_has = absurd (cc e)
no-reference v T e plain (null_has {c = c} {constant = constant}) = plain c constant refl
no-reference v T e plain (object_has {c = c} {constant = constant} is below) = plain c constant refl

plain-has : (p : Loaded) (objects : List Object) (v : Value) (T : ValueType) → IsPlain T → ReadsAs p objects v T → Has p (class_of objects) v T
plain-has p objects (value.Int n) T plain has = has
plain-has p objects (value.Bool b) T plain has = has
plain-has p objects (value.Text t) T plain has = has
plain-has p objects (value.Ref r) T plain has = absurd (no-reference {p = p} {class = class_of objects} {r = seen_reference objects r} (value.Ref (seen_reference objects r)) T refl plain has)

plain-values : (p : Loaded) (objects : List Object) (vs : List Value) (Ts : List ValueType) → AllByRecursion IsPlain Ts → ReadAs p objects vs Ts → HaveTypes p (class_of objects) vs Ts
plain-values p objects [] [] plain have = tt
plain-values p objects [] (T ∷ Ts) plain have = absurd have
plain-values p objects (v ∷ vs) [] plain have = absurd have
plain-values p objects (v ∷ vs) (T ∷ Ts) plain have = (plain-has p objects v T plain.0 have.0, plain-values p objects vs Ts plain.1 have.1)

-- both tests pass
and_true : (a b : Bool) → IsTrue (a && b) → IsTrue a × IsTrue b
and_true true b both = (refl, both)
and_true false b both = absurd (cc both)

-- ---- what it reads

module _ {p : Loaded} (sound : IsSound p) {objects : List Object} (typed : AreTyped p objects) {o : ℕ} {x : Object} {life : Life} (lives : Lives objects o x life) {number : ℕ} {class : MetaObject} (below : Below p life.class number) (is_class : IsClass p number class) where
  -- a property of the declaring class is one of the object
  pub field-of : {q : ℕ} {property : MetaProperty} → IsProperty p number q property → IsField p objects o q x property
  field-of is =
      let at = property-below sound below is in
      record { life = life; lives = lives; class = at.class; is_class = at.is_class; is_property = at.is }

  pub member-of : {g : ℕ} {signal : MetaMethod} → IsMethod p number g signal → IsMember p objects o g x signal
  member-of is = record { life = life; lives = lives; is_method = method-below sound below is }

  at-class : {q : ℕ} {property : MetaProperty} → IsProperty p number q property → slice_get class.properties q ≡ Some property
  at-class {q} is = ap (λ (k : MetaObject). slice_get k.properties q) (class-unique is_class is.is_class) ∙ is.is

  module _ {declaring : ℕ} (up : Below p number declaring) where
    pub all-stored : (qs : List ℕ) → AllByRecursion (IsPlainProperty p declaring) qs → AllByRecursion (HasStored objects o) qs
    all-stored [] all = tt
    all-stored (q ∷ qs) all =
        let there = old-there (field-of (property-below sound up all.0.is)) typed in
        (record { value = there.0; is = there.1 }, all-stored qs all.1)

    pub all-values : (qs : List ℕ) (reads : List Value) → AllByRecursion (IsPlainProperty p declaring) qs → AreRead objects o qs reads → AllZip (IsValueOf p (class_of objects) class) qs reads
    all-values [] [] all are = tt
    all-values [] (v ∷ reads) all are = absurd are
    all-values (q ∷ qs) [] all are = absurd are
    all-values (q ∷ qs) (v ∷ reads) all are =
        let is = property-below sound up all.0.is in
        let reads_as : ReadsAs p objects v all.0.property.kind = stored-reads (field-of is) typed are.0 in
        (record { property = all.0.property; is = at-class is; has = plain-has p objects v all.0.property.kind all.0.plain reads_as }, all-values qs reads all.1 are.1)

  -- ---- what it answers
  module _ (effects : MetaEffects) where
    set-told : (k : ℕ) (v : Value) (at : Option ℕ) → slice_get effects.sets k ≡ at → IsTrue (option_map_or (λ (property : MetaProperty). is_of v property.kind) (option_and_then (λ q. slice_get class.properties q) at) false) → IsTellable p objects o effects (action.Set k v)
    set-told k v None e declared = absurd (cc declared)
    set-told k v (Some q) e declared = by_property (slice_get class.properties q) refl declared
      where
        by_property : (found : Option MetaProperty) → slice_get class.properties q ≡ found → IsTrue (option_map_or (λ (property : MetaProperty). is_of v property.kind) found false) → IsTellable p objects o effects (action.Set k v)
        by_property None is declared = absurd (cc declared)
        by_property (Some property) is declared = record {
          line = show.Set property.name (shown objects v);
          is = set_shown e (field-of (record { class = class; is_class = is_class; is = is }));
        }

    emit-told : (k : ℕ) (vs : List Value) (at : Option ℕ) → slice_get effects.emits k ≡ at → IsTrue (option_map_or (λ (signal : MetaMethod). are_of vs signal.types) (option_and_then (λ g. slice_get class.methods g) at) false) → IsTellable p objects o effects (action.Emit k vs)
    emit-told k vs None e declared = absurd (cc declared)
    emit-told k vs (Some g) e declared = by_method (slice_get class.methods g) refl declared
      where
        by_method : (found : Option MetaMethod) → slice_get class.methods g ≡ found → IsTrue (option_map_or (λ (signal : MetaMethod). are_of vs signal.types) found false) → IsTellable p objects o effects (action.Emit k vs)
        by_method None is declared = absurd (cc declared)
        by_method (Some signal) is declared = record {
          line = show.Emit signal.sig.name (all_shown objects vs);
          is = emit_shown e (member-of (record { class = class; is_class = is_class; is = is }));
        }

    told : (a : Action) → IsTrue (is_declared class effects a) → IsTellable p objects o effects a
    told (action.Set k v) declared = set-told k v (slice_get effects.sets k) refl declared
    told (action.Emit k vs) declared = emit-told k vs (slice_get effects.emits k) refl declared

    all-told : (actions : List Action) → IsTrue (list_all (is_declared class effects) actions) → AreTellable p objects o effects actions
    all-told [] declared = tt
    all-told (a ∷ actions) declared =
        let both = and_true (is_declared class effects a) (list_all (is_declared class effects) actions) declared in
        (told a both.0, all-told actions both.1)

    pub all-declared : (actions : List Action) → IsTrue (are_declared class effects actions) → AreTellable p objects o effects actions
    all-declared actions declared = all-told actions ((and_true (nat_le (length actions) MOST_ACTIONS) (list_all (is_declared class effects) actions) declared).1)

-- what can be written down is in its place
line-placed : (p : Loaded) (objects : List Object) (o : ℕ) (effects : MetaEffects) (a : Action) (line : ShownAction) → IsShownAs p objects o effects a line → IsTrue (is_some (member_of_action effects a))
line-placed p objects o effects a line (set_shown at field) = ap (λ (k : Option ℕ). is_some k) at
line-placed p objects o effects a line (emit_shown at member) = ap (λ (k : Option ℕ). is_some k) at

pub all-placed : (p : Loaded) (objects : List Object) (o : ℕ) (effects : MetaEffects) (actions : List Action) → AreTellable p objects o effects actions → AllByRecursion (λ (a : Action). IsTrue (is_some (member_of_action effects a))) actions
all-placed p objects o effects [] all = tt
all-placed p objects o effects (a ∷ actions) all = (line-placed p objects o effects a all.0.line all.0.is, all-placed p objects o effects actions all.1)

-- ---- a native that is called

pub native-of : {p : Loaded} {objects : List Object} {o m number : ℕ} {x : Object} {method : MetaMethod} {class : MetaObject} {effects : MetaEffects} → IsSound p → DoesWork p objects o m (Native effects) → (is : IsMember p objects o m x method) → DeclaredBy p m is.life.class number → IsClass p number class → IsNative p number m class method effects
native-of {p} {m = m} {method = method} sound does is declared is_class =
    let at = declared-at sound declared is.is_method in
    record {
      is_class = is_class;
      is = ap (λ (k : MetaObject). slice_get k.methods m) (class-unique is_class at.1.is_class) ∙ at.1.is;
      declares = at.2;
      native = ap (λ (k : MetaMethod). k.work) (member-method is does.is) ∙ sym does.is_work;
    }

pub sound-native : {p : Loaded} {number m : ℕ} {method : MetaMethod} {class : MetaObject} {effects : MetaEffects} → IsSound p → IsNative p number m class method effects → IsSoundNative p number m method.types effects
sound-native {p} {number} {m} {method} {class} sound n =
    subst (λ (w : Work). IsSoundWork p number m method.types w) n.native ((sound.classes number class n.is_class).methods m method n.is).work

-- its promise
pub promised : {p : Loaded} (takes : Takes) (gives : Gives) {objects : List Object} {o m number : ℕ} {x : Object} {method : MetaMethod} {class : MetaObject} {effects : MetaEffects} {arguments reads : List Value} → IsSound p → Promises p takes gives → AreTyped p objects → ArgumentsFit p objects o m arguments → DoesWork p objects o m (Native effects) → (is : IsMember p objects o m x method) → DeclaredBy p m is.life.class number → IsClass p number class → AreRead objects o effects.reads reads → KeepsPromise takes gives class method effects arguments reads
promised {p} takes gives {objects = objects} {number = number} {method = method} {class = class} {effects = effects} {arguments = arguments} {reads = reads} sound promises typed fit does is declared is_class are =
    let n = native-of sound does is declared is_class in
    let safe = sound-native sound n in
    let at = declared-at sound declared is.is_method in
    let given : ReadAs p objects arguments method.types = subst (λ (k : MetaMethod). ReadAs p objects arguments k.types) (member-method fit.is is) fit.typed in
    promises number _ class method effects n (class_of objects) arguments reads
    (plain-values p objects arguments method.types (recursion_from_All IsPlain method.types safe.plain) given)
    (all-values sound typed is.lives at.0 is_class safe.below effects.reads reads (recursion_from_All (IsPlainProperty p safe.declaring) effects.reads safe.sound.reads) are)

-- the object has what it reads
pub reads-there : {p : Loaded} {objects : List Object} {o m number : ℕ} {x : Object} {method : MetaMethod} {class : MetaObject} {effects : MetaEffects} → IsSound p → AreTyped p objects → DoesWork p objects o m (Native effects) → (is : IsMember p objects o m x method) → DeclaredBy p m is.life.class number → IsClass p number class → AllByRecursion (HasStored objects o) effects.reads
reads-there {p} {effects = effects} sound typed does is declared is_class =
    let safe = sound-native sound (native-of sound does is declared is_class) in
    all-stored sound typed is.lives (declared-at sound declared is.is_method).0 is_class safe.below effects.reads (recursion_from_All (IsPlainProperty p safe.declaring) effects.reads safe.sound.reads)

-- .. and each action of its answer can be written down
pub answer-told : {p : Loaded} {objects : List Object} {o m number : ℕ} {x : Object} {method : MetaMethod} {class : MetaObject} (effects : MetaEffects) → IsSound p → AreTyped p objects → (is : IsMember p objects o m x method) → DeclaredBy p m is.life.class number → IsClass p number class → (actions : List Action) → IsTrue (are_declared class effects actions) → AreTellable p objects o effects actions
answer-told effects sound typed is declared is_class actions within =
    all-declared sound typed is.lives (declared-at sound declared is.is_method).0 is_class effects actions within
