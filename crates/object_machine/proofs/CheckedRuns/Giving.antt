-- What a step of a body gives is of the types that are asked.
use Rattle.std.{proofs.Common.{◌≡◌, ℕ, ◌&&◌, Bool, true, false, IsTrue, List, [], ◌∷◌, length, map, Option, Some, None, slice_get, refl, sym, ◌∙◌, subst}, specs.Prelude.{IfSome, nat_le}, specs.List.{AllByRecursion, list_all}, specs.Option.{option_and_then, option_map, option_map_or}, proofs.lemmas.Option.{same_Some}, proofs.lemmas.List.Elements.{recursion_from_All}}
use Rattle.basic_types.specs.declared.value.Value.{Value}
use Rattle.basic_types.specs.declared.value.Value.TheVariants as value
use Rattle.meta_model.specs.{declared.effects.MetaEffects.{MetaEffects}, declared.object.MetaMethod.{MetaMethod}, declared.object.MetaObject.{MetaObject}, declared.object.MetaProperty.{MetaProperty}, declared.object.Statement.{Statement}, declared.object.Statement.TheViews.{out-Statement}, declared.object.ValueType.{ValueType}, declared.object.Work.{Work}, declared.object.Work.TheVariants.{Native}, Loaded.{Loaded}, Members.{IsMethod, IsProperty, Below}, Sound.{IsSound, IsSet, IsSoundStatement, set_sound, emit_sound, call_sound, if_sound, connect_sound, disconnect_sound, delete_sound, later_sound, group_sound, IsSoundWork}, Values.{HaveTypes}}
use Rattle.meta_model.specs.declared.object.Statement.TheOpen as layer
use Rattle.native_slots.{specs.declared.action.Action.{Action}, specs.declared.action.TheConstants.{MOST_ACTIONS}, specs.Plain.{is_of, are_of}, specs.Promises.{Takes, Promises, is_declared}, proofs.PlainValues.{has_of}}
use Rattle.native_slots.specs.declared.action.Action.TheVariants as action
use Rattle.object_tree.{specs.declared.life.Life.{Life}, specs.declared.object.Object.{Object}, specs.Objects.{Lives, class_of}, specs.Typed.{AreTyped, ReadsAs, ReadAs}, proofs.TypedObjects.{has-reads}}
use Rattle.type_check.{specs.Bodies.{IsTypedStatement}, specs.Typed.{IsTypedWork, IsTypedProgram}, proofs.Values.{arguments_have}}
use Rattle.effect_scan.specs.declared.node.Node.{Node}
use Rattle.machine_state.specs.{State.{State, Step, Run, Ask, Act, Activation}, Telling.{Alone, Grouped, writes_of}}
use Rattle.machine_rules.{specs.Operations.{Operation, Write, Begin, Choose, Connect, Disconnect, Delete, Schedule, TakeAnswer, Nothing, on_object, chosen_by, operation, operation_of_set, set_at, sets_in, operation_of_action, operation_of_step}, specs.Natives.{NativeAnswers}, specs.Paths.{path_value, value_of, values_of}, specs.Rules.{Answers}, specs.There.{IsMember}, proofs.Delivered.{fit-of}, proofs.Fields.{member-method}, proofs.Inherited.{method-below, property-below}, proofs.Keeps.{lives-of-class, class-of-lives}, proofs.Promised.{declared-at, promised}}
use Rattle.object_machine.proofs.{TypedPaths.{Reaches, to_null, to_object}, CheckedRuns.Invariant.{BodyStands, IsStepOf, runs}, CheckedRuns.Promised.{SetsWithin, EmitsWithin, IsWithin, IsPromised, StepIsPromised}, CheckedRuns.PathClasses.{same-class}, CheckedRuns.Lacking.{SetsAreTyped, paths-typed, reached, body-typed, typed-set, sets-done}, CheckedRuns.Leading.{occurs-sound, occurs-in}, Grouped.{IfWrites, within-first}, CheckedRuns.Nodes.{body-named}}
use Rattle.prop_bindings.specs.{declared.plans.assignment.Assignment.{Assignment}, Calls.{AllFit}, Fits.{FitsAt}}
use Rattle.binding_graph.specs.Places.{property_of}

-- ---- values of types

-- what has its types has them as it reads
all-reads : (p : Loaded) (objects : List Object) (vs : List Value) (Ts : List ValueType) → HaveTypes p (class_of objects) vs Ts → ReadAs p objects vs Ts
all-reads p objects [] [] have = tt
all-reads p objects [] (T ∷ Ts) have = absurd have
all-reads p objects (v ∷ vs) [] have = absurd have
all-reads p objects (v ∷ vs) (T ∷ Ts) have = (has-reads p objects v T have.0, all-reads p objects vs Ts have.1)

-- what is of a plain type reads as it
plain-reads : (p : Loaded) (objects : List Object) (v : Value) (T : ValueType) → IsTrue (is_of v T) → ReadsAs p objects v T
plain-reads p objects v T h = has-reads p objects v T (has_of p (class_of objects) v T h)

both-true : (a b : Bool) → IsTrue (a && b) → IsTrue a × IsTrue b
both-true true b both = (refl, both)
both-true false b both = absurd (cc both)

all-plain-read : (p : Loaded) (objects : List Object) (vs : List Value) (Ts : List ValueType) → IsTrue (are_of vs Ts) → ReadAs p objects vs Ts
all-plain-read p objects [] [] h = tt
all-plain-read p objects [] (T ∷ Ts) h = absurd (cc h)
all-plain-read p objects (v ∷ vs) [] h = absurd (cc h)
all-plain-read p objects (v ∷ vs) (T ∷ Ts) h =
    let parts = both-true (is_of v T) (are_of vs Ts) h in
    (plain-reads p objects v T parts.0, all-plain-read p objects vs Ts parts.1)

-- ---- statements

-- what is written fits its properties, and what a method begins with is of its parameters' types
abbrev pub GivesTyped : Loaded → List Object → Operation → Type 0
GivesTyped p objects (Write what) = AllFit p objects (writes_of what)
GivesTyped p objects (Begin y n given) = (z : Object) (method : MetaMethod) → IsMember p objects y n z method → ReadAs p objects given method.types
GivesTyped p objects (Choose block) = Unit {0}
GivesTyped p objects (Connect ends how) = Unit {0}
GivesTyped p objects (Disconnect ends) = Unit {0}
GivesTyped p objects (Delete y) = Unit {0}
GivesTyped p objects (Schedule y) = Unit {0}
GivesTyped p objects (TakeAnswer effects) = Unit {0}
GivesTyped p objects Nothing = Unit {0}

module _ {p : Loaded} {objects : List Object} (sound : IsSound p) where
  one-method : (y n : ℕ) (z : Object) (k : Life) (c : ℕ) (declared : MetaMethod) → Lives objects y z k → Below p k.class c → IsMethod p c n declared → (x : Object) (method : MetaMethod) → IsMember p objects y n x method → declared ≡ method
  one-method y n z k c declared lives beneath is x method member =
      member-method (record { life = k; lives = lives; is_method = method-below sound beneath is }) member

  begun-typed : (y n : ℕ) (z : Object) (k : Life) (c : ℕ) (declared : MetaMethod) (given : List Value) → Lives objects y z k → Below p k.class c → IsMethod p c n declared → ReadAs p objects given declared.types → GivesTyped p objects (Begin y n given)
  begun-typed y n z k c declared given lives beneath is read = λ x method member.
      subst (λ (w : MetaMethod). ReadAs p objects given w.types) (one-method y n z k c declared lives beneath is x method member) read

-- what is done where a value is found
map-typed : (p : Loaded) (objects : List Object) {X : Type 0} (act : X → Operation) (found : Option X) (v : X) → found ≡ Some v → GivesTyped p objects (act v) → IfSome (option_map act found) (GivesTyped p objects)
map-typed p objects {X} act found v is all = subst (λ (w : Option X). IfSome (option_map act w) (GivesTyped p objects)) (sym is) all

-- .. on null nothing is done, and on an object what may be
on-typed : (p : Loaded) (objects : List Object) {c : ℕ} (act : ℕ → Option Operation) (found : Option Value) → Reaches p objects c found → ((y : ℕ) (z : Object) (k : Life) → Lives objects y z k → Below p k.class c → IfSome (act y) (GivesTyped p objects)) → IfSome (on_object act found) (GivesTyped p objects)
on-typed p objects act found to_null all = tt
on-typed p objects act found (to_object {o = y} {x = z} {l = k} lives beneath) all = all y z k lives beneath

chosen-typed : (p : Loaded) (objects : List Object) (block other : List Statement) (found : Option Value) → IfSome (chosen_by block other found) (GivesTyped p objects)
chosen-typed p objects block other None = tt
chosen-typed p objects block other (Some (value.Bool true)) = tt
chosen-typed p objects block other (Some (value.Bool false)) = tt
chosen-typed p objects block other (Some (value.Int n)) = tt
chosen-typed p objects block other (Some (value.Text n)) = tt
chosen-typed p objects block other (Some (value.Ref n)) = tt

-- a set alone
of-set : (p : Loaded) (objects : List Object) (done : Option Assignment) → IfWrites (λ a. FitsAt p objects a.place a.value) done → GivesTyped p objects (operation_of_set done)
of-set p objects None fits = tt
of-set p objects (Some a) fits = (fits, tt)

module _ {p : Loaded} {objects : List Object} (sound : IsSound p) (typed : AreTyped p objects) (o me : ℕ) (x : Object) (l : Life) (arguments : List Value) (types : List ValueType) (lives : Lives objects o x l) (below : Below p l.class me) (fit : ReadAs p objects arguments types) where
  pub statement-gives : (f : layer.Statement-F Statement) → IsSoundStatement p me types f → IsTypedStatement p me types f → SetsAreTyped sound typed o me x l arguments types lives below fit f → IfSome (operation objects o arguments f) (GivesTyped p objects)
  statement-gives f (set_sound {path = path} {q = q} {e = e} is) t inner =
      let done = typed-set sound typed o me x l arguments types lives below fit (within-first sound objects o me x l arguments types lives below fit typed) path q e is t in
      map-typed p objects operation_of_set (set_at objects o arguments path q e) done.0 done.1 (of-set p objects done.0 done.2)
  statement-gives f (group_sound {sets = sets} all only) t inner =
      let done = sets-done sound typed o me x l arguments types lives below fit sets all (recursion_from_All IsSet sets only.1) (inner sets refl) (within-first sound objects o me x l arguments types lives below fit typed) in
      map-typed p objects (λ (found : List (Option Assignment)). Write (Grouped found)) (sets_in objects o arguments sets) done.0 done.1 done.2
  statement-gives f (emit_sound {m = g} {es = es} is) t inner =
      let vs = arguments_have p sound (class_of objects) me types (path_value objects o arguments) (paths-typed sound typed o me x l arguments types lives below fit) (t.method).types es is.values t.given in
      map-typed p objects (λ (given : List Value). Begin o g given) (values_of objects o arguments es) vs.0 vs.1
      (begun-typed sound o g x l me t.method vs.0 lives below t.is (all-reads p objects vs.0 (t.method).types vs.2))
  statement-gives f (call_sound {path = path} {m = n} {es = es} is) t inner =
      let at = same-class me types path is.class t.class is.leads t.leads in
      let to = t.accepts in
      let vs = arguments_have p sound (class_of objects) me types (path_value objects o arguments) (paths-typed sound typed o me x l arguments types lives below fit) (to.method).types es is.values to.given in
      on-typed p objects (λ y. option_map (λ (given : List Value). Begin y n given) (values_of objects o arguments es)) (path_value objects o arguments path) (reached sound typed o me x l arguments types lives below fit path is.leads)
      (λ y z k alive beneath. map-typed p objects (λ (given : List Value). Begin y n given) (values_of objects o arguments es) vs.0 vs.1
      (begun-typed sound y n z k t.class to.method vs.0 alive (subst (λ (c : ℕ). Below p k.class c) at beneath) to.is (all-reads p objects vs.0 (to.method).types vs.2)))
  statement-gives f (if_sound {e = e} {chosen = block} {other = other} is one two) t inner = chosen-typed p objects block other (value_of objects o arguments e)
  statement-gives f (connect_sound {ends = ends} is) t inner =
      on-typed p objects _ (path_value objects o arguments ends.sender) (reached sound typed o me x l arguments types lives below fit ends.sender is.sender) (λ y z k alive beneath.
      on-typed p objects _ (path_value objects o arguments ends.receiver) (reached sound typed o me x l arguments types lives below fit ends.receiver is.receiver) (λ u v w also under. tt))
  statement-gives f (disconnect_sound {ends = ends} is) t inner =
      on-typed p objects _ (path_value objects o arguments ends.sender) (reached sound typed o me x l arguments types lives below fit ends.sender is.sender) (λ y z k alive beneath.
      on-typed p objects _ (path_value objects o arguments ends.receiver) (reached sound typed o me x l arguments types lives below fit ends.receiver is.receiver) (λ u v w also under. tt))
  statement-gives f (delete_sound {path = path} leads) t inner =
      on-typed p objects (λ y. Some (Delete y)) (path_value objects o arguments path) (reached sound typed o me x l arguments types lives below fit path leads) (λ y z k alive beneath. tt)
  statement-gives f (later_sound {path = path} leads) t inner =
      on-typed p objects (λ y. Some (Schedule y)) (path_value objects o arguments path) (reached sound typed o me x l arguments types lives below fit path leads) (λ y z k alive beneath. tt)

-- ---- bodies

module _ {p : Loaded} (program : IsTypedProgram p) (sound : IsSound p) (classes : ℕ → Option ℕ) {objects : List Object} (known : (o class : ℕ) → class_of objects o ≡ Some class → classes o ≡ Some class) (typed : AreTyped p objects) {o m : ℕ} {arguments : List Value} {left : List Step} {x : Node} (b : BodyStands p objects o m arguments left x) where
  -- the object whose body it is
  own : (z : Object) × (l : Life) × Lives objects o z l × (l.class ≡ b.class)
  own = lives-of-class objects o b.class b.lives

  -- .. is of the class that its actions were judged by
  own-class : (class : ℕ) → classes o ≡ Some class → b.class ≡ class
  own-class class is = same_Some _ _ (sym (known o b.class b.lives) ∙ is)

  action-gives : (effects : MetaEffects) (it : Action) → IsPromised p classes o effects it → IfSome (operation_of_action o effects it) (GivesTyped p objects)
  action-gives effects (action.Set place v) kept =
      let w = kept.within in
      let class_is : (own.1).class ≡ kept.class = own.3 ∙ own-class kept.class kept.is in
      let is : IsProperty p (own.1).class w.number w.property = subst (λ (c : ℕ). IsProperty p c w.number w.property) (sym class_is) w.is in
      map-typed p objects (λ (q : ℕ). Write (Alone (property_of o q) v)) (slice_get effects.sets place) w.number w.at
      (record { object = own.0; life = own.1; lives = own.2; property = w.property; is_property = is; reads = plain-reads p objects v (w.property).kind w.typed }, tt)
  action-gives effects (action.Emit place given) kept =
      let w = kept.within in
      let class_is : (own.1).class ≡ kept.class = own.3 ∙ own-class kept.class kept.is in
      let is : IsMethod p (own.1).class w.number w.signal = subst (λ (c : ℕ). IsMethod p c w.number w.signal) (sym class_is) w.is in
      map-typed p objects (λ (g : ℕ). Begin o g given) (slice_get effects.emits place) w.number w.at
      (λ z method member. subst (λ (k : MetaMethod). ReadAs p objects given k.types)
      (member-method (record { life = own.1; lives = own.2; is_method = is }) member) (all-plain-read p objects given (w.signal).types w.typed))

  slot-gives : (s : Statement) → IsStepOf (b.method).work (Run s) → IfSome (operation objects o arguments (out-Statement s)) (GivesTyped p objects)
  slot-gives s (runs {body = body} slot occurs) =
      let types = (b.method).types in
      let work = subst (λ (w : Work). IsSoundWork p b.class m types w) slot ((sound.classes b.class (b.is).class (b.is).is_class).methods m b.method (b.is).is).work in
      let whole = body-typed b.class m work.declaring b.method program sound b.is work.below work.declares (body-named sound b.class m b.method b.is b.bodied) in
      let all = subst (λ (w : Work). IsTypedWork p work.declaring types w) slot whole in
      statement-gives sound typed o work.declaring own.0 own.1 arguments types own.2 (subst (λ (k : ℕ). Below p k work.declaring) (sym own.3) work.below) b.typed (out-Statement s)
      (occurs-sound sound work.declaring types s body work.sound occurs) (all s occurs) (λ sets at u i. all u (occurs-in s sets body occurs at u i))

  step-gives : (y : Step) → IsStepOf (b.method).work y → StepIsPromised p classes o y → IfSome (operation_of_step objects o arguments y) (GivesTyped p objects)
  step-gives (Run s) of kept = slot-gives s of
  step-gives (Ask effects) of kept = tt
  step-gives (Act effects it) of kept = action-gives effects it kept

  -- what a step does gives typed values
  pub does-give : (y : Step) (d : Operation) → IsStepOf (b.method).work y → StepIsPromised p classes o y → operation_of_step objects o arguments y ≡ Some d → GivesTyped p objects d
  does-give y d of kept is = subst (λ (found : Option Operation). IfSome found (GivesTyped p objects)) is (step-gives y of kept)

-- ---- the answers of natives

module _ {p : Loaded} (sound : IsSound p) (effects : MetaEffects) (number : ℕ) (class : MetaObject) (is_class : slice_get p.classes number ≡ Some class) (c : ℕ) (beneath : Below p c number) where
  set-within : (place : ℕ) (v : Value) (at : Option ℕ) → slice_get effects.sets place ≡ at → IsTrue (option_map_or (λ (property : MetaProperty). is_of v property.kind) (option_and_then (λ q. slice_get class.properties q) at) false) → SetsWithin p c effects place v
  set-within place v None e declared = absurd (cc declared)
  set-within place v (Some q) e declared = by_property (slice_get class.properties q) refl declared
    where
      by_property : (found : Option MetaProperty) → slice_get class.properties q ≡ found → IsTrue (option_map_or (λ (property : MetaProperty). is_of v property.kind) found false) → SetsWithin p c effects place v
      by_property None is declared = absurd (cc declared)
      by_property (Some property) is declared = record {
        number = q;
        at = e;
        property = property;
        is = property-below sound beneath (record { class = class; is_class = record { is = is_class }; is = is });
        typed = declared;
      }

  emit-within : (place : ℕ) (vs : List Value) (at : Option ℕ) → slice_get effects.emits place ≡ at → IsTrue (option_map_or (λ (signal : MetaMethod). are_of vs signal.types) (option_and_then (λ g. slice_get class.methods g) at) false) → EmitsWithin p c effects place vs
  emit-within place vs None e declared = absurd (cc declared)
  emit-within place vs (Some g) e declared = by_method (slice_get class.methods g) refl declared
    where
      by_method : (found : Option MetaMethod) → slice_get class.methods g ≡ found → IsTrue (option_map_or (λ (signal : MetaMethod). are_of vs signal.types) found false) → EmitsWithin p c effects place vs
      by_method None is declared = absurd (cc declared)
      by_method (Some signal) is declared = record {
        number = g;
        at = e;
        signal = signal;
        is = method-below sound beneath (record { class = class; is_class = record { is = is_class }; is = is });
        typed = declared;
      }

  one-within : (a : Action) → IsTrue (is_declared class effects a) → IsWithin p c effects a
  one-within (action.Set place v) declared = set-within place v (slice_get effects.sets place) refl declared
  one-within (action.Emit place vs) declared = emit-within place vs (slice_get effects.emits place) refl declared

  all-within : (classes : ℕ → Option ℕ) (o : ℕ) → classes o ≡ Some c → (actions : List Action) → IsTrue (list_all (is_declared class effects) actions) → AllByRecursion (StepIsPromised p classes o) (map (Act effects) actions)
  all-within classes o is [] declared = tt
  all-within classes o is (a ∷ actions) declared =
      let parts = both-true (is_declared class effects a) (list_all (is_declared class effects) actions) declared in
      (record { class = c; is = is; within = one-within a parts.0 }, all-within classes o is actions parts.1)

module _ {p : Loaded} (takes : Takes) (natives : NativeAnswers) (sound : IsSound p) (promises : Promises p takes natives) (classes : ℕ → Option ℕ) {s t : State} (known : (o class : ℕ) → class_of s.objects o ≡ Some class → classes o ≡ Some class) (typed : AreTyped p s.objects) {o m : ℕ} {arguments : List Value} {left : List Step} {x : Node} (b : BodyStands p s.objects o m arguments left x) where
  -- what a native answers keeps to its effects
  pub answer-promised : {effects : MetaEffects} {rest : List Step} {below : List Activation} → (b.method).work ≡ Native effects → (a : Answers p natives s o m arguments effects rest below t) → AllByRecursion (StepIsPromised p classes o) (map (Act effects) a.actions)
  answer-promised {effects} {rest} {below} native a =
      let may = a.may in
      let life = (may.is).life in
      let z = lives-of-class s.objects o b.class b.lives in
      let member : IsMember p s.objects o m z.0 b.method = record { life = z.1; lives = z.2; is_method = subst (λ (k : ℕ). IsMethod p k m b.method) (sym z.3) b.is } in
      let promise = promised takes natives sound promises typed (fit-of member b.typed) (record { object = z.0; method = b.method; is = member; is_work = sym native }) may.is may.declared may.is_class may.are_read in
      let all = promise.1 a.actions may.gives in
      let declared = (both-true (nat_le (length a.actions) MOST_ACTIONS) (list_all (is_declared may.class effects) a.actions) all).1 in
      all-within sound effects may.number may.class (may.is_class).is life.class (declared-at sound may.declared (may.is).is_method).0 classes o (known o life.class (class-of-lives s.objects o (may.is).lives)) a.actions declared
