-- What a step of a body that stands does is possible: what it names is there.
use Rattle.std.{proofs.Common.{◌≡◌, ℕ, true, false, List, [], ◌∷◌, ◌++◌, Option, Some, None, refl, subst, sym, ap, ◌∙◌}, specs.Prelude.{IfSome}, specs.Option.{option_map}}
use Rattle.basic_types.specs.declared.value.Value.{Value}
use Rattle.basic_types.specs.declared.value.Value.TheVariants as value
use Rattle.meta_model.specs.{declared.object.MetaMethod.{MetaMethod}, declared.object.Statement.{Statement}, declared.object.Statement.TheViews.{out-Statement}, declared.object.ValueType.{ValueType}, Loaded.{Loaded}, Members.{Below}, declared.object.MetaPath.{MetaPath}, Sound.{LeadsToClass, IsSound, AreSound, AreSoundEnds, IsSoundStatement, set_sound, emit_sound, call_sound, if_sound, connect_sound, disconnect_sound, delete_sound, later_sound, group_sound}, declared.object.MetaEndpoints.{MetaEndpoints}, declared.effects.MetaEffects.{MetaEffects}}
use Rattle.meta_model.specs.declared.object.Statement.TheOpen as layer
use Rattle.object_tree.specs.{declared.life.Life.{Life}, declared.object.Object.{Object}, Objects.{Lives}, Typed.{AreTyped}}
use Rattle.machine_state.specs.{declared.endpoints.Endpoints.{Endpoints}, State.{Step, Run, Ask, Act}, Telling.{Alone, Grouped, writes_of}}
use Rattle.native_slots.specs.declared.action.Action.{Action}
use Rattle.native_slots.specs.declared.action.Action.TheVariants as action
use Rattle.machine_rules.{specs.Connecting.{AreThere}, specs.Operations.{set_at, sets_in, operation_of_set, Operation, Write, Begin, Choose, Connect, Disconnect, Delete, Schedule, TakeAnswer, Nothing, on_object, on_ends, chosen_by, operation, operation_of_action, operation_of_step}, specs.Paths.{path_value, value_of, values_of}, specs.There.{HasField, IsMember}, proofs.Inherited.{method-below}}
use Rattle.prop_bindings.specs.{declared.plans.assignment.Assignment.{Assignment}, Calls.{AllFit}}
use Rattle.binding_graph.specs.Places.{property_of}
use Rattle.object_machine.proofs.{Grouped.{IfWrites, within-first, set-possible, sets-possible}, Standing.{ActionStands, StepStands, BodyStands}, TypedPaths.{Reaches, to_null, to_object, path-reaches}}

-- the members that are named are there, of writes as long as those before them fit, and a block that is chosen is sound for
-- the body
abbrev pub IsPossible : Loaded → List Object → ℕ → List ValueType → Operation → Type 0
IsPossible p objects me types (Write what) = (front back : List Assignment) (a : Assignment) → writes_of what ≡ front ++ a ∷ back → AllFit p objects front → HasField p objects a.place
IsPossible p objects me types (Begin x n given) = (object : Object) × (method : MetaMethod) × IsMember p objects x n object method
IsPossible p objects me types (Choose block) = AreSound p me types block
IsPossible p objects me types (Connect ends how) = AreThere p objects ends
IsPossible p objects me types (Disconnect ends) = AreThere p objects ends
IsPossible p objects me types (Delete x) = Unit {0}
IsPossible p objects me types (Schedule x) = Unit {0}
IsPossible p objects me types (TakeAnswer effects) = Unit {0}
IsPossible p objects me types Nothing = Unit {0}

-- ---- what is so of all that may be found

map-so : {X : Type 0} (P : Operation → Type 0) (act : X → Operation) (found : Option X) → ((v : X) → P (act v)) → IfSome (option_map act found) P
map-so P act None all = tt
map-so P act (Some v) all = all v

-- a path leads to null, or to an object of the class
object-so : {p : Loaded} {objects : List Object} {c : ℕ} (P : Operation → Type 0) (act : ℕ → Option Operation) (found : Option Value) → Reaches p objects c found → P Nothing → ((y : ℕ) (x : Object) (l : Life) → Lives objects y x l → Below p l.class c → IfSome (act y) P) → IfSome (on_object act found) P
object-so P act found to_null none all = none
object-so P act found (to_object {o = y} {x = x} {l = l} lives beneath) none all = all y x l lives beneath

chosen-so : (P : Operation → Type 0) (block other : List Statement) (found : Option Value) → P (Choose block) → P (Choose other) → IfSome (chosen_by block other found) P
chosen-so P block other None first second = tt
chosen-so P block other (Some (value.Bool true)) first second = first
chosen-so P block other (Some (value.Bool false)) first second = second
chosen-so P block other (Some (value.Int n)) first second = tt
chosen-so P block other (Some (value.Text n)) first second = tt
chosen-so P block other (Some (value.Ref n)) first second = tt

-- ---- statements

module _ {p : Loaded} {objects : List Object} (sound : IsSound p) (typed : AreTyped p objects) where
  module _ {o : ℕ} {arguments : List Value} {left : List Step} (body : BodyStands p objects o arguments left) where
    abbrev Possible : Operation → Type 0
    Possible d = IsPossible p objects body.declaring body.types d

    -- the objects at two ends have the signal and the method
    ends-so : (act : Endpoints → Operation) (ends : MetaEndpoints) → AreSoundEnds p body.declaring body.types ends → ((between : Endpoints) → AreThere p objects between → Possible (act between)) →
        IfSome (on_ends act ends (path_value objects o arguments ends.sender) (path_value objects o arguments ends.receiver)) Possible
    ends-so act ends is so =
        let between : ℕ → ℕ → Endpoints = λ x y. record { sender = x; signal = ends.signal; receiver = y; method = ends.method } in
        let from = path-reaches objects o body.declaring body.object body.life arguments body.types ends.sender sound typed body.lives body.below body.typed is.sender in
        let to = path-reaches objects o body.declaring body.object body.life arguments body.types ends.receiver sound typed body.lives body.below body.typed is.receiver in
        object-so Possible (λ x. on_object (λ y. Some (act (between x y))) (path_value objects o arguments ends.receiver)) (path_value objects o arguments ends.sender) from tt
        (λ x a k sends beneath. object-so Possible (λ y. Some (act (between x y))) (path_value objects o arguments ends.receiver) to tt
        (λ y b l receives under. so (between x y) (record {
          sender = a;
          signal = is.connects.signal;
          sends = record { life = k; lives = sends; is_method = method-below sound beneath is.connects.from };
          receiver = b;
          method = is.connects.method;
          receives = record { life = l; lives = receives; is_method = method-below sound under is.connects.to };
        })))

    -- what is done with the object that a path leads to needs nothing of it
    object-alone : (act : ℕ → Operation) (path : MetaPath) {class : ℕ} → LeadsToClass p body.declaring body.types path class → ((y : ℕ) → Possible (act y)) → IfSome (on_object (λ y. Some (act y)) (path_value objects o arguments path)) Possible
    object-alone act path leads so =
        let reaches = path-reaches objects o body.declaring body.object body.life arguments body.types path sound typed body.lives body.below body.typed leads in
        object-so Possible (λ y. Some (act y)) (path_value objects o arguments path) reaches tt (λ y z l lives beneath. so y)

    -- a set alone writes a property that is there, or does nothing
    alone-so : (found : Option (Option Assignment)) → IfSome found (IfWrites (λ a. HasField p objects a.place)) → IfSome (option_map operation_of_set found) Possible
    alone-so None has = tt
    alone-so (Some None) has = tt
    alone-so (Some (Some b)) has = λ front back a are before. first-of a back front are
      where
        first-of : (a : Assignment) (back front : List Assignment) → b ∷ [] ≡ front ++ a ∷ back → HasField p objects a.place
        first-of a back [] are = let same : b ≡ a = cc are in subst (λ (c : Assignment). HasField p objects c.place) same has
        first-of a back (f ∷ []) are = absurd (cc are)
        first-of a back (f ∷ g ∷ front) are = absurd (cc are)

    map-found : {X : Type 0} (act : X → Operation) (found : Option X) → ((v : X) → found ≡ Some v → Possible (act v)) → IfSome (option_map act found) Possible
    map-found act None all = tt
    map-found act (Some v) all = all v refl

    statement-so : (f : layer.Statement-F Statement) → IsSoundStatement p body.declaring body.types f → IfSome (operation objects o arguments f) Possible
    statement-so f (set_sound {path = path} {q = q} {e = e} is) =
        alone-so (set_at objects o arguments path q e) (set-possible sound objects o body.declaring body.object body.life arguments body.types body.lives body.below body.typed (within-first sound objects o body.declaring body.object body.life arguments body.types body.lives body.below body.typed typed) f (set_sound is))
    statement-so f (group_sound {sets = sets} all only) =
        map-found (λ (found : List (Option Assignment)). Write (Grouped found)) (sets_in objects o arguments sets)
        (λ found is front back a are before. sets-possible sound objects o body.declaring body.object body.life arguments body.types body.lives body.below body.typed sets all (within-first sound objects o body.declaring body.object body.life arguments body.types body.lives body.below body.typed typed) found is front back a are before)
    statement-so f (emit_sound {m = g} {es = es} is) =
        map-so Possible (λ (given : List Value). Begin o g given) (values_of objects o arguments es)
        (λ given. (body.object, _, record { life = body.life; lives = body.lives; is_method = method-below sound body.below is.is }))
    statement-so f (call_sound {path = path} {m = n} {es = es} is) =
        let reaches = path-reaches objects o body.declaring body.object body.life arguments body.types path sound typed body.lives body.below body.typed is.leads in
        object-so Possible (λ y. option_map (λ (given : List Value). Begin y n given) (values_of objects o arguments es)) (path_value objects o arguments path) reaches tt
        (λ y z l lives beneath. map-so Possible (λ (given : List Value). Begin y n given) (values_of objects o arguments es)
        (λ given. (z, _, record { life = l; lives = lives; is_method = method-below sound beneath is.is })))
    statement-so f (if_sound {e = e} {chosen = block} {other = other} is first second) =
        chosen-so Possible block other (value_of objects o arguments e) first second
    statement-so f (connect_sound {ends = ends} {type = how} is) = ends-so (λ between. Connect between how) ends is (λ between there. there)
    statement-so f (disconnect_sound {ends = ends} is) = ends-so Disconnect ends is (λ between there. there)
    statement-so f (delete_sound {path = path} leads) = object-alone Delete path leads (λ y. tt)
    statement-so f (later_sound {path = path} leads) = object-alone Schedule path leads (λ y. tt)

    -- the property or the signal that an action names is there
    action-so : (effects : MetaEffects) (it : Action) → ActionStands p body.life.class effects it → IfSome (operation_of_action o effects it) Possible
    action-so effects (action.Set k v) is =
        let there : HasField p objects (property_of o is.0) = record { object = body.object; property = is.1; is = record { life = body.life; lives = body.lives; class = is.3.class; is_class = is.3.is_class; is_property = is.3.is } } in
        let Found : Option ℕ → Type 0 = λ found. IfSome (option_map (λ (q : ℕ). Write (Alone (property_of o q) v)) found) Possible in
        subst Found (sym is.2) (alone-so (Some (Some (record { place = property_of o is.0; value = v }))) there)
    action-so effects (action.Emit k given) is =
        let Found : Option ℕ → Type 0 = λ found. IfSome (option_map (λ (g : ℕ). Begin o g given) found) Possible in
        subst Found (sym is.2) (body.object, is.1, record { life = body.life; lives = body.lives; is_method = is.3 })

    step-so : (x : Step) → StepStands p body.life.class body.declaring body.types x → IfSome (operation_of_step objects o arguments x) Possible
    step-so (Run x) is = statement-so (out-Statement x) is
    step-so (Ask effects) is = tt
    step-so (Act effects it) is = action-so effects it is

-- the first step of what is left of a body
pub possible : {p : Loaded} {objects : List Object} {o : ℕ} {arguments : List Value} {x : Step} {rest : List Step} → IsSound p → AreTyped p objects → (body : BodyStands p objects o arguments (x ∷ rest)) → (d : Operation) → operation_of_step objects o arguments x ≡ Some d → IsPossible p objects body.declaring body.types d
possible {p} {objects} {x = x} sound typed body d is =
    let Found : Option Operation → Type 0 = λ f. IfSome f (λ e. IsPossible p objects body.declaring body.types e) in
    subst Found is (step-so sound typed body x body.steps.0)

-- an action of a body that stands does something
pub acts : {p : Loaded} {objects : List Object} {o : ℕ} {arguments : List Value} {effects : MetaEffects} {it : Action} {rest : List Step} → (body : BodyStands p objects o arguments (Act effects it ∷ rest)) → operation_of_action o effects it ≡ None → ⊥
acts {p} {o = o} {effects = effects} {it = it} body is = by_action body.life.class it body.steps.0 is
  where
    by_action : (c : ℕ) (a : Action) → ActionStands p c effects a → operation_of_action o effects a ≡ None → ⊥
    by_action c (action.Set k v) there none =
        let same : Some (Write (Alone (property_of o there.0) v)) ≡ None = sym (ap (option_map (λ (q : ℕ). Write (Alone (property_of o q) v))) there.2) ∙ none in absurd (cc same)
    by_action c (action.Emit k given) there none =
        let same : Some (Begin o there.0 given) ≡ None = sym (ap (option_map (λ (g : ℕ). Begin o g given)) there.2) ∙ none in absurd (cc same)
