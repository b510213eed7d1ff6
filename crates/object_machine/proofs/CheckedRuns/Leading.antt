-- What a step of a body does, its method may lead to, by an effect of the step.
use Rattle.std.{proofs.Common.{◌≡◌, ◌≢◌, ◌⊎◌, inl, inr, ℕ, suc, ◌-◌, Bool, true, false, List, [], ◌∷◌, length, Option, Some, None, slice_get, refl, sym, ap, ◌∙◌, subst, arith}, specs.Prelude.{IfSome}, specs.List.{AllByRecursion}, specs.Option.{option_and_then, option_map}, proofs.lemmas.Option.{same_Some, none-some}, proofs.lemmas.List.Elements.{All-contains, recursion_from_All}}
use Rattle.basic_types.specs.declared.value.Value.{Value}
use Rattle.basic_types.specs.declared.value.Value.TheVariants as value
use Rattle.syntax_trees.specs.declared.syntax.Expr.{Expr}
use Rattle.meta_model.specs.{declared.effects.MetaEffects.{MetaEffects}, declared.object.MetaMethod.{MetaMethod}, declared.object.MetaPath.{MetaPath}, declared.object.MetaRoot.{MetaRoot}, declared.object.MetaRoot.TheVariants.{This, Parameter}, declared.object.Step.{Step as PathStep}, declared.object.Statement.{Statement}, declared.object.Statement.TheViews.{out-Statement}, declared.object.ValueType.{ValueType}, declared.object.Work.{Work}, declared.object.Work.TheVariants.{Signal, Slot, Native}, Loaded.{Loaded}, Members.{Below, same as below-itself}, Sound.{IsSound, HasRoot, this_has, parameter_has, Leads, here, on, LeadsToClass, IsSet, AreSets, IsSoundSet, IsSoundStatement, set_sound, emit_sound, call_sound, if_sound, connect_sound, disconnect_sound, delete_sound, later_sound, group_sound, AreSound, next_sound, IsSoundWork, IsPlainSignal}}
use Rattle.meta_model.specs.declared.object.Statement.TheOpen as layer
use Rattle.meta_model.specs.declared.object.ValueType.TheVariants as type
use Rattle.native_slots.specs.declared.action.Action.{Action}
use Rattle.native_slots.specs.declared.action.Action.TheVariants as action
use Rattle.object_tree.{specs.declared.life.Life.{Life}, specs.declared.object.Object.{Object}, specs.Objects.{Lives}, specs.Seen.{seen, seen_object, seen_reference}, specs.Typed.{AreTyped}, proofs.Changing.{life-of-lives}}
use Rattle.effect_scan.specs.{declared.node.Node.{Node}, declared.node.Member.{Member}, declared.node.Member.TheVariants.{Method, Property, Destruction}, declared.effect.Reach.{Reach}, declared.effect.Effect.{Effect}, Nodes.{node, named}, Effects.{reach_of_type, reach_of_root, reach_after, reach_of, effect_of, Occurs, here as first, after, chosen, otherwise, grouped, WorkHas}, Edges.{ReachedAs, MayLead, by_work, ByWork}}
use Rattle.effect_scan.specs.declared.effect.Reach.TheVariants as reach
use Rattle.rank_check.proofs.Elements.{element_at}
use Rattle.machine_state.specs.{State.{Step, Run, Ask, Act}, Telling.{Alone, Grouped, writes_of}}
use Rattle.machine_rules.{specs.Operations.{Operation, Write, Begin, Choose, Connect, Disconnect, Delete, Schedule, TakeAnswer, Nothing, led_to, on_object, operation_of_set, set_at, set_in, sets_in, after_set, chosen_by, operation, operation_of_action, operation_of_step}, specs.Paths.{path_value, steps_value, root_value, value_of, values_of}, proofs.Fields.{life-unique}, proofs.Keeps.{lives-of-class}, proofs.Differing.{differ-class}}
use Rattle.object_machine.proofs.{TypedPaths.{Reaches, to_null, to_object, path-reaches}, CheckedRuns.Lacking.{body-typed, sets-done}, Grouped.{IfWrites, Within, within-first, within-next, mapped-so, values-still}, CheckedRuns.Invariant.{BodyStands, IsStepOf, runs, asks, acts}, CheckedRuns.Nodes.{body-named, late-named}}
use Rattle.prop_bindings.{specs.declared.plans.assignment.Assignment.{Assignment}, specs.Calls.{AllFit}, specs.Changes.{DifferInValues}, proofs.Alive.{lives-on}}
use Rattle.binding_graph.specs.Places.{property_of}
use Rattle.type_check.specs.{Bodies.{IsTypedStatement}, Typed.{IsTypedWork, IsTypedProgram}}

-- ---- the objects that paths lead to

last-kind : {p : Loaded} {T U : ValueType} (s : PathStep) (steps : List PathStep) → Leads p T (s ∷ steps) U → (last : PathStep) × (slice_get (s ∷ steps) (length steps) ≡ Some last) × (last.kind ≡ U)
last-kind s [] (on is e here) = (s, refl, refl)
last-kind s (t ∷ ts) (on is e rest) = last-kind t ts rest

-- what a reference to a number reads as is that number
seen-number : (objects : List Object) (o y : ℕ) → seen_reference objects (Some o) ≡ Some y → o ≡ y
seen-number objects o y e = by_object (slice_get objects o) e
  where
    by_life : (there : Option Life) → option_map (λ (l : Life). o) there ≡ Some y → o ≡ y
    by_life None h = absurd (none-some y h)
    by_life (Some l) h = same_Some o y h

    by_object : (there : Option Object) → seen_object there o ≡ Some y → o ≡ y
    by_object None h = same_Some o y h
    by_object (Some x) h = by_life x.life h

-- a path leads to the object itself, or to one of the class of its declared type
reach-of-steps : {p : Loaded} (me : ℕ) (types : List ValueType) (root : MetaRoot) (steps : List PathStep) (T U : ValueType) (c : ℕ) (constant : Bool) → HasRoot me types root T → Leads p T steps U → U ≡ type.Reference c constant
    → ((root ≡ This) × (steps ≡ [])) ⊎ (reach_after types root (slice_get steps (length steps - 1)) ≡ Some (reach.Below c))
reach-of-steps me types root (s ∷ steps) T U c constant has leads e =
    let last = last-kind s steps leads in
    let at : slice_get (s ∷ steps) (suc (length steps) - 1) ≡ Some last.0 = ap (slice_get (s ∷ steps)) (omega arith) ∙ last.1 in
    inr (ap (reach_after types root) at ∙ ap reach_of_type (last.2 ∙ e))
reach-of-steps me types This [] T U c constant this_has here e = inl (refl, refl)
reach-of-steps me types (Parameter k) [] T U c constant (parameter_has at) here e = inr (ap (option_and_then reach_of_type) at ∙ ap reach_of_type e)

module _ {p : Loaded} (sound : IsSound p) where
  -- ---- the parts of a sound body

  tail-of : {me : ℕ} {types : List ValueType} {t : Statement} {rest : List Statement} → AreSound p me types (t ∷ rest) → AreSound p me types rest
  tail-of (next_sound one rest) = rest

  one-of : {me : ℕ} {types : List ValueType} {t : Statement} {rest : List Statement} → AreSound p me types (t ∷ rest) → IsSoundStatement p me types (out-Statement t)
  one-of (next_sound one rest) = one

  blocks-of : (me : ℕ) (types : List ValueType) (z : layer.Statement-F Statement) (e : Expr MetaPath) (block other : List Statement) → IsSoundStatement p me types z → z ≡ layer.If e block other → AreSound p me types block × AreSound p me types other
  blocks-of me types z e block other s at = given (subst (IsSoundStatement p me types) at s)
    where
      given : IsSoundStatement p me types (layer.If e block other) → AreSound p me types block × AreSound p me types other
      given (if_sound test one two) = (one, two)

  sets-of : (me : ℕ) (types : List ValueType) (f : layer.Statement-F Statement) (sets : List Statement) → IsSoundStatement p me types f → f ≡ layer.Group sets → AreSound p me types sets
  sets-of me types f sets all at = of_group (subst (IsSoundStatement p me types) at all)
    where
      of_group : IsSoundStatement p me types (layer.Group sets) → AreSound p me types sets
      of_group (group_sound is only) = is

  pub occurs-sound : (me : ℕ) (types : List ValueType) (s : Statement) (body : List Statement) → AreSound p me types body → Occurs s body → IsSoundStatement p me types (out-Statement s)
  occurs-sound me types s body all first = one-of all
  occurs-sound me types s body all (after {rest = rest} o) = occurs-sound me types s rest (tail-of all) o
  occurs-sound me types s body all (chosen {t = t} {e = e} {block = block} {other = other} at o) = occurs-sound me types s block (blocks-of me types (out-Statement t) e block other (one-of all) at).0 o
  occurs-sound me types s body all (otherwise {t = t} {e = e} {block = block} {other = other} at o) = occurs-sound me types s other (blocks-of me types (out-Statement t) e block other (one-of all) at).1 o
  occurs-sound me types s body all (grouped {t = t} {sets = sets} at o) = occurs-sound me types s sets (sets-of me types (out-Statement t) sets (one-of all) at) o

-- the parts of a sound set, and of a sound group
sound-parts-of : {p : Loaded} {me : ℕ} {types : List ValueType} (f : layer.Statement-F Statement) (path : MetaPath) (q : ℕ) (e : Expr MetaPath) → IsSoundStatement p me types f → f ≡ layer.Set path q e → IsSoundSet p me types path q e
sound-parts-of {p} {me} {types} f path q e all at = of_set (subst (IsSoundStatement p me types) at all)
  where
    of_set : IsSoundStatement p me types (layer.Set path q e) → IsSoundSet p me types path q e
    of_set (set_sound is) = is

group-parts : {p : Loaded} {me : ℕ} {types : List ValueType} (f : layer.Statement-F Statement) (sets : List Statement) → IsSoundStatement p me types f → f ≡ layer.Group sets → AreSound p me types sets × AreSets sets
group-parts {p} {me} {types} f sets all at = of_group (subst (IsSoundStatement p me types) at all)
  where
    of_group : IsSoundStatement p me types (layer.Group sets) → AreSound p me types sets × AreSets sets
    of_group (group_sound is only) = (is, only)

-- what is in a group is in the body
abbrev pub occurs-in : (t : Statement) (sets whole : List Statement) → Occurs t whole → out-Statement t ≡ layer.Group sets → (u : Statement) → Occurs u sets → Occurs u whole
occurs-in t sets whole first at u i = grouped at i
occurs-in t sets whole (after rest) at u i = after (occurs-in t sets _ rest at u i)
occurs-in t sets whole (chosen is rest) at u i = chosen is (occurs-in t sets _ rest at u i)
occurs-in t sets whole (otherwise is rest) at u i = otherwise is (occurs-in t sets _ rest at u i)
occurs-in t sets whole (grouped is rest) at u i = grouped is (occurs-in t sets _ rest at u i)

-- ---- the edges that a step draws

-- the statement that occurs there is run by the step: it is the step's own, or a set of the step's group
pub data IsRunBy (body : List Statement) : Step → (s : Statement) → Occurs s body → Type 0 where
  by_itself : {s : Statement} {at : Occurs s body} → IsRunBy body (Run s) s at
  by_group : {g s : Statement} {sets : List Statement} (at : Occurs g body) (is : out-Statement g ≡ layer.Group sets) (i : Occurs s sets) → IsRunBy body (Run g) s (occurs-in g sets body at is s i)

-- the effect is one of a statement that the step runs, or of a native
abbrev pub IsEffectOf : Step → (types : List ValueType) (work : Work) (effect : Effect) → WorkHas types work effect → Type 0
IsEffectOf step types Signal effect has = ⊥
IsEffectOf step types (Slot body) effect has = IsRunBy body step has.statement has.occurs
IsEffectOf step types (Native effects) effect has = Unit {0}

-- it reaches this node, from an object of the class
pub record Draws (p : Loaded) (class : ℕ) (method : MetaMethod) (step : Step) (y : Node) : Type 0 where
  pub effect : Effect
  pub has : WorkHas method.types method.work effect
  pub own : IsEffectOf step method.types method.work effect has
  pub to : ReachedAs p class effect.member effect.reach y

module _ {p : Loaded} {objects : List Object} {o m : ℕ} {arguments : List Value} {left : List Step} {x : Node} (b : BodyStands p objects o m arguments left x) where
  -- that is a way from the body's node
  abbrev pub way-drawn : {step : Step} {y : Node} → Draws p b.class b.method step y → ByWork p (node b.class (Method m)) y
  way-drawn d = record { number = m; method = b.method; is = b.is; from = refl; effect = d.effect; has = d.has; to = d.to }

  pub leads-drawn : {step : Step} {y : Node} → Draws p b.class b.method step y → MayLead p x y
  leads-drawn {y = y} d = subst (λ (z : Node). MayLead p z y) (sym b.at) (by_work (way-drawn d))

module _ {p : Loaded} (sound : IsSound p) {objects : List Object} (typed : AreTyped p objects) {o m : ℕ} {arguments : List Value} {left : List Step} {x : Node} (b : BodyStands p objects o m arguments left x) (step : Step) where
  abbrev pub LeadsTo : Node → Type 0
  LeadsTo y = Draws p b.class b.method step y

  -- an edge from the body's method to a member of the object's class
  abbrev pub LeadsToMember : ℕ → Member → Type 0
  LeadsToMember y member = (z : Object) (k : Life) → Lives objects y z k → LeadsTo (node k.class member)

  -- .. to the property that is written
  abbrev pub Writable : Assignment → Type 0
  Writable a = LeadsToMember a.place.object (Property a.place.property)

  -- what a step does, the method may lead to; the block that is chosen is part of the body
  abbrev pub IsLed : Operation → Type 0
  IsLed (Write what) = ((y : Node) × LeadsTo y) × AllByRecursion Writable (writes_of what)
  IsLed (Begin y n given) = LeadsToMember y (Method n) × (named n ≡ n)
  IsLed (Choose block) = (body : List Statement) × ((b.method).work ≡ Slot body) × ((s : Statement) → Occurs s block → Occurs s body)
  IsLed (Connect ends how) = Unit {0}
  IsLed (Disconnect ends) = Unit {0}
  IsLed (Delete y) = ((z : Object) × (k : Life) × Lives objects y z k) × LeadsToMember y Destruction
  IsLed (Schedule y) = Unit {0}
  IsLed (TakeAnswer effects) = (b.method).work ≡ Native effects
  IsLed Nothing = Unit {0}

  -- the method has an effect of the step
  abbrev HasOwn : Work → Effect → Type 0
  HasOwn work effect = (has : WorkHas (b.method).types work effect) × IsEffectOf step (b.method).types work effect has

  by-effect : (effect : Effect) (y : Node) (work : Work) → (b.method).work ≡ work → HasOwn work effect → ReachedAs p b.class effect.member effect.reach y → LeadsTo y
  by-effect effect y work is has to =
      let own_effect = subst (λ (w : Work). HasOwn w effect) (sym is) has in
      record { effect = effect; has = own_effect.0; own = own_effect.1; to = to }

  -- the object itself lives this life
  own : (object : Object) × (life : Life) × Lives objects o object life × (life.class ≡ b.class)
  own = lives-of-class objects o b.class b.lives

  own-reached : (member : Member) (z : Object) (k : Life) → Lives objects o z k → ReachedAs p b.class member reach.Own (node k.class member)
  own-reached member z k lives = ap (λ (c : ℕ). node c member) (ap (λ (l : Life). l.class) (life-unique lives own.2) ∙ own.3)

  module _ (me : ℕ) (under : Below p b.class me) where
    reaches : (path : MetaPath) {c : ℕ} → LeadsToClass p me (b.method).types path c → Reaches p objects c (path_value objects o arguments path)
    reaches path leads = path-reaches objects o me own.0 own.1 arguments (b.method).types path sound typed own.2 (subst (λ (k : ℕ). Below p k me) (sym own.3) under) b.typed leads

    -- a path that leads to an object reaches its members
    path-led : (path : MetaPath) {c : ℕ} → LeadsToClass p me (b.method).types path c → (y : ℕ) (z : Object) (k : Life) → path_value objects o arguments path ≡ Some (value.Ref (Some y)) → Lives objects y z k → Below p k.class c
        → (r : Reach) × (reach_of (b.method).types path ≡ Some r) × ((member : Member) → ReachedAs p b.class member r (node k.class member))
    path-led path {c} leads y z k is lives beneath =
        elim (reach-of-steps me (b.method).types path.root path.steps leads.leads.root_type (type.Reference c leads.constant) c leads.constant leads.leads.root leads.leads.steps refl) [
          | inl itself ↦
              let reads : steps_value objects [] (option_map (seen objects) (root_value o arguments This)) ≡ Some (value.Ref (Some y)) =
              ap (λ (steps : List PathStep). steps_value objects steps (option_map (seen objects) (root_value o arguments This))) (sym itself.1)
              ∙ ap (λ (root : MetaRoot). steps_value objects path.steps (option_map (seen objects) (root_value o arguments root))) (sym itself.0) ∙ is in
              let reference : value.Ref (seen_reference objects (Some o)) ≡ value.Ref (Some y) = same_Some _ _ reads in
              let number : seen_reference objects (Some o) ≡ Some y = cc reference in
              let same : o ≡ y = seen-number objects o y number in
              let reached : reach_of (b.method).types path ≡ Some reach.Own =
              ap (λ (steps : List PathStep). reach_after (b.method).types path.root (slice_get steps (length steps - 1))) itself.1 ∙ ap (reach_of_root (b.method).types) itself.0 in
              (reach.Own, reached, λ member. own-reached member z k (subst (λ (n : ℕ). Lives objects n z k) (sym same) lives))
          | inr at ↦ (reach.Below c, at, λ member. record { below = beneath; is = refl })
        ]

    -- what is done on the object that a path leads to
    on-path : (path : MetaPath) {c : ℕ} → LeadsToClass p me (b.method).types path c → (act : ℕ → Option Operation) → ((y : ℕ) (z : Object) (k : Life) → path_value objects o arguments path ≡ Some (value.Ref (Some y)) → Lives objects y z k → Below p k.class c → IfSome (act y) IsLed)
        → IfSome (on_object act (path_value objects o arguments path)) IsLed
    on-path path {c} leads act all = given (path_value objects o arguments path) refl (reaches path leads)
      where
        given : (found : Option Value) → path_value objects o arguments path ≡ found → Reaches p objects c found → IfSome (on_object act found) IsLed
        given found is to_null = tt
        given found is (to_object {o = y} {x = z} {l = k} lives beneath) = all y z k is lives beneath

    -- anything done there that is not looked at
    idle-path : (path : MetaPath) {c : ℕ} → LeadsToClass p me (b.method).types path c → (act : ℕ → Option Operation) → ((y : ℕ) → IfSome (act y) IsLed) → IfSome (on_object act (path_value objects o arguments path)) IsLed
    idle-path path leads act all = on-path path leads act (λ y z k is lives beneath. all y)

  map-led : {X : Type 0} (act : X → Operation) (found : Option X) → ((v : X) → IsLed (act v)) → IfSome (option_map act found) IsLed
  map-led act None all = tt
  map-led act (Some v) all = all v

  alone-led : (y : Node) × LeadsTo y → (found : Option (Option Assignment)) → IfSome found (IfWrites Writable) → IfSome (option_map operation_of_set found) IsLed
  alone-led leads None led = tt
  alone-led leads (Some None) led = tt
  alone-led leads (Some (Some a)) led = (leads, (led, tt))

  chosen-led : (block other : List Statement) (found : Option Value) → IsLed (Choose block) → IsLed (Choose other) → IfSome (chosen_by block other found) IsLed
  chosen-led block other None one two = tt
  chosen-led block other (Some (value.Bool true)) one two = one
  chosen-led block other (Some (value.Bool false)) one two = two
  chosen-led block other (Some (value.Int n)) one two = tt
  chosen-led block other (Some (value.Text n)) one two = tt
  chosen-led block other (Some (value.Ref n)) one two = tt

  module _ (body : List Statement) (slot : (b.method).work ≡ Slot body) (s : Statement) (occurs : Occurs s body) (ours : IsRunBy body step s occurs) (me : ℕ) (under : Below p b.class me) where
    -- what a statement does
    statement-effect : (effect : Effect) (y : Node) → effect_of (b.method).types (out-Statement s) ≡ Some effect → ReachedAs p b.class effect.member effect.reach y → LeadsTo y
    statement-effect effect y is to = by-effect effect y (Slot body) slot (record { statement = s; occurs = occurs; is = is }, ours) to

    path-member : (path : MetaPath) (member : Member) {c : ℕ} → LeadsToClass p me (b.method).types path c → ((r : Reach) → reach_of (b.method).types path ≡ Some r → effect_of (b.method).types (out-Statement s) ≡ Some (record { reach = r; member = member }))
        → (y : ℕ) (z : Object) (k : Life) → path_value objects o arguments path ≡ Some (value.Ref (Some y)) → Lives objects y z k → Below p k.class c → LeadsToMember y member
    path-member path member leads effect y z k is lives beneath = λ z' k' lives'.
        let led = path-led me under path leads y z k is lives beneath in
        subst (λ (l : Life). LeadsTo (node l.class member)) (life-unique lives lives') (statement-effect (record { reach = led.0; member = member }) (node k.class member) (effect led.0 led.1) (led.2 member))

    within : (t : Statement) (e : Expr MetaPath) (block other : List Statement) (whole : List Statement) → Occurs t whole → out-Statement t ≡ layer.If e block other → ((u : Statement) → Occurs u block → Occurs u whole) × ((u : Statement) → Occurs u other → Occurs u whole)
    within t e block other whole first at = (λ u i. chosen at i, λ u i. otherwise at i)
    within t e block other whole (after i) at = let r = within t e block other _ i at in (λ u j. after (r.0 u j), λ u j. after (r.1 u j))
    within t e block other whole (chosen is i) at = let r = within t e block other _ i at in (λ u j. chosen is (r.0 u j), λ u j. chosen is (r.1 u j))
    within t e block other whole (otherwise is i) at = let r = within t e block other _ i at in (λ u j. otherwise is (r.0 u j), λ u j. otherwise is (r.1 u j))
    within t e block other whole (grouped is i) at = let r = within t e block other _ i at in (λ u j. grouped is (r.0 u j), λ u j. grouped is (r.1 u j))

    -- a set draws an edge to a property, whatever its path leads to
    set-node : (path : MetaPath) (q : ℕ) (e : Expr MetaPath) → out-Statement s ≡ layer.Set path q e → IsSoundSet p me (b.method).types path q e → (y : Node) × LeadsTo y
    set-node path q e at is =
        let of : (r : Reach) → reach_of (b.method).types path ≡ Some r → effect_of (b.method).types (out-Statement s) ≡ Some (record { reach = r; member = Property q }) =
        λ r e'. ap (effect_of (b.method).types) at ∙ ap (option_map (λ (r' : Reach). record { reach = r'; member = Property q })) e' in
        let leads = is.leads in
        elim (reach-of-steps me (b.method).types path.root path.steps leads.leads.root_type (type.Reference is.class leads.constant) is.class leads.constant leads.leads.root leads.leads.steps refl) [
          | inl itself ↦
              let reached : reach_of (b.method).types path ≡ Some reach.Own =
              ap (λ (steps : List PathStep). reach_after (b.method).types path.root (slice_get steps (length steps - 1))) itself.1 ∙ ap (reach_of_root (b.method).types) itself.0 in
              (node b.class (Property q), statement-effect (record { reach = reach.Own; member = Property q }) (node b.class (Property q)) (of reach.Own reached) refl)
          | inr below ↦
              (node is.class (Property q), statement-effect (record { reach = reach.Below is.class; member = Property q }) (node is.class (Property q)) (of (reach.Below is.class) below) (record { below = below-itself (is.is).is_class; is = refl }))
        ]

    -- what it writes, the method may lead to
    set-led : (path : MetaPath) (q : ℕ) (e : Expr MetaPath) → out-Statement s ≡ layer.Set path q e → IsSoundSet p me (b.method).types path q e → IfSome (set_at objects o arguments path q e) (IfWrites Writable)
    set-led path q e at is = by_target (path_value objects o arguments path) refl (reaches me under path is.leads)
      where
        by_target : (found : Option Value) → path_value objects o arguments path ≡ found → Reaches p objects is.class found → IfSome (led_to None (λ y. option_map (λ (new : Value). Some (record { place = property_of y q; value = new })) (value_of objects o arguments e)) found) (IfWrites Writable)
        by_target found there to_null = tt
        by_target found there (to_object {o = y} {x = z} {l = k} lives beneath) =
            mapped-so (IfWrites Writable) (λ (new : Value). Some (record { place = property_of y q; value = new })) (value_of objects o arguments e)
            (λ new. path-member path (Property q) is.leads (λ r e'. ap (effect_of (b.method).types) at ∙ ap (option_map (λ (r' : Reach). record { reach = r'; member = Property q })) e') y z k there lives beneath)

    statement-led : (f : layer.Statement-F Statement) → out-Statement s ≡ f → IsSoundStatement p me (b.method).types f → ((sets : List Statement) → f ≡ layer.Group sets → IfSome (option_map (λ (found : List (Option Assignment)). Write (Grouped found)) (sets_in objects o arguments sets)) IsLed) → IfSome (operation objects o arguments f) IsLed
    statement-led f at (set_sound {path = path} {q = q} {e = e} is) in_group = alone-led (set-node path q e at is) (set_at objects o arguments path q e) (set-led path q e at is)
    statement-led f at (emit_sound {m = g} {es = es} is) in_group =
        map-led (λ (given : List Value). Begin o g given) (values_of objects o arguments es) (λ given.
        (λ z k lives. statement-effect (record { reach = reach.Own; member = Method g }) (node k.class (Method g)) (ap (effect_of (b.method).types) at) (own-reached (Method g) z k lives), late-named g is.emitted))
    statement-led f at (call_sound {path = path} {m = n} {es = es} is) in_group =
        on-path me under path is.leads (λ y. option_map (λ (given : List Value). Begin y n given) (values_of objects o arguments es)) (λ y z k there lives beneath.
        map-led (λ (given : List Value). Begin y n given) (values_of objects o arguments es) (λ given.
        (path-member path (Method n) is.leads (λ r e'. ap (effect_of (b.method).types) at ∙ ap (option_map (λ (r' : Reach). record { reach = r'; member = Method n })) e') y z k there lives beneath, body-named sound is.class n is.slot is.is is.callable)))
    statement-led f at (if_sound {e = e} {chosen = block} {other = other} is one two) in_group =
        let parts = within s e block other body occurs at in
        chosen-led block other (value_of objects o arguments e) (body, slot, parts.0) (body, slot, parts.1)
    statement-led f at (connect_sound {ends = ends} {type = how} is) in_group =
        idle-path me under ends.sender is.sender _ (λ y. idle-path me under ends.receiver is.receiver _ (λ z. tt))
    statement-led f at (disconnect_sound {ends = ends} is) in_group =
        idle-path me under ends.sender is.sender _ (λ y. idle-path me under ends.receiver is.receiver _ (λ z. tt))
    statement-led f at (delete_sound {path = path} leads) in_group =
        on-path me under path leads (λ y. Some (Delete y)) (λ y z k there lives beneath.
        ((z, k, lives), path-member path Destruction leads (λ r e'. ap (effect_of (b.method).types) at ∙ ap (option_map (λ (r' : Reach). record { reach = r'; member = Destruction })) e') y z k there lives beneath))
    statement-led f at (later_sound {path = path} leads) in_group = idle-path me under path leads (λ y. Some (Schedule y)) (λ y. tt)
    statement-led f at (group_sound {sets = sets} all only) in_group = in_group sets refl

  -- what an action of a native does
  action-led : (effects : MetaEffects) (it : Action) → (b.method).work ≡ Native effects → IfSome (operation_of_action o effects it) IsLed
  action-led effects (action.Set k v) native = given (slice_get effects.sets k) refl
    where
      given : (found : Option ℕ) → slice_get effects.sets k ≡ found → IfSome (option_map (λ (q : ℕ). Write (Alone (property_of o q) v)) found) IsLed
      given None is = tt
      given (Some q) is =
          let has : HasOwn (Native effects) (record { reach = reach.Own; member = Property q }) = (inr (record { number = q; among = element_at effects.sets k q is; is = refl }), tt) in (
            (node b.class (Property q), by-effect (record { reach = reach.Own; member = Property q }) (node b.class (Property q)) (Native effects) native has refl),
            (λ z l lives. by-effect (record { reach = reach.Own; member = Property q }) (node l.class (Property q)) (Native effects) native has (own-reached (Property q) z l lives), tt),
          )
  action-led effects (action.Emit k given) native = by_signal (slice_get effects.emits k) refl
    where
      late : (g : ℕ) → slice_get effects.emits k ≡ Some g → named g ≡ g
      late g is =
          let work = subst (λ (w : Work). IsSoundWork p b.class m (b.method).types w) native ((sound.classes b.class (b.is).class (b.is).is_class).methods m b.method (b.is).is).work in
          let signal = All-contains (IsPlainSignal p work.declaring) effects.emits g (work.sound).emits (element_at effects.emits k g is) in
          late-named g signal.emitted

      by_signal : (found : Option ℕ) → slice_get effects.emits k ≡ found → IfSome (option_map (λ (g : ℕ). Begin o g given) found) IsLed
      by_signal None is = tt
      by_signal (Some g) is = (
        λ z l lives. by-effect (record { reach = reach.Own; member = Method g }) (node l.class (Method g)) (Native effects) native
            (inl (record { number = g; among = element_at effects.emits k g is; is = refl }), tt) (own-reached (Method g) z l lives),
        late g is,
      )

-- ---- groups

module _ {p : Loaded} (sound : IsSound p) {objects : List Object} {o m : ℕ} {arguments : List Value} {left : List Step} {x : Node} (b : BodyStands p objects o m arguments left x) where
  -- the body stands where nothing but values is another
  abbrev body-now : {now : List Object} → DifferInValues objects now → BodyStands p now o m arguments left x
  body-now {now} differ = record {
    class = b.class;
    lives = differ-class objects now differ o ∙ b.lives;
    at = b.at;
    method = b.method;
    is = b.is;
    bodied = b.bodied;
    typed = values-still p objects now differ arguments (b.method).types b.typed;
    steps = b.steps;
  }

  module _ (typed : AreTyped p objects) (step : Step) (body : List Statement) (slot : (b.method).work ≡ Slot body) (me : ℕ) (under : Below p b.class me) where
    itself-lives : (object : Object) × (life : Life) × Lives objects o object life × (life.class ≡ b.class)
    itself-lives = lives-of-class objects o b.class b.lives

    -- objects as a set of the group reads them
    abbrev Read : List Object → Type 0
    Read now = Within sound objects o me itself-lives.0 itself-lives.1 arguments (b.method).types itself-lives.2 (subst (λ (k : ℕ). Below p k me) (sym itself-lives.3) under) b.typed now

    -- what leads to a property there leads to it here
    led-back : {now : List Object} (w : Read now) (a : Assignment) → Writable sound w.typed (body-now w.differ) step a → Writable sound typed b step a
    led-back {now} w a led z k lives =
        let on = lives-on objects now w.differ a.place.object k (life-of-lives lives) in
        subst (λ (c : ℕ). Draws p b.class b.method step (node c (Property a.place.property))) on.same (led on.object on.life on.lives)

    -- the statement is part of the body, and the step runs it
    abbrev RunsThere : Statement → Type 0
    RunsThere s = (at : Occurs s body) × IsRunBy body step s at

    set-led-now : {now : List Object} (w : Read now) (s : Statement) → RunsThere s → IsSet s → IsSoundStatement p me (b.method).types (out-Statement s) → (done : Option Assignment) → set_in now o arguments (out-Statement s) ≡ Some done → IfWrites (Writable sound typed b step) done
    set-led-now w s there set is None at = tt
    set-led-now {now} w s there set is (Some a) at =
        let set_is = sound-parts-of (out-Statement s) set.path set.property set.value is set.is in
        let led = set-led sound w.typed (body-now w.differ) step body slot s there.0 there.1 me under set.path set.property set.value set.is set_is in
        let written : set_at now o arguments set.path set.property set.value ≡ Some (Some a) = ap (set_in now o arguments) (sym set.is) ∙ at in
        led-back w a (subst (λ (found : Option (Option Assignment)). IfSome found (IfWrites (Writable sound w.typed (body-now w.differ) step))) written led)

    -- the body's node leads to each property that the sets write
    abbrev ArePlacesLed : List Statement → List Object → Type 0
    ArePlacesLed sets now = (found : List (Option Assignment)) → sets_in now o arguments sets ≡ Some found → AllFit p objects (writes_of (Grouped found)) → AllByRecursion (Writable sound typed b step) (writes_of (Grouped found))

    sets-led : (sets : List Statement) → ((u : Statement) → Occurs u sets → RunsThere u) → AreSound p me (b.method).types sets → AllByRecursion IsSet sets → {now : List Object} → Read now → ArePlacesLed sets now
    sets-led [] inside all only w [] is fit = tt
    sets-led [] inside all only w (d ∷ found) is fit = absurd (cc is)
    sets-led (s ∷ sets) inside (next_sound one rest) only {now} w found is fit =
        by_first (λ next others. sets-led sets (λ u i. inside u (after i)) rest only.1 others) (set_in now o arguments (out-Statement s)) refl is
      where
        by_more : ((next : List Object) → Read next → ArePlacesLed sets next) → (first : Option Assignment) → set_in now o arguments (out-Statement s) ≡ Some first → (more : Option (List (Option Assignment))) → sets_in (after_set first now) o arguments sets ≡ more → option_map (λ (l : List (Option Assignment)). first ∷ l) more ≡ Some found → AllByRecursion (Writable sound typed b step) (writes_of (Grouped found))
        by_more again d at None others e = absurd (cc e)
        by_more again None at (Some more) others e =
            let found_is : None ∷ more ≡ found = cc e in
            let fits : AllFit p objects (writes_of (Grouped more)) = subst (λ (l : List (Option Assignment)). AllFit p objects (writes_of (Grouped l))) (sym found_is) fit in
            subst (λ (l : List (Option Assignment)). AllByRecursion (Writable sound typed b step) (writes_of (Grouped l))) found_is (again now w more others fits)
        by_more again (Some a) at (Some more) others e =
            let found_is : Some a ∷ more ≡ found = cc e in
            let fits : AllFit p objects (writes_of (Grouped (Some a ∷ more))) = subst (λ (l : List (Option Assignment)). AllFit p objects (writes_of (Grouped l))) (sym found_is) fit in
            let next = within-next sound objects o me itself-lives.0 itself-lives.1 arguments (b.method).types itself-lives.2 (subst (λ (k : ℕ). Below p k me) (sym itself-lives.3) under) b.typed w a fits.0 in
            subst (λ (l : List (Option Assignment)). AllByRecursion (Writable sound typed b step) (writes_of (Grouped l))) found_is
            (set-led-now w s (inside s first) only.0 one (Some a) at, again (after_set (Some a) now) next more others fits.1)

        by_first : ((next : List Object) → Read next → ArePlacesLed sets next) → (first_done : Option (Option Assignment)) → set_in now o arguments (out-Statement s) ≡ first_done → option_and_then (λ (d : Option Assignment). option_map (λ (l : List (Option Assignment)). d ∷ l) (sets_in (after_set d now) o arguments sets)) first_done ≡ Some found → AllByRecursion (Writable sound typed b step) (writes_of (Grouped found))
        by_first again None at e = absurd (cc e)
        by_first again (Some d) at e = by_more again d at (sets_in (after_set d now) o arguments sets) refl e

    -- a group is led by its first set
    group-led : (sets : List Statement) → ((u : Statement) → Occurs u sets → RunsThere u) → AreSound p me (b.method).types sets → AreSets sets → ((u : Statement) → Occurs u sets → IsTypedStatement p me (b.method).types (out-Statement u)) → IfSome (option_map (λ (found : List (Option Assignment)). Write (Grouped found)) (sets_in objects o arguments sets)) (IsLed sound typed b step)
    group-led sets within all only t =
        let below = subst (λ (k : ℕ). Below p k me) (sym itself-lives.3) under in
        let first_read : Read objects = within-first sound objects o me itself-lives.0 itself-lives.1 arguments (b.method).types itself-lives.2 below b.typed typed in
        let each = recursion_from_All IsSet sets only.1 in
        let done = sets-done sound typed o me itself-lives.0 itself-lives.1 arguments (b.method).types itself-lives.2 below b.typed sets all each t first_read in
        let led : IsLed sound typed b step (Write (Grouped done.0)) = (first-led sets only.0 within all each, sets-led sets within all each first_read done.0 done.1 done.2) in
        subst (λ (found : Option (List (Option Assignment))). IfSome (option_map (λ (l : List (Option Assignment)). Write (Grouped l)) found) (IsLed sound typed b step)) (sym done.1) led
      where
        first-led : (sets : List Statement) → sets ≢ [] → ((u : Statement) → Occurs u sets → RunsThere u) → AreSound p me (b.method).types sets → AllByRecursion IsSet sets → (y : Node) × Draws p b.class b.method step y
        first-led [] some within all each = absurd (some refl)
        first-led (s ∷ rest) some within (next_sound one more) each =
            let set = each.0 in
            let there = within s first in
            set-node sound typed b step body slot s there.0 there.1 me under set.path set.property set.value set.is (sound-parts-of (out-Statement s) set.path set.property set.value one set.is)

-- ---- steps

module _ {p : Loaded} (program : IsTypedProgram p) (sound : IsSound p) {objects : List Object} (typed : AreTyped p objects) {o m : ℕ} {arguments : List Value} {left : List Step} {x : Node} (b : BodyStands p objects o m arguments left x) where
  step-led : (y : Step) → IsStepOf (b.method).work y → IfSome (operation_of_step objects o arguments y) (IsLed sound typed b y)
  step-led (Run s) (runs {body = body} slot occurs) =
      let types = (b.method).types in
      let work = subst (λ (w : Work). IsSoundWork p b.class m types w) slot ((sound.classes b.class (b.is).class (b.is).is_class).methods m b.method (b.is).is).work in
      let whole = body-typed b.class m work.declaring b.method program sound b.is work.below work.declares (body-named sound b.class m b.method b.is b.bodied) in
      let all = subst (λ (w : Work). IsTypedWork p work.declaring types w) slot whole in
      let here_sound = occurs-sound sound work.declaring types s body work.sound occurs in
      statement-led sound typed b (Run s) body slot s occurs by_itself work.declaring work.below (out-Statement s) refl here_sound
      (λ sets at.
      let parts = group-parts (out-Statement s) sets here_sound at in
      group-led sound b typed (Run s) body slot work.declaring work.below sets (λ u i. (occurs-in s sets body occurs at u i, by_group occurs at i)) parts.0 parts.1 (λ u i. all u (occurs-in s sets body occurs at u i)))
  step-led (Ask effects) (asks native) = native
  step-led (Act effects it) (acts native) = action-led sound typed b (Act effects it) effects it native

  pub does-led : (y : Step) (d : Operation) → IsStepOf (b.method).work y → operation_of_step objects o arguments y ≡ Some d → IsLed sound typed b y d
  does-led y d of is = subst (λ (found : Option Operation). IfSome found (IsLed sound typed b y)) is (step-led y of)
