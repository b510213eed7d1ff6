-- A body of a typed program never lacks a value.
use Rattle.std.{proofs.Common.{◌≡◌, ◌<◌, ℕ, true, false, List, [], ◌∷◌, Option, Some, None, slice_get, refl, ap, ◌∙◌, sym, subst, arith}, specs.List.{AllByRecursion, AllZip}, proofs.lemmas.List.Elements.{recursion_from_All}, specs.Option.{option_and_then, option_map}}
use Rattle.basic_types.specs.{declared.value.Value.{Value}, Values.{truth_has}}
use Rattle.syntax_trees.specs.declared.syntax.Expr.{Expr}
use Rattle.meta_model.specs.{declared.object.MetaPath.{MetaPath}, declared.object.MetaMethod.{MetaMethod}, declared.object.Statement.{Statement}, declared.object.Statement.TheViews.{out-Statement}, declared.object.ValueType.{ValueType}, Loaded.{Loaded}, Members.{IsMethod, Below, Declares, methods_in, method_count}, Sound.{IsSound, LeadsToClass, IsSoundExpr, AreSoundExprs, IsSet, IsSoundSet, AreSound, next_sound, IsSoundStatement, set_sound, emit_sound, call_sound, if_sound, connect_sound, disconnect_sound, delete_sound, later_sound, group_sound}, Values.{Has}, declared.object.MetaObject.{MetaObject}}
use Rattle.meta_model.specs.declared.object.Statement.TheOpen as layer
use Rattle.meta_model.specs.declared.object.ValueType.TheVariants as type
use Rattle.object_tree.{specs.declared.life.Life.{Life}, specs.declared.object.Object.{Object}, specs.Objects.{Lives, class_of}, specs.Typed.{AreTyped, ReadAs, ReadsAs}, proofs.TypedObjects.{has-reads, reads-still}, proofs.Changing.{life-of-lives}}
use Rattle.type_check.{specs.Bodies.{IsGivenIn, IsTypedSet, IsTypedStatement}, specs.Laws.{PathsAreTyped}, specs.Typed.{IsTypedWork, IsTypedProgram}, proofs.Values.{body_has, arguments_have}}
use Rattle.effect_scan.specs.{declared.node.Member.TheVariants.{Method}, Nodes.{node, named}, Laws.{IsNode}, Effects.{Occurs, after, here as at_first}}
use Rattle.rank_check.proofs.Elements.{some_inside}
use Rattle.machine_rules.{specs.Operations.{Operation, Write, Begin, led_to, on_object, chosen_by, operation, operation_of_set, set_at, set_in, sets_in, after_set}, specs.Paths.{path_value, value_of, values_of}, proofs.Fields.{method-unique}, proofs.Inherited.{method-below, property-below}, proofs.Differing.{differ-stay}}
use Rattle.object_machine.proofs.{CheckedRuns.Nodes.{named-node}, TypedPaths.{Reaches, to_null, to_object, path-has, path-reaches}, Grouped.{IfWrites, Within, within-first, within-next, reaches-within, set-act, values-still}, CheckedRuns.PathClasses.{same-class}}
use Rattle.machine_state.specs.Telling.{Grouped, writes_of}
use Rattle.prop_bindings.{specs.declared.plans.assignment.Assignment.{Assignment}, specs.Calls.{AllFit}, specs.Changes.{DifferInValues}, specs.Fits.{FitsAt}, proofs.Alive.{LivesOn, lives-on}}
use Rattle.binding_graph.specs.Places.{property_of}

-- ---- statements

none-map : {X Y : Type 0} (f : X → Y) (found : Option X) (x : X) → found ≡ Some x → option_map f found ≡ None → ⊥
none-map f found x is none = let no : Some (f x) ≡ None = sym (ap (option_map f) is) ∙ none in absurd (cc no)

-- something is done on null, and on an object where it may be
none-on : {p : Loaded} {objects : List Object} {c : ℕ} (act : ℕ → Option Operation) (found : Option Value) → Reaches p objects c found → ((y : ℕ) → act y ≡ None → ⊥) → on_object act found ≡ None → ⊥
none-on act found to_null some none = absurd (cc none)
none-on act found (to_object {o = y} lives below) some none = some y none

none-chosen : {p : Loaded} {classes : ℕ → Option ℕ} (block other : List Statement) (found : Option Value) (v : Value) → found ≡ Some v → Has p classes v type.Bool → chosen_by block other found ≡ None → ⊥
none-chosen block other found v is (truth_has {b = true}) none = let no = sym (ap (chosen_by block other) is) ∙ none in absurd (cc no)
none-chosen block other found v is (truth_has {b = false}) none = let no = sym (ap (chosen_by block other) is) ∙ none in absurd (cc no)

-- what reads as a type reads so where nothing but values was another
read-back : (p : Loaded) (objects now : List Object) → DifferInValues objects now → (v : Value) (T : ValueType) → ReadsAs p now v T → ReadsAs p objects v T
read-back p objects now differ = let stay = differ-stay now objects (sym differ) in reads-still p now objects (record { stays = stay.living; rests = stay.dead })

module _ {p : Loaded} {objects : List Object} (sound : IsSound p) (typed : AreTyped p objects) (o me : ℕ) (x : Object) (l : Life) (arguments : List Value) (types : List ValueType) (lives : Lives objects o x l) (below : Below p l.class me) (fit : ReadAs p objects arguments types) where
  pub paths-typed : PathsAreTyped p (class_of objects) me types (path_value objects o arguments)
  paths-typed path T leads = let y = path-has sound typed o me x l arguments types lives below fit path leads in (y.given, y.is, y.has)

  pub reached : (path : MetaPath) {c : ℕ} → LeadsToClass p me types path c → Reaches p objects c (path_value objects o arguments path)
  reached path leads = path-reaches objects o me x l arguments types path sound typed lives below fit leads

  given-none : (T : ValueType) (e : Expr MetaPath) → IsSoundExpr p me types e → IsGivenIn p me types T e → {Y : Type 0} (f : Value → Y) → option_map f (value_of objects o arguments e) ≡ None → ⊥
  given-none T e is given f none = let v = body_has p sound (class_of objects) me types (path_value objects o arguments) paths-typed T e is given in none-map f (value_of objects o arguments e) v.0 v.1 none

  arguments-none : (Ts : List ValueType) (es : List (Expr MetaPath)) → AreSoundExprs p me types es → AllZip (IsGivenIn p me types) Ts es → (f : List Value → Operation) → option_map f (values_of objects o arguments es) ≡ None → ⊥
  arguments-none Ts es are given f none = let vs = arguments_have p sound (class_of objects) me types (path_value objects o arguments) paths-typed Ts es are given in none-map f (values_of objects o arguments es) vs.0 vs.1 none

  -- ---- sets

  -- objects as a set of a group reads them, which may be the objects themselves
  abbrev pub Read : List Object → Type 0
  Read now = Within sound objects o me x l arguments types lives below fit now

  -- a typed set writes a value of the property's type, or nothing
  abbrev pub Done : List Object → layer.Statement-F Statement → Type 0
  Done now f = (done : Option Assignment) × (set_in now o arguments f ≡ Some done) × IfWrites (λ a. FitsAt p objects a.place a.value) done

  pub typed-set : {now : List Object} → Read now → (path : MetaPath) (q : ℕ) (e : Expr MetaPath) → IsSoundSet p me types path q e → IsTypedSet p me types path q e → Done now (layer.Set path q e)
  typed-set {now} w path q e is t = by_target (path_value now o arguments path) refl (reaches-within sound objects o me x l arguments types lives below fit w path is.leads)
    where
      on-now : LivesOn now o l
      on-now = lives-on objects now w.differ o l (life-of-lives lives)

      value : (v : Value) × (value_of now o arguments e ≡ Some v) × Has p (class_of now) v (t.property).kind
      value =
          let below-now : Below p (on-now.life).class me = subst (λ (k : ℕ). Below p k me) (sym on-now.same) below in
          let fit-now : ReadAs p now arguments types = values-still p objects now w.differ arguments types fit in
          body_has p sound (class_of now) me types (path_value now o arguments)
          (λ target T leads. let y = path-has sound w.typed o me on-now.object on-now.life arguments types on-now.lives below-now fit-now target leads in (y.given, y.is, y.has))
          (t.property).kind e is.value t.given

      act : ℕ → Option (Option Assignment)
      act = set-act sound objects o me x l arguments types lives below fit now q e

      by_target : (found : Option Value) → path_value now o arguments path ≡ found → Reaches p objects is.class found → Done now (layer.Set path q e)
      by_target found at to_null = (None, ap (led_to None act) at, tt)
      by_target found at (to_object {o = y} {x = z} {l = k} alive beneath) =
          let at_class = same-class me types path is.class t.class is.leads t.leads in
          let own = property-below sound (subst (λ (c : ℕ). Below p k.class c) at_class beneath) t.is in
          let reads = has-reads p now value.0 (t.property).kind value.2 in (
            Some (record { place = property_of y q; value = value.0 }),
            ap (led_to None act) at ∙ ap (option_map (λ (new : Value). Some (record { place = property_of y q; value = new }))) value.1,
            record { object = z; life = k; lives = alive; property = t.property; is_property = own; reads = read-back p objects now w.differ value.0 (t.property).kind reads },
          )

  -- the parts of a set
  sound-parts : (f : layer.Statement-F Statement) (path : MetaPath) (q : ℕ) (e : Expr MetaPath) → IsSoundStatement p me types f → f ≡ layer.Set path q e → IsSoundSet p me types path q e
  sound-parts f path q e all at = of_set (subst (IsSoundStatement p me types) at all)
    where
      of_set : IsSoundStatement p me types (layer.Set path q e) → IsSoundSet p me types path q e
      of_set (set_sound is) = is

  statement-done : {now : List Object} → Read now → (s : Statement) → IsSet s → IsSoundStatement p me types (out-Statement s) → IsTypedStatement p me types (out-Statement s) → Done now (out-Statement s)
  statement-done {now} w s set all t =
      let is = sound-parts (out-Statement s) set.path set.property set.value all set.is in
      let typed_it : IsTypedSet p me types set.path set.property set.value = subst (IsTypedStatement p me types) set.is t in
      subst (Done now) (sym set.is) (typed-set w set.path set.property set.value is typed_it)

  -- typed sets of a group all write values of their properties' types, or nothing
  pub sets-done : (sets : List Statement) → AreSound p me types sets → AllByRecursion IsSet sets → ((u : Statement) → Occurs u sets → IsTypedStatement p me types (out-Statement u)) → {now : List Object} → Read now →
      (found : List (Option Assignment)) × (sets_in now o arguments sets ≡ Some found) × AllFit p objects (writes_of (Grouped found))
  sets-done [] all only t w = ([], refl, tt)
  sets-done (s ∷ sets) (next_sound one rest) only t {now} w =
      let first = statement-done w s only.0 one (t s at_first) in
      by_first first.0 first.1 first.2 (λ next others. sets-done sets rest only.1 (λ u i. t u (after i)) others)
    where
      joined : (done : Option Assignment) → set_in now o arguments (out-Statement s) ≡ Some done → (found : List (Option Assignment)) → sets_in (after_set done now) o arguments sets ≡ Some found → sets_in now o arguments (s ∷ sets) ≡ Some (done ∷ found)
      joined done at found others =
          ap (option_and_then (λ (d : Option Assignment). option_map (λ (more : List (Option Assignment)). d ∷ more) (sets_in (after_set d now) o arguments sets))) at
          ∙ ap (option_map (λ (more : List (Option Assignment)). done ∷ more)) others

      by_first : (done : Option Assignment) → set_in now o arguments (out-Statement s) ≡ Some done → IfWrites (λ a. FitsAt p objects a.place a.value) done → ((next : List Object) → Read next → (found : List (Option Assignment)) × (sets_in next o arguments sets ≡ Some found) × AllFit p objects (writes_of (Grouped found))) → (found : List (Option Assignment)) × (sets_in now o arguments (s ∷ sets) ≡ Some found) × AllFit p objects (writes_of (Grouped found))
      by_first None is fits again =
          let more = again now w in
          (None ∷ more.0, joined None is more.0 more.1, more.2)
      by_first (Some a) is fits again =
          let more = again (after_set (Some a) now) (within-next sound objects o me x l arguments types lives below fit w a fits) in
          (Some a ∷ more.0, joined (Some a) is more.0 more.1, (fits, more.2))

  -- ---- what a typed statement does

  -- the sets of the statement, if it is a group, are typed
  abbrev pub SetsAreTyped : layer.Statement-F Statement → Type 0
  SetsAreTyped f = (sets : List Statement) → f ≡ layer.Group sets → (u : Statement) → Occurs u sets → IsTypedStatement p me types (out-Statement u)

  -- a typed statement does something
  pub typed-does : (f : layer.Statement-F Statement) → IsSoundStatement p me types f → IsTypedStatement p me types f → SetsAreTyped f → operation objects o arguments f ≡ None → ⊥
  typed-does f (set_sound {path = path} {q = q} {e = e} is) t inner none =
      let done = typed-set (within-first sound objects o me x l arguments types lives below fit typed) path q e is t in
      none-map operation_of_set (set_at objects o arguments path q e) done.0 done.1 none
  typed-does f (group_sound {sets = sets} all only) t inner none =
      let done = sets-done sets all (recursion_from_All IsSet sets only.1) (inner sets refl) (within-first sound objects o me x l arguments types lives below fit typed) in
      none-map (λ (found : List (Option Assignment)). Write (Grouped found)) (sets_in objects o arguments sets) done.0 done.1 none
  typed-does f (emit_sound {m = g} {es = es} is) t inner none = arguments-none (t.method).types es is.values t.given (λ (given : List Value). Begin o g given) none
  typed-does f (call_sound {path = path} {m = n} {es = es} is) t inner none =
      none-on (λ y. option_map (λ (given : List Value). Begin y n given) (values_of objects o arguments es)) (path_value objects o arguments path) (reached path is.leads)
      (λ y. arguments-none ((t.accepts).method).types es is.values (t.accepts).given (λ (given : List Value). Begin y n given)) none
  typed-does f (if_sound {e = e} {chosen = block} {other = other} is one two) t inner none =
      let v = body_has p sound (class_of objects) me types (path_value objects o arguments) paths-typed type.Bool e is t in
      none-chosen block other (value_of objects o arguments e) v.0 v.1 v.2 none
  typed-does f (connect_sound {ends = ends} is) t inner none =
      none-on _ (path_value objects o arguments ends.sender) (reached ends.sender is.sender) (λ y. none-on _ (path_value objects o arguments ends.receiver) (reached ends.receiver is.receiver) (λ z no. absurd (cc no))) none
  typed-does f (disconnect_sound {ends = ends} is) t inner none =
      none-on _ (path_value objects o arguments ends.sender) (reached ends.sender is.sender) (λ y. none-on _ (path_value objects o arguments ends.receiver) (reached ends.receiver is.receiver) (λ z no. absurd (cc no))) none
  typed-does f (delete_sound {path = path} leads) t inner none = none-on _ (path_value objects o arguments path) (reached path leads) (λ y no. absurd (cc no)) none
  typed-does f (later_sound {path = path} leads) t inner none = none-on _ (path_value objects o arguments path) (reached path leads) (λ y no. absurd (cc no)) none

-- ---- bodies

-- the body of a method is typed, where it is declared
pub body-typed : {p : Loaded} (c m d : ℕ) (method : MetaMethod) → IsTypedProgram p → IsSound p → IsMethod p c m method → Below p c d → Declares p d m → named m ≡ m → IsTypedWork p d method.types method.work
body-typed {p} c m d method program sound is below declares same =
    let place = named-node sound c m method is in
    let here = subst (λ (n : ℕ). IsNode p (node c (Method n))) same place in
    let there = declared-method p d m declares.within in
    let equal = method-unique (method-below sound below there.1) is in
    subst (λ (k : MetaMethod). IsTypedWork p d k.types k.work) equal (program.nodes here.0 (node c (Method m)) here.1 d there.0 below declares there.1)
  where
    found-method : (p : Loaded) (d m : ℕ) (found : Option MetaObject) → slice_get p.classes d ≡ found → m < methods_in found → (k : MetaMethod) × IsMethod p d m k
    found-method p d m None at low = absurd (omega (arith, low))
    found-method p d m (Some class) at low = let k = some_inside class.methods m low in (k.0, record { class = class; is_class = record { is = at }; is = k.1 })

    declared-method : (p : Loaded) (d m : ℕ) → m < method_count p d → (k : MetaMethod) × IsMethod p d m k
    declared-method p d m low = found-method p d m (slice_get p.classes d) refl low
