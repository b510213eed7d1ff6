-- Bodies that are resolved in outlines, as they are loaded: by the numbers of the members with their names.
use Rattle.std.{proofs.Common.{◌≡◌, ◌≢◌, ℕ, zero, suc, ◌<◌, Bool, false, List, [], ◌∷◌, map, length, slice_get, Option, Some, None, true, inl, refl, sym, ap, ◌∙◌, subst}, specs.List.{AllZip}, proofs.lemmas.Option.{none-some, same_Some}}
use Rattle.basic_types.specs.{declared.qtype.QType.{QType}, declared.sig.Sig.{Sig}}
use Rattle.syntax_trees.specs.{declared.syntax.Expr.{Expr}, declared.syntax.Root.{Root}, declared.syntax.Path.{Path}, declared.connection.Endpoints.{Endpoints}, declared.syntax.Stmt.{Stmt}, declared.syntax.Stmt.TheViews.{out-Stmt}, declared.program.Parameter.{Parameter}, declared.program.Property.{Property}}
use Rattle.syntax_trees.specs.declared.syntax.Stmt.TheOpen as stmt
use Rattle.meta_model.specs.{declared.object.ValueType.{ValueType}, declared.object.MetaRoot.{MetaRoot}, declared.object.Step.{Step}, declared.object.MetaPath.{MetaPath}, declared.object.MetaEndpoints.{MetaEndpoints}, declared.object.Statement.{Statement}, declared.object.Statement.TheViews.{out-Statement}, declared.object.MetaMethod.{MetaMethod}, declared.object.MetaProperty.{MetaProperty}, declared.object.MetaObject.{MetaObject}, Loaded.{Loaded}, Members.{IsClassNamed, IsMethod, IsMethodNamed, IsProperty}, Kinds.{IsKind}, declared.qobject.TheConstants.{OBJECT_NAME_CHANGED}}
use Rattle.meta_model.specs.declared.object.ValueType.TheVariants as type
use Rattle.meta_model.specs.declared.object.Statement.TheOpen as statement
use Rattle.meta_model.specs.declared.object.Work.TheVariants as work
use Rattle.class_outlines.{specs.declared.outline.Sort.{Sort}, specs.declared.outline.Heading.{Heading}, specs.declared.outline.Outline.{Outline}, specs.Outlines.{IsOutlineNamed, types_of}, specs.DeclaredKinds.{IsKindIn}, specs.code.ReadTypes.{IsReadAs}, specs.Notifiers.{IsSignalOf}, specs.Ends.{IsSigned}, specs.Indexed.{IsCallOf}, proofs.Zips.{zip_left, zip_right}, proofs.Searches.{same_first}, proofs.ReadTypes.{same_read}}
use Rattle.class_outlines.specs.declared.outline.Sort.TheVariants as sort
use Rattle.name_indexes.specs.Places.{StandsFirst}
use Rattle.meta_objects.specs.{LoadedEnds.{Connects}, LoadedBodies.{Site, site, IsLoadedRoot, this_loaded, parameter_loaded, HasProperty, AreLoadedSteps, no_steps, step_on, IsLoadedPath, IsLoadedObject, IsLoadedExpr, literal_loaded, path_loaded, unary_loaded, binary_loaded, AreLoadedExprs, IsLoadedSet, IsLoadedEmit, IsLoadedCall, AreLoadedEnds, IsLoadedStatement, set_loaded, emit_loaded, call_loaded, if_loaded, connect_loaded, disconnect_loaded, delete_loaded, later_loaded, group_loaded, AreLoadedStatements, none_loaded, next_loaded}}
use Rattle.name_resolution.specs.{declared.body_resolution.work.ResolvedWork.{ResolvedWork}, code.Bodies.{Scope, IsRoot, this_root, parameter_root, PointsTo, HasMember, AreSteps, IsPath, IsExpr, literal_is, path_is, unary_is, binary_is, AreExprs, IsObjectPath, IsReferencePath, IsSet, IsEmit, IsCall, AreEnds, IsStatement, set_is, emit_is, call_is, if_is, connect_is, disconnect_is, delete_is, later_is, group_is, AreStatements, none_are, next_is}, code.Loading.{work_at, found_work, work_of, IsMethodOf, IsPropertyOf, IsObject}}
use Rattle.name_resolution.specs.declared.body_resolution.work.ResolvedWork.TheVariants as resolved

-- what a declared type is read as, which is its kind
abbrev pub IsTyped : List Outline → Loaded → QType → ValueType → Type 0
IsTyped outlines p T k = IsReadAs outlines T k × IsKind p T k

pub zip_length : {A B : Type 0} (R : A → B → Type 0) (xs : List A) (ys : List B) → AllZip R xs ys → length xs ≡ length ys
zip_length R [] [] h = refl
zip_length R [] (y ∷ ys) h = absurd h
zip_length R (x ∷ xs) [] h = absurd h
zip_length R (x ∷ xs) (y ∷ ys) h = ap suc (zip_length R xs ys h.1)

pub map_at : {A B : Type 0} (f : A → B) (xs : List A) (i : ℕ) (x : A) → slice_get xs i ≡ Some x → slice_get (map f xs) i ≡ Some (f x)
map_at f [] i x e = absurd (none-some x e)
map_at f (y ∷ xs) zero x e = ap (λ z. Some (f z)) (same_Some _ _ e)
map_at f (y ∷ xs) (suc i) x e = map_at f xs i x e

-- the loaded classes are those of these outlines
module _ (outlines : List Outline) (works : List (List ResolvedWork)) (p : Loaded) (objects : AllZip (IsObject outlines works) outlines p.classes) where
  -- ---- classes and members by their numbers
  pub object_at : (c : ℕ) (o : Outline) → slice_get outlines c ≡ Some o → (x : MetaObject) × (slice_get p.classes c ≡ Some x) × IsObject outlines works o x
  object_at c o e = zip_left (IsObject outlines works) outlines p.classes objects c o e

  pub named : (name : List ℕ) (c : ℕ) → IsOutlineNamed outlines name c → IsClassNamed p name c
  named name c h =
      let x = object_at c h.at.item h.at.is in
      record { class = x.0; is = record { is = x.1 }; named = x.2.named ∙ h.at.has }

  pub kind_in : (T : QType) (k : ValueType) → IsKindIn outlines T k → IsKind p T k
  kind_in T type.Int h = h
  kind_in T type.Bool h = h
  kind_in T type.Text h = h
  kind_in T (type.Reference c constant) h = (h.0, h.1, named T.name c h.2)

  -- a property that is found, as it is loaded
  pub record FoundProperty (c q : ℕ) (property : Property) : Type 0 where
    pub loaded : MetaProperty
    pub is : IsProperty p c q loaded
    pub named : loaded.name ≡ property.name
    pub typed : loaded.declared ≡ property.kind
    pub kind : IsReadAs outlines property.kind loaded.kind

  pub property_at : (c : ℕ) (o : Outline) → slice_get outlines c ≡ Some o → (q : ℕ) (property : Property) → slice_get o.properties q ≡ Some property → FoundProperty c q property
  property_at c o e q property at =
      let x = object_at c o e in
      let y = zip_left (IsPropertyOf outlines o) o.properties x.0.properties x.2.properties q property at in
      record { loaded = y.0; is = record { class = x.0; is_class = record { is = x.1 }; is = y.1 }; named = y.2.named; typed = y.2.typed; kind = y.2.kind }

  pub record FoundMethod (c m : ℕ) (h : Heading) : Type 0 where
    pub loaded : MetaMethod
    pub is : IsMethod p c m loaded
    pub by : IsMethodOf outlines works h loaded

  pub method_at : (c : ℕ) (o : Outline) → slice_get outlines c ≡ Some o → (m : ℕ) (h : Heading) → slice_get o.methods m ≡ Some h → FoundMethod c m h
  method_at c o e m h at =
      let x = object_at c o e in
      let y = zip_left (IsMethodOf outlines works) o.methods x.0.methods x.2.methods m h at in
      record { loaded = y.0; is = record { class = x.0; is_class = record { is = x.1 }; is = y.1 }; by = y.2 }

  -- a signal and a method that are found, as they are loaded
  pub connects : (c : ℕ) (o : Outline) → slice_get outlines c ≡ Some o → (from : Sig) (g : ℕ) → StandsFirst (IsSignalOf from) o.methods g
      → (d : ℕ) (u : Outline) → slice_get outlines d ≡ Some u → (to : Sig) (m : ℕ) → StandsFirst (IsSigned to) u.methods m → OBJECT_NAME_CHANGED < m
      → Connects p c from g d to m
  connects c o at_c from g first d u at_d to m second called =
      let signal = method_at c o at_c g first.at.item first.at.is in
      let method = method_at d u at_d m second.at.item second.at.is in
      record {
        signal = record { method = signal.loaded; is = signal.is; signed = signal.by.signed ∙ first.at.has.0 };
        signals = signal.by.work ∙ ap (λ s. work_of works s) first.at.has.1;
        method = record { method = method.loaded; is = method.is; signed = method.by.signed ∙ second.at.has };
        called = called;
      }

  -- as many types as parameters
  pub types_counted : (c m : ℕ) (method : MetaMethod) → IsMethod p c m method → length method.sig.types ≡ length method.types
  types_counted c m method h =
      let o = zip_right (IsObject outlines works) outlines p.classes objects c h.class h.is_class.is in
      let x = zip_right (IsMethodOf outlines works) o.0.methods h.class.methods o.2.methods m method h.is in
      ap (λ (s : Sig). length s.types) x.2.signed ∙ zip_length (IsReadAs outlines) x.0.sig.types method.types x.2.types

  -- a pointer is read as a reference
  referred : (T : QType) (k : ValueType) → T.pointer ≡ true → IsKind p T k → (c : ℕ) × (constant : Bool) × (k ≡ type.Reference c constant)
  referred T type.Int pointer h = let plain = ap (λ (U : QType). U.pointer) h in absurd (cc)
  referred T type.Bool pointer h = let plain = ap (λ (U : QType). U.pointer) h in absurd (cc)
  referred T type.Text pointer h = let plain = ap (λ (U : QType). U.pointer) h in absurd (cc)
  referred T (type.Reference c constant) pointer h = (c, constant, refl)

  -- ---- bodies, where no declared type is wanting
  module _ (properties_typed : (c q : ℕ) (property : MetaProperty) → IsProperty p c q property → IsKind p property.declared property.kind)
      (name : List ℕ) (parameters : List Parameter) (me : ℕ) (is_me : IsOutlineNamed outlines name me) (types : List ValueType) (typed : AllZip (IsTyped outlines p) (types_of parameters) types) where
    abbrev scope : Scope
    scope = record { outlines = outlines; me = name; parameters = parameters }

    -- .. among the loaded classes
    abbrev loaded_site : Site
    loaded_site = site p me parameters types

    -- a pointer's reading
    points : (T : QType) (c : ℕ) (k : ValueType) → PointsTo outlines T c → IsReadAs outlines T k → k ≡ type.Reference c T.constant
    points T c k h read = same_read outlines T k (type.Reference c T.constant) read (inl (h.pointer, refl, h.class))

    member : (T : QType) (n : List ℕ) (q : ℕ) (property : Property) (h : HasMember outlines T n q property) → FoundProperty h.number q property
    member T n q property h =
        property_at h.number h.points.class.at.item h.points.class.at.is q property (h.place.at.is ∙ ap (λ (x : Property). Some x) h.is)

    root_loads : (r : Root) (f : MetaRoot) (T : QType) → IsRoot scope r f T → (k : ValueType) × IsLoadedRoot loaded_site r f k × IsTyped outlines p T k
    root_loads r f T this_root = (type.Reference me false, this_loaded, (inl (refl, refl, is_me), (refl, refl, named name me is_me)))
    root_loads r f T (parameter_root {k = k} at) =
        let y = zip_left (IsTyped outlines p) (types_of parameters) types typed k at.at.item.kind (map_at (λ (x : Parameter). x.kind) parameters k at.at.item at.at.is) in
        (y.0, parameter_loaded at y.1, y.2)

    -- the property that a name is resolved to has it
    has_property : (T : QType) (n : List ℕ) (q : ℕ) (property : Property) (h : HasMember outlines T n q property) → HasProperty p h.number n q (member T n q property h).loaded
    has_property T n q property h =
        let found = member T n q property h in
        record { is = found.is; named = found.named ∙ sym (ap (λ (x : Property). x.name) h.is) ∙ h.place.at.has }

    steps_load : (names : List (List ℕ)) (T : QType) (k : ValueType) (steps : List Step) (U : QType) → IsTyped outlines p T k → AreSteps outlines T names steps U → (l : ValueType) × IsTyped outlines p U l × AreLoadedSteps p k names steps l
    steps_load [] T k [] U read h = (k, subst (λ V. IsTyped outlines p V k) h read, no_steps)
    steps_load [] T k (s ∷ steps) U read h = absurd h
    steps_load (n ∷ names) T k [] U read h = absurd h
    steps_load (n ∷ names) T k (s ∷ steps) U read h =
        let found = member T n s.property h.0 h.1.member in
        let kind : found.loaded.kind ≡ s.kind = same_read outlines h.0.kind found.loaded.kind s.kind found.kind h.1.kind in
        let declared : IsKind p h.0.kind s.kind = subst (λ l. IsKind p h.0.kind l) kind (subst (λ V. IsKind p V found.loaded.kind) found.typed (properties_typed h.1.member.number s.property found.loaded found.is)) in
        let rest = steps_load names h.0.kind s.kind steps U (h.1.kind, declared) h.2 in
        (rest.0, rest.1, subst (λ l. AreLoadedSteps p l (n ∷ names) (s ∷ steps) rest.0) (sym (points T h.1.member.number k h.1.member.points read.0)) (step_on (has_property T n s.property h.0 h.1.member) kind rest.2))

    path_loads : (path : Path) (f : MetaPath) (T : QType) → IsPath scope path f T → (k : ValueType) × IsTyped outlines p T k × IsLoadedPath loaded_site path f k
    path_loads path f T h =
        let root = root_loads path.root f.root h.root_type h.root in
        let steps = steps_load path.properties h.root_type root.0 f.steps T root.2 h.steps in
        (steps.0, steps.1, record { root_type = root.0; root = root.1; steps = steps.2 })

    object_loads : (path : Path) (f : MetaPath) (class : Outline) (h : IsObjectPath scope path f class) → IsLoadedObject loaded_site path f h.number
    object_loads path f class h =
        let path_to = path_loads path f h.kind h.leads in
        record { constant = h.kind.constant; leads = subst (λ k. IsLoadedPath loaded_site path f k) (points h.kind h.number path_to.0 h.points.points path_to.1.0) path_to.2 }

    -- .. of a class that is there, as the type is
    reference_loads : (path : Path) (f : MetaPath) → IsReferencePath scope path f → (c : ℕ) × IsLoadedObject loaded_site path f c
    reference_loads path f h =
        let path_to = path_loads path f h.kind h.leads in
        let refers = referred h.kind path_to.0 h.pointer path_to.1.1 in
        (refers.0, record { constant = refers.1; leads = subst (λ k. IsLoadedPath loaded_site path f k) refers.2 path_to.2 })

    -- the class of the objects that the path leads to, by its number
    target_at : (path : Path) (f : MetaPath) (class : Outline) (h : IsObjectPath scope path f class) → slice_get outlines h.number ≡ Some class
    target_at path f class h = h.points.points.class.at.is ∙ ap (λ (o : Outline). Some o) h.points.is

    expr_loads : (e : Expr Path) (f : Expr MetaPath) → IsExpr scope e f → IsLoadedExpr loaded_site e f
    expr_loads e f (literal_is a b) = literal_loaded a b
    expr_loads e f (path_is {path = path} {found = found} {T = T} a b h) = path_loaded a b ((path_loads path found T h).2)
    expr_loads e f (unary_is {a = x} {b = y} a b h) = unary_loaded a b (expr_loads x y h)
    expr_loads e f (binary_is {a = x} {c = x2} {b = y} {d = y2} a b h k) = binary_loaded a b (expr_loads x y h) (expr_loads x2 y2 k)

    exprs_load : (es : List (Expr Path)) (fs : List (Expr MetaPath)) → AreExprs scope es fs → AreLoadedExprs loaded_site es fs
    exprs_load [] [] h = tt
    exprs_load [] (f ∷ fs) h = absurd h
    exprs_load (e ∷ es) [] h = absurd h
    exprs_load (e ∷ es) (f ∷ fs) h = (expr_loads e f h.0, exprs_load es fs h.1)

    set_loads : (path : Path) (n : List ℕ) (e : Expr Path) (found : MetaPath) (q : ℕ) (f : Expr MetaPath) → IsSet scope path n e found q f → IsLoadedSet loaded_site path n e found q f
    set_loads path n e found q f h =
        let property = property_at h.object.number h.class (target_at path found h.class h.object) q h.property.at.item h.property.at.is in
        record {
          class = h.object.number;
          object = object_loads path found h.class h.object;
          property = property.loaded;
          has = record { is = property.is; named = property.named ∙ h.property.at.has };
          value = expr_loads e f h.value;
        }

    -- no slot and no native does what a signal does
    found_called : (w : Option ResolvedWork) → found_work w ≢ work.Signal
    found_called None e = absurd (cc)
    found_called (Some (resolved.Body body)) e = absurd (cc)
    found_called (Some (resolved.Native effects)) e = absurd (cc)

    sort_called : (s : Sort) → s ≢ sort.Signal → work_of works s ≢ work.Signal
    sort_called sort.Signal callable e = callable refl
    sort_called sort.DeleteLater callable e = absurd (cc)
    sort_called (sort.Slot i j) callable e = found_called (work_at works i j) e

    -- the method that a name and a number of parameters are resolved to has them
    abbrev method_named : (c m : ℕ) (h : Heading) → FoundMethod c m h → (n : List ℕ) (count : ℕ) → IsCallOf n count h → IsMethodNamed p c n count m
    method_named c m h found n count has = record {
      method = found.loaded;
      is = found.is;
      named = ap (λ (s : Sig). s.name) found.by.signed ∙ has.0;
      counted = ap (λ (s : Sig). length s.types) found.by.signed ∙ has.1;
    }

    emit_loads : (n : List ℕ) (es : List (Expr Path)) (m : ℕ) (fs : List (Expr MetaPath)) → IsEmit scope n es m fs → IsLoadedEmit loaded_site n es m fs
    emit_loads n es m fs h =
        let number : h.number ≡ me = same_first (λ (o : Outline). o.name ≡ name) outlines h.number me h.class is_me in
        let at_me : slice_get outlines me ≡ Some h.class.at.item = ap (λ c. slice_get outlines c) (sym number) ∙ h.class.at.is in
        let found = method_at me h.class.at.item at_me m h.method.at.item h.method.at.is in
        record {
          signal = method_named me m h.method.at.item found n (length es) h.method.at.has;
          signals = found.by.work ∙ ap (λ s. work_of works s) h.signal;
          emitted = h.emitted;
          values = exprs_load es fs h.values;
        }

    call_loads : (path : Path) (n : List ℕ) (es : List (Expr Path)) (found : MetaPath) (m : ℕ) (fs : List (Expr MetaPath)) → IsCall scope path n es found m fs → IsLoadedCall loaded_site path n es found m fs
    call_loads path n es found m fs h =
        let method = method_at h.object.number h.class (target_at path found h.class h.object) m h.method.at.item h.method.at.is in
        record {
          class = h.object.number;
          object = object_loads path found h.class h.object;
          slot = method_named h.object.number m h.method.at.item method n (length es) h.method.at.has;
          callable = λ e. sort_called h.method.at.item.sort h.callable (sym method.by.work ∙ e);
          values = exprs_load es fs h.values;
        }

    ends_load : (ends : Endpoints Path) (found : MetaEndpoints) → AreEnds scope ends found → AreLoadedEnds loaded_site ends found
    ends_load ends found h = record {
      from_class = h.sender.number;
      sender = object_loads ends.sender found.sender h.from_class h.sender;
      to_class = h.receiver.number;
      receiver = object_loads ends.receiver found.receiver h.to_class h.receiver;
      connects =
          connects h.sender.number h.from_class (target_at ends.sender found.sender h.from_class h.sender) ends.signal found.signal h.signal
          h.receiver.number h.to_class (target_at ends.receiver found.receiver h.to_class h.receiver) ends.method found.method h.method h.called;
    }

    mutual
      statement_loads : (x : stmt.Stmt-F Stmt) (y : statement.Statement-F Statement) → IsStatement scope x y → IsLoadedStatement loaded_site x y
      statement_loads x y (set_is {path = path} {name = n} {e = e} {found = found} {q = q} {f = f} h) = set_loaded (set_loads path n e found q f h)
      statement_loads x y (emit_is {name = n} {es = es} {m = m} {fs = fs} h) = emit_loaded (emit_loads n es m fs h)
      statement_loads x y (call_is {path = path} {name = n} {es = es} {found = found} {m = m} {fs = fs} h) = call_loaded (call_loads path n es found m fs h)
      statement_loads x y (if_is {e = e} {then_x = x1} {else_x = x2} {f = f} {then_y = y1} {else_y = y2} h h1 h2) =
          if_loaded (expr_loads e f h) (statements_load x1 y1 h1) (statements_load x2 y2 h2)
      statement_loads x y (connect_is {ends = ends} {found = found} h) = connect_loaded (ends_load ends found h)
      statement_loads x y (disconnect_is {ends = ends} {found = found} h) = disconnect_loaded (ends_load ends found h)
      statement_loads x y (delete_is {path = path} {found = found} h) = delete_loaded (reference_loads path found h).1
      statement_loads x y (later_is {path = path} {found = found} h) = later_loaded (reference_loads path found h).1
      statement_loads x y (group_is {sets = sets} {found = found} h all) = group_loaded (statements_load sets found h) all

      pub statements_load : (xs : List Stmt) (ys : List Statement) → AreStatements scope xs ys → AreLoadedStatements loaded_site xs ys
      statements_load xs ys none_are = none_loaded
      statements_load xs ys (next_is {x = x} {xs = us} {y = y} {ys = vs} h t) =
          next_loaded (statement_loads (out-Stmt x) (out-Statement y) h) (statements_load us vs t)
