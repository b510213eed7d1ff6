-- Bodies that are loaded by the numbers of members, as their names are found in outlines.
use Rattle.std.{proofs.Common.{◌≡◌, ◌≢◌, ℕ, ◌<◌, Bool, true, List, [], ◌∷◌, length, slice_get, Option, Some, None, inl, inr, refl, sym, ap, ◌∙◌, subst, arith}, specs.List.{AllZip}, proofs.lemmas.Option.{same_Some}}
use Rattle.basic_types.specs.{declared.qtype.QType.{QType}, declared.sig.Sig.{Sig}}
use Rattle.syntax_trees.specs.{declared.syntax.Expr.{Expr}, declared.syntax.Root.{Root}, declared.syntax.Path.{Path}, declared.connection.Endpoints.{Endpoints}, declared.syntax.Stmt.{Stmt}, declared.syntax.Stmt.TheViews.{out-Stmt}, declared.program.Parameter.{Parameter}, declared.program.Property.{Property}}
use Rattle.syntax_trees.specs.declared.syntax.Stmt.TheOpen as stmt
use Rattle.meta_model.specs.{declared.object.ValueType.{ValueType}, declared.object.MetaRoot.{MetaRoot}, declared.object.Step.{Step}, declared.object.MetaPath.{MetaPath}, declared.object.MetaEndpoints.{MetaEndpoints}, declared.object.Statement.{Statement}, declared.object.Statement.TheViews.{out-Statement}, declared.object.MetaMethod.{MetaMethod}, declared.object.MetaProperty.{MetaProperty}, Loaded.{Loaded}, Members.{IsClassNamed, IsMethod, IsProperty, HasSig}, Kinds.{IsKind}}
use Rattle.meta_model.specs.declared.object.ValueType.TheVariants as type
use Rattle.meta_model.specs.declared.object.Statement.TheOpen as statement
use Rattle.meta_model.specs.declared.object.Work.TheVariants as work
use Rattle.class_outlines.{specs.declared.outline.Sort.{Sort}, specs.declared.outline.Heading.{Heading}, specs.declared.outline.Outline.{Outline}, specs.Outlines.{IsOutlineNamed, types_of}, specs.code.ReadTypes.{IsReadAs}, specs.Clashes.{AreOneCall, HasTwoMembers}, specs.Notifiers.{IsSignalOf}, specs.Ends.{IsSigned}, specs.Indexed.{IsCallOf}, proofs.Once.{once}, proofs.OneMember.{called_by}, proofs.Zips.{zip_left, zip_right}}
use Rattle.class_outlines.specs.declared.outline.Sort.TheVariants as sort
use Rattle.name_indexes.specs.Places.{StandsFirst}
use Rattle.name_resolution.specs.{declared.body_resolution.work.ResolvedWork.{ResolvedWork}, code.Bodies.{Scope, IsRoot, this_root, parameter_root, PointsTo, AreSteps, IsPath, IsExpr, literal_is, path_is, unary_is, binary_is, AreExprs, IsObjectPath, IsReferencePath, IsSet, IsEmit, IsCall, AreEnds, IsStatement, set_is, emit_is, call_is, if_is, connect_is, disconnect_is, delete_is, later_is, group_is, AreStatements, none_are, next_is}, code.Loading.{work_at, found_work, work_of, IsMethodOf, IsPropertyOf, IsObject}}
use Rattle.name_resolution.specs.declared.body_resolution.work.ResolvedWork.TheVariants as resolved
use Rattle.meta_objects.{specs.LoadedBodies.{Site, site, IsLoadedRoot, this_loaded, parameter_loaded, AreLoadedSteps, no_steps, step_on, IsLoadedPath, IsLoadedObject, IsLoadedExpr, literal_loaded, path_loaded, unary_loaded, binary_loaded, AreLoadedExprs, IsLoadedSet, IsLoadedEmit, IsLoadedCall, AreLoadedEnds, IsLoadedStatement, set_loaded, emit_loaded, call_loaded, if_loaded, connect_loaded, disconnect_loaded, delete_loaded, later_loaded, group_loaded, AreLoadedStatements, none_loaded, next_loaded}, proofs.Soundness.{map_at}}

-- ---- first elements that are the only ones
pub not_before : (k m : ℕ) → k < m → k ≡ m → ⊥
not_before k m less e = omega (arith, less, e)

abbrev pub stands_first : {X : Type 0} (P : X → Type 0) (xs : List X) (m : ℕ) (x : X) → slice_get xs m ≡ Some x → P x
    → ((k : ℕ) (y : X) → slice_get xs k ≡ Some y → P y → k ≡ m) → StandsFirst P xs m
stands_first P xs m x e has only = record {
  at = record { item = x; is = e; has = has };
  first = λ k less at. not_before k m less (only k at.item at.is at.has);
}

-- a method by its name and its number of parameters, and a property by its name
pub only_call : (o : Outline) → (¬ HasTwoMembers o) → (name : List ℕ) (count m : ℕ) (h : Heading) → slice_get o.methods m ≡ Some h → IsCallOf name count h
    → (k : ℕ) (y : Heading) → slice_get o.methods k ≡ Some y → IsCallOf name count y → k ≡ m
only_call o one name count m h e has k y f is =
    let n : y.sig.name ≡ h.sig.name = is.0 ∙ sym has.0 in
    let c : length y.sig.types ≡ length h.sig.types = is.1 ∙ sym has.1 in
    once AreOneCall o.methods (λ t. one (inl t)) k m y h f e (n, c) (sym n, sym c)

pub only_property : (o : Outline) → (¬ HasTwoMembers o) → (name : List ℕ) (q : ℕ) (d : Property) → slice_get o.properties q ≡ Some d → d.name ≡ name
    → (k : ℕ) (y : Property) → slice_get o.properties k ≡ Some y → y.name ≡ name → k ≡ q
only_property o one name q d e has k y f is =
    let n : y.name ≡ d.name = is ∙ sym has in
    once (λ (a b : Property). a.name ≡ b.name) o.properties (λ t. one (inr t)) k q y d f e n (sym n)

abbrev pub first_call : (o : Outline) → (¬ HasTwoMembers o) → (name : List ℕ) (count m : ℕ) (h : Heading) → slice_get o.methods m ≡ Some h → IsCallOf name count h → StandsFirst (IsCallOf name count) o.methods m
first_call o one name count m h e has = stands_first (IsCallOf name count) o.methods m h e has (only_call o one name count m h e has)

abbrev pub first_signed : (o : Outline) → (¬ HasTwoMembers o) → (sig : Sig) (m : ℕ) (h : Heading) → slice_get o.methods m ≡ Some h → h.sig ≡ sig → StandsFirst (IsSigned sig) o.methods m
first_signed o one sig m h e has =
    stands_first (IsSigned sig) o.methods m h e has
    (λ k y f is. only_call o one sig.name (length sig.types) m h e (called_by sig h has) k y f (called_by sig y is))

abbrev pub first_signal : (o : Outline) → (¬ HasTwoMembers o) → (sig : Sig) (m : ℕ) (h : Heading) → slice_get o.methods m ≡ Some h → h.sig ≡ sig → h.sort ≡ sort.Signal → StandsFirst (IsSignalOf sig) o.methods m
first_signal o one sig m h e has signals =
    stands_first (IsSignalOf sig) o.methods m h e (has, signals)
    (λ k y f is. only_call o one sig.name (length sig.types) m h e (called_by sig h has) k y f (called_by sig y is.0))

abbrev pub first_property : (o : Outline) → (¬ HasTwoMembers o) → (name : List ℕ) (q : ℕ) (d : Property) → slice_get o.properties q ≡ Some d → d.name ≡ name → StandsFirst (λ (x : Property). x.name ≡ name) o.properties q
first_property o one name q d e has = stands_first (λ (x : Property). x.name ≡ name) o.properties q d e has (only_property o one name q d e has)

-- ---- what isn't a signal
pub not_signal : (w : Option ResolvedWork) → found_work w ≢ work.Signal
not_signal None e = absurd (cc)
not_signal (Some (resolved.Body body)) e = absurd (cc)
not_signal (Some (resolved.Native effects)) e = absurd (cc)

pub signal_sort : (works : List (List ResolvedWork)) (s : Sort) → work_of works s ≡ work.Signal → s ≡ sort.Signal
signal_sort works sort.Signal e = refl
signal_sort works sort.DeleteLater e = absurd (cc)
signal_sort works (sort.Slot i j) e = absurd (not_signal (work_at works i j) e)

-- the loaded classes are those of these outlines, of which no two have one name, and in each of which members appear
-- once
module _ (outlines : List Outline) (works : List (List ResolvedWork)) (p : Loaded) (objects : AllZip (IsObject outlines works) outlines p.classes)
    (distinct : (i j : ℕ) (a b : Outline) → slice_get outlines i ≡ Some a → slice_get outlines j ≡ Some b → a.name ≡ b.name → i ≡ j)
    (each_once : (c : ℕ) (o : Outline) → slice_get outlines c ≡ Some o → ¬ HasTwoMembers o) where
  abbrev pub first_class : (name : List ℕ) (c : ℕ) (o : Outline) → slice_get outlines c ≡ Some o → o.name ≡ name → IsOutlineNamed outlines name c
  first_class name c o e has = stands_first (λ (x : Outline). x.name ≡ name) outlines c o e has (λ k y f is. distinct k c y o f e (is ∙ sym has))

  -- ---- classes and members by their numbers
  pub record FoundHeading (c m : ℕ) (method : MetaMethod) : Type 0 where
    pub outline : Outline
    pub is_outline : slice_get outlines c ≡ Some outline
    pub heading : Heading
    pub is : slice_get outline.methods m ≡ Some heading
    pub by : IsMethodOf outlines works heading method

  pub heading_at : (c m : ℕ) (method : MetaMethod) → IsMethod p c m method → FoundHeading c m method
  heading_at c m method h =
      let o = zip_right (IsObject outlines works) outlines p.classes objects c h.class h.is_class.is in
      let x = zip_right (IsMethodOf outlines works) o.0.methods h.class.methods o.2.methods m method h.is in
      record { outline = o.0; is_outline = o.1; heading = x.0; is = x.1; by = x.2 }

  pub record FoundDeclared (c q : ℕ) (property : MetaProperty) : Type 0 where
    pub outline : Outline
    pub is_outline : slice_get outlines c ≡ Some outline
    pub declared : Property
    pub is : slice_get outline.properties q ≡ Some declared
    pub by : IsPropertyOf outlines outline declared property

  pub declared_at : (c q : ℕ) (property : MetaProperty) → IsProperty p c q property → FoundDeclared c q property
  declared_at c q property h =
      let o = zip_right (IsObject outlines works) outlines p.classes objects c h.class h.is_class.is in
      let x = zip_right (IsPropertyOf outlines o.0) o.0.properties h.class.properties o.2.properties q property h.is in
      record { outline = o.0; is_outline = o.1; declared = x.0; is = x.1; by = x.2 }

  -- the outline of a class that has a name
  pub outline_named : (name : List ℕ) (c : ℕ) → IsClassNamed p name c → IsOutlineNamed outlines name c
  outline_named name c h =
      let o = zip_right (IsObject outlines works) outlines p.classes objects c h.class h.is.is in
      first_class name c o.0 o.1 (sym o.2.named ∙ h.named)

  -- .. which is this one
  pub name_of : (name : List ℕ) (c : ℕ) → IsOutlineNamed outlines name c → (o : Outline) → slice_get outlines c ≡ Some o → o.name ≡ name
  name_of name c h o e =
      let same : h.at.item ≡ o = same_Some _ _ (sym h.at.is ∙ e) in
      ap (λ (x : Outline). x.name) (sym same) ∙ h.at.has

  pub is_read : (T : QType) (k : ValueType) → IsKind p T k → IsReadAs outlines T k
  is_read T type.Int h = inl h
  is_read T type.Bool h = inl h
  is_read T type.Text h = inl h
  is_read T (type.Reference c constant) h = inl (h.0, h.1, outline_named T.name c h.2)

  -- what is read as a reference is a pointer to its class
  refers : (T : QType) (c : ℕ) (constant : Bool) → IsReadAs outlines T (type.Reference c constant) → (T.pointer ≡ true) × IsOutlineNamed outlines T.name c
  refers T c constant (inl h) = (h.0, h.2)
  refers T c constant (inr h) = let e = h.1 in absurd (cc)

  abbrev points : (T : QType) (c : ℕ) (constant : Bool) → IsReadAs outlines T (type.Reference c constant) → (o : Outline) → slice_get outlines c ≡ Some o → PointsTo outlines T c
  points T c constant read o e = record {
    pointer = (refers T c constant read).0;
    class = first_class T.name c o e (name_of T.name c (refers T c constant read).1 o e);
  }

  -- ---- a wire's ends
  pub signal_end : (c : ℕ) (sig : Sig) (m : ℕ) (h : HasSig p c sig m) → h.method.work ≡ work.Signal → (f : FoundHeading c m h.method) → StandsFirst (IsSignalOf sig) f.outline.methods m
  signal_end c sig m h signals f =
      first_signal f.outline (each_once c f.outline f.is_outline) sig m f.heading f.is (sym f.by.signed ∙ h.signed) (signal_sort works f.heading.sort (sym f.by.work ∙ signals))

  pub method_end : (c : ℕ) (sig : Sig) (m : ℕ) (h : HasSig p c sig m) → (f : FoundHeading c m h.method) → StandsFirst (IsSigned sig) f.outline.methods m
  method_end c sig m h f = first_signed f.outline (each_once c f.outline f.is_outline) sig m f.heading f.is (sym f.by.signed ∙ h.signed)

  -- ---- bodies
  module _ (name : List ℕ) (parameters : List Parameter) (me : ℕ) (is_me : IsOutlineNamed outlines name me) (types : List ValueType)
      (typed : AllZip (IsReadAs outlines) (types_of parameters) types) where
    abbrev scope : Scope
    scope = record { outlines = outlines; me = name; parameters = parameters }

    abbrev loaded_site : Site
    loaded_site = site p me parameters types

    root_found : (r : Root) (f : MetaRoot) (k : ValueType) → IsLoadedRoot loaded_site r f k → (T : QType) × IsReadAs outlines T k × IsRoot scope r f T
    root_found r f k this_loaded = (_, inl (refl, refl, is_me), this_root)
    root_found r f k (parameter_loaded {k = i} at is) =
        let y = zip_left (IsReadAs outlines) (types_of parameters) types typed i at.at.item.kind (map_at (λ (x : Parameter). x.kind) parameters i at.at.item at.at.is) in
        (at.at.item.kind, subst (λ l. IsReadAs outlines at.at.item.kind l) (same_Some _ _ (sym y.1 ∙ is)) y.2, parameter_root at)

    steps_found : (names : List (List ℕ)) (k : ValueType) (steps : List Step) (l : ValueType) → AreLoadedSteps p k names steps l → (T : QType) → IsReadAs outlines T k
        → (U : QType) × IsReadAs outlines U l × AreSteps outlines T names steps U
    steps_found names k steps l no_steps T read = (T, read, refl)
    steps_found names k steps l (step_on {c = c} {constant = constant} {name = n} {names = rest} {s = s} {steps = more} {property = property} has kind on) T read =
        let found = declared_at c s.property property has.is in
        let declared : IsReadAs outlines found.declared.kind s.kind = subst (λ x. IsReadAs outlines found.declared.kind x) kind found.by.kind in
        let after = steps_found rest s.kind more l on found.declared.kind declared in (
          after.0,
          after.1,
          (
            found.declared,
            record {
              member = record {
                number = c;
                points = points T c constant read found.outline found.is_outline;
                place = first_property found.outline (each_once c found.outline found.is_outline) n s.property found.declared found.is (sym found.by.named ∙ has.named);
                is = refl;
              };
              kind = declared;
            },
            after.2,
          ),
        )

    path_found : (path : Path) (f : MetaPath) (k : ValueType) → IsLoadedPath loaded_site path f k → (T : QType) × IsReadAs outlines T k × IsPath scope path f T
    path_found path f k h =
        let root = root_found path.root f.root h.root_type h.root in
        let steps = steps_found path.properties h.root_type f.steps k h.steps root.0 root.1 in
        (steps.0, steps.1, record { root_type = root.0; root = root.2; steps = steps.2 })

    object_found : (path : Path) (f : MetaPath) (c : ℕ) → IsLoadedObject loaded_site path f c → (o : Outline) → slice_get outlines c ≡ Some o → IsObjectPath scope path f o
    object_found path f c h o e =
        let to = path_found path f (type.Reference c h.constant) h.leads in
        record { kind = to.0; leads = to.2; number = c; points = record { points = points to.0 c h.constant to.1 o e; is = refl } }

    reference_found : (path : Path) (f : MetaPath) (c : ℕ) → IsLoadedObject loaded_site path f c → IsReferencePath scope path f
    reference_found path f c h =
        let to = path_found path f (type.Reference c h.constant) h.leads in
        record { kind = to.0; leads = to.2; pointer = (refers to.0 c h.constant to.1).0 }

    expr_found : (e : Expr Path) (f : Expr MetaPath) → IsLoadedExpr loaded_site e f → IsExpr scope e f
    expr_found e f (literal_loaded a b) = literal_is a b
    expr_found e f (path_loaded {path = path} {found = found} {T = k} a b h) = path_is a b ((path_found path found k h).2)
    expr_found e f (unary_loaded {a = x} {b = y} a b h) = unary_is a b (expr_found x y h)
    expr_found e f (binary_loaded {a = x} {c = x2} {b = y} {d = y2} a b h k) = binary_is a b (expr_found x y h) (expr_found x2 y2 k)

    exprs_found : (es : List (Expr Path)) (fs : List (Expr MetaPath)) → AreLoadedExprs loaded_site es fs → AreExprs scope es fs
    exprs_found [] [] h = tt
    exprs_found [] (f ∷ fs) h = absurd h
    exprs_found (e ∷ es) [] h = absurd h
    exprs_found (e ∷ es) (f ∷ fs) h = (expr_found e f h.0, exprs_found es fs h.1)

    set_found : (path : Path) (n : List ℕ) (e : Expr Path) (found : MetaPath) (q : ℕ) (f : Expr MetaPath) → IsLoadedSet loaded_site path n e found q f → IsSet scope path n e found q f
    set_found path n e found q f h =
        let at = declared_at h.class q h.property h.has.is in
        record {
          class = at.outline;
          object = object_found path found h.class h.object at.outline at.is_outline;
          property = first_property at.outline (each_once h.class at.outline at.is_outline) n q at.declared at.is (sym at.by.named ∙ h.has.named);
          value = expr_found e f h.value;
        }

    -- a method's heading is called as the method is
    called_as : (n : List ℕ) (count : ℕ) (h : Heading) (method : MetaMethod) → IsMethodOf outlines works h method → method.sig.name ≡ n → length method.sig.types ≡ count → IsCallOf n count h
    called_as n count h method by named counted = (ap (λ (s : Sig). s.name) (sym by.signed) ∙ named, ap (λ (s : Sig). length s.types) (sym by.signed) ∙ counted)

    emit_found : (n : List ℕ) (es : List (Expr Path)) (m : ℕ) (fs : List (Expr MetaPath)) → IsLoadedEmit loaded_site n es m fs → IsEmit scope n es m fs
    emit_found n es m fs h =
        let at = heading_at me m h.signal.method h.signal.is in
        record {
          number = me;
          class = first_class name me at.outline at.is_outline (name_of name me is_me at.outline at.is_outline);
          method =
              first_call at.outline (each_once me at.outline at.is_outline) n (length es) m at.heading at.is
              (called_as n (length es) at.heading h.signal.method at.by h.signal.named h.signal.counted);
          signal = signal_sort works at.heading.sort (sym at.by.work ∙ h.signals);
          emitted = h.emitted;
          values = exprs_found es fs h.values;
        }

    call_found : (path : Path) (n : List ℕ) (es : List (Expr Path)) (found : MetaPath) (m : ℕ) (fs : List (Expr MetaPath)) → IsLoadedCall loaded_site path n es found m fs → IsCall scope path n es found m fs
    call_found path n es found m fs h =
        let at = heading_at h.class m h.slot.method h.slot.is in
        record {
          class = at.outline;
          object = object_found path found h.class h.object at.outline at.is_outline;
          method =
              first_call at.outline (each_once h.class at.outline at.is_outline) n (length es) m at.heading at.is
              (called_as n (length es) at.heading h.slot.method at.by h.slot.named h.slot.counted);
          callable = λ e. h.callable (at.by.work ∙ ap (λ s. work_of works s) e);
          values = exprs_found es fs h.values;
        }

    ends_found : (ends : Endpoints Path) (found : MetaEndpoints) → AreLoadedEnds loaded_site ends found → AreEnds scope ends found
    ends_found ends found h =
        let from = heading_at h.from_class found.signal h.connects.signal.method h.connects.signal.is in
        let to = heading_at h.to_class found.method h.connects.method.method h.connects.method.is in
        record {
          from_class = from.outline;
          sender = object_found ends.sender found.sender h.from_class h.sender from.outline from.is_outline;
          signal = signal_end h.from_class ends.signal found.signal h.connects.signal h.connects.signals from;
          to_class = to.outline;
          receiver = object_found ends.receiver found.receiver h.to_class h.receiver to.outline to.is_outline;
          method = method_end h.to_class ends.method found.method h.connects.method to;
          called = h.connects.called;
        }

    mutual
      statement_found : (x : stmt.Stmt-F Stmt) (y : statement.Statement-F Statement) → IsLoadedStatement loaded_site x y → IsStatement scope x y
      statement_found x y (set_loaded {path = path} {name = n} {e = e} {found = found} {q = q} {f = f} h) = set_is (set_found path n e found q f h)
      statement_found x y (emit_loaded {name = n} {es = es} {m = m} {fs = fs} h) = emit_is (emit_found n es m fs h)
      statement_found x y (call_loaded {path = path} {name = n} {es = es} {found = found} {m = m} {fs = fs} h) = call_is (call_found path n es found m fs h)
      statement_found x y (if_loaded {e = e} {then_x = x1} {else_x = x2} {f = f} {then_y = y1} {else_y = y2} h h1 h2) =
          if_is (expr_found e f h) (statements_found x1 y1 h1) (statements_found x2 y2 h2)
      statement_found x y (connect_loaded {ends = ends} {found = found} h) = connect_is (ends_found ends found h)
      statement_found x y (disconnect_loaded {ends = ends} {found = found} h) = disconnect_is (ends_found ends found h)
      statement_found x y (delete_loaded {path = path} {found = found} {class = c} h) = delete_is (reference_found path found c h)
      statement_found x y (later_loaded {path = path} {found = found} {class = c} h) = later_is (reference_found path found c h)
      statement_found x y (group_loaded {sets = sets} {found = found} h all) = group_is (statements_found sets found h) all

      pub statements_found : (xs : List Stmt) (ys : List Statement) → AreLoadedStatements loaded_site xs ys → AreStatements scope xs ys
      statements_found xs ys none_loaded = none_are
      statements_found xs ys (next_loaded {x = x} {xs = us} {y = y} {ys = vs} h t) =
          next_is (statement_found (out-Stmt x) (out-Statement y) h) (statements_found us vs t)
