-- A body as it is loaded is sound: its names' numbers are those of members.
use Rattle.std.proofs.Common.{◌≡◌, ℕ, false, List, [], ◌∷◌, length, sym, ◌∙◌, subst}
use Rattle.basic_types.specs.{declared.sig.Sig.{Sig}, declared.value.Value.{Value}}
use Rattle.basic_types.specs.declared.value.Value.TheVariants as value
use Rattle.syntax_trees.specs.{declared.syntax.Expr.{Expr}, declared.syntax.Root.{Root}, declared.syntax.Path.{Path}, declared.connection.Endpoints.{Endpoints}, declared.syntax.Stmt.{Stmt}, declared.syntax.Stmt.TheViews.{out-Stmt}}
use Rattle.syntax_trees.specs.declared.syntax.Stmt.TheOpen as stmt
use Rattle.meta_model.specs.{declared.object.ValueType.{ValueType}, declared.object.MetaRoot.{MetaRoot}, declared.object.MetaRoot.TheVariants.{This}, declared.object.Step.{Step}, declared.object.MetaPath.{MetaPath}, declared.object.MetaEndpoints.{MetaEndpoints}, declared.object.Statement.{Statement}, declared.object.Statement.TheViews.{out-Statement}, declared.object.MetaMethod.{MetaMethod}, Loaded.{Loaded}, Members.{IsMethod}, Sound.{HasRoot, this_has, parameter_has, Leads, here, on, LeadsTo, LeadsToClass, IsSoundExpr, literal_sound, path_sound, unary_sound, binary_sound, AreSoundExprs, AreConnectable, AreSoundEnds, IsSoundStatement, set_sound, emit_sound, call_sound, if_sound, connect_sound, disconnect_sound, delete_sound, later_sound, group_sound, AreSound, none_sound, next_sound}, declared.qobject.TheConstants.{QOBJECT}, Root.{delete_later_body}, Literals.{literal, HoldsNoObject}}
use Rattle.meta_model.specs.declared.object.ValueType.TheVariants as type
use Rattle.meta_model.specs.declared.object.Statement.TheOpen as statement
use Rattle.meta_model.specs.declared.object.Statement.TheVariants as statement_by
use Rattle.meta_objects.{specs.LoadedBodies.{Site, IsLoadedRoot, this_loaded, parameter_loaded, AreLoadedSteps, no_steps, step_on, IsLoadedPath, IsLoadedObject, IsLoadedExpr, literal_loaded, path_loaded, unary_loaded, binary_loaded, AreLoadedExprs, AreLoadedEnds, IsLoadedStatement, set_loaded, emit_loaded, call_loaded, if_loaded, connect_loaded, disconnect_loaded, delete_loaded, later_loaded, group_loaded, AreLoadedStatements, none_loaded, next_loaded}, specs.LoadedEnds.{Connects}, proofs.Soundness.{zip_length}}

-- a literal holds no object
pub no_object : (v : Value) → HoldsNoObject (literal v)
no_object (value.Int n) o e = absurd (cc)
no_object (value.Bool b) o e = absurd (cc)
no_object (value.Text t) o e = absurd (cc)
no_object (value.Ref r) o e = absurd (cc)

pub connects_sound : {p : Loaded} {c : ℕ} {from : Sig} {g d : ℕ} {to : Sig} {m : ℕ} → Connects p c from g d to m → AreConnectable p c g d m
connects_sound h = record {
  signal = h.signal.method;
  from = h.signal.is;
  signals = h.signals;
  method = h.method.method;
  to = h.method.is;
  called = h.called;
}

-- `this` is a `QObject` in the body of `deleteLater()`
pub delete_later_sound : (p : Loaded) (types : List ValueType) → AreSound p QOBJECT types delete_later_body
delete_later_sound p types =
    let this_path : MetaPath = record { root = This; steps = [] } in
    let leads : LeadsToClass p QOBJECT types this_path QOBJECT = record {
      constant = false;
      leads = record { root_type = type.Reference QOBJECT false; root = this_has; steps = here };
    } in
    let one : IsSoundStatement p QOBJECT types (statement.Later this_path) = later_sound leads in
    next_sound (subst (λ s. IsSoundStatement p QOBJECT types s) (sym (statement_by.outs-Later this_path)) one) none_sound

module _ (s : Site) (counted : (c m : ℕ) (method : MetaMethod) → IsMethod s.program c m method → length method.sig.types ≡ length method.types) where
  root_sound : (r : Root) (f : MetaRoot) (T : ValueType) → IsLoadedRoot s r f T → HasRoot s.me s.types f T
  root_sound r f T this_loaded = this_has
  root_sound r f T (parameter_loaded at is) = parameter_has is

  steps_sound : (T : ValueType) (names : List (List ℕ)) (steps : List Step) (U : ValueType) → AreLoadedSteps s.program T names steps U → Leads s.program T steps U
  steps_sound T names steps U no_steps = here
  steps_sound T names steps U (step_on {names = ns} {s = step} {steps = rest} has kind more) = on has.is kind (steps_sound step.kind ns rest U more)

  path_is_sound : (path : Path) (f : MetaPath) (T : ValueType) → IsLoadedPath s path f T → LeadsTo s.program s.me s.types f T
  path_is_sound path f T h = record {
    root_type = h.root_type;
    root = root_sound path.root f.root h.root_type h.root;
    steps = steps_sound h.root_type path.properties f.steps T h.steps;
  }

  object_sound : (path : Path) (f : MetaPath) (c : ℕ) → IsLoadedObject s path f c → LeadsToClass s.program s.me s.types f c
  object_sound path f c h = record { constant = h.constant; leads = path_is_sound path f _ h.leads }

  expr_sound : (e : Expr Path) (f : Expr MetaPath) → IsLoadedExpr s e f → IsSoundExpr s.program s.me s.types f
  expr_sound e f (literal_loaded {v = v} a b) = literal_sound b (no_object v)
  expr_sound e f (path_loaded {path = path} {found = found} {T = T} a b h) = path_sound b (path_is_sound path found T h)
  expr_sound e f (unary_loaded {a = x} {b = y} a b h) = unary_sound b (expr_sound x y h)
  expr_sound e f (binary_loaded {a = x} {c = x2} {b = y} {d = y2} a b h k) = binary_sound b (expr_sound x y h) (expr_sound x2 y2 k)

  exprs_sound : (es : List (Expr Path)) (fs : List (Expr MetaPath)) → AreLoadedExprs s es fs → AreSoundExprs s.program s.me s.types fs
  exprs_sound [] [] h = tt
  exprs_sound [] (f ∷ fs) h = absurd h
  exprs_sound (e ∷ es) [] h = absurd h
  exprs_sound (e ∷ es) (f ∷ fs) h = (expr_sound e f h.0, exprs_sound es fs h.1)

  ends_sound : (ends : Endpoints Path) (found : MetaEndpoints) → AreLoadedEnds s ends found → AreSoundEnds s.program s.me s.types found
  ends_sound ends found h = record {
    from_class = h.from_class;
    sender = object_sound ends.sender found.sender h.from_class h.sender;
    to_class = h.to_class;
    receiver = object_sound ends.receiver found.receiver h.to_class h.receiver;
    connects = connects_sound h.connects;
  }

  mutual
    statement_sound : (x : stmt.Stmt-F Stmt) (y : statement.Statement-F Statement) → IsLoadedStatement s x y → IsSoundStatement s.program s.me s.types y
    statement_sound x y (set_loaded {path = path} {e = e} {found = found} {f = f} h) =
        set_sound (record { class = h.class; leads = object_sound path found h.class h.object; property = h.property; is = h.has.is; value = expr_sound e f h.value })
    statement_sound x y (emit_loaded {es = es} {m = m} {fs = fs} h) =
        emit_sound (record {
          signal = h.signal.method;
          is = h.signal.is;
          signals = h.signals;
          emitted = h.emitted;
          counted = sym (counted s.me m h.signal.method h.signal.is) ∙ h.signal.counted ∙ zip_length (IsLoadedExpr s) es fs h.values;
          values = exprs_sound es fs h.values;
        })
    statement_sound x y (call_loaded {path = path} {es = es} {found = found} {m = m} {fs = fs} h) =
        call_sound (record {
          class = h.class;
          leads = object_sound path found h.class h.object;
          slot = h.slot.method;
          is = h.slot.is;
          callable = h.callable;
          counted = sym (counted h.class m h.slot.method h.slot.is) ∙ h.slot.counted ∙ zip_length (IsLoadedExpr s) es fs h.values;
          values = exprs_sound es fs h.values;
        })
    statement_sound x y (if_loaded {e = e} {then_x = x1} {else_x = x2} {f = f} {then_y = y1} {else_y = y2} h h1 h2) =
        if_sound (expr_sound e f h) (statements_sound x1 y1 h1) (statements_sound x2 y2 h2)
    statement_sound x y (connect_loaded {ends = ends} {found = found} h) = connect_sound (ends_sound ends found h)
    statement_sound x y (disconnect_loaded {ends = ends} {found = found} h) = disconnect_sound (ends_sound ends found h)
    statement_sound x y (delete_loaded {path = path} {found = found} h) = delete_sound (object_sound path found _ h)
    statement_sound x y (later_loaded {path = path} {found = found} h) = later_sound (object_sound path found _ h)
    statement_sound x y (group_loaded {sets = sets} {found = found} h all) = group_sound (statements_sound sets found h) all

    pub statements_sound : (xs : List Stmt) (ys : List Statement) → AreLoadedStatements s xs ys → AreSound s.program s.me s.types ys
    statements_sound xs ys none_loaded = none_sound
    statements_sound xs ys (next_loaded {x = x} {xs = us} {y = y} {ys = vs} h t) =
        next_sound (statement_sound (out-Stmt x) (out-Statement y) h) (statements_sound us vs t)
