-- A body is resolved in one way at most.
use Rattle.std.proofs.{Common.{◌≡◌, ℕ, List, [], ◌∷◌, length, slice_get, refl, sym, ap, ◌∙◌, subst}, lemmas.Option.{same_Some}}
use Rattle.basic_types.specs.declared.qtype.QType.{QType}
use Rattle.syntax_trees.specs.{declared.syntax.Expr.{Expr}, declared.syntax.Expr.TheViews.{out-Expr, roll-Expr, roll-out-Expr}, declared.syntax.Root.{Root}, declared.syntax.Path.{Path}, declared.connection.Endpoints.{Endpoints}, declared.syntax.Stmt.{Stmt}, declared.syntax.Stmt.TheViews.{out-Stmt}, declared.program.Parameter.{Parameter}, declared.program.Property.{Property}}
use Rattle.syntax_trees.specs.declared.syntax.Expr.TheOpen as expr
use Rattle.syntax_trees.specs.declared.syntax.Stmt.TheOpen as stmt
use Rattle.meta_model.specs.{declared.object.MetaRoot.{MetaRoot}, declared.object.Step.{Step}, declared.object.MetaPath.{MetaPath}, declared.object.MetaEndpoints.{MetaEndpoints}, declared.object.ValueType.{ValueType}, declared.object.Statement.{Statement}, declared.object.Statement.TheViews.{out-Statement, roll-Statement, roll-out-Statement}, Literals.{literal}}
use Rattle.meta_model.specs.declared.object.MetaRoot.TheVariants as resolved
use Rattle.meta_model.specs.declared.object.Statement.TheOpen as statement
use Rattle.class_outlines.{specs.declared.outline.Outline.{Outline}, specs.Outlines.{IsOutlineNamed}, specs.code.ReadTypes.{IsReadAs}, specs.Notifiers.{IsSignalOf}, specs.Ends.{IsSigned}, specs.Indexed.{IsPropertyOfName, IsCallOf}, proofs.Searches.{same_first}, proofs.Firsts.{first_item, same_in}, proofs.ReadTypes.{same_read}}
use Rattle.name_resolution.specs.code.Bodies.{Scope, IsRoot, this_root, parameter_root, PointsTo, HasMember, IsStep, AreSteps, IsPath, IsExpr, literal_is, path_is, unary_is, binary_is, AreExprs, IsObjectPath, IsReferencePath, IsSet, IsEmit, IsCall, AreEnds, IsStatement, set_is, emit_is, call_is, if_is, connect_is, disconnect_is, delete_is, later_is, group_is, AreStatements, none_are, next_is, IsStatementOf}

-- a value is what it is made of
same_expr : (a b : Expr MetaPath) → out-Expr MetaPath a ≡ out-Expr MetaPath b → a ≡ b
same_expr a b e = sym (roll-out-Expr MetaPath a) ∙ ap (λ x. roll-Expr MetaPath x) e ∙ roll-out-Expr MetaPath b

same_statement : (a b : Statement) → out-Statement a ≡ out-Statement b → a ≡ b
same_statement a b e = sym (roll-out-Statement a) ∙ ap (λ x. roll-Statement x) e ∙ roll-out-Statement b

-- ---- paths
abbrev step_of : ℕ → ValueType → Step
step_of q k = record { property = q; kind = k }

abbrev path_of : MetaRoot → List Step → MetaPath
path_of r ss = record { root = r; steps = ss }

abbrev ends_of : MetaPath → ℕ → MetaPath → ℕ → MetaEndpoints
ends_of sender signal receiver method = record { sender = sender; signal = signal; receiver = receiver; method = method }

pub same_named : (outlines : List Outline) (a b : List ℕ) → a ≡ b → (c d : ℕ) (h : IsOutlineNamed outlines a c) (k : IsOutlineNamed outlines b d) → h.at.item ≡ k.at.item
same_named outlines a b e c d h k =
    let same : c ≡ d = same_first (λ (o : Outline). o.name ≡ a) outlines c d h (subst (λ n. IsOutlineNamed outlines n d) (sym e) k) in
    same_Some _ _ (sym h.at.is ∙ ap (λ n. slice_get outlines n) same ∙ k.at.is)

module _ (s : Scope) where
  pub same_root : (r : Root) (f g : MetaRoot) (T U : QType) → IsRoot s r f T → IsRoot s r g U → (f ≡ g) × (T ≡ U)
  same_root r f g T U this_root this_root = (refl, refl)
  same_root r f g T U (parameter_root at) (parameter_root at2) =
      (ap (λ k. resolved.Parameter k) (same_first _ s.parameters _ _ at at2), ap (λ (p : Parameter). p.kind) (first_item _ s.parameters _ _ at at2))

  pub same_class : (T : QType) (c d : ℕ) (h : PointsTo s.outlines T c) (k : PointsTo s.outlines T d) → (c ≡ d) × (h.class.at.item ≡ k.class.at.item)
  same_class T c d h k =
      (same_first (λ (o : Outline). o.name ≡ T.name) s.outlines c d h.class k.class, first_item (λ (o : Outline). o.name ≡ T.name) s.outlines c d h.class k.class)

  pub same_member : (T : QType) (name : List ℕ) (q r : ℕ) (x y : Property) → HasMember s.outlines T name q x → HasMember s.outlines T name r y → (q ≡ r) × (x ≡ y)
  same_member T name q r x y h k =
      let class = same_class T h.number k.number h.points k.points in
      let at = same_in (λ (o : Outline). o.properties) (λ (p : Property). p.name ≡ name) h.points.class.at.item k.points.class.at.item class.1 q r h.place k.place in
      (at.0, sym h.is ∙ at.1 ∙ k.is)

  same_step : (T : QType) (name : List ℕ) (a b : Step) (x y : Property) → IsStep s.outlines T name a x → IsStep s.outlines T name b y → (a ≡ b) × (x ≡ y)
  same_step T name a b x y h k =
      let member = same_member T name a.property b.property x y h.member k.member in
      let kind = same_read s.outlines x.kind a.kind b.kind h.kind (subst (λ (p : Property). IsReadAs s.outlines p.kind b.kind) (sym member.1) k.kind) in
      (ap (λ q. step_of q a.kind) member.0 ∙ ap (λ t. step_of b.property t) kind, member.1)

  same_steps : (names : List (List ℕ)) (T : QType) (xs ys : List Step) (U V : QType) → AreSteps s.outlines T names xs U → AreSteps s.outlines T names ys V → (xs ≡ ys) × (U ≡ V)
  same_steps [] T [] [] U V h k = (refl, sym h ∙ k)
  same_steps [] T [] (y ∷ ys) U V h k = absurd k
  same_steps [] T (x ∷ xs) ys U V h k = absurd h
  same_steps (n ∷ ns) T [] ys U V h k = absurd h
  same_steps (n ∷ ns) T (x ∷ xs) [] U V h k = absurd k
  same_steps (n ∷ ns) T (x ∷ xs) (y ∷ ys) U V h k =
      let step = same_step T n x y h.0 k.0 h.1 k.1 in
      let rest = same_steps ns h.0.kind xs ys U V h.2 (subst (λ (p : Property). AreSteps s.outlines p.kind ns ys V) (sym step.1) k.2) in
      (ap (λ z. z ∷ xs) step.0 ∙ ap (λ zs. y ∷ zs) rest.0, rest.1)

  pub same_path : (path : Path) (f g : MetaPath) (T U : QType) → IsPath s path f T → IsPath s path g U → (f ≡ g) × (T ≡ U)
  same_path path f g T U h k =
      let root = same_root path.root f.root g.root h.root_type k.root_type h.root k.root in
      let steps = same_steps path.properties h.root_type f.steps g.steps T U h.steps (subst (λ t. AreSteps s.outlines t path.properties g.steps U) (sym root.1) k.steps) in
      (ap (λ r. path_of r f.steps) root.0 ∙ ap (λ ss. path_of g.root ss) steps.0, steps.1)

  -- ---- expressions
  pub same_exprs : (e : Expr Path) (f g : Expr MetaPath) → IsExpr s e f → IsExpr s e g → f ≡ g
  same_exprs e f g (literal_is {v = v} a b) (literal_is {v = w} c d) =
      let same : v ≡ w = cc in same_expr f g (b ∙ ap (λ u. expr.Literal (literal u)) same ∙ sym d)
  same_exprs e f g (literal_is a b) (path_is c d k0) = absurd (cc)
  same_exprs e f g (literal_is a b) (unary_is c d k0) = absurd (cc)
  same_exprs e f g (literal_is a b) (binary_is c d k0 k1) = absurd (cc)
  same_exprs e f g (path_is a b h0) (literal_is c d) = absurd (cc)
  same_exprs e f g (path_is a b h0) (unary_is c d k0) = absurd (cc)
  same_exprs e f g (path_is a b h0) (binary_is c d k0 k1) = absurd (cc)
  same_exprs e f g (unary_is a b h0) (literal_is c d) = absurd (cc)
  same_exprs e f g (unary_is a b h0) (path_is c d k0) = absurd (cc)
  same_exprs e f g (unary_is a b h0) (binary_is c d k0 k1) = absurd (cc)
  same_exprs e f g (binary_is a b h0 h1) (literal_is c d) = absurd (cc)
  same_exprs e f g (binary_is a b h0 h1) (path_is c d k0) = absurd (cc)
  same_exprs e f g (binary_is a b h0 h1) (unary_is c d k0) = absurd (cc)
  same_exprs e f g (path_is {path = p} {found = x} {T = T} a b h) (path_is {path = q} {found = y} {T = U} c d k) =
      let same : p ≡ q = cc in
      let found : x ≡ y = (same_path p x y T U h (subst (λ z. IsPath s z y U) (sym same) k)).0 in
      same_expr f g (cc)
  same_exprs e f g (unary_is {a = x} {b = y} a b h) (unary_is {a = z} {b = w} c d k) =
      let same : x ≡ z = cc in
      let part : y ≡ w = same_exprs x y w h (subst (λ v. IsExpr s v w) (sym same) k) in
      same_expr f g (cc)
  same_exprs e f g (binary_is {a = x} {c = x2} {b = y} {d = y2} a b h h2) (binary_is {a = z} {c = z2} {b = w} {d = w2} c d k k2) =
      let same : x ≡ z = cc in
      let same2 : x2 ≡ z2 = cc in
      let part : y ≡ w = same_exprs x y w h (subst (λ v. IsExpr s v w) (sym same) k) in
      let part2 : y2 ≡ w2 = same_exprs x2 y2 w2 h2 (subst (λ v. IsExpr s v w2) (sym same2) k2) in
      same_expr f g (cc)

  pub same_all_exprs : (es : List (Expr Path)) (fs gs : List (Expr MetaPath)) → AreExprs s es fs → AreExprs s es gs → fs ≡ gs
  same_all_exprs [] [] [] h k = refl
  same_all_exprs [] [] (g ∷ gs) h k = absurd k
  same_all_exprs [] (f ∷ fs) gs h k = absurd h
  same_all_exprs (e ∷ es) [] gs h k = absurd h
  same_all_exprs (e ∷ es) (f ∷ fs) [] h k = absurd k
  same_all_exprs (e ∷ es) (f ∷ fs) (g ∷ gs) h k = ap (λ x. x ∷ fs) (same_exprs e f g h.0 k.0) ∙ ap (λ xs. g ∷ xs) (same_all_exprs es fs gs h.1 k.1)

  -- ---- objects
  pub same_object : (path : Path) (f g : MetaPath) (o u : Outline) → IsObjectPath s path f o → IsObjectPath s path g u → (f ≡ g) × (o ≡ u)
  same_object path f g o u h k =
      let path_is = same_path path f g h.kind k.kind h.leads k.leads in
      let class = same_named s.outlines h.kind.name k.kind.name (ap (λ (T : QType). T.name) path_is.1) h.number k.number h.points.points.class k.points.points.class in
      (path_is.0, sym h.points.is ∙ class ∙ k.points.is)

  same_reference : (path : Path) (f g : MetaPath) → IsReferencePath s path f → IsReferencePath s path g → f ≡ g
  same_reference path f g h k = (same_path path f g h.kind k.kind h.leads k.leads).0

  -- ---- statements
  same_set : (path : Path) (name : List ℕ) (e : Expr Path) (x y : MetaPath) (q r : ℕ) (f g : Expr MetaPath) → IsSet s path name e x q f → IsSet s path name e y r g → (x ≡ y) × (q ≡ r) × (f ≡ g)
  same_set path name e x y q r f g h k =
      let object = same_object path x y h.class k.class h.object k.object in
      let at = same_in (λ (o : Outline). o.properties) (IsPropertyOfName name) h.class k.class object.1 q r h.property k.property in
      (object.0, at.0, same_exprs e f g h.value k.value)

  same_emit : (name : List ℕ) (es : List (Expr Path)) (m n : ℕ) (fs gs : List (Expr MetaPath)) → IsEmit s name es m fs → IsEmit s name es n gs → (m ≡ n) × (fs ≡ gs)
  same_emit name es m n fs gs h k =
      let class = first_item (λ (o : Outline). o.name ≡ s.me) s.outlines h.number k.number h.class k.class in
      let at = same_in (λ (o : Outline). o.methods) (IsCallOf name (length es)) h.class.at.item k.class.at.item class m n h.method k.method in
      (at.0, same_all_exprs es fs gs h.values k.values)

  same_call : (path : Path) (name : List ℕ) (es : List (Expr Path)) (x y : MetaPath) (m n : ℕ) (fs gs : List (Expr MetaPath)) → IsCall s path name es x m fs → IsCall s path name es y n gs → (x ≡ y) × (m ≡ n) × (fs ≡ gs)
  same_call path name es x y m n fs gs h k =
      let object = same_object path x y h.class k.class h.object k.object in
      let at = same_in (λ (o : Outline). o.methods) (IsCallOf name (length es)) h.class k.class object.1 m n h.method k.method in
      (object.0, at.0, same_all_exprs es fs gs h.values k.values)

  pub same_ends : (ends : Endpoints Path) (f g : MetaEndpoints) → AreEnds s ends f → AreEnds s ends g → f ≡ g
  same_ends ends f g h k =
      let sender = same_object ends.sender f.sender g.sender h.from_class k.from_class h.sender k.sender in
      let receiver = same_object ends.receiver f.receiver g.receiver h.to_class k.to_class h.receiver k.receiver in
      let signal = same_in (λ (o : Outline). o.methods) (IsSignalOf ends.signal) h.from_class k.from_class sender.1 f.signal g.signal h.signal k.signal in
      let method = same_in (λ (o : Outline). o.methods) (IsSigned ends.method) h.to_class k.to_class receiver.1 f.method g.method h.method k.method in
      ap (λ x. ends_of x f.signal f.receiver f.method) sender.0
      ∙ ap (λ x. ends_of g.sender x f.receiver f.method) signal.0
      ∙ ap (λ x. ends_of g.sender g.signal x f.method) receiver.0
      ∙ ap (λ x. ends_of g.sender g.signal g.receiver x) method.0

  mutual
    same_parts : (x : stmt.Stmt-F Stmt) (y z : statement.Statement-F Statement) → IsStatement s x y → IsStatement s x z → y ≡ z
    same_parts x y z (set_is {path = p} {name = n} {e = e} {found = o} {q = q} {f = f} h) (set_is {found = u} {q = r} {f = g} k) =
        let part = same_set p n e o u q r f g h k in
        let same_o : o ≡ u = part.0 in
        let same_q : q ≡ r = part.1 in
        let same_f : f ≡ g = part.2 in
        cc
    same_parts x y z (emit_is {name = n} {es = es} {m = m} {fs = fs} h) (emit_is {m = r} {fs = gs} k) =
        let part = same_emit n es m r fs gs h k in
        let same_m : m ≡ r = part.0 in
        let same_f : fs ≡ gs = part.1 in
        cc
    same_parts x y z (call_is {path = p} {name = n} {es = es} {found = o} {m = m} {fs = fs} h) (call_is {found = u} {m = r} {fs = gs} k) =
        let part = same_call p n es o u m r fs gs h k in
        let same_o : o ≡ u = part.0 in
        let same_m : m ≡ r = part.1 in
        let same_f : fs ≡ gs = part.2 in
        cc
    same_parts x y z (if_is {e = e} {then_x = a1} {else_x = a2} {f = f} {then_y = b1} {else_y = b2} h h1 h2) (if_is {f = g} {then_y = c1} {else_y = c2} k k1 k2) =
        let same_f : f ≡ g = same_exprs e f g h k in
        let same_1 : b1 ≡ c1 = same_statements a1 b1 c1 h1 k1 in
        let same_2 : b2 ≡ c2 = same_statements a2 b2 c2 h2 k2 in
        cc
    same_parts x y z (connect_is {ends = ends} {type = type} {found = f} h) (connect_is {found = g} k) = ap (λ found. statement.Connect found type) (same_ends ends f g h k)
    same_parts x y z (disconnect_is {ends = ends} {found = f} h) (disconnect_is {found = g} k) = ap (λ found. statement.Disconnect found) (same_ends ends f g h k)
    same_parts x y z (delete_is {path = path} {found = f} h) (delete_is {found = g} k) = ap (λ found. statement.Delete found) (same_reference path f g h k)
    same_parts x y z (later_is {path = path} {found = f} h) (later_is {found = g} k) = ap (λ found. statement.Later found) (same_reference path f g h k)
    same_parts x y z (group_is {sets = sets} {found = a} h all) (group_is {found = b} k all2) = ap (λ found. statement.Group found) (same_statements sets a b h k)

    pub same_statements : (xs : List Stmt) (ys zs : List Statement) → AreStatements s xs ys → AreStatements s xs zs → ys ≡ zs
    same_statements xs ys zs none_are none_are = refl
    same_statements xs ys zs (next_is {x = x} {xs = us} {y = y} {ys = vs} h t) (next_is {y = z} {ys = ws} k u) =
        ap (λ v. v ∷ vs) (same_statement y z (same_parts (out-Stmt x) (out-Statement y) (out-Statement z) h k)) ∙ ap (λ v. z ∷ v) (same_statements us vs ws t u)

-- ---- made of parts
module _ (s : Scope) where
  pub record Parted (x : Stmt) (xs : List Stmt) (zs : List Statement) : Type 0 where
    pub first : Statement
    pub rest : List Statement
    pub is : zs ≡ first ∷ rest
    pub one : IsStatementOf s x first
    pub more : AreStatements s xs rest

  pub part : (x : Stmt) (xs : List Stmt) (zs : List Statement) → AreStatements s (x ∷ xs) zs → Parted x xs zs
  part x xs zs (next_is {y = y} {ys = ys} h t) = record { first = y; rest = ys; is = refl; one = h; more = t }
