-- Resolving bodies piece by piece.
use Rattle.std.{proofs.Common.{◌≡◌, ℕ, suc, ◌+◌, ◌≤◌, true, List, [], ◌∷◌, ◌++◌, inl, inr, drop, length, slice_get, Some, refl, sym, ap, ◌∙◌, subst, arith, append_assoc}, specs.Prelude.{Result, Ok, Err}}
use Rattle.basic_types.specs.{declared.qtype.QType.{QType}, declared.value.Value.{Value}}
use Rattle.syntax_trees.specs.{declared.syntax.Unary.{Unary}, declared.syntax.Binary.{Binary}, declared.syntax.Expr.{Expr}, declared.syntax.Expr.TheViews.{out-Expr}, declared.syntax.Path.{Path}, declared.syntax.Root.{Root}, declared.program.Parameter.{Parameter}, declared.syntax.Stmt.{Stmt}, declared.syntax.Stmt.TheViews.{out-Stmt}, declared.program.Property.{Property}}
use Rattle.syntax_trees.specs.declared.syntax.Expr.TheVariants as e
use Rattle.syntax_trees.specs.declared.syntax.Expr.TheOpen as expr
use Rattle.syntax_trees.specs.declared.syntax.Root.TheVariants as root
use Rattle.meta_model.specs.{declared.object.MetaRoot.{MetaRoot}, declared.object.Step.{Step}, declared.object.MetaPath.{MetaPath}, declared.object.ValueType.{ValueType}, declared.object.Statement.{Statement}, declared.object.Statement.TheViews.{out-Statement}, Literals.{literal}, Sound.{AreSets}}
use Rattle.meta_model.specs.declared.object.MetaRoot.TheVariants as resolved
use Rattle.class_outlines.{specs.declared.offence.PartFault.{PartFault}, specs.Offences.{LoadsPart}, specs.declared.outline.Outline.{Outline}, specs.code.ReadTypes.{IsReadAs}, specs.Indexed.{IsPropertyOfName}, proofs.OutlineSteps.{drop_at, drop_end}, proofs.Firsts.{first_item, same_in}}
use Rattle.class_outlines.specs.declared.fault.MetaFault.TheVariants as fault
use Rattle.name_resolution.{specs.declared.body_resolution.path.Led.{Led}, specs.code.Bodies.{Scope, IsRoot, this_root, parameter_root, PointsTo, PointsToThis, HasMember, AreSteps, IsPath, IsExpr, literal_is, path_is, unary_is, binary_is, AreExprs, IsObjectPath, IsSet, IsStatement, set_is, if_is, group_is, AreStatements, none_are, next_is, IsStatementOf, LacksInBody}, proofs.Bodies.{part, same_member, same_root, same_path, same_object, same_statements}}
use Rattle.syntax_trees.specs.declared.syntax.Stmt.TheVariants as stmt_by
use Rattle.syntax_trees.specs.declared.syntax.Stmt.TheOpen as stmt
use Rattle.meta_model.specs.declared.object.Statement.TheVariants as statement_by
use Rattle.meta_model.specs.declared.object.Statement.TheOpen as statement
use Rattle.name_indexes.specs.Places.{StandsAt, StandsFirst, Found}

-- ---- members
module _ (outlines : List Outline) where
  pub points_none : (T : QType) → ((k : ℕ) → ¬ StandsAt (λ (o : Outline). o.name ≡ T.name) outlines k) → (c : ℕ) → ¬ PointsTo outlines T c
  points_none T none c h = none c h.class.at

  pub points_this : (T : QType) (c : ℕ) (o : Outline) → T.pointer ≡ true → Found (λ (o : Outline). o.name ≡ T.name) outlines c o → PointsToThis outlines T c o
  points_this T c o pointer found = record { points = record { pointer = pointer; class = found.first }; is = found.is }

  pub no_class_member : (T : QType) (name : List ℕ) → ((c : ℕ) → ¬ PointsTo outlines T c) → (q : ℕ) (x : Property) → ¬ HasMember outlines T name q x
  no_class_member T name none q x h = none h.number h.points

  same_outline : (T : QType) (c d : ℕ) (o : Outline) (h : PointsTo outlines T c) → PointsToThis outlines T d o → h.class.at.item ≡ o
  same_outline T c d o h k = first_item (λ (o : Outline). o.name ≡ T.name) outlines c d h.class k.points.class ∙ k.is

  pub no_member : (T : QType) (name : List ℕ) (c : ℕ) (o : Outline) → PointsToThis outlines T c o → ((k : ℕ) → ¬ StandsAt (λ (p : Property). p.name ≡ name) o.properties k) → (q : ℕ) (x : Property) → ¬ HasMember outlines T name q x
  no_member T name c o this none q x h =
      none q (subst (λ (v : Outline). StandsAt (λ (p : Property). p.name ≡ name) v.properties q) (same_outline T h.number c o h.points this) h.place.at)

  module _ (T : QType) (name : List ℕ) (c : ℕ) (o : Outline) (this : PointsToThis outlines T c o) where
    place_in : (u : Outline) → u ≡ o → (q : ℕ) (x : Property) → Found (λ (p : Property). p.name ≡ name) o.properties q x → (h : StandsFirst (λ (p : Property). p.name ≡ name) u.properties q) × (h.at.item ≡ x)
    place_in u e q x found =
        let h = subst (λ (v : Outline). StandsFirst (λ (p : Property). p.name ≡ name) v.properties q) (sym e) found.first in
        (h, (same_in (λ (v : Outline). v.properties) (λ (p : Property). p.name ≡ name) u o e q q h found.first).1 ∙ found.is)

    pub a_member : (q : ℕ) (x : Property) → Found (λ (p : Property). p.name ≡ name) o.properties q x → HasMember outlines T name q x
    a_member q x found =
        let place = place_in this.points.class.at.item this.is q x found in
        record { number = c; points = this.points; place = place.0; is = place.1 }

-- ---- steps
append_none : {A : Type 0} (xs : List A) → xs ++ [] ≡ xs
append_none [] = refl
append_none (x ∷ xs) = ap (λ ys. x ∷ ys) (append_none xs)

module _ (outlines : List Outline) (start : QType) (names : List (List ℕ)) where
  abbrev Left : QType → ℕ → List Step → Type 0
  Left kind i steps = (more : List Step) (U : QType) → AreSteps outlines kind (drop i names) more U → AreSteps outlines start names (steps ++ more) U

  abbrev Only : QType → ℕ → Type 0
  Only kind i = (all : List Step) (U : QType) → AreSteps outlines start names all U → (more : List Step) × AreSteps outlines kind (drop i names) more U

  pub step_left : (i : ℕ) (name : List ℕ) (kind : QType) (q : ℕ) (property : Property) (k : ValueType) (next : QType) (steps steps2 : List Step) → slice_get names i ≡ Some name → HasMember outlines kind name q property → IsReadAs outlines property.kind k → next ≡ property.kind → steps2 ≡ steps ++ record { property = q; kind = k } ∷ [] → Left kind i steps → Left next (i + 1) steps2
  step_left i name kind q property k next steps steps2 at member read e pushed left more U h =
      let number : suc i ≡ i + 1 = omega arith in
      let step : Step = record { property = q; kind = k } in
      let h1 = subst (λ n. AreSteps outlines next (drop n names) more U) (sym number) h in
      let h2 = subst (λ t. AreSteps outlines t (drop (suc i) names) more U) e h1 in
      let h3 : AreSteps outlines kind (name ∷ drop (suc i) names) (step ∷ more) U = (property, record { member = member; kind = read }, h2) in
      let h4 = left (step ∷ more) U (subst (λ ns. AreSteps outlines kind ns (step ∷ more) U) (sym (drop_at names i name at)) h3) in
      subst (λ ss. AreSteps outlines start names ss U) (sym (append_assoc steps (step ∷ []) more) ∙ ap (λ ss. ss ++ more) (sym pushed)) h4

  more_steps : (kind : QType) (name : List ℕ) (rest : List (List ℕ)) (more : List Step) (U : QType) → AreSteps outlines kind (name ∷ rest) more U → (q : ℕ) × (property : Property) × HasMember outlines kind name q property × ((ss : List Step) × AreSteps outlines property.kind rest ss U)
  more_steps kind name rest [] U h = absurd h
  more_steps kind name rest (s ∷ ss) U h = (s.property, h.0, h.1.member, (ss, h.2))

  pub step_only : (i : ℕ) (name : List ℕ) (kind : QType) (q : ℕ) (property : Property) (next : QType) → slice_get names i ≡ Some name → HasMember outlines kind name q property → next ≡ property.kind → Only kind i → Only next (i + 1)
  step_only i name kind q property next at member e only all U h =
      let number : suc i ≡ i + 1 = omega arith in
      let more = only all U h in
      let parts = more_steps kind name (drop (suc i) names) more.0 U (subst (λ ns. AreSteps outlines kind ns more.0 U) (drop_at names i name at) more.1) in
      let same : parts.1 ≡ property = (same_member (record { outlines = outlines; me = []; parameters = [] }) kind name parts.0 q parts.1 property parts.2 member).1 in
      let h1 = subst (λ (p : Property). AreSteps outlines p.kind (drop (suc i) names) parts.3.0 U) same parts.3.1 in
      let h2 = subst (λ t. AreSteps outlines t (drop (suc i) names) parts.3.0 U) (sym e) h1 in
      (parts.3.0, subst (λ n. AreSteps outlines next (drop n names) parts.3.0 U) number h2)

  pub step_stuck : (i : ℕ) (name : List ℕ) (kind : QType) → slice_get names i ≡ Some name → Only kind i → ((q : ℕ) (x : Property) → ¬ HasMember outlines kind name q x) → (all : List Step) (U : QType) → ¬ AreSteps outlines start names all U
  step_stuck i name kind at only none all U h =
      let more = only all U h in
      let parts = more_steps kind name (drop (suc i) names) more.0 U (subst (λ ns. AreSteps outlines kind ns more.0 U) (drop_at names i name at) more.1) in
      none parts.0 parts.1 parts.2

  pub steps_end : (i : ℕ) (kind : QType) (steps : List Step) → length names ≤ i → Left kind i steps → AreSteps outlines start names steps kind
  steps_end i kind steps past left =
      subst (λ ss. AreSteps outlines start names ss kind) (append_none steps) (left [] kind (subst (λ ns. AreSteps outlines kind ns [] kind) (sym (drop_end names i past)) refl))

-- ---- expressions
module _ (s : Scope) where
  pub literal_piece : (v : Value) → IsExpr s (e.Literal v) (e.Literal (literal v))
  literal_piece v = literal_is (e.outs-Literal v) (e.outs-Literal (literal v))

  pub path_piece : (path : Path) (found : MetaPath) (T : QType) → IsPath s path found T → IsExpr s (e.Path path) (e.Path found)
  path_piece path found T h = path_is (e.outs-Path path) (e.outs-Path found) h

  pub unary_piece : (op : Unary) (a : Expr Path) (b : Expr MetaPath) → IsExpr s a b → IsExpr s (e.Unary op a) (e.Unary op b)
  unary_piece op a b h = unary_is (e.outs-Unary op a) (e.outs-Unary op b) h

  pub binary_piece : (op : Binary) (a c : Expr Path) (b d : Expr MetaPath) → IsExpr s a b → IsExpr s c d → IsExpr s (e.Binary op a c) (e.Binary op b d)
  binary_piece op a c b d h k = binary_is (e.outs-Binary op a c) (e.outs-Binary op b d) h k

  path_of : (x : Expr Path) (f : Expr MetaPath) (path : Path) → out-Expr Path x ≡ expr.Path path → IsExpr s x f → (found : MetaPath) × (T : QType) × IsPath s path found T
  path_of x f path is (literal_is a b) = absurd (cc)
  path_of x f path is (path_is {path = p} {found = found} {T = T} a b h) = let same : p ≡ path = cc in (found, T, subst (λ z. IsPath s z found T) same h)
  path_of x f path is (unary_is a b h) = absurd (cc)
  path_of x f path is (binary_is a b h k) = absurd (cc)

  pub no_path : (path : Path) → ((found : MetaPath) (T : QType) → ¬ IsPath s path found T) → (f : Expr MetaPath) → ¬ IsExpr s (e.Path path) f
  no_path path lacks f is = let r = path_of (e.Path path) f path (e.outs-Path path) is in lacks r.0 r.1 r.2

  -- ---- blocks
  module _ (body : List Stmt) where
    abbrev LeftOf : ℕ → List Statement → Type 0
    LeftOf i done = (more : List Statement) → AreStatements s (drop i body) more → AreStatements s body (done ++ more)

    abbrev OnlyOf : ℕ → Type 0
    OnlyOf i = (all : List Statement) → AreStatements s body all → (more : List Statement) × AreStatements s (drop i body) more

    pub block_left : (i : ℕ) (x : Stmt) (y : Statement) (done after : List Statement) → slice_get body i ≡ Some x → IsStatementOf s x y → after ≡ done ++ y ∷ [] → LeftOf i done → LeftOf (i + 1) after
    block_left i x y done after at one pushed left more h =
        let number : suc i ≡ i + 1 = omega arith in
        let h1 = subst (λ n. AreStatements s (drop n body) more) (sym number) h in
        let h2 = left (y ∷ more) (subst (λ xs. AreStatements s xs (y ∷ more)) (sym (drop_at body i x at)) (next_is one h1)) in
        subst (λ ys. AreStatements s body ys) (sym (append_assoc done (y ∷ []) more) ∙ ap (λ ys. ys ++ more) (sym pushed)) h2

    pub block_only : (i : ℕ) (x : Stmt) → slice_get body i ≡ Some x → OnlyOf i → OnlyOf (i + 1)
    block_only i x at only all h =
        let number : suc i ≡ i + 1 = omega arith in
        let more = only all h in
        let parts = part s x (drop (suc i) body) more.0 (subst (λ xs. AreStatements s xs more.0) (drop_at body i x at) more.1) in
        (parts.rest, subst (λ n. AreStatements s (drop n body) parts.rest) number parts.more)

    pub block_stuck : (i : ℕ) (x : Stmt) → slice_get body i ≡ Some x → OnlyOf i → ((y : Statement) → ¬ IsStatementOf s x y) → LacksInBody s body
    block_stuck i x at only none all h =
        let more = only all h in
        let parts = part s x (drop (suc i) body) more.0 (subst (λ xs. AreStatements s xs more.0) (drop_at body i x at) more.1) in
        none parts.first parts.one

    pub block_end : (i : ℕ) (done : List Statement) → length body ≤ i → LeftOf i done → AreStatements s body done
    block_end i done past left =
        subst (λ ys. AreStatements s body ys) (append_none done) (left [] (subst (λ xs. AreStatements s xs []) (sym (drop_end body i past)) none_are))

  -- ---- statements by their parts
  pub by_parts : (x : Stmt) (y : Statement) (f : stmt.Stmt-F Stmt) (g : statement.Statement-F Statement) → out-Stmt x ≡ f → out-Statement y ≡ g → IsStatement s f g → IsStatementOf s x y
  by_parts x y f g a b h = subst (λ k. IsStatement s (out-Stmt x) k) (sym b) (subst (λ k. IsStatement s k g) (sym a) h)

  pub parts_of : (x : Stmt) (y : Statement) (f : stmt.Stmt-F Stmt) → out-Stmt x ≡ f → IsStatementOf s x y → IsStatement s f (out-Statement y)
  parts_of x y f a h = subst (λ k. IsStatement s k (out-Statement y)) a h

  pub if_piece : (x : Expr Path) (f : Expr MetaPath) (a b : List Stmt) (c d : List Statement) → IsExpr s x f → AreStatements s a c → AreStatements s b d → IsStatementOf s (stmt_by.If x a b) (statement_by.If f c d)
  if_piece x f a b c d h k l = by_parts _ _ _ _ (stmt_by.outs-If x a b) (statement_by.outs-If f c d) (if_is h k l)

  other_of : (t : Expr Path) (a b : List Stmt) (g : statement.Statement-F Statement) → IsStatement s (stmt.If t a b) g → (ys : List Statement) × AreStatements s b ys
  other_of t a b g (if_is {else_y = ys} h k l) = (ys, l)

  pub no_other : (t : Expr Path) (a b : List Stmt) → LacksInBody s b → (y : Statement) → ¬ IsStatementOf s (stmt_by.If t a b) y
  no_other t a b lacks y is = let r = other_of t a b (out-Statement y) (parts_of _ y _ (stmt_by.outs-If t a b) is) in lacks r.0 r.1

  group_of : (a : List Stmt) (g : statement.Statement-F Statement) → IsStatement s (stmt.Group a) g → (ys : List Statement) × AreStatements s a ys × AreSets ys
  group_of a g (group_is {found = ys} h all) = (ys, h, all)

  module _ (a : List Stmt) where
    a_group : (y : Statement) → IsStatementOf s (stmt_by.Group a) y → (ys : List Statement) × AreStatements s a ys × AreSets ys
    a_group y is = group_of a (out-Statement y) (parts_of _ y _ (stmt_by.outs-Group a) is)

    pub no_group : LacksInBody s a → (y : Statement) → ¬ IsStatementOf s (stmt_by.Group a) y
    no_group lacks y is = let r = a_group y is in lacks r.0 r.1

    pub no_sets : (c : List Statement) → AreStatements s a c → (¬ AreSets c) → (y : Statement) → ¬ IsStatementOf s (stmt_by.Group a) y
    no_sets c h other y is =
        let r = a_group y is in
        other (subst (λ ys. AreSets ys) (same_statements s a r.0 c r.1 h) r.2)

    pub group_piece : (c : List Statement) → AreStatements s a c → AreSets c → IsStatementOf s (stmt_by.Group a) (statement_by.Group c)
    group_piece c h all = by_parts _ _ _ _ (stmt_by.outs-Group a) (statement_by.outs-Group c) (group_is h all)

  -- ---- paths from their roots
  pub a_parameter : (name : List ℕ) (k : ℕ) (p : Parameter) (start : QType) → Found (λ (p : Parameter). p.name ≡ Some name) s.parameters k p → start ≡ p.kind → IsRoot s (root.Name name) (resolved.Parameter k) start
  a_parameter name k p start found e = subst (λ T. IsRoot s (root.Name name) (resolved.Parameter k) T) (ap (λ (p : Parameter). p.kind) found.is ∙ sym e) (parameter_root found.first)

  a_place : (r : Root) (name : List ℕ) (f : MetaRoot) (T : QType) → r ≡ root.Name name → IsRoot s r f T → (k : ℕ) × StandsAt (λ (p : Parameter). p.name ≡ Some name) s.parameters k
  a_place r name f T e this_root = absurd (cc)
  a_place r name f T e (parameter_root {name = n} {k = k} at) = let same : n ≡ name = cc in (k, subst (λ m. StandsAt (λ (p : Parameter). p.name ≡ Some m) s.parameters k) same at.at)

  pub no_parameter : (path : Path) (name : List ℕ) → path.root ≡ root.Name name → ((k : ℕ) → ¬ StandsAt (λ (p : Parameter). p.name ≡ Some name) s.parameters k) → (found : MetaPath) (T : QType) → ¬ IsPath s path found T
  no_parameter path name e none found T h = let at = a_place path.root name found.root h.root_type e h.root in none at.0 at.1

  pub from_root : (path : Path) (f : MetaRoot) (start : QType) → IsRoot s path.root f start → (r : Result Led PartFault) → LoadsPart fault.NoMember ((steps : List Step) (T : QType) → ¬ AreSteps s.outlines start path.properties steps T) (λ (led : Led). (led.path.root ≡ f) × AreSteps s.outlines start path.properties led.path.steps led.kind) r → LoadsPart fault.NoMember ((found : MetaPath) (T : QType) → ¬ IsPath s path found T) (λ (led : Led). IsPath s path led.path led.kind) r
  from_root path f start is (Ok led) h = record { root_type = start; root = subst (λ g. IsRoot s path.root g start) (sym h.0) is; steps = h.1 }
  from_root path f start is (Err x) (inl m) = inl m
  from_root path f start is (Err x) (inr n) =
      inr (
        n.0,
        λ found T h.
            let same = same_root s path.root found.root f h.root_type start h.root is in
            n.1 found.steps T (subst (λ U. AreSteps s.outlines U path.properties found.steps T) same.1 h.steps),
      )

  -- ---- objects
  module _ (path : Path) where
    pub no_object_path : ((found : MetaPath) (T : QType) → ¬ IsPath s path found T) → (found : MetaPath) (class : Outline) → ¬ IsObjectPath s path found class
    no_object_path lacks found class h = lacks found h.kind h.leads

    pub no_object_class : (g : MetaPath) (T : QType) → IsPath s path g T → ((c : ℕ) → ¬ PointsTo s.outlines T c) → (found : MetaPath) (class : Outline) → ¬ IsObjectPath s path found class
    no_object_class g T to none found class h =
        let same = same_path s path found g h.kind T h.leads to in
        none h.number (subst (λ U. PointsTo s.outlines U h.number) same.1 h.points.points)

    pub an_object : (g : MetaPath) (T : QType) (c : ℕ) (class : Outline) → IsPath s path g T → PointsToThis s.outlines T c class → IsObjectPath s path g class
    an_object g T c class to this = record { kind = T; leads = to; number = c; points = this }

  -- ---- set
  set_of : (p : Path) (n : List ℕ) (v : Expr Path) (g : statement.Statement-F Statement) → IsStatement s (stmt.Set p n v) g → (found : MetaPath) × (q : ℕ) × (f : Expr MetaPath) × IsSet s p n v found q f
  set_of p n v g (set_is {found = found} {q = q} {f = f} h) = (found, q, f, h)

  module _ (p : Path) (n : List ℕ) (v : Expr Path) where
    a_set : (y : Statement) → IsStatementOf s (stmt_by.Set p n v) y → (found : MetaPath) × (q : ℕ) × (f : Expr MetaPath) × IsSet s p n v found q f
    a_set y is = set_of p n v (out-Statement y) (parts_of _ y _ (stmt_by.outs-Set p n v) is)

    pub no_set_object : ((found : MetaPath) (class : Outline) → ¬ IsObjectPath s p found class) → (y : Statement) → ¬ IsStatementOf s (stmt_by.Set p n v) y
    no_set_object lacks y is = let r = a_set y is in lacks r.0 r.3.class r.3.object

    pub no_set_value : ((f : Expr MetaPath) → ¬ IsExpr s v f) → (y : Statement) → ¬ IsStatementOf s (stmt_by.Set p n v) y
    no_set_value lacks y is = let r = a_set y is in lacks r.2 r.3.value

    module _ (g : MetaPath) (class : Outline) (object : IsObjectPath s p g class) where
      pub no_set_property : ((k : ℕ) → ¬ StandsAt (IsPropertyOfName n) class.properties k) → (y : Statement) → ¬ IsStatementOf s (stmt_by.Set p n v) y
      no_set_property none y is =
          let r = a_set y is in
          let same = same_object s p r.0 g r.3.class class r.3.object object in
          none r.1 (subst (λ (o : Outline). StandsAt (IsPropertyOfName n) o.properties r.1) same.1 r.3.property.at)

      pub set_piece : (q : ℕ) (x : Property) (f : Expr MetaPath) → Found (IsPropertyOfName n) class.properties q x → IsExpr s v f → IsStatementOf s (stmt_by.Set p n v) (statement_by.Set g q f)
      set_piece q x f found value =
          by_parts _ _ _ _ (stmt_by.outs-Set p n v) (statement_by.outs-Set g q f)
          (set_is (record { class = class; object = object; property = found.first; value = value }))

  -- ---- lists of expressions
  part_of : (x : Expr Path) (xs : List (Expr Path)) (fs : List (Expr MetaPath)) → AreExprs s (x ∷ xs) fs → (f : Expr MetaPath) × (gs : List (Expr MetaPath)) × IsExpr s x f × AreExprs s xs gs
  part_of x xs [] h = absurd h
  part_of x xs (f ∷ fs) h = (f, fs, h.0, h.1)

  module _ (all : List (Expr Path)) where
    pub exprs_left : (i : ℕ) (x : Expr Path) (y : Expr MetaPath) (done after : List (Expr MetaPath)) → slice_get all i ≡ Some x → IsExpr s x y → after ≡ done ++ y ∷ [] → ((more : List (Expr MetaPath)) → AreExprs s (drop i all) more → AreExprs s all (done ++ more)) → (more : List (Expr MetaPath)) → AreExprs s (drop (i + 1) all) more → AreExprs s all (after ++ more)
    exprs_left i x y done after at one pushed left more h =
        let number : suc i ≡ i + 1 = omega arith in
        let h1 = subst (λ n. AreExprs s (drop n all) more) (sym number) h in
        let h2 = left (y ∷ more) (subst (λ xs. AreExprs s xs (y ∷ more)) (sym (drop_at all i x at)) (one, h1)) in
        subst (λ ys. AreExprs s all ys) (sym (append_assoc done (y ∷ []) more) ∙ ap (λ ys. ys ++ more) (sym pushed)) h2

    pub exprs_only : (i : ℕ) (x : Expr Path) → slice_get all i ≡ Some x → ((fs : List (Expr MetaPath)) → AreExprs s all fs → (more : List (Expr MetaPath)) × AreExprs s (drop i all) more) → (fs : List (Expr MetaPath)) → AreExprs s all fs → (more : List (Expr MetaPath)) × AreExprs s (drop (i + 1) all) more
    exprs_only i x at only fs h =
        let number : suc i ≡ i + 1 = omega arith in
        let more = only fs h in
        let parts = part_of x (drop (suc i) all) more.0 (subst (λ xs. AreExprs s xs more.0) (drop_at all i x at) more.1) in
        (parts.1, subst (λ n. AreExprs s (drop n all) parts.1) number parts.3)

    pub exprs_stuck : (i : ℕ) (x : Expr Path) → slice_get all i ≡ Some x → ((fs : List (Expr MetaPath)) → AreExprs s all fs → (more : List (Expr MetaPath)) × AreExprs s (drop i all) more) → ((f : Expr MetaPath) → ¬ IsExpr s x f) → (fs : List (Expr MetaPath)) → ¬ AreExprs s all fs
    exprs_stuck i x at only none fs h =
        let more = only fs h in
        let parts = part_of x (drop (suc i) all) more.0 (subst (λ xs. AreExprs s xs more.0) (drop_at all i x at) more.1) in
        none parts.0 parts.2

    pub exprs_end : (i : ℕ) (done : List (Expr MetaPath)) → length all ≤ i → ((more : List (Expr MetaPath)) → AreExprs s (drop i all) more → AreExprs s all (done ++ more)) → AreExprs s all done
    exprs_end i done past left =
        subst (λ ys. AreExprs s all ys) (append_none done) (left [] (subst (λ xs. AreExprs s xs []) (sym (drop_end all i past)) tt))
