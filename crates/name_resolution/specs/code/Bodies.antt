-- How the names in slot bodies and natives are resolved: where a part has no resolved form, one of its names isn't there
-- (docs/language.md, "Names").
use Rattle.std.specs.{Prelude.{◌≡◌, ◌≢◌, ℕ, ◌<◌, true, false, List, [], ◌∷◌, length, Some}, List.{AllZip}}
use Rattle.basic_types.specs.{declared.qtype.QType.{QType}, Normal.{pointer_type}, declared.value.Value.{Value}}
use Rattle.syntax_trees.specs.{declared.syntax.Unary.{Unary}, declared.syntax.Binary.{Binary}, declared.syntax.Expr.{Expr}, declared.syntax.Expr.TheViews.{out-Expr}, declared.syntax.Root.{Root}, declared.syntax.Path.{Path}, declared.connection.ConnectionType.{ConnectionType}, declared.connection.Endpoints.{Endpoints}, declared.syntax.Stmt.{Stmt}, declared.syntax.Stmt.TheViews.{out-Stmt}, declared.program.Parameter.{Parameter}, declared.program.Property.{Property}, declared.program.SlotWork.{SlotWork}, declared.program.Slot.{Slot}, declared.program.Class.{Class}}
use Rattle.syntax_trees.specs.declared.syntax.Expr.TheOpen as expr
use Rattle.syntax_trees.specs.declared.syntax.Root.TheVariants as root
use Rattle.syntax_trees.specs.declared.syntax.Stmt.TheOpen as stmt
use Rattle.syntax_trees.specs.declared.program.SlotWork.TheVariants as declared
use Rattle.meta_model.specs.{declared.object.MetaRoot.{MetaRoot}, declared.object.Step.{Step}, declared.object.MetaPath.{MetaPath}, declared.object.MetaEndpoints.{MetaEndpoints}, declared.object.Statement.{Statement}, declared.object.Statement.TheViews.{out-Statement}, declared.qobject.TheConstants.{OBJECT_NAME_CHANGED}, Literals.{literal}, Sound.{AreSets}}
use Rattle.meta_model.specs.declared.object.MetaRoot.TheVariants as resolved
use Rattle.meta_model.specs.declared.object.Statement.TheOpen as statement
use Rattle.class_outlines.specs.{declared.outline.Outline.{Outline}, Outlines.{IsOutlineNamed}, code.ReadTypes.{IsReadAs}, Notifiers.{IsSignalOf}, Ends.{IsSigned}}
use Rattle.class_outlines.specs.declared.outline.Sort.TheVariants as sort
use Rattle.name_indexes.specs.Places.{StandsFirst}
pub use Rattle.class_outlines.specs.Indexed.{IsCallOf, IsPropertyOfName}
use Rattle.name_resolution.specs.{declared.body_resolution.work.ResolvedWork.{ResolvedWork}, code.Natives.{AreEffects}}
use Rattle.name_resolution.specs.declared.body_resolution.work.ResolvedWork.TheVariants as loads

-- where a body stands: the classes, the name of its own, and its slot's parameters
pub record Scope : Type 0 where
  pub outlines : List Outline
  pub me : List ℕ
  pub parameters : List Parameter

-- ---- paths
-- `this` has the declaring class as a pointer, a parameter its declared type
pub data IsRoot (s : Scope) : Root → MetaRoot → QType → Type 0 where
  this_root : IsRoot s root.This resolved.This (pointer_type s.me false)
  parameter_root : {name : List ℕ} {k : ℕ}
      → (at : StandsFirst (λ (p : Parameter). p.name ≡ Some name) s.parameters k)
      → IsRoot s (root.Name name) (resolved.Parameter k) at.at.item.kind

-- a declared type is a pointer to a class that is there
pub record PointsTo (outlines : List Outline) (T : QType) (c : ℕ) : Type 0 where
  pub pointer : T.pointer ≡ true
  pub class : IsOutlineNamed outlines T.name c

-- a declared type is a pointer to this class
pub record PointsToThis (outlines : List Outline) (T : QType) (c : ℕ) (o : Outline) : Type 0 where
  pub points : PointsTo outlines T c
  pub is : points.class.at.item ≡ o

-- the class that it points to has a property of this name
pub record HasMember (outlines : List Outline) (T : QType) (name : List ℕ) (q : ℕ) (property : Property) : Type 0 where
  pub number : ℕ
  pub points : PointsTo outlines T number
  pub place : StandsFirst (λ (p : Property). p.name ≡ name) points.class.at.item.properties q
  pub is : place.at.item ≡ property

-- a step leads on by the property of this name
pub record IsStep (outlines : List Outline) (T : QType) (name : List ℕ) (step : Step) (property : Property) : Type 0 where
  pub member : HasMember outlines T name step.property property
  pub kind : IsReadAs outlines property.kind step.kind

abbrev pub AreSteps : List Outline → QType → List (List ℕ) → List Step → QType → Type 0
AreSteps outlines T [] [] U = T ≡ U
AreSteps outlines T [] (step ∷ steps) U = ⊥
AreSteps outlines T (name ∷ names) [] U = ⊥
AreSteps outlines T (name ∷ names) (step ∷ steps) U =
    (property : Property) × IsStep outlines T name step property × AreSteps outlines property.kind names steps U

-- the path leads to what is declared to be of this type
pub record IsPath (s : Scope) (path : Path) (found : MetaPath) (T : QType) : Type 0 where
  pub root_type : QType
  pub root : IsRoot s path.root found.root root_type
  pub steps : AreSteps s.outlines root_type path.properties found.steps T

-- ---- expressions
pub data IsExpr (s : Scope) : Expr Path → Expr MetaPath → Type 0 where
  literal_is : {e : Expr Path} {f : Expr MetaPath} {v : Value} → out-Expr Path e ≡ expr.Literal v → out-Expr MetaPath f ≡ expr.Literal (literal v) → IsExpr s e f
  path_is : {e : Expr Path} {f : Expr MetaPath} {path : Path} {found : MetaPath} {T : QType} → out-Expr Path e ≡ expr.Path path → out-Expr MetaPath f ≡ expr.Path found
      → IsPath s path found T → IsExpr s e f
  unary_is : {e a : Expr Path} {f b : Expr MetaPath} {op : Unary} → out-Expr Path e ≡ expr.Unary op a → out-Expr MetaPath f ≡ expr.Unary op b
      → IsExpr s a b → IsExpr s e f
  binary_is : {e a c : Expr Path} {f b d : Expr MetaPath} {op : Binary} → out-Expr Path e ≡ expr.Binary op a c → out-Expr MetaPath f ≡ expr.Binary op b d
      → IsExpr s a b → IsExpr s c d → IsExpr s e f

abbrev pub AreExprs : Scope → List (Expr Path) → List (Expr MetaPath) → Type 0
AreExprs s [] [] = Unit {0}
AreExprs s [] (f ∷ fs) = ⊥
AreExprs s (e ∷ es) [] = ⊥
AreExprs s (e ∷ es) (f ∷ fs) = IsExpr s e f × AreExprs s es fs

-- ---- objects
-- a path in the place of an object: it is declared to lead to objects of this class
pub record IsObjectPath (s : Scope) (path : Path) (found : MetaPath) (class : Outline) : Type 0 where
  pub kind : QType
  pub leads : IsPath s path found kind
  pub number : ℕ
  pub points : PointsToThis s.outlines kind number class

-- a path in the place of an object of which no member is named: it is declared to lead to a reference; that its class
-- is there is asked of the declared types
pub record IsReferencePath (s : Scope) (path : Path) (found : MetaPath) : Type 0 where
  pub kind : QType
  pub leads : IsPath s path found kind
  pub pointer : kind.pointer ≡ true

-- ---- statements
-- `set`: the object's class has the property
pub record IsSet (s : Scope) (path : Path) (name : List ℕ) (e : Expr Path) (found : MetaPath) (q : ℕ)
    (f : Expr MetaPath) : Type 0 where
  pub class : Outline
  pub object : IsObjectPath s path found class
  pub property : StandsFirst (IsPropertyOfName name) class.properties q
  pub value : IsExpr s e f

-- `emit`: the body's class has the signal, which isn't one of those that the runtime emits
pub record IsEmit (s : Scope) (name : List ℕ) (es : List (Expr Path)) (m : ℕ) (fs : List (Expr MetaPath)) : Type 0 where
  pub number : ℕ
  pub class : IsOutlineNamed s.outlines s.me number
  pub method : StandsFirst (IsCallOf name (length es)) class.at.item.methods m
  pub signal : method.at.item.sort ≡ sort.Signal
  pub emitted : OBJECT_NAME_CHANGED < m
  pub values : AreExprs s es fs

-- `call`: the object's class has the slot or native
pub record IsCall (s : Scope) (path : Path) (name : List ℕ) (es : List (Expr Path)) (found : MetaPath) (m : ℕ)
    (fs : List (Expr MetaPath)) : Type 0 where
  pub class : Outline
  pub object : IsObjectPath s path found class
  pub method : StandsFirst (IsCallOf name (length es)) class.methods m
  pub callable : method.at.item.sort ≢ sort.Signal
  pub values : AreExprs s es fs

-- `connect` and `disconnect`: the sender's class has the signal, the receiver's the method, which isn't one of the signals
-- that the runtime emits
pub record AreEnds (s : Scope) (ends : Endpoints Path) (found : MetaEndpoints) : Type 0 where
  pub from_class : Outline
  pub sender : IsObjectPath s ends.sender found.sender from_class
  pub signal : StandsFirst (IsSignalOf ends.signal) from_class.methods found.signal
  pub to_class : Outline
  pub receiver : IsObjectPath s ends.receiver found.receiver to_class
  pub method : StandsFirst (IsSigned ends.method) to_class.methods found.method
  pub called : OBJECT_NAME_CHANGED < found.method

mutual
  -- one statement, by its parts
  pub data IsStatement (s : Scope) : stmt.Stmt-F Stmt → statement.Statement-F Statement → Type 0 where
    set_is : {path : Path} {name : List ℕ} {e : Expr Path} {found : MetaPath} {q : ℕ} {f : Expr MetaPath}
        → IsSet s path name e found q f → IsStatement s (stmt.Set path name e) (statement.Set found q f)
    emit_is : {name : List ℕ} {es : List (Expr Path)} {m : ℕ} {fs : List (Expr MetaPath)}
        → IsEmit s name es m fs → IsStatement s (stmt.Emit name es) (statement.Emit m fs)
    call_is : {path : Path} {name : List ℕ} {es : List (Expr Path)} {found : MetaPath} {m : ℕ}
        {fs : List (Expr MetaPath)}
        → IsCall s path name es found m fs → IsStatement s (stmt.Call path name es) (statement.Call found m fs)
    if_is : {e : Expr Path} {then_x else_x : List Stmt} {f : Expr MetaPath} {then_y else_y : List Statement}
        → IsExpr s e f → AreStatements s then_x then_y → AreStatements s else_x else_y
        → IsStatement s (stmt.If e then_x else_x) (statement.If f then_y else_y)
    connect_is : {ends : Endpoints Path} {type : ConnectionType} {found : MetaEndpoints}
        → AreEnds s ends found → IsStatement s (stmt.Connect ends type) (statement.Connect found type)
    disconnect_is : {ends : Endpoints Path} {found : MetaEndpoints}
        → AreEnds s ends found → IsStatement s (stmt.Disconnect ends) (statement.Disconnect found)
    delete_is : {path : Path} {found : MetaPath}
        → IsReferencePath s path found → IsStatement s (stmt.Delete path) (statement.Delete found)
    later_is : {path : Path} {found : MetaPath}
        → IsReferencePath s path found → IsStatement s (stmt.Later path) (statement.Later found)
    group_is : {sets : List Stmt} {found : List Statement}
        → AreStatements s sets found → AreSets found → IsStatement s (stmt.Group sets) (statement.Group found)

  -- the statements of a block, in their order
  pub data AreStatements (s : Scope) : List Stmt → List Statement → Type 0 where
    none_are : AreStatements s [] []
    next_is : {x : Stmt} {xs : List Stmt} {y : Statement} {ys : List Statement}
        → IsStatement s (out-Stmt x) (out-Statement y) → AreStatements s xs ys → AreStatements s (x ∷ xs) (y ∷ ys)

-- one statement
abbrev pub IsStatementOf : Scope → Stmt → Statement → Type 0
IsStatementOf s x y = IsStatement s (out-Stmt x) (out-Statement y)

-- a name in the body isn't there
abbrev pub LacksInBody : Scope → List Stmt → Type 0
LacksInBody s xs = (ys : List Statement) → ¬ AreStatements s xs ys

-- ---- what slots and natives do
abbrev pub scope_of : List Outline → Class → Slot → Scope
scope_of outlines class slot =
    record { outlines = outlines; me = class.name; parameters = slot.parameters }

-- a slot's statements, their names resolved, or a native's effects
abbrev pub IsWork : Scope → SlotWork → ResolvedWork → Type 0
IsWork s (declared.Body body) (loads.Body statements) = AreStatements s body statements
IsWork s (declared.Body body) (loads.Native effects) = ⊥
IsWork s (declared.Native names) (loads.Body statements) = ⊥
IsWork s (declared.Native names) (loads.Native effects) = AreEffects s.outlines s.me names effects

abbrev pub IsSlotWork : List Outline → Class → Slot → ResolvedWork → Type 0
IsSlotWork outlines class slot work = IsWork (scope_of outlines class slot) slot.work work

-- what the slots and natives of a class do, and those of all classes
abbrev pub AreWorks : List Outline → Class → List ResolvedWork → Type 0
AreWorks outlines class works = AllZip (IsSlotWork outlines class) class.slots works

abbrev pub AllWorks : List Outline → List Class → List (List ResolvedWork) → Type 0
AllWorks outlines classes works = AllZip (AreWorks outlines) classes works
