-- A slot's body as it is loaded: each name is replaced by the number of what has it, among the loaded program's members and
-- the slot's parameters (docs/language.md, "Names"; docs/machine.md, "Loading").
use Rattle.std.specs.{Prelude.{◌≡◌, ◌≢◌, ℕ, ◌<◌, Bool, false, List, [], ◌∷◌, length, Some, slice_get}, List.{AllZip}}
use Rattle.basic_types.specs.declared.value.Value.{Value}
use Rattle.syntax_trees.specs.{declared.syntax.Unary.{Unary}, declared.syntax.Binary.{Binary}, declared.syntax.Expr.{Expr}, declared.syntax.Expr.TheViews.{out-Expr}, declared.syntax.Root.{Root}, declared.syntax.Path.{Path}, declared.connection.ConnectionType.{ConnectionType}, declared.connection.Endpoints.{Endpoints}, declared.syntax.Stmt.{Stmt}, declared.syntax.Stmt.TheViews.{out-Stmt}, declared.program.Parameter.{Parameter}}
use Rattle.syntax_trees.specs.declared.syntax.Expr.TheOpen as expr
use Rattle.syntax_trees.specs.declared.syntax.Root.TheVariants as root
use Rattle.syntax_trees.specs.declared.syntax.Stmt.TheOpen as stmt
use Rattle.meta_model.specs.{declared.object.ValueType.{ValueType}, declared.object.MetaRoot.{MetaRoot}, declared.object.MetaRoot.TheVariants.{This, Parameter as AParameter}, declared.object.Step.{Step}, declared.object.MetaPath.{MetaPath}, declared.object.MetaEndpoints.{MetaEndpoints}, declared.object.MetaProperty.{MetaProperty}, declared.object.Statement.{Statement}, declared.object.Statement.TheViews.{out-Statement}, declared.object.Work.TheVariants.{Signal}, declared.qobject.TheConstants.{OBJECT_NAME_CHANGED}, Loaded.{Loaded}, Members.{IsProperty, IsMethodNamed}, Literals.{literal}, Sound.{AreSets}}
use Rattle.meta_model.specs.declared.object.ValueType.TheVariants as type
use Rattle.meta_model.specs.declared.object.Statement.TheOpen as statement
use Rattle.name_indexes.specs.Places.{StandsFirst}
use Rattle.meta_objects.specs.LoadedEnds.{Connects}

-- where a body stands: the loaded program, the number of the class that declares the slot, and the slot's parameters with
-- their types
pub record Site : Type 0 where
  pub program : Loaded
  pub me : ℕ
  pub parameters : List Parameter
  pub types : List ValueType

abbrev pub site : Loaded → ℕ → List Parameter → List ValueType → Site
site program me parameters types =
    record { program = program; me = me; parameters = parameters; types = types }

-- ---- paths
-- `this` is declared to be of the slot's class, a parameter of its type
pub data IsLoadedRoot (s : Site) : Root → MetaRoot → ValueType → Type 0 where
  this_loaded : IsLoadedRoot s root.This This (type.Reference s.me false)
  parameter_loaded : {name : List ℕ} {k : ℕ} {T : ValueType}
      → StandsFirst (λ (p : Parameter). p.name ≡ Some name) s.parameters k → slice_get s.types k ≡ Some T
      → IsLoadedRoot s (root.Name name) (AParameter k) T

-- property q of class c has this name
pub record HasProperty (p : Loaded) (c : ℕ) (name : List ℕ) (q : ℕ) (property : MetaProperty) : Type 0 where
  pub is : IsProperty p c q property
  pub named : property.name ≡ name

-- each step's property has the name, in the class that the path so far is declared to lead to
pub data AreLoadedSteps (p : Loaded) : ValueType → List (List ℕ) → List Step → ValueType → Type 0 where
  no_steps : {T : ValueType} → AreLoadedSteps p T [] [] T
  step_on : {c : ℕ} {constant : Bool} {name : List ℕ} {names : List (List ℕ)} {s : Step} {steps : List Step}
      {property : MetaProperty} {T : ValueType}
      → HasProperty p c name s.property property → property.kind ≡ s.kind → AreLoadedSteps p s.kind names steps T
      → AreLoadedSteps p (type.Reference c constant) (name ∷ names) (s ∷ steps) T

-- the path, which is declared to lead to a value of type T
pub record IsLoadedPath (s : Site) (path : Path) (loaded : MetaPath) (T : ValueType) : Type 0 where
  pub root_type : ValueType
  pub root : IsLoadedRoot s path.root loaded.root root_type
  pub steps : AreLoadedSteps s.program root_type path.properties loaded.steps T

-- the path, which is declared to lead to a reference of class c
pub record IsLoadedObject (s : Site) (path : Path) (loaded : MetaPath) (c : ℕ) : Type 0 where
  pub constant : Bool
  pub leads : IsLoadedPath s path loaded (type.Reference c constant)

-- ---- expressions
pub data IsLoadedExpr (s : Site) : Expr Path → Expr MetaPath → Type 0 where
  literal_loaded : {e : Expr Path} {f : Expr MetaPath} {v : Value}
      → out-Expr Path e ≡ expr.Literal v → out-Expr MetaPath f ≡ expr.Literal (literal v) → IsLoadedExpr s e f
  path_loaded : {e : Expr Path} {f : Expr MetaPath} {path : Path} {found : MetaPath} {T : ValueType}
      → out-Expr Path e ≡ expr.Path path → out-Expr MetaPath f ≡ expr.Path found
      → IsLoadedPath s path found T → IsLoadedExpr s e f
  unary_loaded : {e a : Expr Path} {f b : Expr MetaPath} {op : Unary}
      → out-Expr Path e ≡ expr.Unary op a → out-Expr MetaPath f ≡ expr.Unary op b
      → IsLoadedExpr s a b → IsLoadedExpr s e f
  binary_loaded : {e a c : Expr Path} {f b d : Expr MetaPath} {op : Binary}
      → out-Expr Path e ≡ expr.Binary op a c → out-Expr MetaPath f ≡ expr.Binary op b d
      → IsLoadedExpr s a b → IsLoadedExpr s c d → IsLoadedExpr s e f

abbrev pub AreLoadedExprs : Site → List (Expr Path) → List (Expr MetaPath) → Type 0
AreLoadedExprs s es fs = AllZip (IsLoadedExpr s) es fs

-- ---- statements
-- `set`: the object's class has the property
pub record IsLoadedSet (s : Site) (path : Path) (name : List ℕ) (e : Expr Path) (found : MetaPath) (q : ℕ)
    (f : Expr MetaPath) : Type 0 where
  pub class : ℕ
  pub object : IsLoadedObject s path found class
  pub property : MetaProperty
  pub has : HasProperty s.program class name q property
  pub value : IsLoadedExpr s e f

-- `emit`: the slot's class has the signal, which isn't one that the runtime emits, with as many parameters
pub record IsLoadedEmit (s : Site) (name : List ℕ) (es : List (Expr Path)) (m : ℕ) (fs : List (Expr MetaPath))
    : Type 0 where
  pub signal : IsMethodNamed s.program s.me name (length es) m
  pub signals : signal.method.work ≡ Signal
  pub emitted : OBJECT_NAME_CHANGED < m
  pub values : AreLoadedExprs s es fs

-- `call`: the object's class has the slot or native, with as many parameters
pub record IsLoadedCall (s : Site) (path : Path) (name : List ℕ) (es : List (Expr Path)) (found : MetaPath) (m : ℕ)
    (fs : List (Expr MetaPath)) : Type 0 where
  pub class : ℕ
  pub object : IsLoadedObject s path found class
  pub slot : IsMethodNamed s.program class name (length es) m
  pub callable : slot.method.work ≢ Signal
  pub values : AreLoadedExprs s es fs

-- `connect` and `disconnect`: the sender's class has the signal, the receiver's the method
pub record AreLoadedEnds (s : Site) (ends : Endpoints Path) (found : MetaEndpoints) : Type 0 where
  pub from_class : ℕ
  pub sender : IsLoadedObject s ends.sender found.sender from_class
  pub to_class : ℕ
  pub receiver : IsLoadedObject s ends.receiver found.receiver to_class
  pub connects : Connects s.program from_class ends.signal found.signal to_class ends.method found.method

mutual
  -- one statement, by its parts
  pub data IsLoadedStatement (s : Site) : stmt.Stmt-F Stmt → statement.Statement-F Statement → Type 0 where
    set_loaded : {path : Path} {name : List ℕ} {e : Expr Path} {found : MetaPath} {q : ℕ} {f : Expr MetaPath}
        → IsLoadedSet s path name e found q f → IsLoadedStatement s (stmt.Set path name e) (statement.Set found q f)
    emit_loaded : {name : List ℕ} {es : List (Expr Path)} {m : ℕ} {fs : List (Expr MetaPath)}
        → IsLoadedEmit s name es m fs → IsLoadedStatement s (stmt.Emit name es) (statement.Emit m fs)
    call_loaded : {path : Path} {name : List ℕ} {es : List (Expr Path)} {found : MetaPath} {m : ℕ}
        {fs : List (Expr MetaPath)}
        → IsLoadedCall s path name es found m fs
        → IsLoadedStatement s (stmt.Call path name es) (statement.Call found m fs)
    if_loaded : {e : Expr Path} {then_x else_x : List Stmt} {f : Expr MetaPath} {then_y else_y : List Statement}
        → IsLoadedExpr s e f → AreLoadedStatements s then_x then_y → AreLoadedStatements s else_x else_y
        → IsLoadedStatement s (stmt.If e then_x else_x) (statement.If f then_y else_y)
    connect_loaded : {ends : Endpoints Path} {type : ConnectionType} {found : MetaEndpoints}
        → AreLoadedEnds s ends found → IsLoadedStatement s (stmt.Connect ends type) (statement.Connect found type)
    disconnect_loaded : {ends : Endpoints Path} {found : MetaEndpoints}
        → AreLoadedEnds s ends found → IsLoadedStatement s (stmt.Disconnect ends) (statement.Disconnect found)
    delete_loaded : {path : Path} {found : MetaPath} {class : ℕ}
        → IsLoadedObject s path found class → IsLoadedStatement s (stmt.Delete path) (statement.Delete found)
    later_loaded : {path : Path} {found : MetaPath} {class : ℕ}
        → IsLoadedObject s path found class → IsLoadedStatement s (stmt.Later path) (statement.Later found)
    -- nothing but a `set` is in a group
    group_loaded : {sets : List Stmt} {found : List Statement}
        → AreLoadedStatements s sets found → AreSets found
        → IsLoadedStatement s (stmt.Group sets) (statement.Group found)

  -- the statements of a block, in their order
  pub data AreLoadedStatements (s : Site) : List Stmt → List Statement → Type 0 where
    none_loaded : AreLoadedStatements s [] []
    next_loaded : {x : Stmt} {xs : List Stmt} {y : Statement} {ys : List Statement}
        → IsLoadedStatement s (out-Stmt x) (out-Statement y) → AreLoadedStatements s xs ys
        → AreLoadedStatements s (x ∷ xs) (y ∷ ys)
