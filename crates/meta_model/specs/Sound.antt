-- What every loaded program keeps: class 0 is `QObject`, which is above all others; numbers are those of members, and no
-- two members are alike; a body, and a native's effects, speak of objects of the class that declares them; literals hold no
-- object (docs/machine.md, "Loading").
use Rattle.std.specs.{Prelude.{◌≡◌, ◌≢◌, All, ℕ, ◌<◌, ◌⊎◌, Bool, false, List, [], ◌∷◌, ◌++◌, length, None, Some, slice_get}, List.{AllZip}}
use Rattle.basic_types.specs.declared.value.Value.{Value}
use Rattle.syntax_trees.specs.{declared.syntax.Unary.{Unary}, declared.syntax.Binary.{Binary}, declared.syntax.Expr.{Expr}, declared.syntax.Expr.TheViews.{out-Expr}, declared.connection.ConnectionType.{ConnectionType}}
use Rattle.syntax_trees.specs.declared.syntax.Expr.TheOpen as expr
use Rattle.meta_model.specs.{declared.object.ValueType.{ValueType}, declared.object.MetaRoot.{MetaRoot}, declared.object.MetaRoot.TheVariants.{This, Parameter}, declared.object.Step.{Step}, declared.object.MetaPath.{MetaPath}, declared.object.MetaEndpoints.{MetaEndpoints}, declared.object.Statement.{Statement}, declared.object.Statement.TheViews.{out-Statement}, declared.object.Work.{Work}, declared.object.Work.TheVariants.{Signal, Slot, Native}, declared.effects.MetaEffects.{MetaEffects}, declared.object.MetaObject.{MetaObject}, declared.object.MetaMethod.{MetaMethod}, declared.object.MetaProperty.{MetaProperty}, declared.object.MetaWire.{MetaWire}, declared.object.MetaOwns.{MetaOwns}, declared.site.SourceProperty.{SourceProperty}, declared.site.MetaSite.{MetaSite}, Loaded.{Loaded}, declared.qobject.TheConstants.{QOBJECT, OBJECT_NAME_CHANGED}, Members.{IsClass, IsMethod, IsProperty, Below, Declares, IsIn}, Literals.{HoldsNoObject}, Root.{root_class, BeginsAsRoot}, Sites.{paths_in, literals_in}}
use Rattle.meta_model.specs.declared.object.ValueType.TheVariants as type
use Rattle.meta_model.specs.declared.object.Statement.TheOpen as statement
pub use Rattle.meta_model.specs.Kinds.{IsKind}
use Rattle.name_indexes.specs.Twice.{StandsTwice}

-- ---- paths, where `this` is declared to be of class `me`, and a body's parameters have `types`
pub data HasRoot (me : ℕ) (types : List ValueType) : MetaRoot → ValueType → Type 0 where
  this_has : HasRoot me types This (type.Reference me false)
  parameter_has : {k : ℕ} {T : ValueType} → slice_get types k ≡ Some T → HasRoot me types (Parameter k) T

-- each step's property is there, of the step's type, in the class that the path so far is declared to lead to
pub data Leads (p : Loaded) : ValueType → List Step → ValueType → Type 0 where
  here : {T : ValueType} → Leads p T [] T
  on : {c : ℕ} {constant : Bool} {s : Step} {steps : List Step} {property : MetaProperty} {T : ValueType}
      → IsProperty p c s.property property → property.kind ≡ s.kind → Leads p s.kind steps T
      → Leads p (type.Reference c constant) (s ∷ steps) T

-- the path's names are there, and it is declared to lead to a value of type T
pub record LeadsTo (p : Loaded) (me : ℕ) (types : List ValueType) (path : MetaPath) (T : ValueType) : Type 0 where
  pub root_type : ValueType
  pub root : HasRoot me types path.root root_type
  pub steps : Leads p root_type path.steps T

-- the path's names are there, and it is declared to lead to a reference of class c
pub record LeadsToClass (p : Loaded) (me : ℕ) (types : List ValueType) (path : MetaPath) (c : ℕ) : Type 0 where
  pub constant : Bool
  pub leads : LeadsTo p me types path (type.Reference c constant)

-- ---- bodies
-- each path of the expression leads somewhere, and no literal holds an object
pub data IsSoundExpr (p : Loaded) (me : ℕ) (types : List ValueType) : Expr MetaPath → Type 0 where
  literal_sound : {e : Expr MetaPath} {v : Value} → out-Expr MetaPath e ≡ expr.Literal v → HoldsNoObject v → IsSoundExpr p me types e
  path_sound : {e : Expr MetaPath} {path : MetaPath} {T : ValueType} → out-Expr MetaPath e ≡ expr.Path path → LeadsTo p me types path T → IsSoundExpr p me types e
  unary_sound : {e : Expr MetaPath} {op : Unary} {a : Expr MetaPath} → out-Expr MetaPath e ≡ expr.Unary op a → IsSoundExpr p me types a → IsSoundExpr p me types e
  binary_sound : {e : Expr MetaPath} {op : Binary} {a b : Expr MetaPath} → out-Expr MetaPath e ≡ expr.Binary op a b → IsSoundExpr p me types a → IsSoundExpr p me types b → IsSoundExpr p me types e

abbrev pub AreSoundExprs : Loaded → ℕ → List ValueType → List (Expr MetaPath) → Type 0
AreSoundExprs p me types [] = Unit {0}
AreSoundExprs p me types (e ∷ es) = IsSoundExpr p me types e × AreSoundExprs p me types es

-- `set`: the object's class has the property
pub record IsSoundSet (p : Loaded) (me : ℕ) (types : List ValueType) (path : MetaPath) (q : ℕ) (e : Expr MetaPath) : Type 0 where
  pub class : ℕ
  pub leads : LeadsToClass p me types path class
  pub property : MetaProperty
  pub is : IsProperty p class q property
  pub value : IsSoundExpr p me types e

-- `emit`: the body's class has the signal, which isn't one that the runtime emits, with as many parameters
pub record IsSoundEmit (p : Loaded) (me : ℕ) (types : List ValueType) (m : ℕ) (es : List (Expr MetaPath)) : Type 0 where
  pub signal : MetaMethod
  pub is : IsMethod p me m signal
  pub signals : signal.work ≡ Signal
  pub emitted : OBJECT_NAME_CHANGED < m
  pub counted : length signal.types ≡ length es
  pub values : AreSoundExprs p me types es

-- `call`: the object's class has the slot or native, with as many parameters
pub record IsSoundCall (p : Loaded) (me : ℕ) (types : List ValueType) (path : MetaPath) (m : ℕ) (es : List (Expr MetaPath)) : Type 0 where
  pub class : ℕ
  pub leads : LeadsToClass p me types path class
  pub slot : MetaMethod
  pub is : IsMethod p class m slot
  pub callable : slot.work ≢ Signal
  pub counted : length slot.types ≡ length es
  pub values : AreSoundExprs p me types es

-- signal g of class c can be connected to method m of class d, which isn't one that the runtime emits
pub record AreConnectable (p : Loaded) (c g d m : ℕ) : Type 0 where
  pub signal : MetaMethod
  pub from : IsMethod p c g signal
  pub signals : signal.work ≡ Signal
  pub method : MetaMethod
  pub to : IsMethod p d m method
  pub called : OBJECT_NAME_CHANGED < m

-- `connect` and `disconnect`: the sender's class has the signal, the receiver's the method
pub record AreSoundEnds (p : Loaded) (me : ℕ) (types : List ValueType) (ends : MetaEndpoints) : Type 0 where
  pub from_class : ℕ
  pub sender : LeadsToClass p me types ends.sender from_class
  pub to_class : ℕ
  pub receiver : LeadsToClass p me types ends.receiver to_class
  pub connects : AreConnectable p from_class ends.signal to_class ends.method

-- the statement is a `set`: nothing else is in a group
pub record IsSet (s : Statement) : Type 0 where
  pub path : MetaPath
  pub property : ℕ
  pub value : Expr MetaPath
  pub is : out-Statement s ≡ statement.Set path property value

-- the statements of a group: one `set` or more
abbrev pub AreSets : List Statement → Type 0
AreSets statements = (statements ≢ []) × All IsSet statements

mutual
  -- the members and paths of one statement, by its parts, are there
  pub data IsSoundStatement (p : Loaded) (me : ℕ) (types : List ValueType) : statement.Statement-F Statement → Type 0 where
    set_sound : {path : MetaPath} {q : ℕ} {e : Expr MetaPath}
        → IsSoundSet p me types path q e → IsSoundStatement p me types (statement.Set path q e)
    emit_sound : {m : ℕ} {es : List (Expr MetaPath)}
        → IsSoundEmit p me types m es → IsSoundStatement p me types (statement.Emit m es)
    call_sound : {path : MetaPath} {m : ℕ} {es : List (Expr MetaPath)}
        → IsSoundCall p me types path m es → IsSoundStatement p me types (statement.Call path m es)
    if_sound : {e : Expr MetaPath} {chosen other : List Statement}
        → IsSoundExpr p me types e → AreSound p me types chosen → AreSound p me types other
        → IsSoundStatement p me types (statement.If e chosen other)
    connect_sound : {ends : MetaEndpoints} {type : ConnectionType}
        → AreSoundEnds p me types ends → IsSoundStatement p me types (statement.Connect ends type)
    disconnect_sound : {ends : MetaEndpoints}
        → AreSoundEnds p me types ends → IsSoundStatement p me types (statement.Disconnect ends)
    delete_sound : {path : MetaPath} {class : ℕ}
        → LeadsToClass p me types path class → IsSoundStatement p me types (statement.Delete path)
    later_sound : {path : MetaPath} {class : ℕ}
        → LeadsToClass p me types path class → IsSoundStatement p me types (statement.Later path)
    group_sound : {sets : List Statement}
        → AreSound p me types sets → AreSets sets → IsSoundStatement p me types (statement.Group sets)

  -- the members and paths of the statements of a block are there
  pub data AreSound (p : Loaded) (me : ℕ) (types : List ValueType) : List Statement → Type 0 where
    none_sound : AreSound p me types []
    next_sound : {s : Statement} {rest : List Statement}
        → IsSoundStatement p me types (out-Statement s) → AreSound p me types rest → AreSound p me types (s ∷ rest)

-- the body of method m of class c speaks of objects of the class that declares the method, which is c or above it
pub record IsSoundBody (p : Loaded) (c m : ℕ) (types : List ValueType) (body : List Statement) : Type 0 where
  pub declaring : ℕ
  pub below : Below p c declaring
  pub declares : Declares p declaring m
  pub sound : AreSound p declaring types body

-- ---- natives
-- no reference
abbrev pub IsPlain : ValueType → Type 0
IsPlain kind = (class : ℕ) (constant : Bool) → kind ≢ type.Reference class constant

-- property q of class c is there, and is of a value type
pub record IsPlainProperty (p : Loaded) (c q : ℕ) : Type 0 where
  pub property : MetaProperty
  pub is : IsProperty p c q property
  pub plain : IsPlain property.kind

-- method m of class c is there, and is a signal of values that the runtime doesn't emit by itself
pub record IsPlainSignal (p : Loaded) (c m : ℕ) : Type 0 where
  pub signal : MetaMethod
  pub is : IsMethod p c m signal
  pub signals : signal.work ≡ Signal
  pub emitted : OBJECT_NAME_CHANGED < m
  pub plain : All IsPlain signal.types

-- no number appears twice in the list
abbrev pub AreOnce : List ℕ → Type 0
AreOnce numbers = ¬ StandsTwice (λ (a b : ℕ). a ≡ b) numbers

-- the effects' numbers are those of members of class c, each once in its list, of value types
pub record AreSoundEffects (p : Loaded) (c : ℕ) (effects : MetaEffects) : Type 0 where
  pub reads : All (IsPlainProperty p c) effects.reads
  pub reads_once : AreOnce effects.reads
  pub emits : All (IsPlainSignal p c) effects.emits
  pub emits_once : AreOnce effects.emits
  pub sets : All (IsPlainProperty p c) effects.sets
  pub sets_once : AreOnce effects.sets

-- the native that is method m of class c takes values, and its effects are those of the class that declares it, which is c
-- or above it
pub record IsSoundNative (p : Loaded) (c m : ℕ) (types : List ValueType) (effects : MetaEffects) : Type 0 where
  pub declaring : ℕ
  pub below : Below p c declaring
  pub declares : Declares p declaring m
  pub plain : All IsPlain types
  pub sound : AreSoundEffects p declaring effects

abbrev pub IsSoundWork : Loaded → ℕ → ℕ → List ValueType → Work → Type 0
IsSoundWork p c m types Signal = Unit {0}
IsSoundWork p c m types (Slot body) = IsSoundBody p c m types body
IsSoundWork p c m types (Native effects) = IsSoundNative p c m types effects

-- ---- members of class c
pub record IsSoundMethod (p : Loaded) (c m : ℕ) (method : MetaMethod) : Type 0 where
  pub types : AllZip (IsKind p) method.sig.types method.types
  pub work : IsSoundWork p c m method.types method.work

-- the notify signal is a signal of the class, without parameter or with one of the property's type
pub record IsNotifier (class : MetaObject) (property : MetaProperty) (m : ℕ) : Type 0 where
  pub signal : MetaMethod
  pub is : slice_get class.methods m ≡ Some signal
  pub signals : signal.work ≡ Signal
  pub fits : (signal.types ≡ []) ⊎ (signal.types ≡ property.kind ∷ [])

pub record IsSoundProperty (p : Loaded) (class : MetaObject) (property : MetaProperty) : Type 0 where
  pub kind : IsKind p property.declared property.kind
  pub initial : HoldsNoObject property.initial
  pub notifies : (m : ℕ) → property.notify ≡ Some m → IsNotifier class property m

-- a class's members begin with those of its base, which has a smaller number
pub record IsUnder (p : Loaded) (c : ℕ) (class : MetaObject) (b : ℕ) : Type 0 where
  pub smaller : b < c
  pub base : MetaObject
  pub is : IsClass p b base
  pub own_methods : List MetaMethod
  pub methods : class.methods ≡ base.methods ++ own_methods
  pub own_properties : List MetaProperty
  pub properties : class.properties ≡ base.properties ++ own_properties

-- no two methods of the class have one name and one number of parameters
abbrev pub HasDistinctMethods : MetaObject → Type 0
HasDistinctMethods class =
    (i j : ℕ) (a b : MetaMethod) → slice_get class.methods i ≡ Some a → slice_get class.methods j ≡ Some b
    → a.sig.name ≡ b.sig.name → length a.sig.types ≡ length b.sig.types → i ≡ j

-- no two properties of the class have one name
abbrev pub HasDistinctProperties : MetaObject → Type 0
HasDistinctProperties class =
    (i j : ℕ) (a b : MetaProperty) → slice_get class.properties i ≡ Some a → slice_get class.properties j ≡ Some b
    → a.name ≡ b.name → i ≡ j

pub record IsSoundClass (p : Loaded) (c : ℕ) (class : MetaObject) : Type 0 where
  pub rooted : class.base ≡ None → c ≡ QOBJECT
  pub under : (b : ℕ) → class.base ≡ Some b → IsUnder p c class b
  pub begins : BeginsAsRoot class
  pub methods : (m : ℕ) (method : MetaMethod) → slice_get class.methods m ≡ Some method → IsSoundMethod p c m method
  pub properties : (q : ℕ) (property : MetaProperty) → slice_get class.properties q ≡ Some property → IsSoundProperty p class property
  pub distinct_methods : HasDistinctMethods class
  pub distinct_properties : HasDistinctProperties class

-- ---- the program
-- a wire leads from a signal to a method that isn't one that the runtime emits
abbrev pub IsSoundWire : Loaded → MetaWire → Type 0
IsSoundWire p wire = AreConnectable p wire.sender wire.signal wire.receiver wire.method

pub record IsSoundOwns (p : Loaded) (owns : MetaOwns) : Type 0 where
  pub parent : owns.parent < length p.classes
  pub child : owns.child < length p.classes

-- the name stands for a property of a value type, in the class that the formal source is declared with
pub record IsSoundSource (p : Loaded) (formals : List ℕ) (s : SourceProperty) : Type 0 where
  pub class : ℕ
  pub formal : slice_get formals s.source ≡ Some class
  pub is_plain : IsPlainProperty p class s.property

-- the target's property and those that the expression names are of value types, and literals hold no object
pub record IsSoundSite (p : Loaded) (site : MetaSite) : Type 0 where
  pub target : IsPlainProperty p site.class site.property
  pub formals : All (λ (c : ℕ). c < length p.classes) site.formals
  pub sources : All (IsSoundSource p site.formals) (paths_in site.formula)
  pub literals : All HoldsNoObject (literals_in site.formula)

-- no two of the sites have one name
abbrev pub AreDistinctSites : List MetaSite → Type 0
AreDistinctSites sites =
    (i j : ℕ) (a b : MetaSite) → slice_get sites i ≡ Some a → slice_get sites j ≡ Some b → a.name ≡ b.name → i ≡ j

-- no two of the classes have one name
abbrev pub AreDistinctClasses : List MetaObject → Type 0
AreDistinctClasses classes =
    (i j : ℕ) (a b : MetaObject) → slice_get classes i ≡ Some a → slice_get classes j ≡ Some b → a.name ≡ b.name → i ≡ j

pub record IsSound (p : Loaded) : Type 0 where
  pub root : IsClass p QOBJECT root_class
  pub classes : (c : ℕ) (class : MetaObject) → IsClass p c class → IsSoundClass p c class
  pub distinct_classes : AreDistinctClasses p.classes
  pub wires : (wire : MetaWire) → IsIn wire p.wires → IsSoundWire p wire
  pub owns : (owns : MetaOwns) → IsIn owns p.owns → IsSoundOwns p owns
  pub sites : (i : ℕ) (site : MetaSite) → slice_get p.sites i ≡ Some site → IsSoundSite p site
  pub distinct_sites : AreDistinctSites p.sites
