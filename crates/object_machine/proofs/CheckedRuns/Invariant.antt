-- What a run of a checked program keeps (docs/certificate.md, "The check"): each activation but an update is at a node,
-- and rank and destroy set fall from each to the one above it; connections are covered by wires, bindings by sites, adoptions by `owns`.
use Rattle.std.specs.{Prelude.{◌≡◌, ◌≢◌, ℕ, ◌<◌, ◌≤◌, List, [], ◌∷◌, length, Option, None, Some, slice_get}, List.{AllByRecursion, AllZip}}
use Rattle.basic_types.specs.declared.value.Value.{Value}
use Rattle.meta_model.specs.{declared.effects.MetaEffects.{MetaEffects}, declared.object.MetaMethod.{MetaMethod}, declared.object.MetaWire.{MetaWire}, declared.object.Statement.{Statement}, declared.object.Work.{Work}, declared.object.Work.TheVariants.{Signal, Slot, Native}, declared.site.MetaSite.{MetaSite}, Loaded.{Loaded}, Members.{IsMethod, Below, IsIn, Owns}}
use Rattle.native_slots.specs.declared.action.Action.{Action}
use Rattle.object_tree.specs.{declared.object.Object.{Object}, Family.{children_of}, Objects.{class_of}, Typed.{ReadAs}}
use Rattle.connections.specs.declared.connection.Connection.{Connection}
use Rattle.binding_graph.specs.{declared.binding.Binding.{Binding}, declared.place.Place.{Place}}
use Rattle.effect_scan.specs.{declared.node.Node.{Node}, declared.node.Member.TheVariants.{Method, Property, Destruction}, Nodes.{node, named}, Effects.{Occurs}, Destroying.{Closure}}
use Rattle.certificate_lang.specs.{declared.certificate.Line.{Line}, declared.certificate.Certificate.{Certificate}}
use Rattle.rank_check.specs.Valid.{IsLineOf, Destroys}
use Rattle.machine_state.specs.State.{Step, Run, Ask, Act, State, Activation, Body, Emit, Update, Destroy}

-- ---- ranks and destroy sets

-- the upper line's rank is lower, and its destroy set lies in the lower one's
pub record Falls (p : Loaded) (lower upper : Line) : Type 0 where
  pub rank : upper.rank < lower.rank
  pub set : (d : ℕ) → ¬ Destroys p lower d → ¬ Destroys p upper d

-- .. its rank isn't higher
pub record IsNoHigher (p : Loaded) (lower upper : Line) : Type 0 where
  pub rank : upper.rank ≤ lower.rank
  pub set : (d : ℕ) → ¬ Destroys p lower d → ¬ Destroys p upper d

-- a rank below the bound, and a destroy set, as a line would have them
pub record Level (certificate : Certificate) : Type 0 where
  pub line : Line
  pub low : line.rank < certificate.bound

-- a node with its line
pub record NodeLevel (p : Loaded) (certificate : Certificate) : Type 0 where
  pub node : Node
  pub line : Line
  pub is : IsLineOf p certificate node line

-- the level is that of a node of which this stands
pub record AtNode (p : Loaded) (certificate : Certificate) (level : Level certificate) (P : Node → Type 0) : Type 0 where
  pub node : Node
  pub is : IsLineOf p certificate node level.line
  pub stands : P node

-- it falls to this line from what is on top, if anything is
abbrev pub FallsTo : (p : Loaded) {certificate : Certificate} → List (Level certificate) → Line → Type 0
FallsTo p [] line = Unit {0}
FallsTo p (level ∷ levels) line = Falls p level.line line

-- ---- where activations are. `classes` are the classes of all objects that were ever created.

-- a step is left of what is done when the method is called
pub data IsStepOf (work : Work) : Step → Type 0 where
  runs : {body : List Statement} {s : Statement} → work ≡ Slot body → Occurs s body → IsStepOf work (Run s)
  asks : {effects : MetaEffects} → work ≡ Native effects → IsStepOf work (Ask effects)
  acts : {effects : MetaEffects} {action : Action} → work ≡ Native effects → IsStepOf work (Act effects action)

-- a body of a living object is at the method of its class; its arguments are the method's
pub record BodyStands (p : Loaded) (objects : List Object) (o m : ℕ) (arguments : List Value) (left : List Step) (x : Node) : Type 0 where
  pub class : ℕ
  pub lives : class_of objects o ≡ Some class
  pub at : x ≡ node class (Method m)
  pub method : MetaMethod
  pub is : IsMethod p class m method
  pub bodied : method.work ≢ Signal
  pub typed : ReadAs p objects arguments method.types
  pub steps : AllByRecursion (IsStepOf method.work) left

-- .. so it does on top of a stack, if it is there
abbrev pub TopStands : Loaded → List Object → List Activation → Type 0
TopStands p objects [] = Unit {0}
TopStands p objects (Body o m arguments left ∷ below) = (x : Node) × BodyStands p objects o m arguments left x
TopStands p objects (Emit o g arguments used last ∷ below) = Unit {0}
TopStands p objects (Update places ∷ below) = Unit {0}
TopStands p objects (Destroy next torn ∷ below) = Unit {0}

-- an emission, at the signal that its spelling names; the object may have died
pub record EmitStands (classes : ℕ → Option ℕ) (o g : ℕ) (x : Node) : Type 0 where
  pub class : ℕ
  pub is : classes o ≡ Some class
  pub at : x ≡ node class (Method (named g))

-- a property that is still to be notified is no higher than what was written
pub record IsFollower (p : Loaded) (certificate : Certificate) (classes : ℕ → Option ℕ) (written : Line) (place : Place) : Type 0 where
  pub class : ℕ
  pub is : classes place.object ≡ Some class
  pub no_higher : (line : Line) → IsLineOf p certificate (node class (Property place.property)) line → IsNoHigher p written line

-- an object may be destroyed with one of class c
pub record IsTorn (p : Loaded) (classes : ℕ → Option ℕ) (c o : ℕ) : Type 0 where
  pub class : ℕ
  pub is : classes o ≡ Some class
  pub closed : Closure p c class

-- .. if there is one
abbrev pub IsTornIf : Loaded → (ℕ → Option ℕ) → ℕ → Option ℕ → Type 0
IsTornIf p classes c None = Unit {0}
IsTornIf p classes c (Some o) = IsTorn p classes c o

-- a deletion is at the destruction of the class of the object that was deleted first
pub record DestroyStands (p : Loaded) (classes : ℕ → Option ℕ) (next : Option ℕ) (torn : List ℕ) (x : Node) : Type 0 where
  pub class : ℕ
  pub at : x ≡ node class Destruction
  pub coming : IsTornIf p classes class next
  pub gone : AllByRecursion (IsTorn p classes class) torn

-- .. each at a level; an update at one that is no lower than the properties that it is to notify
abbrev pub Stands : (p : Loaded) {certificate : Certificate} → (ℕ → Option ℕ) → List Object → Activation → Level certificate → Type 0
Stands p {certificate} classes objects (Body o m arguments left) level = AtNode p certificate level (BodyStands p objects o m arguments left)
Stands p {certificate} classes objects (Emit o g arguments used last) level = AtNode p certificate level (EmitStands classes o g)
Stands p {certificate} classes objects (Update places) level = AllByRecursion (IsFollower p certificate classes level.line) places
Stands p {certificate} classes objects (Destroy next torn) level = AtNode p certificate level (DestroyStands p classes next torn)

-- the activations of a stack are at these levels, which fall from each to the one above it
abbrev pub Stacked : (p : Loaded) {certificate : Certificate} → (ℕ → Option ℕ) → List Object → List Activation → List (Level certificate) → Type 0
Stacked p classes objects [] [] = Unit {0}
Stacked p classes objects [] (level ∷ levels) = ⊥
Stacked p classes objects (a ∷ stack) [] = ⊥
Stacked p classes objects (a ∷ stack) (level ∷ levels) = Stands p classes objects a level × FallsTo p levels level.line × Stacked p classes objects stack levels

-- ---- the world

-- they are those of the living, each object that was created has one, and no number that is not given yet
pub record AreClasses (p : Loaded) (classes : ℕ → Option ℕ) (objects : List Object) : Type 0 where
  pub lives : (o class : ℕ) → class_of objects o ≡ Some class → classes o ≡ Some class
  pub each : (o : ℕ) → o < length objects → (class : ℕ) × (classes o ≡ Some class) × (class < length p.classes)
  pub inside : (o class : ℕ) → classes o ≡ Some class → o < length objects

-- `owns` covers that an object is the parent of another
pub record IsOwned (p : Loaded) (classes : ℕ → Option ℕ) (parent child : ℕ) : Type 0 where
  pub above : ℕ
  pub is_above : classes parent ≡ Some above
  pub below : ℕ
  pub is_below : classes child ≡ Some below
  pub owns : Owns p above below

abbrev pub AreOwned : Loaded → (ℕ → Option ℕ) → List Object → Type 0
AreOwned p classes objects = (parent : ℕ) → AllByRecursion (IsOwned p classes parent) (children_of objects parent)

-- a wire covers the connection
pub record IsWired (p : Loaded) (classes : ℕ → Option ℕ) (c : Connection) : Type 0 where
  pub wire : MetaWire
  pub declared : IsIn wire p.wires
  pub sender : ℕ
  pub is_sender : classes c.sender ≡ Some sender
  pub above_sender : Below p sender wire.sender
  pub signal : c.signal ≡ named wire.signal
  pub receiver : ℕ
  pub is_receiver : classes c.receiver ≡ Some receiver
  pub above_receiver : Below p receiver wire.receiver
  pub method : c.method ≡ wire.method
  pub kind : c.kind ≡ wire.kind

-- an object is of the class or of one below it
pub record IsOf (p : Loaded) (classes : ℕ → Option ℕ) (o formal : ℕ) : Type 0 where
  pub class : ℕ
  pub is : classes o ≡ Some class
  pub below : Below p class formal

-- a site covers the binding
pub record IsSited (p : Loaded) (classes : ℕ → Option ℕ) (b : Binding) : Type 0 where
  pub site : MetaSite
  pub declared : slice_get p.sites b.site ≡ Some site
  pub formula : b.formula ≡ site.formula
  pub property : b.target.property ≡ site.property
  pub target : IsOf p classes b.target.object site.class
  pub sources : AllZip (IsOf p classes) b.sources site.formals

-- the world but for the stack
pub record IsCovered (p : Loaded) (classes : ℕ → Option ℕ) (objects : List Object) (connections : List Connection) (bindings : List Binding) : Type 0 where
  pub known : AreClasses p classes objects
  pub owned : AreOwned p classes objects
  pub wired : AllByRecursion (IsWired p classes) connections
  pub sited : AllByRecursion (IsSited p classes) bindings

-- what a run keeps
pub record Holds (p : Loaded) (certificate : Certificate) (classes : ℕ → Option ℕ) (s : State) : Type 0 where
  pub covered : IsCovered p classes s.objects s.connected.connections s.bindings
  pub levels : List (Level certificate)
  pub stacked : Stacked p classes s.objects s.stack levels
