-- What every machine keeps: properties have values of their types, bound ones those of their expressions, connections join
-- methods that their objects have or had, what a connection calls takes the first arguments of its signal, each object
-- lives in a loop that is there, and what waits in the loops may begin (docs/machine.md, "What every run keeps").
use Rattle.std.specs.{Prelude.{◌≡◌, ℕ, ◌+◌, ◌^◌, ◌<◌, List, ◌++◌, length, take, Some, ◌≢◌, ◌⊎◌}, List.{AllByRecursion}}
use Rattle.meta_model.specs.{declared.object.MetaMethod.{MetaMethod}, declared.object.ValueType.{ValueType}, Loaded.{Loaded}, Members.{IsMethod}, declared.qobject.TheConstants.{DESTROYED}, Sound.{IsSound}}
use Rattle.connections.specs.declared.connection.Connection.{Connection}
use Rattle.event_loops.specs.{declared.item.Item.{Item}, declared.item.Item.TheVariants.{Call, Deletion}, Queues.{Loop}}
use Rattle.machine_state.specs.declared.world.World.{World}
use Rattle.object_tree.specs.{declared.life.Life.{Life}, declared.object.Object.{Object}, Objects.{Lives, home_of}, Typed.{ReadAs}}
use Rattle.binding_graph.specs.declared.binding.Binding.{Binding}
use Rattle.prop_bindings.specs.Fits.{Agree}
use Rattle.basic_types.specs.declared.value.Value.{Value}
use Rattle.machine_rules.specs.{There.{IsMember, IsDead}, Good.{destroyed_types}}

-- ---- methods of objects that may be dead by now

-- a method of a class that declares these types
pub record IsDeclared (p : Loaded) (class m : ℕ) (types : List ValueType) : Type 0 where
  pub method : MetaMethod
  pub is : IsMethod p class m method
  pub takes : method.types ≡ types

-- an object has this number, and as long as it lives, its method m declares these types
pub record Receives (p : Loaded) (objects : List Object) (o m : ℕ) (types : List ValueType) : Type 0 where
  pub created : o < length objects
  pub living : (x : Object) (life : Life) → Lives objects o x life → IsDeclared p life.class m types

-- an object has this number, and its signal g declares these types; those of `destroyed(QObject*)` also when it is dead
pub record Sends (p : Loaded) (objects : List Object) (o g : ℕ) (types : List ValueType) : Type 0 where
  pub takes : Receives p objects o g types
  pub last : g ≡ DESTROYED → types ≡ destroyed_types

-- a method of an object takes these arguments, as they read
pub record ReceivesThese (p : Loaded) (objects : List Object) (o m : ℕ) (arguments : List Value) : Type 0 where
  pub types : List ValueType
  pub takes : Receives p objects o m types
  pub typed : ReadAs p objects arguments types

-- a signal of an object is emitted with these arguments, as they read
pub record SendsThese (p : Loaded) (objects : List Object) (o g : ℕ) (arguments : List Value) : Type 0 where
  pub types : List ValueType
  pub sends : Sends p objects o g types
  pub typed : ReadAs p objects arguments types

-- ---- emissions of objects that may be dead by now

-- no connection leads from the object
abbrev pub IsUnheard : ℕ → List Connection → Type 0
IsUnheard o connections = AllByRecursion (λ (c : Connection). c.sender ≢ o) connections

-- the signal is `destroyed`, or no connection leads from the object any more once it is dead
abbrev pub MayBeHeard : List Object → List Connection → ℕ → ℕ → Type 0
MayBeHeard objects connections o g = (g ≡ DESTROYED) ⊎ (IsDead objects o → IsUnheard o connections)

-- in a world, the signal is `destroyed`, or no connection leads from the object any more once it is dead
abbrev pub MayBeHeardIn : World → ℕ → ℕ → Type 0
MayBeHeardIn w o g = MayBeHeard w.store.tree w.store.connections.connections o g

-- ---- connections and items

-- a connection joins a signal to a method that takes the first of its arguments
pub record Joined (p : Loaded) (objects : List Object) (c : Connection) : Type 0 where
  pub types : List ValueType
  pub rest : List ValueType
  pub sends : Sends p objects c.sender c.signal (types ++ rest)
  pub receives : Receives p objects c.receiver c.method types

-- the connection's receiver lives, and its method takes the first of these arguments
pub record IsDelivered (p : Loaded) (objects : List Object) (c : Connection) (arguments : List Value) : Type 0 where
  pub receiver : Object
  pub method : MetaMethod
  pub is : IsMember p objects c.receiver c.method receiver method
  pub typed : ReadAs p objects (take (length method.types) arguments) method.types

-- ---- the world

-- the loop `main` is there, and each living object lives in an event loop that is there
pub record AreHoused (objects : List Object) (loops : List Loop) : Type 0 where
  pub has_main : 0 < length loops
  pub each : (o home : ℕ) → home_of objects o ≡ Some home → home < length loops

-- what waits is a call of a method with arguments that fit, or the deletion of an object
abbrev pub Waits : Loaded → List Object → Item → Type 0
Waits p objects (Call o m arguments) = ReceivesThese p objects o m arguments
Waits p objects (Deletion o) = o < length objects

-- what waits in any of these loops is such a call or such a deletion
abbrev pub AllWait : Loaded → List Object → List Loop → Type 0
AllWait p objects loops = AllByRecursion (λ (l : Loop). AllByRecursion (λ q. Waits p objects q.item) l.items) loops

pub record Sound (p : Loaded) (objects : List Object) (bindings : List Binding) (connections : List Connection)
    (loops : List Loop) : Type 0 where
  pub agree : Agree p objects bindings
  pub joined : AllByRecursion (Joined p objects) connections
  pub housed : AreHoused objects loops
  pub waiting : AllWait p objects loops

-- properties and bindings of a world agree
abbrev pub AgreeIn : Loaded → World → Type 0
AgreeIn p w = Agree p w.store.tree w.store.bindings

-- a world is sound where the program is, and with each rule that is left a connection and an item may still be numbered
pub record IsSoundWorld (p : Loaded) (w : World) : Type 0 where
  pub program : IsSound p
  pub is : Sound p w.store.tree w.store.bindings w.store.connections.connections w.store.loops.loops
  pub numbers : w.store.connections.last + w.left < 2 ^ 63
  pub room : w.store.loops.posted + w.left < 2 ^ 63
