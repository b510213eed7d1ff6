-- What rules never take back (docs/machine.md, "What every run keeps").
use Rattle.std.specs.Prelude.{◌≡◌, ◌⊎◌, ℕ, ◌+◌, ◌≤◌, List, [], ◌++◌, length, Some, None}
use Rattle.std.specs.List.{AllByRecursion}
use Rattle.meta_model.specs.Loaded.{Loaded}
use Rattle.meta_model.specs.Sound.{IsSound}
use Rattle.object_tree.specs.declared.object.Object.{Object}
use Rattle.object_tree.specs.Objects.{class_of}
use Rattle.connections.specs.declared.connection.Connection.{Connection}
use Rattle.trace_entries.specs.declared.entry.Entry.{Entry}
use Rattle.machine_state.specs.declared.world.World.{World}
use Rattle.machine_state.specs.State.{State}
use Rattle.machine_state.specs.Worlds.{at}
use Rattle.machine_rules.specs.code.Sound.{Joined, AreHoused}
use Rattle.machine_rules.specs.There.{IsDead}

-- a living object stays of its class, or dies; dead ones stay dead, no number of an object goes, and others may come
pub record StayThere (old new : List Object) : Type 0 where
  pub living : (o class : ℕ) → class_of old o ≡ Some class → (class_of new o ≡ Some class) ⊎ IsDead new o
  pub dead : (o : ℕ) → IsDead old o → IsDead new o
  pub created : length old ≤ length new

-- every connection joins what is there
abbrev pub AllJoined : Loaded → List Object → List Connection → Type 0
AllJoined p objects connections = AllByRecursion (Joined p objects) connections

-- what was written down stays, and more may come after it
pub record Grows (old new : List Entry) : Type 0 where
  pub more : List Entry
  pub is : new ≡ old ++ more

-- From s, with so many rules left, to t, with so many left: objects keep their classes and stay dead, in a sound program
-- connections go on to join what is there, and objects to live in loops that are there; the count of connections doesn't
-- fall, a number of a connection or of an item is paid with a rule, no event is taken, no turn begins, and nothing that was
-- written down goes.
pub record Keeps (p : Loaded) (s : State) (left : ℕ) (t : State) (after : ℕ) : Type 0 where
  pub objects : StayThere s.objects t.objects
  pub joined : IsSound p → AllJoined p s.objects s.connected.connections → AllJoined p t.objects t.connected.connections
  pub connected : s.connected.last ≤ t.connected.last
  pub paid : t.connected.last + after ≤ s.connected.last + left
  pub housed : AreHoused s.objects s.queues.loops → AreHoused t.objects t.queues.loops
  pub posted : t.queues.posted + after ≤ s.queues.posted + left
  pub no_turn : s.turn ≡ None → t.turn ≡ None
  pub events : t.events ≡ s.events
  pub fewer : after ≤ left
  pub grows : Grows s.trace t.trace

-- All this is kept from one world to another, whatever is going on in them.
abbrev pub KeepsWorld : Loaded → World → World → Type 0
KeepsWorld p w v = Keeps p (at w []) w.left (at v []) v.left
