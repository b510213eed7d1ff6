-- The machine's state (docs/machine.md, "The state").
use Rattle.std.specs.Prelude.{◌≡◌, ℕ, List, [], Option, None}
use Rattle.basic_types.specs.declared.value.Value.{Value}
use Rattle.meta_model.specs.declared.object.Statement.{Statement}
use Rattle.meta_model.specs.declared.effects.MetaEffects.{MetaEffects}
use Rattle.native_slots.specs.declared.action.Action.{Action}
use Rattle.object_tree.specs.declared.object.Object.{Object}
use Rattle.connections.specs.Connected.{Connected}
use Rattle.event_loops.specs.Queues.{Queues}
use Rattle.binding_graph.specs.declared.binding.Binding.{Binding}
use Rattle.binding_graph.specs.declared.place.Place.{Place}
use Rattle.trace_entries.specs.declared.entry.Entry.{Entry}
use Rattle.machine_state.specs.declared.turn.Turn.{Turn}

-- One thing that is left of a body to be done.
pub data Step : Type 0 where
  -- a statement is carried out
  Run : (statement : Statement) → Step
  -- the answer of a native with these effects is taken: a list of actions
  Ask : (effects : MetaEffects) → Step
  -- an action of such an answer is carried out
  Act : (effects : MetaEffects) (action : Action) → Step

-- What is going on. Objects are named by their creation number, methods by their number in the object's class. A deletion
-- ends an object and then its children, one by one (Qt 6, "Object Trees & Ownership").
pub data Activation : Type 0 where
  -- a body of a slot or a native, with what is left of it
  Body : (object method : ℕ) (arguments : List Value) (left : List Step) → Activation
  -- an emission, with the last connection used and the last one made when it began
  Emit : (object signal : ℕ) (arguments : List Value) (used last : ℕ) → Activation
  -- the notifications that follow a write or a bind, with the properties that are still to be notified
  Update : (notify : List Place) → Activation
  -- a deletion, with the object that is deleted next or whose `destroyed` goes on, if there is one, and the objects that
  -- are torn down: they are dead, and their children are deleted; the latest first
  Destroy : (next : Option ℕ) (torn : List ℕ) → Activation

pub record State : Type 0 where
  -- in the order of creation
  pub objects : List Object
  -- the connections in the order in which they were made, and how many were ever numbered
  pub connected : Connected
  -- the event loops in the order in which they were added, with the items that wait in them, and how many items were ever
  -- numbered
  pub queues : Queues
  -- the bindings in the order in which they were installed
  pub bindings : List Binding
  -- the turn of an event loop that goes on, if one does
  pub turn : Option Turn
  -- the latest first
  pub stack : List Activation
  pub trace : List Entry
  -- how many events were taken
  pub events : ℕ

-- nothing is going on: only then an event is taken
pub record IsIdle (s : State) : Type 0 where
  pub empty : s.stack ≡ []
  pub no_turn : s.turn ≡ None
