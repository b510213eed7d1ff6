-- What the world's functions do (docs/machine.md, "The state").
use Rattle.std.specs.{Prelude.{◌≡◌, ℕ, Bool, false, ◌+◌, ◌-◌, ◌<◌, List, [], ◌++◌, Option, None, Some, Result, Ok, Err}, List.{find}}
use Rattle.syntax_trees.specs.declared.connection.ConnectionType.{ConnectionType}
use Rattle.connections.specs.{declared.connection.Connection.{Connection}, Connected.{Connected}}
use Rattle.event_loops.specs.{declared.item.Item.{Item}, declared.item.Posted.{Posted}, Queues.{Queues, items_at, is_before, posted_to, taken_before, with_loop}}
use Rattle.meta_model.specs.Loaded.{Loaded}
use Rattle.object_tree.specs.{declared.life.Life.{Life}, declared.object.Object.{Object}, Objects.{life_of, change_life, blocked}}
use Rattle.binding_graph.specs.{declared.binding.Binding.{Binding}, declared.place.Place.{Place}}
use Rattle.prop_bindings.specs.{declared.plans.fault.BindFault.{BindFault}, Calls.{IsBound, IsNotBound, new_binding}, Changes.{IsWritten}}
use Rattle.delete_later.specs.{declared.store.Store.{Store}, Ending.{died_in, ended_in}, Scheduling.{scheduled_in}}
use Rattle.trace_entries.specs.{declared.entry.Entry.{Entry}, declared.fault.Answer.{Answer}, declared.fault.Fault.{Fault}, declared.fault.Fault.TheVariants.{Steps, Memory}, declared.refusal.Refusal.{Refusal}, Refusals.{refusal_number}}
use Rattle.trace_entries.specs.declared.fault.Answer.TheVariants as answer
use Rattle.machine_state.specs.{declared.changes.telling.Cause.TheVariants.{Bind}, declared.world.World.{World}, Connections.{after_use, newly_joined, parted}, Accepting.{accepted, refused, with_entries}, declared.endpoints.Endpoints.{Endpoints}, State.{State}, Telling.{AreTold, Assigning, IsAssigningTold, writes_of}, Worlds.{at, store_of, with_store, after, with_connection, without_connections, begun_turn}}

-- the world was changed so, or memory was refused and nothing changed
abbrev pub GoesTo : World → World → World → Result (Unit {0}) Fault → Type 0
GoesTo w target v (Ok done) = v ≡ target
GoesTo w target v (Err fault) = (fault ≡ Memory) × (v ≡ w)

-- a world with other objects, with other connections, and with other event loops
abbrev pub with_objects : World → List Object → World
with_objects w objects = record w { store = record w.store { tree = objects } }

abbrev pub with_connected : World → Connected → World
with_connected w connected = record w { store = record w.store { connections = connected } }

abbrev pub with_queues : World → Queues → World
with_queues w queues = record w { store = record w.store { loops = queues } }

-- a world with other objects and bindings
abbrev pub with_bound : World → List Object → List Binding → World
with_bound w objects bindings = record w { store = record w.store { tree = objects; bindings = bindings } }

-- ---- rules

-- a world after a rule that writes nothing down, and after one that writes these entries down
abbrev pub ticked : World → World
ticked w = record w { left = w.left - 1 }

abbrev pub noted : World → List Entry → World
noted w entries = record w { left = w.left - 1; trace = w.trace ++ entries }

-- a world in which a connection was used, and one after a rule that also writes these entries down
abbrev pub having_used : World → Connection → World
having_used w c = with_connected w (after_use c w.store.connections)

abbrev pub using : World → List Entry → Connection → World
using w entries c = noted (having_used w c) entries

-- a world after a rule that also posts an item to an event loop
abbrev pub posting : World → List Entry → ℕ → Item → World
posting w entries home item = with_queues (noted w entries) (posted_to home item w.store.loops)

-- a world after a rule that also takes the first item of an event loop that was posted before the one of this number
abbrev pub taking : World → List Entry → ℕ → ℕ → World
taking w entries home number = with_queues (noted w entries) (taken_before home number w.store.loops)

-- such an item was taken, if there was one, or memory was refused and nothing changed
abbrev pub TakesFirst : World → List Entry → ℕ → ℕ → World → Result (Option Posted) Fault → Type 0
TakesFirst w entries home number v (Ok found) =
    (found ≡ find (is_before number) (items_at w.store.loops.loops home)) × (v ≡ taking w entries home number)
TakesFirst w entries home number v (Err fault) = (fault ≡ Memory) × (v ≡ w)

-- a world after a rule that takes it and writes nothing down
abbrev pub taking_unwritten : World → ℕ → ℕ → World
taking_unwritten w home number = with_queues (ticked w) (taken_before home number w.store.loops)

-- the turn is over
abbrev pub turn_ended : World → World
turn_ended w = record (ticked w) { turn = None }

-- a world after a rule that also makes a connection between these ends, and after one that removes those between them
abbrev pub connecting : World → List Entry → Endpoints → ConnectionType → World
connecting w entries ends how = with_connected (noted w entries) (newly_joined ends how w.store.connections)

abbrev pub disconnecting : World → List Entry → Endpoints → World
disconnecting w entries ends = with_connected (noted w entries) (parted ends w.store.connections)

-- the object lives, and its deletion isn't scheduled yet
pub record IsUnscheduled (objects : List Object) (o : ℕ) : Type 0 where
  pub life : Life
  pub lives : life_of objects o ≡ Some life
  pub unmarked : life.scheduled ≡ false

-- a world after a rule that also schedules an object's deletion, and after one that ends an object's life
abbrev pub scheduling : World → List Entry → ℕ → World
scheduling w entries o = record (noted w entries) { store = scheduled_in o w.store }

abbrev pub dying : World → List Entry → ℕ → World
dying w entries o = record (noted w entries) { store = died_in o w.store }

-- a rule that writes nothing down, by which a dead object's connections and what waits for it go
abbrev pub ending : World → ℕ → World
ending w o = record (ticked w) { store = ended_in o w.store }

-- ---- properties that change

-- This was written, and it is written down, which leads to the world `told lines` but for objects and bindings.
pub record HasWritten (p : Loaded) (depth : ℕ) (what : Assigning) (w : World) (told : List Entry → World)
    (changed : List Place) (v : World) : Type 0 where
  pub writes : IsWritten w.store.bindings v.store.bindings w.store.tree v.store.tree (writes_of what) changed
  pub lines : List Entry
  pub are_told : IsAssigningTold p v.store.tree depth what changed lines
  pub gives : v ≡ with_bound (told lines) v.store.tree v.store.bindings

-- this was written, and it is written down; or memory was refused, and nothing changed
abbrev pub WritesIn : Loaded → ℕ → Assigning → World → (List Entry → World) → Result (List Place) Fault → World → Type 0
WritesIn p depth what w told (Ok changed) v = HasWritten p depth what w told changed v
WritesIn p depth what w told (Err fault) v = (fault ≡ Memory) × (v ≡ w)

-- the binding of a site was installed, and this is written down
pub record HasBound (p : Loaded) (site target : ℕ) (sources : List ℕ) (w : World) (told : List Entry → World)
    (changed : List Place) (v : World) : Type 0 where
  pub binds : IsBound p w.store.bindings w.store.tree site target sources v.store.bindings v.store.tree changed
  pub lines : List Entry
  pub are_told : AreTold p v.store.tree 1 Bind (new_binding binds.may).target changed lines
  pub gives : v ≡ with_bound (told lines) v.store.tree v.store.bindings

-- the binding of a site was installed, and this is written down; or it wasn't, and nothing changed
abbrev pub BindsIn : Loaded → ℕ → ℕ → List ℕ → World → (List Entry → World) → Result (List Place) BindFault → World → Type 0
BindsIn p site target sources w told (Ok changed) v = HasBound p site target sources w told changed v
BindsIn p site target sources w told (Err fault) v =
    IsNotBound p w.store.tree w.store.bindings site target sources fault × (v ≡ w)

-- ---- the limit of rules
-- a rule that writes nothing down was carried out, or none was left
abbrev pub Ticks : World → World → Result (Unit {0}) Fault → Type 0
Ticks w v (Ok went) = (0 < w.left) × (v ≡ ticked w)
Ticks w v (Err fault) = (w.left ≡ 0) × (fault ≡ Steps) × (v ≡ w)

-- whether a rule is left
abbrev pub IsLeft : World → Result (Unit {0}) Fault → Type 0
IsLeft w (Ok left) = 0 < w.left
IsLeft w (Err fault) = (w.left ≡ 0) × (fault ≡ Steps)

-- ---- events

-- an event is counted, which is one rule
abbrev pub counted : World → World
counted w = record w { events = w.events + 1; left = w.left - 1 }

-- an event is accepted by one rule
abbrev pub accepting : World → World
accepting w = after w (accepted (at w []))

-- an event is accepted, and the objects are these afterwards
abbrev pub accepting_objects : World → List Object → World
accepting_objects w objects = after w (record (accepted (at w [])) { objects = objects })

-- an event is accepted, and the stores are these afterwards
abbrev pub accepting_store : World → Store → World
accepting_store w store = after w (with_store (accepted (at w [])) store)

-- an event is accepted by which an object is blocked or may emit again, if it lives
abbrev pub accepting_block : World → ℕ → Bool → World
accepting_block w o on = accepting_objects w (change_life o (blocked on) w.store.tree)

-- an event is accepted, and these entries are written down
abbrev pub accepting_entries : World → List Entry → World
accepting_entries w entries = after w (with_entries (accepted (at w [])) entries)

-- a state in which an object's deletion is scheduled
abbrev pub with_scheduled : State → ℕ → State
with_scheduled s o = with_store s (scheduled_in o (store_of s))

-- an event is accepted by which an object's deletion is scheduled, and these entries are written down
abbrev pub accepting_schedule : World → List Entry → ℕ → World
accepting_schedule w entries o = after w (with_scheduled (with_entries (accepted (at w [])) entries) o)

-- the event was refused for this reason, or memory was
abbrev pub Rejects : World → Refusal → World → Result Answer Fault → Type 0
Rejects w r v (Ok a) = (a ≡ answer.Refused (refusal_number r)) × (v ≡ after w (refused (at w []) r))
Rejects w r v (Err fault) = (fault ≡ Memory) × (v ≡ w)

-- an event is accepted by which a connection is made
abbrev pub accepting_connection : World → Endpoints → ConnectionType → World
accepting_connection w ends how = after w (with_connection (accepted (at w [])) ends how)

-- an event is accepted by which the connections that join these ends are removed
abbrev pub accepting_disconnection : World → Endpoints → World
accepting_disconnection w ends = after w (without_connections (accepted (at w [])) ends)

-- an event is accepted by which an event loop is added
abbrev pub accepting_loop : World → List ℕ → World
accepting_loop w name = after w (record (accepted (at w [])) { queues = with_loop name w.store.loops })

abbrev pub accepting_turn : World → ℕ → World
accepting_turn w home = after w (begun_turn (accepted (at w [])) home)
