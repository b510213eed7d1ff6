-- What a world says of the machine's state (docs/machine.md, "The state").
use Rattle.std.specs.Prelude.{ℕ, ◌+◌, ◌-◌, List, [], None, Some}
use Rattle.syntax_trees.specs.declared.connection.ConnectionType.{ConnectionType}
use Rattle.connections.specs.Connected.{connected_by, removed}
use Rattle.delete_later.specs.declared.store.Store.{Store}
use Rattle.delete_later.specs.Scheduling.{empty}
use Rattle.machine_state.specs.declared.world.World.{World}
use Rattle.machine_state.specs.Connections.{joins_these}
use Rattle.machine_state.specs.declared.endpoints.Endpoints.{Endpoints}
use Rattle.machine_state.specs.State.{State, Activation}

-- a world's state with a stack
abbrev pub at : World → List Activation → State
at w stack = record { objects = w.store.tree; connected = w.store.connections; queues = w.store.loops; bindings = w.store.bindings; turn = w.turn; stack = stack; trace = w.trace; events = w.events }

-- a state's objects, connections, event loops and bindings, and a state with others
abbrev pub store_of : State → Store
store_of s = record { tree = s.objects; connections = s.connected; loops = s.queues; bindings = s.bindings }

abbrev pub with_store : State → Store → State
with_store s store = record s { objects = store.tree; connected = store.connections; queues = store.loops; bindings = store.bindings }

-- nothing has happened, and so many rules may be used
abbrev pub untouched : ℕ → World
untouched steps = record { store = empty; turn = None; trace = []; events = 0; left = steps }

-- a world after one rule that leads to this state
abbrev pub after : World → State → World
after w s = record { store = store_of s; turn = s.turn; trace = s.trace; events = s.events; left = w.left - 1 }

-- a state with a connection more, which has the next number
abbrev pub with_connection : State → Endpoints → ConnectionType → State
with_connection s ends how = record s { connected = connected_by s.connected ends.sender ends.signal ends.receiver ends.method how.kind how.single }

-- a state without the connections that join these ends
abbrev pub without_connections : State → Endpoints → State
without_connections s ends = record s { connected = removed (joins_these ends) s.connected }

-- a state in which a turn of an event loop begins: it delivers what is posted by now
abbrev pub begun_turn : State → ℕ → State
begun_turn s home = record s { turn = Some (record { home = home; limit = s.queues.posted + 1 }) }
