-- The connections between objects, as a plain list (docs/machine.md, "Connections"). They are used in the
-- order in which they were made; one disconnect breaks all duplicates, and a unique one is refused where any is there
-- (Qt 6, "Signals & Slots" and `QObject::connect`).
use Rattle.std.specs.Prelude.{ℕ, ◌+◌, ◌<◌, ◌≤◌, ◌&&◌, ◌||◌, not, nat_lt, nat_le, eqb, Bool, List, [], ◌∷◌, ◌++◌, filter, count_by, Option, None, Some, if◌then◌else◌}
use Rattle.std.specs.List.{list_any}
use Rattle.basic_types.specs.declared.kind.Kind.{Kind}
use Rattle.connections.specs.declared.connection.Connection.{Connection}

-- those that were made and not removed, in the order in which they were made, and the last number given
pub record Connected : Type 0 where
  pub connections : List Connection
  pub last : ℕ

-- of this sender and signal
abbrev pub is_of : ℕ → ℕ → Connection → Bool
is_of sender signal c = eqb c.sender sender && eqb c.signal signal

-- from this signal of the sender to this method of the receiver, of whatever kind
abbrev pub joins : ℕ → ℕ → ℕ → ℕ → Connection → Bool
joins sender signal receiver method c =
    (is_of sender signal c && eqb c.receiver receiver) && eqb c.method method

-- from or to this object
abbrev pub touches : ℕ → Connection → Bool
touches object c = eqb c.sender object || eqb c.receiver object

abbrev pub is_numbered : ℕ → Connection → Bool
is_numbered number c = eqb c.number number

-- of this sender and signal, and made later than the connection of this number
abbrev pub is_later : ℕ → ℕ → ℕ → Connection → Bool
is_later sender signal number c = is_of sender signal c && nat_lt number c.number

-- of this sender and signal, made later than the last one used and not later than the last one that was made when the
-- emission began
abbrev pub is_due : ℕ → ℕ → ℕ → ℕ → Connection → Bool
is_due sender signal used made c =
    is_of sender signal c && (nat_lt used c.number && nat_le c.number made)

-- a connection, unless it was made later than the one of this number
abbrev pub not_above : ℕ → Option Connection → Option Connection
not_above made None = None
not_above made (Some c) = if nat_le c.number made then Some c else None

-- some connection leads from this signal of the sender to this method of the receiver
abbrev pub are_connected : ℕ → ℕ → ℕ → ℕ → Connected → Bool
are_connected sender signal receiver method s =
    list_any (joins sender signal receiver method) s.connections

-- a connection more, with the next number
abbrev pub connected_by : Connected → ℕ → ℕ → ℕ → ℕ → Kind → Bool → Connected
connected_by s sender signal receiver method kind single = record {
  connections = s.connections ++ record { number = s.last + 1; sender = sender; signal = signal; receiver = receiver; method = method; kind = kind; single = single } ∷ [];
  last = s.last + 1;
}

-- the connections that pass the test are removed
abbrev pub removed : (Connection → Bool) → Connected → Connected
removed test s = record s { connections = filter (λ c. not (test c)) s.connections }

-- all but the connections that pass the test
abbrev pub without : (Connection → Bool) → List Connection → List Connection
without test connections = filter (λ c. not (test c)) connections

-- the connections, and how many were removed since the last sweep: these are marked
pub record Held : Type 0 where
  pub connected : Connected
  pub marked : ℕ

-- the connections that pass the test are removed, and as many more are marked
abbrev pub removed_in : (Connection → Bool) → Held → Held
removed_in test h = record {
  connected = removed test h.connected;
  marked = h.marked + count_by test h.connected.connections;
}

-- each number is above the one before it, the first above `low` and none above `last`
abbrev pub Rises : ℕ → List Connection → ℕ → Type 0
Rises low [] last = low ≤ last
Rises low (c ∷ connections) last = (low < c.number) × Rises c.number connections last

-- no connection was made yet
abbrev pub unconnected : Connected
unconnected = record { connections = []; last = 0 }
