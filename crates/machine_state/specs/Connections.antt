-- The connections that are made and removed, and those that an emission uses (docs/machine.md, "Rules").
use Rattle.std.specs.Prelude.{ℕ, ◌&&◌, not, eqb, if◌then◌else◌, Bool, false, List, Option, None, is_some}
use Rattle.std.specs.List.{find, list_any}
use Rattle.std.specs.Option.{option_map_or}
use Rattle.meta_model.specs.declared.qobject.TheConstants.{DESTROYED}
use Rattle.object_tree.specs.declared.life.Life.{Life}
use Rattle.object_tree.specs.declared.object.Object.{Object}
use Rattle.object_tree.specs.Objects.{life_of}
use Rattle.syntax_trees.specs.declared.connection.ConnectionType.{ConnectionType}
use Rattle.machine_state.specs.declared.endpoints.Endpoints.{Endpoints}
use Rattle.connections.specs.declared.connection.Connection.{Connection}
use Rattle.connections.specs.Connected.{Connected, connected_by, is_due, is_of, removed}

-- what is left of the connections when one is used: a single-shot one is removed (Qt 6, `Qt::SingleShotConnection`)
abbrev pub after_use : Connection → Connected → Connected
after_use c connected = if c.single then removed (λ (d : Connection). eqb d.number c.number) connected else connected

-- from this signal of the sender to this method of the receiver, of whatever kind
abbrev pub joins_these : Endpoints → Connection → Bool
joins_these ends c = (is_of ends.sender ends.signal c && eqb c.receiver ends.receiver) && eqb c.method ends.method

-- some connection joins these ends
abbrev pub are_joined : Endpoints → Connected → Bool
are_joined ends connected = list_any (joins_these ends) connected.connections

-- a connection more that joins these ends, which has the next number
abbrev pub newly_joined : Endpoints → ConnectionType → Connected → Connected
newly_joined ends how connected = connected_by connected ends.sender ends.signal ends.receiver ends.method how.kind how.single

-- all but those that join these ends
abbrev pub parted : Endpoints → Connected → Connected
parted ends connected = removed (joins_these ends) connected

-- the emission of an object that lives this life calls nothing: the object lives and is blocked (Qt 6,
-- `QObject::blockSignals`), and the signal isn't `destroyed`
abbrev pub silences : Option Life → ℕ → Bool
silences life g = option_map_or (λ (l : Life). l.blocked && not (eqb g DESTROYED)) life false

-- the object lives
abbrev pub is_living : List Object → ℕ → Bool
is_living objects o = is_some (life_of objects o)

-- the connection that an emission of object o uses next: the first that is due and has a living receiver, unless the
-- object is silent (Qt 6, `QObject::~QObject`: a dead receiver isn't called)
abbrev pub next_used : List Object → List Connection → ℕ → ℕ → ℕ → ℕ → Option Connection
next_used objects connections o g used last =
    if silences (life_of objects o) g then None else find (λ (c : Connection). is_due o g used last c && is_living objects c.receiver) connections

-- ---- parts of these, each as the code asks it
abbrev pub is_silent : Object → ℕ → Bool
is_silent x g = silences x.life g

-- a connection that is due, and whose receiver lives
abbrev pub can_be_used : List Object → ℕ → ℕ → ℕ → ℕ → Connection → Bool
can_be_used objects o g used last c = is_due o g used last c && is_living objects c.receiver
