-- Whether connections are made and removed, by events and by statements (docs/machine.md, "Connections"; Qt 6,
-- `QObject::connect` and `QObject::disconnect`).
use Rattle.std.specs.Prelude.{◌&&◌, ℕ, eqb, if◌then◌else◌, IsTrue, List, Result}
use Rattle.basic_types.specs.declared.sig.Sig.{Sig}
use Rattle.basic_types.specs.Types.{Fits}
use Rattle.syntax_trees.specs.declared.connection.ConnectionType.{ConnectionType}
use Rattle.syntax_trees.specs.declared.connection.Endpoints.{Endpoints as Named}
use Rattle.meta_model.specs.declared.object.MetaMethod.{MetaMethod}
use Rattle.meta_model.specs.declared.qobject.TheConstants.{DESTROYED, DESTROYED_ALONE}
use Rattle.meta_model.specs.Loaded.{Loaded}
use Rattle.meta_model.specs.Members.{Covers}
use Rattle.object_tree.specs.declared.object.Object.{Object}
use Rattle.connections.specs.Connected.{Connected}
use Rattle.machine_state.specs.declared.endpoints.Endpoints.{Endpoints}
use Rattle.trace_entries.specs.declared.refusal.Refusal.{Refusal}
use Rattle.trace_entries.specs.declared.refusal.Refusal.TheVariants.{NotWired, Incompatible, Exists, NoConnection}
use Rattle.machine_state.specs.Connections.{are_joined}
use Rattle.machine_rules.specs.declared.ends.FoundEnds.{FoundEnds}
use Rattle.machine_rules.specs.Judgement.{Check, ◌>>=◌}
use Rattle.machine_rules.specs.There.{IsMember}

-- the ends that a connection keeps, of those that are spelled: `destroyed()` is `destroyed(QObject*)`
abbrev pub kept_ends : Endpoints → Endpoints
kept_ends ends = record ends { signal = if eqb ends.signal DESTROYED_ALONE then DESTROYED else ends.signal }

-- a connection may be made from a signal to a method, as both are spelled
abbrev pub may_connect : Loaded → Connected → FoundEnds → Sig → Sig → ConnectionType → Result (Unit {0}) Refusal → Type 0
may_connect p connected found signal method how =
    Check NotWired (Covers p found.from signal found.to method how.kind) >>= λ _.
    Check Incompatible (Fits signal method) >>= λ _.
    Check Exists (¬ IsTrue (how.unique && are_joined found.ends connected))

-- ---- what statements name

-- the objects and the methods at two ends
pub record AreThere (p : Loaded) (objects : List Object) (ends : Endpoints) : Type 0 where
  pub sender : Object
  pub signal : MetaMethod
  pub sends : IsMember p objects ends.sender ends.signal sender signal
  pub receiver : Object
  pub method : MetaMethod
  pub receives : IsMember p objects ends.receiver ends.method receiver method

-- the names of the objects and the methods at two ends, as they are written down
abbrev pub names_of : {p : Loaded} {objects : List Object} {ends : Endpoints} → AreThere p objects ends → Named (List ℕ)
names_of there = record { sender = there.sender.name; signal = there.signal.sig; receiver = there.receiver.name; method = there.method.sig }

-- the ends that are kept of those that are spelled, with the classes of their objects
abbrev pub found_ends : {p : Loaded} {objects : List Object} {ends : Endpoints} → AreThere p objects ends → FoundEnds
found_ends {ends = ends} there = record { from = there.sends.life.class; to = there.receives.life.class; ends = kept_ends ends }

-- ---- parts of these, as the code does them

-- the signal that a spelling names
abbrev pub named_signal : ℕ → ℕ
named_signal g = if eqb g DESTROYED_ALONE then DESTROYED else g

-- the connections between two ends may be removed
abbrev pub may_disconnect : Connected → Endpoints → Result (Unit {0}) Refusal → Type 0
may_disconnect connected ends = Check NoConnection (IsTrue (are_joined ends connected))
