-- The end of an object (docs/machine.md, "Objects"; Qt 6, `QObject::~QObject`: all signals to and from the object are
-- disconnected, pending events for it are removed from the queue, and its children are deleted).
use Rattle.std.specs.Prelude.{◌≡◌, ℕ, ◌-◌, List, length, Option, None, Some, slice_get}
use Rattle.object_tree.specs.declared.object.Object.{Object}
use Rattle.object_tree.specs.Family.{children_of, IsChild, IsChildless, without_life}
use Rattle.connections.specs.Connected.{touches, removed}
use Rattle.event_loops.specs.Queues.{dropped}
use Rattle.binding_graph.specs.Bindings.{dropped as unbound}
use Rattle.delete_later.specs.declared.store.Store.{Store}

-- the object lives no more, and the bindings are gone whose target or source it is; the properties that they bound keep
-- their values
abbrev pub died_in : ℕ → Store → Store
died_in object s = record s {
  tree = without_life object s.tree;
  bindings = unbound object s.bindings;
}

-- the connections from and to the object are gone, and so is what waits for it, calls and deletions; all else is as it was
abbrev pub ended_in : ℕ → Store → Store
ended_in object s = record s {
  connections = removed (touches object) s.connections;
  loops = dropped object s.loops;
}

-- of the objects that are being torn down, the latest: it comes last here, as in the code's list, and first in the machine's
-- state
abbrev pub last_of : List ℕ → Option ℕ
last_of torn = slice_get torn (length torn - 1)

-- the child of an object, if there is such a one, that was adopted first of those that live
abbrev pub first_child_of : List Object → Option ℕ → Option ℕ
first_child_of objects None = None
first_child_of objects (Some o) = slice_get (children_of objects o) 0

-- the object that is deleted next while these are torn down
abbrev pub next_in : List Object → List ℕ → Option ℕ
next_in objects torn = first_child_of objects (last_of torn)

-- the object that is deleted next is a living child of the last one; there is none where no object is torn down, or the
-- last one has no such child
pub record IsNext (objects : List Object) (torn : List ℕ) (o : ℕ) : Type 0 where
  pub parent : ℕ
  pub last : last_of torn ≡ Some parent
  pub child : IsChild objects parent o

abbrev pub NoneIsNext : List Object → List ℕ → Type 0
NoneIsNext objects torn = (parent : ℕ) → last_of torn ≡ Some parent → IsChildless objects parent
