-- Deletion at a later time (docs/machine.md, "Objects"; Qt 6, `QObject::deleteLater`: an object is scheduled for deletion,
-- and is deleted when control returns to the event loop in which it lives; to call it more than once is safe).
use Rattle.std.specs.Prelude.{◌≡◌, ℕ, ◌<◌, [], length, Option, None, Some, if◌then◌else◌}
use Rattle.object_tree.specs.declared.life.Life.{Life}
use Rattle.object_tree.specs.Objects.{life_of, change_life, scheduled}
use Rattle.event_loops.specs.declared.item.Item.TheVariants.{Deletion}
use Rattle.event_loops.specs.Queues.{start, posted_to}
use Rattle.delete_later.specs.declared.store.Store.{Store}

-- no objects, connections and bindings, and nothing waits in the only loop, `main`
abbrev pub empty : Store
empty = record { tree = []; connections = record { connections = []; last = 0 }; loops = start; bindings = [] }

-- an object that lives does so in a loop that is there
abbrev pub IsHoused : ℕ → Store → Type 0
IsHoused object s = (life : Life) → life_of s.tree object ≡ Some life → life.home < length s.loops.loops

-- the object is marked, and its deletion waits, with the next number, at the end of this loop
abbrev pub deferred_to : ℕ → ℕ → Store → Store
deferred_to home object s = record s {
  tree = change_life object scheduled s.tree;
  loops = posted_to home (Deletion object) s.loops;
}

-- an object of this life is scheduled: one that is so already changes nothing, nor does a number of no living object
abbrev pub scheduled_with : Option Life → ℕ → Store → Store
scheduled_with None object s = s
scheduled_with (Some life) object s = if life.scheduled then s else deferred_to life.home object s

-- the object is scheduled for deletion once
abbrev pub scheduled_in : ℕ → Store → Store
scheduled_in object s = scheduled_with (life_of s.tree object) object s
