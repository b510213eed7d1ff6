-- What follows from the definitions.
use Rattle.std.specs.Prelude.{◌≡◌, ℕ, Bool, false}
use Rattle.std.specs.List.{list_any}
use Rattle.connections.specs.Connected.{touches}
use Rattle.event_loops.specs.declared.item.Posted.{Posted}
use Rattle.event_loops.specs.Queues.{is_for, items_at}
use Rattle.delete_later.specs.declared.store.Store.{Store}
use Rattle.delete_later.specs.Scheduling.{scheduled_in}
use Rattle.delete_later.specs.Ending.{ended_in}

-- to schedule an object twice is to schedule it once
abbrev pub ScheduledOnce : Type 0
ScheduledOnce = (object : ℕ) (s : Store) → scheduled_in object (scheduled_in object s) ≡ scheduled_in object s

-- an item that waits for the object
abbrev pub waits_for : ℕ → Posted → Bool
waits_for object p = is_for object p.item

-- no connection leads from or to the object, and nothing waits for it
pub record IsForgotten (object : ℕ) (s : Store) : Type 0 where
  pub unconnected : list_any (touches object) s.connections.connections ≡ false
  pub awaited : (home : ℕ) → list_any (waits_for object) (items_at s.loops.loops home) ≡ false

-- an object that has ended is forgotten
abbrev pub EndedIsForgotten : Type 0
EndedIsForgotten = (object : ℕ) (s : Store) → IsForgotten object (ended_in object s)
