-- What a turn of an event loop delivers (docs/machine.md, "Event loops").
use Rattle.std.specs.Prelude.{◌≡◌, ℕ, List, [], ◌∷◌, Result, Ok, Err, Option, Some, true}
use Rattle.std.specs.List.{find}
use Rattle.basic_types.specs.declared.value.Value.{Value}
use Rattle.event_loops.specs.declared.item.Item.{Item}
use Rattle.event_loops.specs.declared.item.Item.TheVariants as item
use Rattle.event_loops.specs.declared.item.Posted.{Posted}
use Rattle.event_loops.specs.Queues.{items_at, is_before}
use Rattle.trace_entries.specs.declared.entry.Entry.{Entry}
use Rattle.trace_entries.specs.declared.fault.Fault.{Fault}
use Rattle.trace_entries.specs.declared.fault.Fault.TheVariants.{Memory}
use Rattle.machine_state.specs.declared.turn.Turn.{Turn}
use Rattle.machine_state.specs.declared.world.World.{World}
use Rattle.machine_state.specs.Connections.{is_living}
use Rattle.machine_state.specs.code.Changing.{taking}

-- the first item that a turn may deliver, if there is one
abbrev pub first_due : World → Turn → Option Posted
first_due w turn = find (is_before turn.limit) (items_at w.store.loops.loops turn.home)

-- it is this one
pub record IsFirst (w : World) (turn : Turn) (what : Item) : Type 0 where
  pub posted : Posted
  pub found : Some posted ≡ first_due w turn
  pub is : posted.item ≡ what

-- it is a call of a living object
pub record IsCalled (w : World) (turn : Turn) : Type 0 where
  pub object : ℕ
  pub method : ℕ
  pub arguments : List Value
  pub first : IsFirst w turn (item.Call object method arguments)
  pub lives : is_living w.store.tree object ≡ true

-- the first item was taken, this is written down, and these are the arguments of the call that it is; or memory was
-- refused, and nothing changed
abbrev pub TakesCall : World → Turn → Entry → World → Result (List Value) Fault → Type 0
TakesCall w turn line v (Ok given) =
    (v ≡ taking w (line ∷ []) turn.home turn.limit)
    × ((o m : ℕ) (arguments : List Value) → IsFirst w turn (item.Call o m arguments) → given ≡ arguments)
TakesCall w turn line v (Err fault) = (fault ≡ Memory) × (v ≡ w)
