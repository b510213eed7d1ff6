-- Room for one more connection.
use Rattle.std.specs.Prelude.{◌≡◌, ℕ, ◌<◌, ◌≤◌, eqb, true, [], ◌∷◌, ◌++◌, None, Some, if◌then◌else◌}
use Rattle.std.specs.Global.{Vec}
use Rattle.std.specs.Vec.{vec_len, vec_capacity}
use Rattle.slab.specs.Slab.{Slab, get, Updates}
use Rattle.connections.specs.declared.connection.Connection.{Connection}
use Rattle.connections.specs.declared.cell.Cell.{Cell}
use Rattle.connections.specs.declared.place.CellPlace.{CellPlace}
use Rattle.connections.specs.declared.lists.Lists.{Lists}
use Rattle.connections.specs.Connected.{touches}
use Rattle.connections.specs.code.Groups.{list_of, HasRoom}
use Rattle.connections.specs.code.Lists.{same_pair, of_object, TidiesLists}

-- a new connection in a vacant cell
pub record Adds (old new : Slab Cell) (key : ℕ) (c : Connection) : Type 0 where
  pub vacant : get old key ≡ None
  pub updates : Updates old new key (Some (record { connection = c; live = true }))

abbrev pub placed_at : Connection → ℕ → CellPlace
placed_at c key = record { number = c.number; key = key }

-- the lists of the sender and signal of a connection, and those of its objects, have this place more
abbrev pub PushesBySignal : Lists → Lists → Connection → CellPlace → Type 0
PushesBySignal old new c p = (pair : ℕ × ℕ) → list_of same_pair new.by_signal pair ≡ (if same_pair (c.sender, c.signal) pair then list_of same_pair old.by_signal pair ++ p ∷ [] else list_of same_pair old.by_signal pair)

abbrev pub PushesByObject : Lists → Lists → Connection → CellPlace → Type 0
PushesByObject old new c p = (object : ℕ) → of_object new object ≡ (if touches object c then of_object old object ++ p ∷ [] else of_object old object)

-- one more place fits into each list that the connection belongs to
pub record HasRooms (lists : Lists) (c : Connection) : Type 0 where
  pub all : vec_len lists.all.items < vec_capacity lists.all.items
  pub signal : HasRoom same_pair lists.by_signal (c.sender, c.signal)
  pub sender : HasRoom eqb lists.by_object c.sender
  pub receiver : HasRoom eqb lists.by_object c.receiver

-- what is seen stays, and room is kept
pub record IsKept (cells : Slab Cell) (lists : Lists) (marked : Vec ℕ) (cells' : Slab Cell) (lists' : Lists) (marked' : Vec ℕ) : Type 0 where
  pub in_cells : cells' ≡ record cells { capacity = cells'.capacity }
  pub in_lists : TidiesLists cells' lists lists'
  pub in_marked : marked'.items ≡ marked.items
  pub many_marked : vec_len marked' ≡ vec_len marked
  pub room : vec_capacity marked ≤ vec_capacity marked'
