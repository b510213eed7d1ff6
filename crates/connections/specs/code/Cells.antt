-- The cells that hold connections, some of which are removed and wait to be swept.
use Rattle.std.specs.Prelude.{◌≡◌, ℕ, ◌≤◌, ◌&&◌, not, Bool, true, false, List, Option, Some, None, if◌then◌else◌, eqb, count_by}
use Rattle.std.specs.Option.{option_map}
use Rattle.std.specs.List.{Contains}
use Rattle.std.specs.Global.{Vec}
use Rattle.std.specs.Vec.{vec_len, vec_capacity}
use Rattle.slab.specs.Slab.{Slab, get, slab_len}
use Rattle.connections.specs.declared.connection.Connection.{Connection}
use Rattle.connections.specs.declared.cell.Cell.{Cell}
use Rattle.connections.specs.declared.place.CellPlace.{CellPlace}
use Rattle.connections.specs.declared.removing.Removal.{Removal}
use Rattle.connections.specs.declared.removing.Removal.TheVariants.{Between, Touching, Numbered}
use Rattle.connections.specs.Connected.{joins, touches, is_numbered}

-- the connections to be removed
abbrev pub fits : Removal → Connection → Bool
fits (Between sender signal receiver method) c = joins sender signal receiver method c
fits (Touching object) c = touches object c
fits (Numbered number) c = is_numbered number c

-- a cell after a removal
abbrev pub retired : Removal → Cell → Cell
retired removal cell = record cell { live = cell.live && not (fits removal cell.connection) }

-- the connection of a cell is removed
abbrev pub is_dead : Option Cell → Bool
is_dead None = false
is_dead (Some cell) = not cell.live

-- the cell's connection is there, and passes the test
abbrev pub counted : (Connection → Bool) → Option Cell → Bool
counted test None = false
counted test (Some cell) = cell.live && test cell.connection

-- the cell's connection is there, and is one of those to be removed
abbrev pub is_due : Removal → Option Cell → Bool
is_due removal x = counted (fits removal) x

-- a cell after the removed connections have left
abbrev pub swept : Option Cell → Option Cell
swept None = None
swept (Some cell) = if cell.live then Some cell else None

-- among the keys is that of each cell whose connection is removed
abbrev pub HoldDead : Slab Cell → List ℕ → Type 0
HoldDead cells keys = (k : ℕ) (cell : Cell) → get cells k ≡ Some cell → cell.live ≡ false → Contains keys k

-- the cells after a removal, and after one that may touch this one alone
abbrev pub Retires : Removal → Slab Cell → Slab Cell → Type 0
Retires removal old new = (k : ℕ) → get new k ≡ option_map (retired removal) (get old k)

abbrev pub RetiresAt : ℕ → Removal → Slab Cell → Slab Cell → Type 0
RetiresAt key removal old new = (k : ℕ) → get new k ≡ (if eqb k key then option_map (retired removal) (get old k) else get old k)

-- the cells after a sweep, and after one of this cell alone
abbrev pub Sweeps : Slab Cell → Slab Cell → Type 0
Sweeps old new = (k : ℕ) → get new k ≡ swept (get old k)

abbrev pub SweepsAt : ℕ → Slab Cell → Slab Cell → Type 0
SweepsAt key old new = (k : ℕ) → get new k ≡ (if eqb k key then swept (get old k) else get old k)

-- the list has the key of each cell whose connection is removed, and room for those that are not
pub record Marked (cells : Slab Cell) (marked : Vec ℕ) : Type 0 where
  pub count : vec_len marked ≡ count_by is_dead cells.slots
  pub room : slab_len cells ≤ vec_capacity marked
  pub covers : HoldDead cells marked.items

-- the places lead to each connection that is there and passes the test
pub record LeadToEach (cells : Slab Cell) (test : Connection → Bool) (places : List CellPlace) : Type 0 where
  pub place : (k : ℕ) (cell : Cell) → get cells k ≡ Some cell → cell.live ≡ true → test cell.connection ≡ true → Contains places (record { number = cell.connection.number; key = k })
