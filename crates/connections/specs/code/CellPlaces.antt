-- What lists of places show.
use Rattle.std.specs.Prelude.{◌≡◌, ℕ, ◌<◌, ◌≤◌, ◌&&◌, ◌⊎◌, eqb, nat_lt, drop, Bool, List, [], ◌∷◌, length, slice_index_or, Option, Some, None, is_some, filter, filter_map, if◌then◌else◌}
use Rattle.std.specs.List.{Contains, find}
use Rattle.slab.specs.Slab.{Slab, get}
use Rattle.connections.specs.declared.connection.Connection.{Connection}
use Rattle.connections.specs.declared.cell.Cell.{Cell}
use Rattle.connections.specs.declared.place.CellPlace.{CellPlace}
use Rattle.connections.specs.code.Cells.{LeadToEach}

-- the connection of a cell, if it is there and has this number
abbrev pub connection_in : ℕ → Option Cell → Option Connection
connection_in number None = None
connection_in number (Some cell) = if cell.live && eqb cell.connection.number number then Some cell.connection else None

abbrev pub live_at : Slab Cell → CellPlace → Option Connection
live_at cells p = connection_in p.number (get cells p.key)

-- the connections that places lead to, without those removed
abbrev pub live : Slab Cell → List CellPlace → List Connection
live cells places = filter_map (live_at cells) places

-- each number is above the one before it, the first above `low` and none above `last`
abbrev pub Rising : ℕ → List CellPlace → ℕ → Type 0
Rising low [] last = low ≤ last
Rising low (p ∷ places) last = (low < p.number) × Rising p.number places last

abbrev pub AreRising : List CellPlace → Type 0
AreRising places = (last : ℕ) × Rising 0 places last

-- the first connection that is numbered above
abbrev pub first_above : ℕ → List Connection → Option Connection
first_above number connections = find (λ c. nat_lt number c.number) connections

-- the places lead, in order, to the connections that pass a test
pub record Indexes (cells : Slab Cell) (whole : List Connection) (last : ℕ) (test : Connection → Bool) (places : List CellPlace) : Type 0 where
  pub rising : Rising 0 places last
  pub exact : live cells places ≡ filter test whole
  pub covers : LeadToEach cells test places

-- the places before i have lower numbers, and those from i on have not
pub record SplitsAt (places : List CellPlace) (number i : ℕ) : Type 0 where
  pub below : (k : ℕ) (d : CellPlace) → k < i → (slice_index_or places k d).number < number
  pub above : (k : ℕ) (d : CellPlace) → i ≤ k → k < length places → number ≤ (slice_index_or places k d).number

-- the places of at least this number
abbrev pub IsRestFrom : ℕ → List CellPlace → List CellPlace → Type 0
IsRestFrom number places rest = (i : ℕ) × (rest ≡ drop i places) × SplitsAt places number i

-- among some places is each one of this number
abbrev pub HoldNumbered : ℕ → List CellPlace → List CellPlace → Type 0
HoldNumbered number places some = (p : CellPlace) → Contains places p → p.number ≡ number → Contains some p

-- the place leads to a connection that is there
abbrev pub leads : Slab Cell → CellPlace → Bool
leads cells p = is_some (live_at cells p)

-- places that lead to no connection were dropped, or nothing changed
abbrev pub Tidies : Slab Cell → List CellPlace → List CellPlace → Type 0
Tidies cells old new = (new ≡ old) ⊎ (new ≡ filter (leads cells) old)
