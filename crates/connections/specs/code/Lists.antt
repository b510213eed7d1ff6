-- How the lists of places are tied to the cells.
use Rattle.std.specs.Prelude.{◌≡◌, ℕ, ◌&&◌, ◌⊎◌, eqb, count_by, Bool, true, List, []}
use Rattle.std.specs.Global.{Vec}
use Rattle.slab.specs.Slab.{Slab}
use Rattle.connections.specs.declared.connection.Connection.{Connection}
use Rattle.connections.specs.declared.cell.Cell.{Cell}
use Rattle.connections.specs.declared.place.CellPlace.{CellPlace}
use Rattle.connections.specs.declared.lists.Lists.{Lists}
use Rattle.connections.specs.Connected.{is_of, touches}
use Rattle.connections.specs.code.Cells.{Marked, LeadToEach, counted}
use Rattle.connections.specs.code.CellPlaces.{live, Indexes, Tidies}
use Rattle.connections.specs.code.Groups.{list_of}

abbrev pub same_pair : ℕ × ℕ → ℕ × ℕ → Bool
same_pair a b = eqb a.0 b.0 && eqb a.1 b.1

abbrev pub all_of : Lists → List CellPlace
all_of lists = lists.all.items.items

abbrev pub of_signal : Lists → ℕ → ℕ → List CellPlace
of_signal lists sender signal = list_of same_pair lists.by_signal (sender, signal)

abbrev pub of_object : Lists → ℕ → List CellPlace
of_object lists object = list_of eqb lists.by_object object

abbrev pub any_connection : Connection → Bool
any_connection c = true

-- there are no places
pub record IsEmpty (lists : Lists) : Type 0 where
  pub all : all_of lists ≡ []
  pub by_signal : (sender signal : ℕ) → of_signal lists sender signal ≡ []
  pub by_object : (object : ℕ) → of_object lists object ≡ []

-- the connections that are there
abbrev pub shown_in : Slab Cell → Lists → List Connection
shown_in cells lists = live cells (all_of lists)

-- each list leads to the connections of its own
pub record ListsLead (cells : Slab Cell) (lists : Lists) (last : ℕ) : Type 0 where
  pub all : Indexes cells (shown_in cells lists) last any_connection (all_of lists)
  pub by_signal : (sender signal : ℕ) → Indexes cells (shown_in cells lists) last (is_of sender signal) (of_signal lists sender signal)
  pub by_object : (object : ℕ) → Indexes cells (shown_in cells lists) last (touches object) (of_object lists object)

-- the places lead to each connection that passes the test
abbrev pub LeadTo : Lists → (Connection → Bool) → List CellPlace → Type 0
LeadTo lists test places = (cells : Slab Cell) (last : ℕ) → ListsLead cells lists last → LeadToEach cells test places

-- the places are those of the connections of this sender and signal, or those of the connections from and to the receiver
abbrev pub AreOfEither : Lists → ℕ → ℕ → ℕ → List CellPlace → Type 0
AreOfEither lists sender signal receiver places = (places ≡ of_signal lists sender signal) ⊎ (places ≡ of_object lists receiver)

-- and removed connections are marked; whatever is counted, the cells of the others have as many as the lists show
pub record Tied (cells : Slab Cell) (lists : Lists) (marked : Vec ℕ) (last : ℕ) : Type 0 where
  pub leads : ListsLead cells lists last
  pub marks : Marked cells marked
  pub many : (test : Connection → Bool) → count_by (counted test) cells.slots ≡ count_by test (shown_in cells lists)

-- in each list, places that lead to no connection were dropped, or nothing changed
pub record TidiesLists (cells : Slab Cell) (old new : Lists) : Type 0 where
  pub all : Tidies cells (all_of old) (all_of new)
  pub by_signal : (sender signal : ℕ) → Tidies cells (of_signal old sender signal) (of_signal new sender signal)
  pub by_object : (object : ℕ) → Tidies cells (of_object old object) (of_object new object)
