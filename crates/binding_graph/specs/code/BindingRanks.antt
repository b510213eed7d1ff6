-- Numbers of bound properties: a source's is below its reader's. A property that gets a binding, and what follows from it,
-- take the next numbers.
use Rattle.std.specs.Prelude.{◌≡◌, ℕ, ◌+◌, ◌<◌, ◌≤◌, ◌^◌, ◌⊎◌, List, [], Option, Some}
use Rattle.indexmap.specs.IndexMap.{get, spare}
use Rattle.binding_graph.specs.declared.place.Place.{Place}
use Rattle.binding_graph.specs.declared.binding.Binding.{Binding}
use Rattle.binding_graph.specs.declared.ranks.BindingRanks.{BindingRanks}
use Rattle.binding_graph.specs.Places.{In}
use Rattle.binding_graph.specs.Bindings.{Reads}
use Rattle.binding_graph.specs.code.Keys.{key_of, same_key}
use Rattle.binding_graph.specs.code.Orders.{Ordered}

abbrev pub rank_of : BindingRanks → Place → Option ℕ
rank_of ranks p = get same_key ranks.by_place (key_of p)

-- so many are left, and fit with no allocation
abbrev pub HasNumbers : ℕ → BindingRanks → Type 0
HasNumbers n ranks = (n ≤ spare ranks.by_place) × (ranks.next + n < 2 ^ 64)

-- N numbers what F binds but for the rest, whose turn is to come, in this order: no two alike, all below the next one, and
-- a source below its reader
pub record AreRanked (F : Place → Option Binding) (rest : List Place) (N : Place → Option ℕ) (next : ℕ) : Type 0 where
  pub covers : (p : Place) (b : Binding) → F p ≡ Some b → In p rest ⊎ ((i : ℕ) × (N p ≡ Some i))
  pub rises : (q m : Place) (b : Binding) (i j : ℕ) → F q ≡ Some b → (In q rest → ⊥) → Reads b m → N m ≡ Some i → N q ≡ Some j
      → i < j
  pub free : (q m : Place) (b : Binding) → F q ≡ Some b → (In q rest → ⊥) → Reads b m → In m rest → ⊥
  pub apart : (p q : Place) (i : ℕ) → N p ≡ Some i → N q ≡ Some i → p ≡ q
  pub below : (p : Place) (i : ℕ) → N p ≡ Some i → i < next
  pub ordered : Ordered F rest

abbrev pub RankAll : (Place → Option Binding) → List Place → BindingRanks → Type 0
RankAll F rest ranks = AreRanked F rest (rank_of ranks) ranks.next

-- whatever was numbered is numbered still
abbrev pub KeepRanks : BindingRanks → BindingRanks → Type 0
KeepRanks old new = (F : Place → Option Binding) → RankAll F [] old → RankAll F [] new

-- the turn of these came
abbrev pub Renumbers : List Place → BindingRanks → BindingRanks → Type 0
Renumbers places old new = (F : Place → Option Binding) → RankAll F places old → RankAll F [] new
