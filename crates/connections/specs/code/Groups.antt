-- Lists of places by key.
use Rattle.std.specs.Prelude.{◌≡◌, ℕ, ◌<◌, Bool, true, false, List, [], ◌∷◌, ◌++◌, Option, Some, None, IsSomeAnd, if◌then◌else◌, slice_get}
use Rattle.std.specs.Vec.{vec_len, vec_capacity}
use Rattle.indexmap.specs.IndexMap.{IndexMap, get}
use Rattle.slab.specs.Slab.{Slab}
use Rattle.connections.specs.declared.cell.Cell.{Cell}
use Rattle.connections.specs.declared.place.CellPlace.{CellPlace}
use Rattle.connections.specs.declared.place.CellPlaces.{CellPlaces}
use Rattle.connections.specs.code.CellPlaces.{Tidies}

abbrev pub items_of : Option CellPlaces → List CellPlace
items_of None = []
items_of (Some places) = places.items.items

module _ {K S : Type 0} (eq : K → K → Bool) where
  abbrev pub list_of : IndexMap K CellPlaces S → K → List CellPlace
  list_of groups q = items_of (get eq groups q)

  -- one more place fits under the key with no allocation
  abbrev pub HasRoom : IndexMap K CellPlaces S → K → Type 0
  HasRoom groups q = IsSomeAnd (get eq groups q) (λ places. vec_len places.items < vec_capacity places.items)

  -- each key has the places that it had
  abbrev pub SameGroups : IndexMap K CellPlaces S → IndexMap K CellPlaces S → Type 0
  SameGroups old new = (q : K) → list_of new q ≡ list_of old q

  -- of the places of each key, some that lead to no connection may have been dropped
  abbrev pub TidiesGroups : Slab Cell → IndexMap K CellPlaces S → IndexMap K CellPlaces S → Type 0
  TidiesGroups cells old new = (q : K) → Tidies cells (list_of old q) (list_of new q)

  -- the group, whose key may be q in another form, has a place more
  abbrev pub Pushes : IndexMap K CellPlaces S → IndexMap K CellPlaces S → K → CellPlace → Type 0
  Pushes old new group place = (q : K) → list_of new q ≡ (if eq group q then list_of old q ++ place ∷ [] else list_of old q)

  -- what had room has room
  abbrev pub KeepsRoom : IndexMap K CellPlaces S → IndexMap K CellPlaces S → Type 0
  KeepsRoom old new = (q : K) → HasRoom old q → HasRoom new q

  -- and so have the other groups
  abbrev pub KeepsOtherRoom : IndexMap K CellPlaces S → IndexMap K CellPlaces S → K → Type 0
  KeepsOtherRoom old new group = (q : K) → eq group q ≡ false → HasRoom old q → HasRoom new q

  -- the key, in some form, is found at the index
  pub record StandsAt (groups : IndexMap K CellPlaces S) (index : ℕ) (key : K) : Type 0 where
    pub found : K
    pub places : CellPlaces
    pub entry : slice_get groups.entries index ≡ Some (found, places)
    pub there : get eq groups found ≡ Some places
    pub same : eq found key ≡ true
