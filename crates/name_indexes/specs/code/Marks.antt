-- Marks of names, by which most names that an index doesn't have are told from those that it has.
use Rattle.std.specs.Prelude.{◌≡◌, ℕ, ◌%◌, List, Bool, true, Some, get_or}
use Rattle.std.specs.Hash.FoldHasher.{initial, write, finish}
use Rattle.name_indexes.specs.CallPlaces.{Index, place_at}

-- the mark of a name
abbrev pub name_mark : List ℕ → ℕ
name_mark name = finish (write initial name) % 512

-- the mark of each name of the indexes is there
abbrev pub AreMarked : List Bool → List Index → Type 0
AreMarked marks indexes =
    (count : ℕ) (name : List ℕ) (place : ℕ) → place_at indexes count name ≡ Some place → get_or marks (name_mark name) true ≡ true
