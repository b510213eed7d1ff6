-- Numbers by which places are found.
use Rattle.std.specs.Prelude.{ℕ, ◌≡◌, ◌+◌, ◌*◌, ◌≤◌, ◌<◌, List, length, map, slice_index}
use Rattle.std.specs.List.{AllByRecursion}
use Rattle.diagnostics.specs.declared.other_text.place.OtherPlace.{OtherPlace}

-- the number of a line and a column of the program
abbrev pub key_of : ℕ → ℕ → ℕ
key_of line column = line * 18446744073709551616 + column

abbrev pub key_of_place : OtherPlace → ℕ
key_of_place place = key_of place.line place.column

-- they don't fall
abbrev pub AreRising : List ℕ → Type 0
AreRising keys = (i j : ℕ) → i ≤ j → j < length keys → slice_index keys i ≤ slice_index keys j

-- its column is no greater than one that is read
abbrev pub IsNarrow : OtherPlace → Type 0
IsNarrow place = place.column ≤ 4294967295

-- the places are found by these numbers
pub record AreIndexed (places : List OtherPlace) (keys : List ℕ) : Type 0 where
  pub are : keys ≡ map key_of_place places
  pub rising : AreRising keys
  pub narrow : AllByRecursion IsNarrow places
