-- The format of places of another text (docs/places.md).
use Rattle.std.specs.Borrow.{Bor}
use Rattle.std.specs.Prelude.{ℕ, ◌≡◌, ◌≢◌, ◌+◌, ◌≤◌, ◌<◌, ◌⊎◌, List, [], ◌∷◌, ◌++◌, length, map, All, slice_get, Option, Some, None, Result, Ok, Err}
use Rattle.std.specs.List.{AllByRecursion}
use Rattle.texts.specs.Lines.{IsFirstLine, AreFirstLines, AreLines}
use Rattle.texts.specs.Numerals.{IsNumeral}
use Rattle.diagnostics.specs.declared.other_text.place.OtherPlace.{OtherPlace}
use Rattle.diagnostics.specs.declared.other_text.fault.PlacesFault.{PlacesFault}
use Rattle.diagnostics.specs.declared.other_text.fault.PlacesFault.TheVariants.{NoPlace, Memory}

-- ---- a line

-- it has no tab, which is the byte 9
abbrev pub IsPart : List ℕ → Type 0
IsPart part = AllByRecursion (λ b. b ≢ 9) part

-- the line is these parts, with a tab between two of them
abbrev pub AreParts : List ℕ → List (List ℕ) → Type 0
AreParts line [] = ⊥
AreParts line (part ∷ []) = IsPart part × (line ≡ part)
AreParts line (part ∷ next ∷ more) = (rest : List ℕ) × IsPart part × (line ≡ part ++ 9 ∷ rest) × AreParts rest (next ∷ more)

-- the part writes the number of a line or a column, which are counted from 1
pub record IsCount (part : List ℕ) (n : ℕ) : Type 0 where
  pub numeral : IsNumeral part n
  pub some : 1 ≤ n
  pub fits : n ≤ 4294967295

-- The parts are a place: its line and column in the program; the file of the other text, which has a name, the line and column there
-- and the words; then each condition.
pub record ArePlace (parts : List (List ℕ)) (place : OtherPlace) : Type 0 where
  pub line_part : List ℕ
  pub column_part : List ℕ
  pub other_line_part : List ℕ
  pub other_column_part : List ℕ
  pub are : parts ≡ line_part ∷ column_part ∷ place.file.now ∷ other_line_part ∷ other_column_part ∷ place.words.now ∷ map (λ condition. condition.now) place.conditions
  pub line : IsCount line_part place.line
  pub column : IsCount column_part place.column
  pub file : place.file.now ≢ []
  pub other_line : IsCount other_line_part place.other_line
  pub other_column : IsCount other_column_part place.other_column

-- the line is the place
pub record IsPlaceLine (line : List ℕ) (place : OtherPlace) : Type 0 where
  pub parts : List (List ℕ)
  pub cut : AreParts line parts
  pub are_place : ArePlace parts place

-- ---- a text

-- where the place is in the program
abbrev pub spot_of : OtherPlace → ℕ × ℕ
spot_of place = (place.line, place.column)

-- the second of two lines and columns is behind the first
abbrev pub IsBehind : ℕ × ℕ → ℕ × ℕ → Type 0
IsBehind first second = (first.0 < second.0) ⊎ ((first.0 ≡ second.0) × (first.1 < second.1))

-- each of the lines is one of the places, in their order, and each of these is behind the one before it, from the first spot to
-- the last
abbrev pub ArePlaces : ℕ × ℕ → List (List ℕ) → List OtherPlace → ℕ × ℕ → Type 0
ArePlaces first [] places last = (places ≡ []) × (first ≡ last)
ArePlaces first (line ∷ lines) places last =
    (place : OtherPlace) × (later : List OtherPlace) × IsPlaceLine line place × IsBehind first (spot_of place)
    × ArePlaces (spot_of place) lines later last × (places ≡ place ∷ later)

-- the text is these places
pub record AreOtherPlaces (text : List ℕ) (places : List OtherPlace) : Type 0 where
  pub lines : List (List ℕ)
  pub last : ℕ × ℕ
  pub cut : AreLines text lines
  pub are : ArePlaces (0, 0) lines places last

-- The n-th line, counted from 1, is no place that is behind the one before it, and each line before it is one.
pub record IsNoPlace (text : List ℕ) (n : ℕ) : Type 0 where
  pub good : List (List ℕ)
  pub places : List OtherPlace
  pub last : ℕ × ℕ
  pub are : ArePlaces (0, 0) good places last
  pub line : List ℕ
  pub from_line : List ℕ
  pub after : List ℕ
  pub lead : AreFirstLines text good from_line
  pub front : IsFirstLine from_line line after
  pub bad : (place : OtherPlace) → IsPlaceLine line place → IsBehind last (spot_of place) → ⊥
  pub counted : n ≡ length good + 1

-- what the reader answers; where memory is refused nothing is said
abbrev pub ReadsPlaces : List ℕ → Result (List OtherPlace) PlacesFault → Type 0
ReadsPlaces text (Ok places) = AreOtherPlaces text places
ReadsPlaces text (Err (NoPlace n)) = IsNoPlace text n
ReadsPlaces text (Err Memory) = Unit {0}

-- ---- what stands where

-- the place is that of this line and this column of the program
abbrev pub StandsAt : ℕ → ℕ → OtherPlace → Type 0
StandsAt line column place = (place.line ≡ line) × (place.column ≡ column)

-- it is one of the places
abbrev pub IsAmong : List OtherPlace → OtherPlace → Type 0
IsAmong places place = (at : ℕ) × (slice_get places at ≡ Some place)

-- the place of this line and column, or none where there is no such one
abbrev pub FindsAt : List OtherPlace → ℕ → ℕ → Option (Bor OtherPlace) → Type 0
FindsAt places line column (Some place) = IsAmong places place.now × StandsAt line column place.now
FindsAt places line column None = All (λ place. StandsAt line column place → ⊥) places
