-- Names with places, by numbers of parameters (docs/machine.md, "Meta-objects").
use Rattle.std.specs.Prelude.{◌≡◌, ℕ, List, [], ◌∷◌, Option, None, slice_get}
use Rattle.std.specs.Option.{option_and_then, option_or}
use Rattle.name_indexes.specs.NamePlaces.{place_in}
use Rattle.name_indexes.specs.Places.{IsPlace}

-- names with the places that they were given
abbrev pub Index : Type 0
Index = List (List ℕ × ℕ)

-- the place of a name in the index for so many parameters
abbrev pub place_at : List Index → ℕ → List ℕ → Option ℕ
place_at indexes count name = option_and_then (λ (index : Index). place_in index name) (slice_get indexes count)

-- indexes of a class's own members and of those of the classes above it
abbrev pub Layers : Type 0
Layers = List (List Index)

-- the place of a name with so many parameters, in the first layer that has one
abbrev pub place_by : Layers → ℕ → List ℕ → Option ℕ
place_by [] count name = None
place_by (layer ∷ layers) count name = option_or (place_at layer count name) (place_by layers count name)

-- each name has the place that it had
abbrev pub SamePlaces : List Index → List Index → Type 0
SamePlaces old new = (count : ℕ) (name : List ℕ) → place_at new count name ≡ place_at old count name

-- the place that x has by its name and its number of parameters
abbrev pub call_place : {X : Type 0} → (X → List ℕ) → (X → ℕ) → Layers → X → Option ℕ
call_place name_of count_of layers x = place_by layers (count_of x) (name_of x)

-- under a name and a number of parameters stands the place of the first element that has both
abbrev pub IndexesCalls : {X : Type 0} → (X → List ℕ) → (X → ℕ) → List X → Layers → Type 0
IndexesCalls name_of count_of xs layers =
    (name : List ℕ) (count : ℕ) → IsPlace (λ x. (name_of x ≡ name) × (count_of x ≡ count)) xs (place_by layers count name)

-- one name and one number of parameters
abbrev pub AreCalledAlike : {X : Type 0} → (X → List ℕ) → (X → ℕ) → X → X → Type 0
AreCalledAlike name_of count_of a b = (name_of a ≡ name_of b) × (count_of a ≡ count_of b)
