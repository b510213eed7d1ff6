-- Two elements of a list that are alike, by their places.
use Rattle.std.specs.Prelude.{◌≡◌, ◌<◌, ◌≤◌, ℕ, List, Option, Some, slice_get, MatchOption}
use Rattle.name_indexes.specs.declared.twins.Twins.{Twins}
use Rattle.name_indexes.specs.Twice.{StandsTwice}

pub record AreTwins {X : Type 0} (alike : X → X → Type 0) (xs : List X) (t : Twins) : Type 0 where
  pub x : X
  pub is_x : slice_get xs t.first ≡ Some x
  pub y : X
  pub is_y : slice_get xs t.again ≡ Some y
  pub before : t.first < t.again
  pub are : alike x y

-- two such elements, where there are any
abbrev pub FindsTwins : {X : Type 0} → (X → X → Type 0) → List X → Option Twins → Type 0
FindsTwins alike xs answer = MatchOption answer (¬ StandsTwice alike xs) (AreTwins alike xs)

-- the place that is found, if it is before this one
abbrev pub IsEarlier : Option ℕ → ℕ → Option ℕ → Type 0
IsEarlier found place answer =
    MatchOption answer ((k : ℕ) → found ≡ Some k → place ≤ k) (λ first. (found ≡ Some first) × (first < place))
