-- Edges that are added to rows, and rows in their order.
use Rattle.std.specs.Prelude.{◌≡◌, ◌↔◌, ◌⊎◌, ℕ, ◌<◌, List, length, Some, slice_get}
use Rattle.std.specs.List.{Contains}
use Rattle.std.specs.List.Sorted.{IsStrictlyIncreasing}
use Rattle.effect_scan.specs.Rows.{row, Edge}

-- just the edges with P were added
pub record Adds (P : ℕ → ℕ → Type 0) (before more : List (List ℕ)) : Type 0 where
  pub count : length more ≡ length before
  pub edges : (a b : ℕ) → Edge more a b ↔ (Edge before a b ⊎ P a b)

-- some element of the list gives the edge
pub record Among {X : Type 0} (L : ℕ → X → ℕ → ℕ → Type 0) (xs : List X) (a b : ℕ) : Type 0 where
  pub place : ℕ
  pub item : X
  pub is : slice_get xs place ≡ Some item
  pub leads : L place item a b

-- some element before this place gives the edge
pub record AmongFirst {X : Type 0} (L : ℕ → X → ℕ → ℕ → Type 0) (xs : List X) (end a b : ℕ) : Type 0 where
  pub among : Among L xs a b
  pub before : among.place < end

-- from one of the first to one of the others
abbrev pub Joins : List ℕ → List ℕ → ℕ → ℕ → Type 0
Joins sources targets a b = Contains sources a × Contains targets b

-- just the numbers of both lists
abbrev pub HasBoth : List ℕ → List ℕ → List ℕ → Type 0
HasBoth first other all = (n : ℕ) → Contains all n ↔ (Contains first n ⊎ Contains other n)

-- the same numbers, each once, in their order
pub record IsOrdered (numbers list : List ℕ) : Type 0 where
  pub same : (n : ℕ) → Contains list n ↔ Contains numbers n
  pub increasing : IsStrictlyIncreasing list

-- the same rows, each in its order
pub record AreOrdered (rows ordered : List (List ℕ)) : Type 0 where
  pub count : length ordered ≡ length rows
  pub each : (a : ℕ) → IsOrdered (row rows a) (row ordered a)
