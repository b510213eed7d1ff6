-- Edges between numbered nodes: a row of numbers for each node, where its edges end.
use Rattle.std.specs.Prelude.{◌≡◌, ℕ, List, [], ◌∷◌, ◌++◌, suc, length, map, Some, slice_get, slice_index_or}
use Rattle.std.specs.List.{Contains}

-- the numbers in a row
unfoldable pub row : List (List ℕ) → ℕ → List ℕ
row rows a = slice_index_or rows a []

-- an edge leads from a to b
abbrev pub Edge : List (List ℕ) → ℕ → ℕ → Type 0
Edge rows a b = Contains (row rows a) b

-- the edges of the rows, the first of which is that of node a
abbrev pub pairs_from : ℕ → List (List ℕ) → List (ℕ × ℕ)
pairs_from a [] = []
pairs_from a (r ∷ rest) = map (λ b. (a, b)) r ++ pairs_from (suc a) rest

-- for each row the number of one that is the same
pub record AreAlike (rows : List (List ℕ)) (alike : List ℕ) : Type 0 where
  pub count : length alike ≡ length rows
  pub each : (a b : ℕ) → slice_get alike a ≡ Some b → row rows b ≡ row rows a
