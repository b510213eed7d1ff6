-- The strongly connected components of a graph over numbered nodes, with a row of numbers for each node, where its edges end.
use Rattle.std.specs.Prelude.{◌≡◌, ◌↔◌, ℕ, ◌<◌, ◌≤◌, List, length, slice_index_or}
use Rattle.effect_scan.specs.Rows.{Edge}
use Rattle.rank_graph.specs.Walks.{LeadsBy}
use Rattle.settling_make.specs.declared.components.Components.{Components}

-- edges lead from a to b, or they are one
pub record Leads (rows : List (List ℕ)) (a b : ℕ) : Type 0 where
  pub along : List ℕ
  pub leads : LeadsBy (Edge rows) a along b

-- the number of a node's component
unfoldable pub number_of : List ℕ → ℕ → ℕ
number_of numbers a = slice_index_or numbers a 0

-- Two nodes are in one component just where each leads to the other: numbers don't rise along edges, and those of one number
-- lead to one another. The sets are the nodes of each number.
pub record AreComponents (rows : List (List ℕ)) (found : Components) : Type 0 where
  pub count : length found.numbers ≡ length rows
  pub falls : (a b : ℕ) → Edge rows a b → number_of found.numbers b ≤ number_of found.numbers a
  pub together : (a b : ℕ) → a < length rows → b < length rows → number_of found.numbers a ≡ number_of found.numbers b → Leads rows a b
  pub members : (a k : ℕ) → Edge found.sets k a ↔ ((a < length rows) × (number_of found.numbers a ≡ k))
