-- Graphs over numbered nodes, with a row of numbers for each node, where its edges end (docs/certificate.md, "The maker").
use Rattle.std.specs.Prelude.{ℕ, ◌<◌, ◌≤◌, List, length}
use Rattle.effect_scan.specs.Rows.{Edge}
use Rattle.rank_graph.specs.Walks.{IsPath, IsCycleFromFirst}

-- each edge ends at a node
abbrev pub InRange : List (List ℕ) → Type 0
InRange rows = (a b : ℕ) → Edge rows a b → b < length rows

-- a cycle, from the least of its nodes on
abbrev pub IsToldCycle : List (List ℕ) → List ℕ → Type 0
IsToldCycle rows nodes = IsCycleFromFirst (Edge rows) (λ (a b : ℕ). a ≤ b) nodes

-- a path to a node whose own classes have class c
pub record IsPathTo (rows own : List (List ℕ)) (c from : ℕ) (nodes : List ℕ) : Type 0 where
  pub to : ℕ
  pub path : IsPath (Edge rows) from to nodes
  pub has : Edge own to c
