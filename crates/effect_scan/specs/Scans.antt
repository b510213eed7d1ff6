-- What a scan tells (docs/certificate.md, "Nodes" and "Edges").
use Rattle.std.specs.Prelude.{◌≡◌, ◌↔◌, ℕ, List, length}
use Rattle.std.specs.List.Sorted.{IsStrictlyIncreasing}
use Rattle.meta_model.specs.Loaded.{Loaded}
use Rattle.effect_scan.specs.declared.node.Node.{Node}
use Rattle.effect_scan.specs.Nodes.{nodes_of}
use Rattle.effect_scan.specs.Rows.{row, Edge}
use Rattle.effect_scan.specs.Destroying.{AreClosures}
use Rattle.effect_scan.specs.Edges.{MayLead, LeadsAt}

-- the nodes in their order, for each of them the numbers of those that it may lead to, and for each class its closure
pub record Scanned : Type 0 where
  pub nodes : List Node
  pub rows : List (List ℕ)
  pub closures : List (List ℕ)

-- a row for each node; an edge just where one node may lead to the other; each row in order, without repeats
pub record AreEdges (p : Loaded) (rows : List (List ℕ)) : Type 0 where
  pub count : length rows ≡ length (nodes_of p)
  pub edges : (a b : ℕ) → Edge rows a b ↔ LeadsAt p (MayLead p) a b
  pub increasing : (a : ℕ) → IsStrictlyIncreasing (row rows a)

pub record IsScan (p : Loaded) (scan : Scanned) : Type 0 where
  pub nodes : scan.nodes ≡ nodes_of p
  pub edges : AreEdges p scan.rows
  pub closures : AreClosures p scan.closures
