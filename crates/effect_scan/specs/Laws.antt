-- What holds of nodes and edges in every program that loads.
use Rattle.std.specs.Prelude.{ℕ}
use Rattle.meta_model.specs.Loaded.{Loaded}
use Rattle.effect_scan.specs.declared.node.Node.{Node}
use Rattle.effect_scan.specs.Nodes.{nodes_of, IsAt}
use Rattle.effect_scan.specs.Edges.{MayLead}

-- it is a node of the program
abbrev pub IsNode : Loaded → Node → Type 0
IsNode p x = (n : ℕ) × IsAt (nodes_of p) x n

-- whatever leads to something is a node, and so is what it leads to
abbrev pub EdgesJoinNodes : Loaded → Type 0
EdgesJoinNodes p = (x y : Node) → MayLead p x y → IsNode p x × IsNode p y
