-- Ways along the edges of a program.
use Rattle.std.specs.Prelude.{◌≡◌, ◌↔◌, ◌<◌, ℕ, Bool, true, false, List, length}
use Rattle.std.specs.List.{AllZip}
use Rattle.meta_model.specs.Loaded.{Loaded}
use Rattle.effect_scan.specs.declared.node.Node.{Node}
use Rattle.effect_scan.specs.declared.node.Member.TheVariants.{Destruction}
use Rattle.effect_scan.specs.Nodes.{nodes_of, IsAt}
use Rattle.effect_scan.specs.Edges.{MayLead}
use Rattle.effect_scan.specs.Rows.{Edge}
use Rattle.rank_graph.specs.Walks.{LeadsBy, IsWalk}
use Rattle.program_commands.specs.Ways.{flag_of}

-- just the nodes of this kind have a flag
abbrev pub AreFlags : (Node → Type 0) → List Node → List Bool → Type 0
AreFlags Has nodes flags = AllZip (λ x flag. (flag ≡ true) ↔ Has x) nodes flags

-- the destruction of an object with which one of the class may be destroyed
abbrev pub IsDestructionOf : List (List ℕ) → ℕ → Node → Type 0
IsDestructionOf closures class x = (x.member ≡ Destruction) × Edge closures x.class class

-- an edge to a node without a flag
abbrev pub MayPass : Loaded → List Bool → Node → Node → Type 0
MayPass p closed x y = MayLead p x y × ((n : ℕ) → IsAt (nodes_of p) y n → flag_of closed n ≡ false)

-- the node has this flag
abbrev pub IsEnd : Loaded → List Bool → Node → Type 0
IsEnd p ends x = (n : ℕ) × IsAt (nodes_of p) x n × (flag_of ends n ≡ true)

-- a way leads to one of the ends
pub record HasWay (p : Loaded) (closed ends : List Bool) (from : Node) : Type 0 where
  pub along : List Node
  pub to : Node
  pub leads : LeadsBy (MayPass p closed) from along to
  pub some : 0 < length along
  pub flagged : IsEnd p ends to

-- these nodes are such a way
pub record IsWay (p : Loaded) (closed ends : List Bool) (from : Node) (nodes : List Node) : Type 0 where
  pub to : Node
  pub walk : IsWalk (MayPass p closed) from to nodes
  pub some : 1 < length nodes
  pub flagged : IsEnd p ends to
