-- The walks along edges that no valid certificate allows (docs/certificate.md, "The maker").
use Rattle.std.specs.Prelude.{◌≡◌, ◌≤◌, ℕ, List}
use Rattle.meta_model.specs.Loaded.{Loaded}
use Rattle.effect_scan.specs.declared.node.Node.{Node}
use Rattle.effect_scan.specs.declared.node.Member.TheVariants.{Destruction}
use Rattle.effect_scan.specs.Nodes.{nodes_of, IsAt}
use Rattle.effect_scan.specs.Edges.{MayLead}
use Rattle.effect_scan.specs.Destroying.{Closure}
use Rattle.rank_check.specs.Valid.{HasBody, most_bound}
use Rattle.rank_graph.specs.Walks.{IsWalk, AreDistinct, IsChain, ComesBack, IsCycleFromFirst}

-- ---- cycles
abbrev pub NoCycle : Loaded → Type 0
NoCycle p = (x : Node) (nodes : List Node) → ¬ ComesBack (MayLead p) x nodes

-- x doesn't come after y in the order of nodes
abbrev pub NotBehind : Loaded → Node → Node → Type 0
NotBehind p x y = (n m : ℕ) → IsAt (nodes_of p) x n → IsAt (nodes_of p) y m → n ≤ m

-- a cycle, from its first node in the order of nodes back to it
abbrev pub IsToldCycle : Loaded → List Node → Type 0
IsToldCycle p nodes = IsCycleFromFirst (MayLead p) (NotBehind p) nodes

-- ---- paths to a destruction
-- a walk from a slot or native of a class C to a `~X` whose closure holds C
pub record LeadsToDestruction (p : Loaded) (nodes : List Node) : Type 0 where
  pub from : Node
  pub to : Node
  pub walk : IsWalk (MayLead p) from to nodes
  pub body : HasBody p from
  pub destruction : to.member ≡ Destruction
  pub holds : Closure p to.class from.class

abbrev pub NoDestroyPath : Loaded → Type 0
NoDestroyPath p = (nodes : List Node) → ¬ LeadsToDestruction p nodes

-- a walk from a slot or native to such a destruction that comes to none of its nodes twice
pub record IsDestroyPath (p : Loaded) (nodes : List Node) : Type 0 where
  pub leads : LeadsToDestruction p nodes
  pub once : AreDistinct nodes

-- ---- chains
-- a chain of more nodes than the greatest bound
abbrev pub IsHighChain : Loaded → List Node → Type 0
IsHighChain p nodes = (from : Node) × IsChain (MayLead p) most_bound from nodes
