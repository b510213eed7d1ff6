-- The ranks of nodes and the classes that they lead to (docs/certificate.md, "The maker").
use Rattle.std.specs.Prelude.{◌≡◌, ◌↔◌, ℕ, ◌/◌, ◌%◌, ◌≤◌, Bool, true, List, [], length, slice_index_or}
use Rattle.effect_scan.specs.Rows.{Edge}
use Rattle.rank_graph.specs.declared.bits.TheConstants.{SIZE}
use Rattle.rank_graph.specs.declared.path.NodeRank.{NodeRank}
use Rattle.rank_graph.specs.declared.solution.Solution.{Solution}
use Rattle.rank_graph.specs.Walks.{LeadsBy}
use Rattle.rank_graph.specs.Entries.{rank_at, leads_at}

-- the rank of a node is how many edges its longest chain has
pub record AreRanks (rows : List (List ℕ)) (rank : ℕ → ℕ) : Type 0 where
  pub chains : (a : ℕ) → (along : List ℕ) × (to : ℕ) × LeadsBy (Edge rows) a along to × (length along ≡ rank a)
  pub longest : (a : ℕ) (along : List ℕ) (to : ℕ) → LeadsBy (Edge rows) a along to → length along ≤ rank a

-- edges lead from the node to one that has the class itself
pub record LeadsTo (rows own : List (List ℕ)) (a c : ℕ) : Type 0 where
  pub along : List ℕ
  pub to : ℕ
  pub leads : LeadsBy (Edge rows) a along to
  pub has : Edge own to c

-- the classes of a node are just those that it leads to
abbrev pub AreClasses : List (List ℕ) → List (List ℕ) → (ℕ → ℕ → Bool) → Type 0
AreClasses rows own leads = (a c : ℕ) → (leads a c ≡ true) ↔ LeadsTo rows own a c

-- ---- what a solution tells
unfoldable pub entries_of : Solution → ℕ → List NodeRank
entries_of s k = slice_index_or s.groups k []

-- the rank of a node
unfoldable pub rank_of : Solution → ℕ → ℕ
rank_of s a = rank_at (entries_of s 0) a

-- whether a node leads to the class
unfoldable pub leads_of : Solution → ℕ → ℕ → Bool
leads_of s a c = leads_at (entries_of s (c / SIZE)) a (c % SIZE)
