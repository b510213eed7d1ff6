-- The sets of a settling certificate that is made, by numbers (docs/settling.md, "The maker").
use Rattle.std.specs.Prelude.{◌≡◌, ◌<◌, ◌+◌, ℕ, List, length, Some, None, slice_get}
use Rattle.std.specs.List.{Contains, AllZip}
use Rattle.meta_model.specs.Loaded.{Loaded}
use Rattle.effect_scan.specs.declared.node.Node.{Node}
use Rattle.effect_scan.specs.Nodes.{nodes_of, IsAt}
use Rattle.effect_scan.specs.Rows.{row, Edge}
use Rattle.certificate_lang.specs.declared.certificate.NodeName.{NodeName}
use Rattle.rank_check.specs.Names.{IsNodeNamed}
use Rattle.rank_check.specs.Entries.{place_at}
use Rattle.settling.specs.declared.certificate.SettlingSet.{SettlingSet}
use Rattle.settling_make.specs.declared.components.Components.{Components}
use Rattle.settling_make.specs.declared.sets.Sets.{Sets}
use Rattle.settling_make.specs.Components.{number_of}

-- an edge leads from one of these nodes to a node of the component of this number
pub record HasInside (rows : List (List ℕ)) (numbers : List ℕ) (k : ℕ) (members : List ℕ) : Type 0 where
  pub from : ℕ
  pub to : ℕ
  pub among : Contains members from
  pub edge : Edge rows from to
  pub inside : number_of numbers to ≡ k

-- the least number that is above the heights of these nodes
pub record IsRound (members : List ℕ) (height : ℕ → ℕ) (round : ℕ) : Type 0 where
  pub above : (a : ℕ) → Contains members a → height a < round
  pub met : (a : ℕ) × Contains members a × (height a + 1 ≡ round)

-- the name is that of the node of this number
pub record IsNameOf (p : Loaded) (n : ℕ) (name : NodeName) : Type 0 where
  pub node : Node
  pub at : IsAt (nodes_of p) node n
  pub named : IsNodeNamed p name node

-- the set has these nodes, and their round
pub record IsSetOf (p : Loaded) (members : List ℕ) (height : ℕ → ℕ) (set : SettlingSet) : Type 0 where
  pub names : AllZip (IsNameOf p) members set.members
  pub round : IsRound members height set.round

-- For each of the first components the place of its set, if an edge leads from one of its nodes to another or itself; no set is
-- of two.
pub record AreSetsTo (p : Loaded) (rows : List (List ℕ)) (found : Components) (height : ℕ → ℕ) (end : ℕ) (made : Sets) : Type 0 where
  pub count : length made.places ≡ end
  pub none : (k : ℕ) → k < end → place_at made.places k ≡ None → ¬ HasInside rows found.numbers k (row found.sets k)
  pub some : (k i : ℕ) → place_at made.places k ≡ Some i → HasInside rows found.numbers k (row found.sets k)
  pub is : (k i : ℕ) (set : SettlingSet) → place_at made.places k ≡ Some i → slice_get made.sets i ≡ Some set → IsSetOf p (row found.sets k) height set
  pub inside : (k i : ℕ) → place_at made.places k ≡ Some i → i < length made.sets
  pub each : (i : ℕ) → i < length made.sets → (k : ℕ) × (place_at made.places k ≡ Some i)
  pub apart : (j k i : ℕ) → place_at made.places j ≡ Some i → place_at made.places k ≡ Some i → j ≡ k

-- .. of all
abbrev pub AreSetsOf : Loaded → List (List ℕ) → Components → (ℕ → ℕ) → Sets → Type 0
AreSetsOf p rows found height made = AreSetsTo p rows found height (length found.sets) made
