-- The conditions on edges and sets, by the numbers of nodes.
use Rattle.std.specs.Prelude.{◌≡◌, ◌<◌, ◌≤◌, ℕ, Bool, List, Option, Some, slice_get}
use Rattle.std.specs.List.{Contains}
use Rattle.meta_model.specs.Loaded.{Loaded}
use Rattle.effect_scan.specs.declared.node.Node.{Node}
use Rattle.effect_scan.specs.Rows.{row}
use Rattle.effect_scan.specs.Edges.{MayLead}
use Rattle.class_sets.specs.Marks.{IsWithin}
use Rattle.rank_check.specs.ByNumbers.{HoldsOwn}
use Rattle.settling.specs.declared.standings.Standing.{Standing}
use Rattle.settling.specs.Hands.{HandOn}
use Rattle.settling.specs.Settles.{IsProperty}

-- ---- edges

-- the edges from this node to those of these numbers are edges of the program
abbrev pub LeadsIn : Loaded → Standing → List ℕ → List Standing → Type 0
LeadsIn p from targets standings = (b : ℕ) → Contains targets b → (to : Standing) × (slice_get standings b ≡ Some to) × MayLead p from.node to.node

abbrev pub LeadIn : Loaded → List (List ℕ) → List Standing → Type 0
LeadIn p rows standings = (a : ℕ) (from : Standing) → slice_get standings a ≡ Some from → LeadsIn p from (row rows a) standings

-- both are of one set
abbrev pub Shares : Option ℕ → Option ℕ → Type 0
Shares one other = (k : ℕ) × (one ≡ Some k) × (other ≡ Some k)

-- the edge from the one node to the other is as it has to be
pub record FallsAlong (p : Loaded) (from to : Standing) : Type 0 where
  pub within : Shares from.set to.set → HandOn p from.node to.node
  pub falls_within : Shares from.set to.set → (¬ IsProperty to.node) → to.rank < from.rank
  pub falls : (¬ Shares from.set to.set) → to.rank < from.rank
  pub steps : to.step ≤ from.step

abbrev pub FallFrom : Loaded → Standing → List ℕ → List Standing → Type 0
FallFrom p from targets standings = (b : ℕ) (to : Standing) → Contains targets b → slice_get standings b ≡ Some to → FallsAlong p from to

abbrev pub Fall : Loaded → List (List ℕ) → List Standing → Type 0
Fall p rows standings = (a : ℕ) (from : Standing) → slice_get standings a ≡ Some from → FallFrom p from (row rows a) standings

-- ---- destroy sets

-- the sets of the nodes of these numbers are within this one
abbrev pub AreWithin : List ℕ → List (List Bool) → List Bool → Type 0
AreWithin targets sets set = (b : ℕ) (other : List Bool) → Contains targets b → slice_get sets b ≡ Some other → IsWithin other set

-- the set of the node of this number holds what it has to
pub record Holds (p : Loaded) (x : Node) (targets : List ℕ) (sets : List (List Bool)) (set : List Bool) : Type 0 where
  pub own : HoldsOwn p x set
  pub passed_on : AreWithin targets sets set

-- each set does
abbrev pub Hold : Loaded → List Node → List (List ℕ) → List (List Bool) → Type 0
Hold p nodes rows sets = (a : ℕ) (x : Node) (set : List Bool) → slice_get nodes a ≡ Some x → slice_get sets a ≡ Some set → Holds p x (row rows a) sets set
