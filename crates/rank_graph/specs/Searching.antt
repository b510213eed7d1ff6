-- What a search knows.
use Rattle.std.specs.Prelude.{◌≡◌, ℕ, suc, ◌+◌, ◌-◌, ◌≤◌, ◌<◌, true, ◌⊎◌, List, [], ◌∷◌, ◌++◌, length, take, Some, slice_get, slice_index_or}
use Rattle.std.specs.List.{Contains}
use Rattle.rank_graph.specs.Bits.{has}
use Rattle.effect_scan.specs.Rows.{row, Edge}
use Rattle.rank_graph.specs.Entries.{owns}
use Rattle.rank_graph.specs.Walks.{LeadsBy}
use Rattle.rank_graph.specs.declared.bits.Bits.{Bits}
use Rattle.rank_graph.specs.declared.path.NodeRank.{NodeRank}
use Rattle.rank_graph.specs.declared.path.VisitState.{VisitState}
use Rattle.rank_graph.specs.declared.path.VisitState.TheVariants.{New, Open, Done}
use Rattle.rank_graph.specs.declared.path.Visit.{Visit}

-- the state of a node
unfoldable pub state_of : List VisitState → ℕ → VisitState
state_of states a = slice_index_or states a New

-- an entry that the nodes at these edges' ends, all done, and the node's own classes give
pub record Joins (own : List Bits) (states : List VisitState) (a : ℕ) (seen : List ℕ) (e : NodeRank) : Type 0 where
  pub falls : (b : ℕ) → Contains seen b → (d : NodeRank) × (state_of states b ≡ Done d) × (d.rank < e.rank) × ((c : ℕ) → has d.classes c ≡ true → has e.classes c ≡ true)
  pub tight : (e.rank ≡ 0) ⊎ ((b : ℕ) × (d : NodeRank) × Contains seen b × (state_of states b ≡ Done d) × (d.rank + 1 ≡ e.rank))
  pub itself : (c : ℕ) → owns own a c → has e.classes c ≡ true
  pub source : (c : ℕ) → has e.classes c ≡ true → owns own a c ⊎ ((b : ℕ) × (d : NodeRank) × Contains seen b × (state_of states b ≡ Done d) × (has d.classes c ≡ true))

-- the entry of a node that is done and told to be alike, and has no class itself that this one hasn't
pub record IsKnown (alike : List ℕ) (own : List Bits) (states : List VisitState) (a : ℕ) (e : NodeRank) : Type 0 where
  pub twin : ℕ
  pub is : slice_get alike a ≡ Some twin
  pub done : state_of states twin ≡ Done e
  pub within : (c : ℕ) → owns own twin c → owns own a c

-- how many nodes are not done
abbrev pub room : List VisitState → ℕ
room [] = 0
room (Done e ∷ ss) = room ss
room (New ∷ ss) = suc (room ss)
room (Open ∷ ss) = suc (room ss)

-- the entries of the nodes that are done are right
pub record Finished (rows : List (List ℕ)) (own : List Bits) (states : List VisitState) : Type 0 where
  pub joins : (a : ℕ) (e : NodeRank) → state_of states a ≡ Done e → Joins own states a (row rows a) e
  pub ranked : (a : ℕ) (e : NodeRank) → state_of states a ≡ Done e → e.rank + room states < length rows

abbrev pub NoneOpen : List VisitState → Type 0
NoneOpen states = (a : ℕ) → state_of states a ≡ Open → ⊥

-- a visit with which a node is entered
pub record IsBegun (rows : List (List ℕ)) (own : List Bits) (states : List VisitState) (a : ℕ) (v : Visit) : Type 0 where
  pub node : v.node ≡ a
  pub joins : Joins own states a (take v.next (row rows a)) v.entry
  pub ranked : v.entry.rank + room states ≤ length rows
  pub placed : v.next ≤ length (row rows a)

-- a node is on the path
abbrev pub OnPath : ℕ → List Visit → Type 0
OnPath a [] = ⊥
OnPath a (v ∷ vs) = (a ≡ v.node) ⊎ OnPath a vs

-- the node isn't on the path, and each node of the path is there once
abbrev pub AreOnce : ℕ → List Visit → Type 0
AreOnce child [] = Unit {0}
AreOnce child (v ∷ vs) = ¬ OnPath child (v ∷ vs) × AreOnce v.node vs

-- a node some of whose edges were followed
pub record Visiting (rows : List (List ℕ)) (own : List Bits) (states : List VisitState) (v : Visit) : Type 0 where
  pub joins : Joins own states v.node (take v.next (row rows v.node)) v.entry
  pub ranked : v.entry.rank + room states ≤ length rows
  pub placed : v.next ≤ length (row rows v.node)
  pub opened : state_of states v.node ≡ Open
  pub inside : v.node < length rows

-- the nodes below the top, each with an edge to the one above it
pub record HeldOne (rows : List (List ℕ)) (own : List Bits) (states : List VisitState) (child : ℕ) (v : Visit) (vs : List Visit) : Type 0 where
  pub visiting : Visiting rows own states v
  pub more : v.next < length (row rows v.node)
  pub leads : slice_index_or (row rows v.node) v.next 0 ≡ child
  pub once : OnPath v.node vs → ⊥

abbrev pub Held : List (List ℕ) → List Bits → List VisitState → ℕ → List Visit → Type 0
Held rows own states child [] = Unit {0}
Held rows own states child (v ∷ vs) = HeldOne rows own states child v vs × Held rows own states v.node vs

pub record Searching (rows : List (List ℕ)) (own : List Bits) (states : List VisitState) (path : List Visit) (at : Visit) : Type 0 where
  pub finished : Finished rows own states
  pub visiting : Visiting rows own states at
  pub held : Held rows own states at.node path
  pub once : OnPath at.node path → ⊥
  pub only : (a : ℕ) → state_of states a ≡ Open → (a ≡ at.node) ⊎ OnPath a path

-- more of a visit's edges were followed
pub record PassesDone (rows : List (List ℕ)) (states : List VisitState) (before after : Visit) : Type 0 where
  pub node : after.node ≡ before.node
  pub onward : before.next ≤ after.next
  pub keeps : (own : List Bits) (path : List Visit) → Searching rows own states path before → Searching rows own states path after

-- nodes that are done stay so
abbrev pub Grows : List VisitState → List VisitState → Type 0
Grows states after = (a : ℕ) (d : NodeRank) → state_of states a ≡ Done d → state_of after a ≡ Done d

pub record Visited (rows : List (List ℕ)) (own : List Bits) (states : List VisitState) (root : ℕ) (after : List VisitState) : Type 0 where
  pub finished : Finished rows own after
  pub closed : NoneOpen after
  pub grows : Grows states after
  pub done : (d : NodeRank) × (state_of after root ≡ Done d)
  pub len : length after ≡ length states

-- since a search began
pub record Since (before : List VisitState) (root : ℕ) (states : List VisitState) : Type 0 where
  pub grows : Grows before states
  pub begun : state_of states root ≡ New → ⊥
  pub len : length states ≡ length before

-- how many edges and nodes are left to follow
abbrev pub left : List (List ℕ) → List VisitState → ℕ
left rows [] = 0
left [] (s ∷ ss) = 0
left (r ∷ rs) (New ∷ ss) = length r + 2 + left rs ss
left (r ∷ rs) (Open ∷ ss) = left rs ss
left (r ∷ rs) (Done e ∷ ss) = left rs ss

abbrev pub left_below : List (List ℕ) → List Visit → ℕ
left_below rows [] = 0
left_below rows (v ∷ vs) = (length (row rows v.node) - v.next) + 1 + left_below rows vs

-- each node of the path has an edge to the one above it
abbrev pub Climbs : List (List ℕ) → ℕ → List Visit → Type 0
Climbs rows child [] = Unit {0}
Climbs rows child (v ∷ vs) = Edge rows v.node child × Climbs rows v.node vs

-- edges lead from each of these nodes to the next one, and from the last to the first
abbrev pub LeadsRound : List (List ℕ) → List ℕ → Type 0
LeadsRound rows [] = ⊥
LeadsRound rows (a ∷ xs) = LeadsBy (Edge rows) a (xs ++ a ∷ []) a

abbrev pub AllDone : List VisitState → Type 0
AllDone states = (a : ℕ) → a < length states → (d : NodeRank) × (state_of states a ≡ Done d)
