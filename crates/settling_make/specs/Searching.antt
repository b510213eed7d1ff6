-- What a search for components knows.
use Rattle.std.specs.Prelude.{◌≡◌, ◌↔◌, ℕ, suc, ◌+◌, ◌≤◌, ◌<◌, ◌⊎◌, List, [], ◌∷◌, ◌++◌, length, slice_set, slice_index_or}
use Rattle.std.specs.List.{Contains}
use Rattle.effect_scan.specs.Rows.{row, Edge}
use Rattle.settling_make.specs.Components.{Leads}
use Rattle.settling_make.specs.declared.groups.SearchState.{SearchState}
use Rattle.settling_make.specs.declared.groups.SearchState.TheVariants.{New, Open, Done}
use Rattle.settling_make.specs.declared.groups.OpenComponent.{OpenComponent}
use Rattle.settling_make.specs.declared.search.ComponentSearch.{ComponentSearch}

-- the state of a node
unfoldable pub state_of : List SearchState → ℕ → SearchState
state_of states a = slice_index_or states a New

-- it was left
abbrev pub IsDone : List SearchState → ℕ → Type 0
IsDone states a = (k : ℕ) × (state_of states a ≡ Done k)

abbrev pub AllDone : List SearchState → Type 0
AllDone states = (a : ℕ) → a < length states → IsDone states a

-- both lists, in either order
abbrev pub AreBoth : List ℕ → List ℕ → List ℕ → Type 0
AreBoth one other all = (all ≡ one ++ other) ⊎ (all ≡ other ++ one)

pub record IsJoined (below above joined : OpenComponent) : Type 0 where
  pub first : joined.first ≡ below.first
  pub members : AreBoth below.members above.members joined.members
  pub pending : AreBoth below.pending above.pending joined.pending

-- how many nodes weren't entered
abbrev pub room : List SearchState → ℕ
room [] = 0
room (New ∷ ss) = suc (room ss)
room (Open t ∷ ss) = room ss
room (Done k ∷ ss) = room ss

-- ---- steps
-- the node is entered
pub record Enters (rows : List (List ℕ)) (node : ℕ) (before after : ComponentSearch) (group : OpenComponent) : Type 0 where
  pub states : after.states ≡ slice_set before.states node (Open before.entered)
  pub sets : after.sets ≡ before.sets
  pub entered : after.entered ≡ before.entered + 1
  pub first : group.first ≡ before.entered
  pub members : group.members ≡ node ∷ []
  pub pending : group.pending ≡ row rows node

-- these nodes are left, as a component
pub record Leaves (members : List ℕ) (before after : ComponentSearch) : Type 0 where
  pub count : length after.states ≡ length before.states
  pub done : (a : ℕ) → Contains members a → state_of after.states a ≡ Done (length before.sets)
  pub others : (a : ℕ) → Contains members a ⊎ (state_of after.states a ≡ state_of before.states a)
  pub sets : after.sets ≡ before.sets ++ members ∷ []
  pub entered : after.entered ≡ before.entered

-- ---- what holds
-- what was left are components, each behind those that it leads to
pub record AreLeft (rows : List (List ℕ)) (search : ComponentSearch) : Type 0 where
  pub count : length search.states ≡ length rows
  pub falls : (a b k : ℕ) → state_of search.states a ≡ Done k → Edge rows a b → (j : ℕ) × (state_of search.states b ≡ Done j) × (j ≤ k)
  pub together : (a b k : ℕ) → state_of search.states a ≡ Done k → state_of search.states b ≡ Done k → Leads rows a b
  pub members : (a k : ℕ) → Edge search.sets k a ↔ (state_of search.states a ≡ Done k)
  pub early : (a t : ℕ) → state_of search.states a ≡ Open t → t < search.entered
  pub few : search.entered + room search.states ≤ length rows

-- .. and no node is open
pub record Between (rows : List (List ℕ)) (search : ComponentSearch) : Type 0 where
  pub left : AreLeft rows search
  pub closed : (a t : ℕ) → ¬ (state_of search.states a ≡ Open t)

-- the nodes all lead to one another, and edges from them lead to nodes that were left, to one another, or to what is pending
pub record IsGroup (rows : List (List ℕ)) (states : List SearchState) (group : OpenComponent) : Type 0 where
  pub opened : (a : ℕ) → Contains group.members a → (t : ℕ) × (state_of states a ≡ Open t) × (group.first ≤ t)
  pub together : (a b : ℕ) → Contains group.members a → Contains group.members b → Leads rows a b
  pub edges : (a b : ℕ) → Contains group.members a → Edge rows a b → IsDone states b ⊎ (Contains group.members b ⊎ Contains group.pending b)
  pub source : (b : ℕ) → Contains group.pending b → (a : ℕ) × Contains group.members a × Edge rows a b

-- the node is in a group of the path
abbrev pub OnPath : ℕ → List OpenComponent → Type 0
OnPath a [] = ⊥
OnPath a (g ∷ gs) = Contains g.members a ⊎ OnPath a gs

abbrev pub IsAfter : OpenComponent → List OpenComponent → Type 0
IsAfter group [] = Unit {0}
IsAfter group (g ∷ gs) = g.first ≤ group.first

-- each node below leads to those of the group, and was entered before them
pub record StandsOn (rows : List (List ℕ)) (states : List SearchState) (group : OpenComponent) (path : List OpenComponent) : Type 0 where
  pub leads : (a b : ℕ) → OnPath a path → Contains group.members b → Leads rows a b
  pub before : (a t : ℕ) → OnPath a path → state_of states a ≡ Open t → t < group.first
  pub after : IsAfter group path

abbrev pub Held : List (List ℕ) → List SearchState → List OpenComponent → Type 0
Held rows states [] = Unit {0}
Held rows states (g ∷ gs) = IsGroup rows states g × StandsOn rows states g gs × Held rows states gs

pub record Searching (rows : List (List ℕ)) (search : ComponentSearch) (path : List OpenComponent) (at : OpenComponent) : Type 0 where
  pub left : AreLeft rows search
  pub group : IsGroup rows search.states at
  pub stands : StandsOn rows search.states at path
  pub held : Held rows search.states path
  pub only : (a t : ℕ) → state_of search.states a ≡ Open t → Contains at.members a ⊎ OnPath a path

-- nodes that were entered stay so
pub record Since (before : ComponentSearch) (root : ℕ) (search : ComponentSearch) : Type 0 where
  pub grows : (a k : ℕ) → state_of before.states a ≡ Done k → state_of search.states a ≡ Done k
  pub begun : ¬ (state_of search.states root ≡ New)

-- what a search from the root leaves
pub record Visited (rows : List (List ℕ)) (before : ComponentSearch) (root : ℕ) (after : ComponentSearch) : Type 0 where
  pub between : Between rows after
  pub since : Since before root after

-- ---- how much is left to do
abbrev pub left_of : List (List ℕ) → List SearchState → ℕ
left_of rows [] = 0
left_of [] (s ∷ ss) = 0
left_of (r ∷ rs) (New ∷ ss) = length r + 2 + left_of rs ss
left_of (r ∷ rs) (Open t ∷ ss) = left_of rs ss
left_of (r ∷ rs) (Done k ∷ ss) = left_of rs ss

abbrev pub left_below : List OpenComponent → ℕ
left_below [] = 0
left_below (g ∷ gs) = suc (length g.pending) + left_below gs
