-- Ways along edges to one of some nodes, and what a search for one knows.
use Rattle.std.specs.Prelude.{◌≡◌, ◌⊎◌, ◌<◌, ℕ, Bool, true, false, List, [], ◌∷◌, ◌++◌, length, slice_index_or, slice_set}
use Rattle.effect_scan.specs.Rows.{Edge}
use Rattle.rank_graph.specs.Walks.{LeadsBy, IsWalk}
use Rattle.program_commands.specs.declared.ways.Met.{Met}
use Rattle.program_commands.specs.declared.ways.WaySearch.{WaySearch}

-- whether the node has the flag; none past the last one has
unfoldable pub flag_of : List Bool → ℕ → Bool
flag_of flags a = slice_index_or flags a false

-- an edge to a node without the flag
abbrev pub OpenEdge : List (List ℕ) → List Bool → ℕ → ℕ → Type 0
OpenEdge rows closed a b = Edge rows a b × (flag_of closed b ≡ false)

-- edges lead along these nodes, one at least behind the first, to one with the flag
pub record IsWayTo (E : ℕ → ℕ → Type 0) (ends : List Bool) (from : ℕ) (nodes : List ℕ) : Type 0 where
  pub to : ℕ
  pub walk : IsWalk E from to nodes
  pub some : 1 < length nodes
  pub flagged : flag_of ends to ≡ true

-- none leads so
abbrev pub NoWayTo : (ℕ → ℕ → Type 0) → List Bool → ℕ → Type 0
NoWayTo E ends from = (along : List ℕ) (to : ℕ) → LeadsBy E from along to → 0 < length along → flag_of ends to ≡ true → ⊥

-- ---- a search
-- what was met at this place
unfoldable pub met_at : List Met → ℕ → Met
met_at found k = slice_index_or found k (record { node = 0; back = 0 })

-- each but the first was met from one before, along an edge
pub record IsTree (rows : List (List ℕ)) (closed : List Bool) (found : List Met) : Type 0 where
  pub before : (k : ℕ) → 0 < k → k < length found → (met_at found k).back < k
  pub edges : (k : ℕ) → 0 < k → k < length found → OpenEdge rows closed (met_at found ((met_at found k).back)).node (met_at found k).node

-- the node was met from the one at this place, and is passed now
pub record IsMet (at target : ℕ) (before after : WaySearch) : Type 0 where
  pub new : flag_of before.passed target ≡ false
  pub found : after.found ≡ before.found ++ (record { node = target; back = at }) ∷ []
  pub passed : after.passed ≡ slice_set before.passed target true

-- what an edge comes to that leads from the node at this place to this one: that is an end, or was passed before, or is met now
abbrev pub Meets : List Bool → ℕ → ℕ → WaySearch → WaySearch → Bool → Type 0
Meets ends at target before after true = (flag_of before.passed target ≡ false) × (flag_of ends target ≡ true) × (after ≡ before)
Meets ends at target before after false =
    ((flag_of before.passed target ≡ true) × (after ≡ before)) ⊎ ((flag_of ends target ≡ false) × IsMet at target before after)
