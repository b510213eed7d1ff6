-- Entries that several nodes share: what is known of a node names its entry by a number.
use Rattle.std.specs.Prelude.{◌≡◌, ℕ, ◌<◌, ◌≤◌, List, length, slice_index_or}
use Rattle.rank_graph.specs.declared.path.NodeRank.{NodeRank}
use Rattle.rank_graph.specs.declared.path.VisitState.{VisitState}
use Rattle.rank_graph.specs.declared.path.VisitState.TheVariants.{New, Open, Done}
use Rattle.rank_graph.specs.declared.states.NodeMark.{NodeMark}
use Rattle.rank_graph.specs.declared.states.NodeMark.TheVariants.{Unmet, Entered, Left}

-- the entry of a node that has no edges and no classes
abbrev pub no_entry : NodeRank
no_entry = record { rank = 0; classes = record { bits = 0 } }

-- the entry of this number
unfoldable pub entry_in : List NodeRank → ℕ → NodeRank
entry_in es n = slice_index_or es n no_entry

-- what a mark says
abbrev pub state_in : List NodeRank → NodeMark → VisitState
state_in es Unmet = New
state_in es Entered = Open
state_in es (Left n) = Done (entry_in es n)

-- the entry that a mark names is there
abbrev pub IsKept : List NodeRank → NodeMark → Type 0
IsKept es Unmet = Unit {0}
IsKept es Entered = Unit {0}
IsKept es (Left n) = n < length es

abbrev pub AreKept : List NodeRank → List NodeMark → Type 0
AreKept es marks = (a : ℕ) → IsKept es (slice_index_or marks a Unmet)

-- each of the marks names an entry
abbrev pub AreLeft : List NodeMark → Type 0
AreLeft marks = (a : ℕ) → a < length marks → (n : ℕ) × (slice_index_or marks a Unmet ≡ Left n)

-- the entries before are there yet, and this number has the entry
pub record HasEntry (before after : List NodeRank) (e : NodeRank) (n : ℕ) : Type 0 where
  pub inside : n < length after
  pub is : entry_in after n ≡ e
  pub more : length before ≤ length after
  pub kept : (k : ℕ) → k < length before → entry_in after k ≡ entry_in before k
