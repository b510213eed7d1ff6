-- The ranks of nodes, and the classes of a group that they lead to.
use Rattle.std.specs.Prelude.{◌≡◌, ℕ, ◌+◌, ◌<◌, Bool, true, false, ◌⊎◌, List, length, slice_get, Option, Some, None}
use Rattle.effect_scan.specs.Rows.{Edge}
use Rattle.rank_graph.specs.Bits.{has}
use Rattle.rank_graph.specs.declared.bits.Bits.{Bits}
use Rattle.rank_graph.specs.declared.path.NodeRank.{NodeRank}

-- the class is among the node's own ones
unfoldable pub owns : List Bits → ℕ → ℕ → Type 0
owns own a c = (s : Bits) × (slice_get own a ≡ Some s) × (has s c ≡ true)

abbrev pub rank_in : Option NodeRank → ℕ
rank_in None = 0
rank_in (Some e) = e.rank

abbrev pub leads_in : Option NodeRank → ℕ → Bool
leads_in None c = false
leads_in (Some e) c = has e.classes c

-- the rank of a node
abbrev pub rank_at : List NodeRank → ℕ → ℕ
rank_at es a = rank_in (slice_get es a)

-- whether a node leads to the class
abbrev pub leads_at : List NodeRank → ℕ → ℕ → Bool
leads_at es a c = leads_in (slice_get es a) c

-- each node has a rank just above the largest of those that its edges lead to, and the classes of these and its own
pub record IsSearched (rows : List (List ℕ)) (own : List Bits) (es : List NodeRank) : Type 0 where
  pub len : length es ≡ length rows
  pub falls : (a b : ℕ) → Edge rows a b → rank_at es b < rank_at es a
  pub tight : (a : ℕ) → (rank_at es a ≡ 0) ⊎ ((b : ℕ) × Edge rows a b × (rank_at es b + 1 ≡ rank_at es a))
  pub holds : (a b c : ℕ) → Edge rows a b → leads_at es b c ≡ true → leads_at es a c ≡ true
  pub itself : (a c : ℕ) → owns own a c → leads_at es a c ≡ true
  pub source : (a c : ℕ) → leads_at es a c ≡ true → owns own a c ⊎ ((b : ℕ) × Edge rows a b × (leads_at es b c ≡ true))
