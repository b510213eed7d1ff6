-- Classes in groups: group k has the classes from 128 k on, in order, and a class's place in its group is what is left over.
use Rattle.std.specs.Prelude.{◌≡◌, ◌↔◌, ℕ, ◌+◌, ◌*◌, ◌<◌, true, List, length}
use Rattle.std.specs.List.{Contains}
use Rattle.effect_scan.specs.Rows.{Edge}
use Rattle.rank_graph.specs.declared.bits.TheConstants.{SIZE}
use Rattle.rank_graph.specs.declared.bits.Bits.{Bits}
use Rattle.rank_graph.specs.declared.path.NodeRank.{NodeRank}
use Rattle.rank_graph.specs.Bits.{has}
use Rattle.rank_graph.specs.Entries.{owns, IsSearched}

-- just those of the classes that are in the group, by their places
abbrev pub HasGroup : ℕ → List ℕ → Bits → Type 0
HasGroup k classes s = (c : ℕ) → c < SIZE → (has s c ≡ true) ↔ Contains classes (SIZE * k + c)

-- for each node just those of its classes that are in the group, by their places
pub record AreGroup (k : ℕ) (own : List (List ℕ)) (bits : List Bits) : Type 0 where
  pub len : length bits ≡ length own
  pub members : (a c : ℕ) → c < SIZE → owns bits a c ↔ Edge own a (SIZE * k + c)

-- what is found for the group
pub record IsGroup (rows own : List (List ℕ)) (k : ℕ) (es : List NodeRank) : Type 0 where
  pub bits : List Bits
  pub are : AreGroup k own bits
  pub searched : IsSearched rows bits es
