-- Sets of classes, as a mark for each of the first classes.
use Rattle.std.specs.Prelude.{◌≡◌, ◌↔◌, ◌⊎◌, ℕ, Bool, true, false, List, length, slice_index_or}

abbrev pub IsMarked : List Bool → ℕ → Type 0
IsMarked marks j = slice_index_or marks j false ≡ true

-- just the numbers with P were marked
pub record Marks (P : ℕ → Type 0) (before after : List Bool) : Type 0 where
  pub count : length after ≡ length before
  pub marks : (j : ℕ) → IsMarked after j ↔ (IsMarked before j ⊎ P j)

-- the classes of the one set are in the other
abbrev pub IsWithin : List Bool → List Bool → Type 0
IsWithin set other = (d : ℕ) → IsMarked set d → IsMarked other d
