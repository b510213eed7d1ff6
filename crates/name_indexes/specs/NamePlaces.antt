-- Names with places: each name of an index has one place in it, and another name has none.
use Rattle.std.specs.Prelude.{◌≡◌, ℕ, List, Option, Some, nat_eq}
use Rattle.std.specs.Option.{unwrap_or}
use Rattle.std.specs.Cmp.Lexicographic.{pointwise}
use Rattle.std.specs.Map.{lookup}

-- the place of the name, if it has one
abbrev pub place_in : List (List ℕ × ℕ) → List ℕ → Option ℕ
place_in index name = lookup (pointwise nat_eq name) index

-- the name has the place that it had, or else this one, and every other name has what it had
pub record Adds (name : List ℕ) (place : ℕ) (old new : List (List ℕ × ℕ)) : Type 0 where
  pub named : place_in new name ≡ Some (unwrap_or (place_in old name) place)
  pub others : (other : List ℕ) → ¬ (other ≡ name) → place_in new other ≡ place_in old other
