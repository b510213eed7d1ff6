-- How an index of calls grows by one.
use Rattle.std.specs.Prelude.{◌≡◌, ℕ, List, Option, Some}
use Rattle.std.specs.Option.{unwrap_or}
use Rattle.name_indexes.specs.CallPlaces.{Index, place_at}

-- the name has with so many parameters the place that it had, or else this one, and each other call has what it had; the
-- two say what is found of a number of parameters and a name
pub record AddsCall (name : List ℕ) (count place : ℕ) (old new : ℕ → List ℕ → Option ℕ) : Type 0 where
  pub named : new count name ≡ Some (unwrap_or (old count name) place)
  pub others : (k : ℕ) (n : List ℕ) → ¬ ((n ≡ name) × (k ≡ count)) → new k n ≡ old k n

-- each other name has in the indexes what it had
abbrev pub KeepsOthers : List ℕ → List Index → List Index → Type 0
KeepsOthers name old new = (count : ℕ) (other : List ℕ) → ¬ (other ≡ name) → place_at new count other ≡ place_at old count other
