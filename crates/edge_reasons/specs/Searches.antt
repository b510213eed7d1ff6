-- What a search through a list comes to whose first element has a number in a longer one.
use Rattle.std.specs.Prelude.{◌≡◌, ℕ, ◌+◌, List, length}
use Rattle.name_indexes.specs.Places.{StandsFirst, NoneStands}
use Rattle.edge_reasons.specs.Order.{capped}

-- the first element with P has this number, where the first of the list has the number `start`
pub record FirstFrom {X : Type 0} (P : X → Type 0) (xs : List X) (start number : ℕ) : Type 0 where
  pub place : ℕ
  pub first : StandsFirst P xs place
  pub is : number ≡ capped (start + place)

-- no element has P, and what comes behind them has this number
pub record NoneFrom {X : Type 0} (P : X → Type 0) (xs : List X) (start next : ℕ) : Type 0 where
  pub none : NoneStands P xs
  pub is : next ≡ capped (start + length xs)
