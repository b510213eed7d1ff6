-- What a read adds to an input.
use Rattle.std.specs.Prelude.{◌≡◌, ◌≤◌, List, ℕ, ◌++◌, Option, length}
use Rattle.std.specs.Io.KnownBytes.{Consumes, IsAtEnd}

-- The bytes that a reader gave, so many of them and at most so many, are added to those read before; and where it gave none, it
-- is at its end.
pub record ReadsOn (left rest : Option (List ℕ)) (before after : List ℕ) (most count : ℕ) : Type 0 where
  pub given : List ℕ
  pub consumed : Consumes left rest given
  pub added : after ≡ before ++ given
  pub counted : length given ≡ count
  pub few : count ≤ most
  pub ended : count ≡ 0 → IsAtEnd rest
