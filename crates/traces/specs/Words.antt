-- Words in a line of a trace (docs/commands.md, "The trace").
use Rattle.std.specs.Borrow.{Bor}
use Rattle.std.specs.Prelude.{ℕ, ◌≡◌, ◌≢◌, List, ◌∷◌, ◌++◌, Option, Some, None}
use Rattle.std.specs.List.{AllByRecursion}

-- what follows a word: nothing, or a blank and then the rest
abbrev pub IsFollowed : List ℕ → List ℕ → Option (Bor (List ℕ)) → Type 0
IsFollowed text word None = text ≡ word
IsFollowed text word (Some rest) = text ≡ word ++ 32 ∷ rest.now

-- the word goes up to the first blank, or to the end
pub record CutsWord (text word : List ℕ) (rest : Option (Bor (List ℕ))) : Type 0 where
  pub unbroken : AllByRecursion (λ b. b ≢ 32) word
  pub followed : IsFollowed text word rest
