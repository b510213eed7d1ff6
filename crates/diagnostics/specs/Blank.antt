-- Lines that are blank or a comment (docs/language.md).
use Rattle.std.specs.Prelude.{ℕ, Bool, true, false, List, []}
use Rattle.texts.specs.Pieces.{AreTokens}

-- there is nothing in the line but blanks and a comment
abbrev pub IsBlank : List ℕ → Type 0
IsBlank line = AreTokens line []

-- whether there is more in the line
abbrev pub TellsTokens : List ℕ → Bool → Type 0
TellsTokens line true = ¬ IsBlank line
TellsTokens line false = IsBlank line
