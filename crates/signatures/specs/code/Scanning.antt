-- What the scanner of a signature's text takes.
use Rattle.std.specs.Prelude.{ℕ, ◌≡◌, List, [], ◌∷◌, Option, Some, None}
use Rattle.basic_types.specs.declared.mark.Mark.{Mark}
use Rattle.signatures.specs.declared.scanner.Scanned.{Scanned}
use Rattle.signatures.specs.declared.scanner.Scanned.TheVariants as scanned
use Rattle.basic_types.specs.Tokens.{Token, word, mark}

-- what was scanned, as a token
abbrev pub token_of : Scanned → Token
token_of (scanned.Word letters) = word letters.now
token_of (scanned.Mark m) = mark m

-- the next word or mark is taken, or none is left
abbrev pub TakesNext : List Token → Option Scanned → List Token → Type 0
TakesNext before None after = (before ≡ []) × (after ≡ [])
TakesNext before (Some next) after = before ≡ token_of next ∷ after
