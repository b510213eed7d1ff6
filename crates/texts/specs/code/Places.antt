-- Tokens with the places at which they begin (docs/language.md, "Tokens").
use Rattle.std.specs.Prelude.{ℕ, ◌≡◌, ◌≢◌, ◌+◌, ◌<◌, List, [], ◌∷◌, length, map, All}
use Rattle.texts.specs.Pieces.{Piece, IsFirstPiece, AreTokens}
use Rattle.texts.specs.code.Splitting.{HasNoFirstPiece}
use Rattle.texts.specs.declared.placed.PlacedToken.{PlacedToken}
use Rattle.texts.specs.declared.placed.PlaceFault.{PlaceFault}
use Rattle.texts.specs.declared.placed.PlaceFault.TheVariants.{BadByte, Memory}

-- the pieces are at the front of the text, one after another, and `rest` follows them
abbrev pub AreFirstPieces : List ℕ → List Piece → List ℕ → Type 0
AreFirstPieces text [] rest = text ≡ rest
AreFirstPieces text (piece ∷ pieces) rest = (after : List ℕ) × IsFirstPiece piece text after × AreFirstPieces after pieces rest

-- the text is cut up to this byte, where no piece begins
pub record IsStuckAt (text : List ℕ) (at : ℕ) : Type 0 where
  pub pieces : List Piece
  pub rest : List ℕ
  pub cut : AreFirstPieces text pieces rest
  pub left : rest ≢ []
  pub stuck : HasNoFirstPiece rest
  pub at_is : at + length rest ≡ length text

-- the tokens of the text, each with a byte of it
pub record ArePlaced (text : List ℕ) (placed : List PlacedToken) : Type 0 where
  pub tokens : AreTokens text (map (λ m. m.token) placed)
  pub within : All (λ m. m.at < length text) placed

-- at the byte that the fault names the text isn't cut on
abbrev pub StopsPlacing : List ℕ → PlaceFault → Type 0
StopsPlacing text (BadByte at) = IsStuckAt text at
StopsPlacing text Memory = Unit {0}
