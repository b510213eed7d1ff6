-- The pieces that a text is cut into: blanks, comments and tokens, each the longest at its place
-- (docs/language.md, "Tokens").
use Rattle.std.specs.Prelude.{ℕ, ◌≡◌, true, List, [], ◌∷◌, Option, Some, None}
use Rattle.texts.specs.declared.bytes.Run.TheVariants as run
use Rattle.texts.specs.declared.symbol.Symbol.{Symbol}
use Rattle.texts.specs.declared.token.Token.{Token}
use Rattle.texts.specs.declared.token.Token.TheVariants as token
use Rattle.basic_types.specs.declared.word.Word.{Word}
use Rattle.basic_types.specs.Name.{is_letter}
use Rattle.basic_types.specs.Tokens.{is_blank}
use Rattle.texts.specs.Bytes.{IsRun}
use Rattle.basic_types.specs.Words.{word_spelling, IsFree}
use Rattle.texts.specs.Symbols.{IsSymbolAt}

pub data Piece : Type 0 where
  blank : ℕ → Piece
  -- what stands between `//` and the end of the line
  comment : List ℕ → Piece
  name : List ℕ → Piece
  reserved : Word → Piece
  number : List ℕ → Piece
  -- what stands between its quotes
  text : List ℕ → Piece
  symbol : Symbol → Piece

abbrev pub StartsWithLetter : List ℕ → Type 0
StartsWithLetter [] = ⊥
StartsWithLetter (b ∷ bs) = is_letter b ≡ true

abbrev pub IsNotEmpty : List ℕ → Type 0
IsNotEmpty [] = ⊥
IsNotEmpty (b ∷ bs) = Unit {0}

-- after the first slash of a comment
abbrev pub IsComment : List ℕ → List ℕ → Type 0
IsComment bytes rest = (tail line : List ℕ) × (bytes ≡ 47 ∷ tail) × IsRun run.Line tail line rest

-- after a text's first quote: what stands between its quotes, and what follows them
abbrev pub IsQuoted : List ℕ → List ℕ → List ℕ → Type 0
IsQuoted bytes inner rest = IsRun run.Text bytes inner (34 ∷ rest)

-- the piece is at the front of the bytes, and `rest` follows it
abbrev pub IsFirstPiece : Piece → List ℕ → List ℕ → Type 0
IsFirstPiece (blank b) bytes rest = (is_blank b ≡ true) × (bytes ≡ b ∷ rest)
IsFirstPiece (comment line) bytes rest = (tail : List ℕ) × (bytes ≡ 47 ∷ 47 ∷ tail) × IsRun run.Line tail line rest
IsFirstPiece (name letters) bytes rest = StartsWithLetter letters × IsFree letters × IsRun run.Name bytes letters rest
IsFirstPiece (reserved word) bytes rest = IsRun run.Name bytes (word_spelling word) rest
IsFirstPiece (number digits) bytes rest = IsNotEmpty digits × IsRun run.Number bytes digits rest
IsFirstPiece (text inner) bytes rest = (tail : List ℕ) × (bytes ≡ 34 ∷ tail) × IsQuoted tail inner rest
IsFirstPiece (symbol s) bytes rest = IsSymbolAt s bytes rest

-- the bytes are these pieces, one after another
abbrev pub IsCut : List Piece → List ℕ → Type 0
IsCut [] bytes = bytes ≡ []
IsCut (piece ∷ pieces) bytes = (rest : List ℕ) × IsFirstPiece piece bytes rest × IsCut pieces rest

abbrev pub token_of : Piece → Option Token
token_of (blank b) = None
token_of (comment line) = None
token_of (name letters) = Some (token.Name letters)
token_of (reserved word) = Some (token.Word word)
token_of (number digits) = Some (token.Number digits)
token_of (text inner) = Some (token.Text inner)
token_of (symbol s) = Some (token.Symbol s)

abbrev pub before : Option Token → List Token → List Token
before None tokens = tokens
before (Some t) tokens = t ∷ tokens

abbrev pub tokens_of : List Piece → List Token
tokens_of [] = []
tokens_of (piece ∷ pieces) = before (token_of piece) (tokens_of pieces)

-- the bytes are cut into these tokens
pub record AreTokens (bytes : List ℕ) (tokens : List Token) : Type 0 where
  pub pieces : List Piece
  pub cut : IsCut pieces bytes
  pub tokens_are : tokens_of pieces ≡ tokens

-- they are cut into none
abbrev pub IsUncut : List ℕ → Type 0
IsUncut bytes = (tokens : List Token) → AreTokens bytes tokens → ⊥

-- a text is cut in at most one way
abbrev pub OneCut : Type 0
OneCut = (bytes : List ℕ) → (s t : List Token) → AreTokens bytes s → AreTokens bytes t → s ≡ t
