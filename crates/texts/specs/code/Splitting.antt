-- What each step of cutting a text splits off at its front, and the fault where nothing stands there.
use Rattle.std.specs.Borrow.{Bor}
use Rattle.std.specs.Prelude.{ℕ, ◌≡◌, List, [], Option, Some, None, Result, Ok, Err, ◌⊎◌}
use Rattle.texts.specs.Lines.{IsFirstLine, IsPartedAt, LacksLine}
use Rattle.texts.specs.Pieces.{IsComment, IsQuoted, Piece, IsFirstPiece, token_of}
use Rattle.texts.specs.Symbols.{spelling, Begins, IsSymbolAt}
use Rattle.texts.specs.declared.lexer.LexFault.{LexFault}
use Rattle.texts.specs.declared.lexer.LexFault.TheVariants.{BadByte}
use Rattle.texts.specs.declared.symbol.Symbol.{Symbol}
use Rattle.texts.specs.declared.token.Token.{Token}
use Rattle.texts.specs.declared.token.Token.TheVariants as token
use Rattle.basic_types.specs.declared.word.Word.{Word}
use Rattle.basic_types.specs.Words.{word_spelling, IsFree}

-- a line, or none where no text is left
abbrev pub SplitsLine : List ℕ → Option (Bor (List ℕ) × Bor (List ℕ)) → Type 0
SplitsLine text None = text ≡ []
SplitsLine text (Some parts) = IsFirstLine text parts.0.now parts.1.now

-- what comes before the first line that is this one, and what follows it, or none where no line is
abbrev pub SplitsAtLine : List ℕ → List ℕ → Option (Bor (List ℕ) × Bor (List ℕ)) → Type 0
SplitsAtLine line text None = LacksLine line text
SplitsAtLine line text (Some parts) = IsPartedAt line text parts.0.now parts.1.now

-- a piece at the front, and its token
pub record Cuts (bytes : List ℕ) (found : Option Token) (rest : List ℕ) : Type 0 where
  pub piece : Piece
  pub front : IsFirstPiece piece bytes rest
  pub token_is : token_of piece ≡ found

-- no piece is at the front
abbrev pub HasNoFirstPiece : List ℕ → Type 0
HasNoFirstPiece bytes = (piece : Piece) → (rest : List ℕ) → IsFirstPiece piece bytes rest → ⊥

-- a piece, by its token; a bad byte only where there is none
abbrev pub SplitsPiece : List ℕ → Result (Option Token × Bor (List ℕ)) LexFault → Type 0
SplitsPiece bytes (Ok parts) = Cuts bytes parts.0 parts.1.now
SplitsPiece bytes (Err fault) = fault ≡ BadByte → HasNoFirstPiece bytes

-- the token is the reserved word with these letters, or the name where there is none
abbrev pub IsWordOrName : Token → List ℕ → Type 0
IsWordOrName t letters = ((word : Word) × (t ≡ token.Word word) × (letters ≡ word_spelling word)) ⊎ ((t ≡ token.Name letters) × IsFree letters)

-- after a slash, what follows the comment
abbrev pub SplitsComment : List ℕ → Result (Bor (List ℕ)) LexFault → Type 0
SplitsComment bytes (Ok rest) = IsComment bytes rest.now
SplitsComment bytes (Err fault) = (fault ≡ BadByte) × ((rest : List ℕ) → IsComment bytes rest → ⊥)

-- after a quote, what stands before the next one, and what follows that
abbrev pub SplitsText : List ℕ → Result (Bor (List ℕ) × Bor (List ℕ)) LexFault → Type 0
SplitsText bytes (Ok parts) = IsQuoted bytes parts.0.now parts.1.now
SplitsText bytes (Err fault) = (fault ≡ BadByte) × ((inner rest : List ℕ) → IsQuoted bytes inner rest → ⊥)

-- the longest symbol, and what follows it
abbrev pub SplitsSymbol : List ℕ → Option (Symbol × Bor (List ℕ)) → Type 0
SplitsSymbol bytes None = (s : Symbol) → ¬ Begins (spelling s) bytes
SplitsSymbol bytes (Some parts) = IsSymbolAt parts.0 bytes parts.1.now
