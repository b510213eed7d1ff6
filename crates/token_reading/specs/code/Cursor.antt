-- What comes next in a list of tokens.
use Rattle.std.specs.Borrow.{Bor}
use Rattle.std.specs.Prelude.{◌≡◌, Bool, true, false, List, [], ◌∷◌, Result, Ok, Err}
use Rattle.token_reading.specs.declared.fault.ParseFault.{ParseFault}
use Rattle.token_reading.specs.declared.fault.ParseFault.TheVariants.{Syntax}
use Rattle.texts.specs.declared.symbol.Symbol.{Symbol}
use Rattle.basic_types.specs.declared.word.Word.{Word}
use Rattle.texts.specs.declared.token.Token.{Token}
use Rattle.texts.specs.declared.token.Token.TheVariants as token

-- the token isn't the first of these
abbrev pub NotNext : Token → List Token → Type 0
NotNext t tokens = (rest : List Token) → tokens ≡ t ∷ rest → ⊥

-- nor is the symbol
abbrev pub NotAt : Symbol → List Token → Type 0
NotAt symbol tokens = NotNext (token.Symbol symbol) tokens

-- nor is the word
abbrev pub NotAtWord : Word → List Token → Type 0
NotAtWord word tokens = NotNext (token.Word word) tokens

-- the next token is taken; at the end that is a fault of syntax
abbrev pub TakesNext : List Token → Result (Bor Token) ParseFault → List Token → Type 0
TakesNext before (Ok next) after = before ≡ next.now ∷ after
TakesNext before (Err fault) after = (fault ≡ Syntax) × (before ≡ [])

-- the token is taken where it comes next, and nothing where it doesn't
abbrev pub Eats : Token → List Token → Bool → List Token → Type 0
Eats t before true after = before ≡ t ∷ after
Eats t before false after = (after ≡ before) × NotNext t before

-- the token is taken; where it doesn't come next, that is a fault of syntax
abbrev pub Expects : {A : Type 0} → Token → List Token → Result A ParseFault → List Token → Type 0
Expects t before (Ok _) after = before ≡ t ∷ after
Expects t before (Err fault) after = (fault ≡ Syntax) × NotNext t before
