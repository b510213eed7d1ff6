-- What comes next: operators, and none of them.
use Rattle.std.specs.Prelude.{◌≡◌, List, ◌∷◌, Option, MatchOption}
use Rattle.token_reading.specs.code.Cursor.{NotAt}
use Rattle.slot_lang.specs.declared.precedence.Precedence.{Precedence}
use Rattle.texts.specs.declared.symbol.Symbol.{Symbol}
use Rattle.syntax_trees.specs.declared.syntax.Binary.{Binary}
use Rattle.texts.specs.declared.token.Token.{Token}
use Rattle.texts.specs.declared.token.Token.TheVariants as token
use Rattle.slot_lang.specs.Precedence.{symbol_of, precedence_of, Operator}

-- no such operator comes next
abbrev pub NoOperator : Precedence → List Token → Type 0
NoOperator p tokens = (o : Operator p) → NotAt (symbol_of o.binary) tokens

-- the operator that is spelled so
abbrev pub IsOperatorOf : Symbol → Option Binary → Type 0
IsOperatorOf s result = MatchOption result ((b : Binary) → s ≡ symbol_of b → ⊥) (λ b. s ≡ symbol_of b)

-- the operator that comes next
abbrev pub IsNextOperator : List Token → Option Binary → Type 0
IsNextOperator tokens result =
    MatchOption result ((b : Binary) → NotAt (symbol_of b) tokens) (λ b. (rest : List Token) × (tokens ≡ token.Symbol (symbol_of b) ∷ rest))

-- the operator that binds so tight, if one comes next, is taken
abbrev pub TakesOperator : Precedence → List Token → Option Binary → List Token → Type 0
TakesOperator p before result after =
    MatchOption result ((after ≡ before) × NoOperator p before) (λ b. (precedence_of b ≡ p) × (before ≡ token.Symbol (symbol_of b) ∷ after))
