-- What the reader answers for the tokens of a body (docs/language.md, "Slot bodies" and "Limits").
use Rattle.std.specs.Prelude.{ℕ, ◌≡◌, ◌⊎◌, List, Result, Ok, Err, Option, Some, None, All}
use Rattle.slot_lang.specs.Bodies.{signatures_in}
use Rattle.slot_lang.specs.Grammar.{IsBody, IsNoBody}
use Rattle.slot_lang.specs.declared.fault.BodyFault.{BodyFault}
use Rattle.slot_lang.specs.declared.fault.BodyFault.TheVariants.{Syntax, BadType, TooMany, Memory}
use Rattle.syntax_trees.specs.Connections.{HasFewTypes}
use Rattle.token_reading.specs.Signatures.{HasPlainReference}
use Rattle.syntax_trees.specs.declared.syntax.Stmt.{Stmt}
use Rattle.texts.specs.declared.token.Token.{Token}

-- the number of a refusal; running out of memory has none
abbrev pub number_of : BodyFault → Option ℕ
number_of Syntax = Some 5
number_of BadType = Some 2
number_of TooMany = Some 3
number_of Memory = None

-- they are a body with a reference somewhere that isn't const
pub record HasBadType (tokens : List Token) : Type 0 where
  pub body : List Stmt
  pub reads : IsBody tokens body
  pub plain : HasPlainReference tokens

-- they are this body, and every reference in them is const
pub record IsNormalBody (tokens : List Token) (body : List Stmt) : Type 0 where
  pub reads : IsBody tokens body
  pub constant : ¬ HasPlainReference tokens

-- such a body, a signature of which has too many types
pub record HasTooManyParameters (tokens : List Token) : Type 0 where
  pub body : List Stmt
  pub normal : IsNormalBody tokens body
  pub many : ¬ All HasFewTypes (signatures_in body)

-- the tokens are this body, which keeps to the limit
pub record IsAccepted (tokens : List Token) (body : List Stmt) : Type 0 where
  pub normal : IsNormalBody tokens body
  pub few : All HasFewTypes (signatures_in body)

-- the body, or the first thing that is wrong; running out of memory says nothing of the tokens
abbrev pub ReadsBody : List Token → Result (List Stmt) BodyFault → Type 0
ReadsBody tokens (Ok body) = IsAccepted tokens body
ReadsBody tokens (Err Syntax) = IsNoBody tokens
ReadsBody tokens (Err BadType) = HasBadType tokens
ReadsBody tokens (Err TooMany) = HasTooManyParameters tokens
ReadsBody tokens (Err Memory) = Unit {0}

-- tokens have at most one answer, unless memory runs out
abbrev pub OneAnswer : Type 0
OneAnswer =
    (tokens : List Token) (a b : Result (List Stmt) BodyFault) → ReadsBody tokens a → ReadsBody tokens b → (a ≡ Err Memory) ⊎ (b ≡ Err Memory) ⊎ (a ≡ b)
