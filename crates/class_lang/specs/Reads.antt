-- What the reader answers for a text (docs/language.md, "Programs" and "Limits").
use Rattle.std.specs.Prelude.{ℕ, ◌≡◌, ◌<◌, ◌≤◌, ◌⊎◌, List, length, Result, Ok, Err, Option, Some, None}
use Rattle.texts.specs.Nesting.{IsTooDeep}
use Rattle.texts.specs.Pieces.{AreTokens, IsUncut}
use Rattle.token_reading.specs.Signatures.{HasPlainReference}
use Rattle.texts.specs.declared.token.Token.{Token}
use Rattle.class_lang.specs.Declarations.{IsProgram}
use Rattle.class_lang.specs.Limits.{HasFewParameters, IsWithinLimits, standard}
use Rattle.class_lang.specs.declared.size.Limits.{Limits}
use Rattle.class_lang.specs.declared.fault.TextFault.{TextFault}
use Rattle.class_lang.specs.declared.fault.TextFault.TheVariants.{TooLarge, BadByte, TooDeepText, Syntax, BadType, TooMany, Memory}
use Rattle.syntax_trees.specs.declared.program.Program.{Program}

-- the number of a refusal; running out of memory has none
abbrev pub number_of : TextFault → Option ℕ
number_of TooLarge = Some 7
number_of BadByte = Some 4
number_of TooDeepText = Some 6
number_of Syntax = Some 5
number_of BadType = Some 2
number_of TooMany = Some 3
number_of Memory = None

abbrev pub IsShortText : Limits → List ℕ → Type 0
IsShortText limits bytes = length bytes ≤ limits.bytes

abbrev pub IsLongText : Limits → List ℕ → Type 0
IsLongText limits bytes = limits.bytes < length bytes

-- the tokens are no program
abbrev pub IsNoProgram : List Token → Type 0
IsNoProgram tokens = (program : Program) → IsProgram tokens program → ⊥

-- the text can't be cut into tokens
pub record HasBadByte (limits : Limits) (bytes : List ℕ) : Type 0 where
  pub short : IsShortText limits bytes
  pub uncut : IsUncut bytes

-- its tokens nest too deep
pub record IsDeepText (limits : Limits) (bytes : List ℕ) : Type 0 where
  pub short : IsShortText limits bytes
  pub tokens : List Token
  pub cut : AreTokens bytes tokens
  pub deep : IsTooDeep tokens

-- its tokens don't nest too deep, and are no program
pub record IsOutsideGrammar (limits : Limits) (bytes : List ℕ) : Type 0 where
  pub short : IsShortText limits bytes
  pub tokens : List Token
  pub cut : AreTokens bytes tokens
  pub flat : ¬ IsTooDeep tokens
  pub none : IsNoProgram tokens

-- its tokens don't nest too deep, and are a program with a reference somewhere that isn't const
pub record HasBadType (limits : Limits) (bytes : List ℕ) : Type 0 where
  pub short : IsShortText limits bytes
  pub tokens : List Token
  pub cut : AreTokens bytes tokens
  pub flat : ¬ IsTooDeep tokens
  pub program : Program
  pub reads : IsProgram tokens program
  pub plain : HasPlainReference tokens

-- its tokens don't nest too deep, are this program, and every reference in them is const
pub record IsProgramText (limits : Limits) (bytes : List ℕ) (program : Program) : Type 0 where
  pub short : IsShortText limits bytes
  pub tokens : List Token
  pub cut : AreTokens bytes tokens
  pub flat : ¬ IsTooDeep tokens
  pub reads : IsProgram tokens program
  pub constant : ¬ HasPlainReference tokens

-- a program, a signature of which has too many parameters
pub record HasTooManyParameters (limits : Limits) (bytes : List ℕ) : Type 0 where
  pub program : Program
  pub text : IsProgramText limits bytes program
  pub many : ¬ HasFewParameters program

-- a program with few enough parameters, and more of something else than it may have
pub record IsLargeProgram (limits : Limits) (bytes : List ℕ) : Type 0 where
  pub program : Program
  pub text : IsProgramText limits bytes program
  pub few : HasFewParameters program
  pub large : ¬ IsWithinLimits limits program

-- the text is this program, which keeps to all limits
pub record IsAccepted (limits : Limits) (bytes : List ℕ) (program : Program) : Type 0 where
  pub text : IsProgramText limits bytes program
  pub few : HasFewParameters program
  pub within : IsWithinLimits limits program

-- the program of the text, or the first thing that is wrong with it, by these limits; running out of memory says nothing of the
-- text
abbrev pub ReadsWithin : Limits → List ℕ → Result Program TextFault → Type 0
ReadsWithin limits bytes (Ok program) = IsAccepted limits bytes program
ReadsWithin limits bytes (Err TooLarge) = IsLongText limits bytes ⊎ IsLargeProgram limits bytes
ReadsWithin limits bytes (Err BadByte) = HasBadByte limits bytes
ReadsWithin limits bytes (Err TooDeepText) = IsDeepText limits bytes
ReadsWithin limits bytes (Err Syntax) = IsOutsideGrammar limits bytes
ReadsWithin limits bytes (Err BadType) = HasBadType limits bytes
ReadsWithin limits bytes (Err TooMany) = HasTooManyParameters limits bytes
ReadsWithin limits bytes (Err Memory) = Unit {0}

-- so by the standard limits
abbrev pub ReadsProgram : List ℕ → Result Program TextFault → Type 0
ReadsProgram bytes result = ReadsWithin standard bytes result

-- ---- laws

-- the tokens are one program at most
abbrev pub HasOneReading : List Token → Type 0
HasOneReading tokens = (p q : Program) → IsProgram tokens p → IsProgram tokens q → p ≡ q

-- so is the text, whatever the limits
abbrev pub HasOneProgram : List ℕ → Type 0
HasOneProgram bytes = (limits : Limits) (p q : Program) → IsProgramText limits bytes p → IsProgramText limits bytes q → p ≡ q

-- by any limits the text has one answer at most, unless memory runs out
abbrev pub HasOneAnswer : List ℕ → Type 0
HasOneAnswer bytes =
    (limits : Limits) (a b : Result Program TextFault) → ReadsWithin limits bytes a → ReadsWithin limits bytes b →
    (a ≡ Err Memory) ⊎ (b ≡ Err Memory) ⊎ (a ≡ b)
