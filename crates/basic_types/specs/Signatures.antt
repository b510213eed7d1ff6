-- Signatures by their tokens, and their normal form (docs/language.md, "Signatures"). A value of TypeReading is a way
-- to read tokens as a type.
--
--   sig  = Name "(" [type {"," type}] ")"
--   type = ["const"] Name ["const"] ["&" | "*"]      with at most one "const"
use Rattle.std.specs.Prelude.{ℕ, ◌≡◌, ◌≤◌, ◌<◌, ◌++◌, List, [], ◌∷◌, length, codes, Some, Option, None, Result, Ok, Err}
use Rattle.std.specs.List.{AllByRecursion, AllZip}
use Rattle.basic_types.specs.Name.{IsName}
use Rattle.basic_types.specs.Normal.{normal_of}
use Rattle.basic_types.specs.Tokens.{Token, word, mark, tokens_of}
use Rattle.basic_types.specs.Words.{IsFree}
use Rattle.basic_types.specs.declared.normal.ConstPlace.{ConstPlace}
use Rattle.basic_types.specs.declared.normal.ConstPlace.TheVariants.{Nowhere, Before, After}
use Rattle.basic_types.specs.declared.normal.TypeEnding.{TypeEnding}
use Rattle.basic_types.specs.declared.normal.TypeEnding.TheVariants.{Bare, Reference, Pointer}
use Rattle.basic_types.specs.declared.qtype.QType.{QType}
use Rattle.basic_types.specs.declared.mark.Mark.TheVariants.{Open, Close, Comma, Ampersand, Star, Other}
use Rattle.basic_types.specs.declared.sig.Sig.{Sig}

-- ---- types

pub record TypeReading : Type 0 where
  pub place : ConstPlace
  pub name : List ℕ
  pub ending : TypeEnding

abbrev pub spell_ending : TypeEnding → List Token → List Token
spell_ending Bare after = after
spell_ending Reference after = mark Ampersand ∷ after
spell_ending Pointer after = mark Star ∷ after

abbrev pub spell_named : ConstPlace → List ℕ → List Token → List Token
spell_named Nowhere name after = word name ∷ after
spell_named Before name after = word (codes "const") ∷ word name ∷ after
spell_named After name after = word name ∷ word (codes "const") ∷ after

abbrev pub spell_type : TypeReading → List Token → List Token
spell_type r after = spell_named r.place r.name (spell_ending r.ending after)

-- a name that isn't a reserved word
pub record IsFreeName (letters : List ℕ) : Type 0 where
  pub name : IsName letters
  pub free : IsFree letters

-- the type is the normal form of what is read
pub record IsTypeOf (r : TypeReading) (type : QType) : Type 0 where
  pub named : IsFreeName r.name
  pub normal : normal_of r.name r.place r.ending ≡ Some type

-- ---- lists of types

-- {"," type} ")"
abbrev pub spell_others : List TypeReading → List Token → List Token
spell_others [] after = mark Close ∷ after
spell_others (r ∷ rs) after = mark Comma ∷ spell_type r (spell_others rs after)

-- [type {"," type}] ")"
abbrev pub spell_list : List TypeReading → List Token → List Token
spell_list [] after = mark Close ∷ after
spell_list (r ∷ rs) after = spell_type r (spell_others rs after)

-- the tokens are a list of these types, and what follows it
pub record AreTypes (tokens : List Token) (types : List QType) (after : List Token) : Type 0 where
  pub readings : List TypeReading
  pub spelled : tokens ≡ spell_list readings after
  pub each : AllZip IsTypeOf readings types

-- a token of a type, or a comma: no bracket, and no byte that no signature has
abbrev pub IsPart : Token → Type 0
IsPart (word letters) = Unit {0}
IsPart (mark Open) = ⊥
IsPart (mark Close) = ⊥
IsPart (mark Comma) = Unit {0}
IsPart (mark Ampersand) = Unit {0}
IsPart (mark Star) = Unit {0}
IsPart (mark Other) = ⊥

-- parts, the bracket behind them, and the end
pub record IsClosed (tokens : List Token) : Type 0 where
  pub parts : List Token
  pub is : tokens ≡ parts ++ mark Close ∷ []
  pub inside : AllByRecursion IsPart parts

-- ---- signatures

-- a name and a list in brackets, whatever the list's pieces are
pub record IsFramed (text : List ℕ) : Type 0 where
  pub name : List ℕ
  pub list : List Token
  pub framed : tokens_of text ≡ word name ∷ mark Open ∷ list
  pub named : IsFreeName name
  pub closed : IsClosed list

-- a name and a list of types in brackets, however many there are
pub record IsTyped (text : List ℕ) (sig : Sig) : Type 0 where
  pub list : List Token
  pub framed : tokens_of text ≡ word sig.name ∷ mark Open ∷ list
  pub named : IsFreeName sig.name
  pub types : AreTypes list sig.types []

-- the most parameters that a signature has
abbrev pub most_parameters : ℕ
most_parameters = 8

-- the text is a signature, and this is its normal form
pub record Normal (text : List ℕ) (sig : Sig) : Type 0 where
  pub typed : IsTyped text sig
  pub few : length sig.types ≤ most_parameters
