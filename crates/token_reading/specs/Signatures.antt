-- The grammar of types, signatures and kinds. A value of a type below is a way to read tokens by its rule
-- (docs/language.md, "Signatures").
--
--   type = ["const"] Name ["const"] ["&" | "*"]      with at most one "const"
--   sig  = Name "(" [type {"," type}] ")"
--   kind = "auto" | "direct" | "queued"
use Rattle.std.specs.Prelude.{ℕ, ◌≡◌, ◌≢◌, ◌++◌, ◌↔◌, List, [], ◌∷◌, map, Option, Some, None}
use Rattle.basic_types.specs.Types.{value_type}
use Rattle.basic_types.specs.Normal.{normal_of}
use Rattle.basic_types.specs.declared.kind.Kind.{Kind}
use Rattle.basic_types.specs.declared.kind.Kind.TheVariants.{Auto, Direct, Queued}
use Rattle.basic_types.specs.declared.normal.ConstPlace.{ConstPlace}
use Rattle.basic_types.specs.declared.normal.ConstPlace.TheVariants.{Nowhere, Before, After}
use Rattle.basic_types.specs.declared.normal.TypeEnding.{TypeEnding}
use Rattle.basic_types.specs.declared.normal.TypeEnding.TheVariants.{Bare, Reference, Pointer}
use Rattle.basic_types.specs.declared.qtype.QType.{QType}
use Rattle.basic_types.specs.declared.sig.Sig.{Sig}
use Rattle.basic_types.specs.declared.word.Word.TheVariants as word
use Rattle.token_reading.specs.Lists.{spell_listed}
use Rattle.texts.specs.declared.symbol.Symbol.TheVariants.{Ampersand, Star}
use Rattle.texts.specs.declared.token.Token.{Token}
use Rattle.texts.specs.declared.token.Token.TheVariants as token

pub data TypeReading : Type 0 where
  spelled_type : ConstPlace → (name : List ℕ) → TypeEnding → TypeReading

abbrev pub spell_ending : TypeEnding → List Token → List Token
spell_ending Bare after = after
spell_ending Reference after = token.Symbol Ampersand ∷ after
spell_ending Pointer after = token.Symbol Star ∷ after

abbrev pub spell_named : ConstPlace → List ℕ → List Token → List Token
spell_named Nowhere name after = token.Name name ∷ after
spell_named Before name after = token.Word word.Const ∷ token.Name name ∷ after
spell_named After name after = token.Name name ∷ token.Word word.Const ∷ after

abbrev pub spell_type : TypeReading → List Token → List Token
spell_type (spelled_type place name ending) after = spell_named place name (spell_ending ending after)

-- the type where there is one, and else the value type of the name
abbrev pub or_value : List ℕ → Option QType → QType
or_value name (Some type) = type
or_value name None = value_type name

-- the normal form; of `T &`, which has none, the type T: whoever reads types has to refuse it (HasPlainReference)
abbrev pub tree_of_type : TypeReading → QType
tree_of_type (spelled_type place name ending) = or_value name (normal_of name place ending)

pub data SigReading : Type 0 where
  sig : (name : List ℕ) → List TypeReading → SigReading

abbrev pub spell_sig : SigReading → List Token → List Token
spell_sig (sig name types) after = token.Name name ∷ spell_listed spell_type types after

abbrev pub tree_of_sig : SigReading → Sig
tree_of_sig (sig name types) = record { name = name; types = map tree_of_type types }

abbrev pub spell_kind : Kind → List Token → List Token
spell_kind Auto after = token.Word word.Auto ∷ after
spell_kind Direct after = token.Word word.Direct ∷ after
spell_kind Queued after = token.Word word.Queued ∷ after

-- Somewhere among the tokens stands a reference that isn't const: a name, in front of it no `const`, behind it `&`. In
-- the grammars of programs, scripts and signatures `&` stands nowhere but at the end of a type.
pub record HasPlainReference (tokens : List Token) : Type 0 where
  pub front : List Token
  pub name : List ℕ
  pub after : List Token
  pub is : tokens ≡ front ++ token.Name name ∷ token.Symbol Ampersand ∷ after
  pub plain : (before : List Token) → front ≢ before ++ token.Word word.Const ∷ []

-- A type that has a normal form is read as that: what scans a signature's text and what reads its tokens have the one
-- normal form.
abbrev pub TypesAreNormal : Type 0
TypesAreNormal = (place : ConstPlace) (name : List ℕ) (ending : TypeEnding) (type : QType) → normal_of name place ending ≡ Some type → tree_of_type (spelled_type place name ending) ≡ type

-- and the types without one are those whose tokens are refused
abbrev pub OthersAreRefused : Type 0
OthersAreRefused = (place : ConstPlace) (name : List ℕ) (ending : TypeEnding) → normal_of name place ending ≡ None ↔ HasPlainReference (spell_type (spelled_type place name ending) [])
