-- What the readers of types do, and where a type may end.
use Rattle.std.specs.Prelude.{ℕ, ◌≡◌, List, ◌∷◌}
use Rattle.basic_types.specs.declared.normal.ConstPlace.{ConstPlace}
use Rattle.basic_types.specs.declared.normal.TypeEnding.{TypeEnding}
use Rattle.basic_types.specs.declared.normal.TypeEnding.TheVariants.{Bare}
use Rattle.basic_types.specs.declared.word.Word.TheVariants as word
use Rattle.token_reading.specs.code.Cursor.{NotAt, NotAtWord}
use Rattle.texts.specs.declared.symbol.Symbol.TheVariants.{Ampersand, Star}
use Rattle.texts.specs.declared.token.Token.{Token}
use Rattle.texts.specs.declared.token.Token.TheVariants as token
use Rattle.token_reading.specs.Signatures.{spell_ending, spell_named}

-- a name, and where `const` stands
abbrev pub Named : Type 0
Named = ConstPlace × List ℕ

abbrev pub spell_place : Named → List Token → List Token
spell_place named after = spell_named named.0 named.1 after

-- no `const` comes next, which may follow the name
abbrev pub EndsNamed : List Token → Type 0
EndsNamed after = NotAtWord word.Const after

-- what comes next of an ending, as much as there is
pub record IsEnding (ending : TypeEnding) (before after : List Token) : Type 0 where
  pub spelled : before ≡ spell_ending ending after
  pub bare : ending ≡ Bare → NotAt Ampersand before × NotAt Star before

-- nothing comes next with which a type would go on
pub record EndsType (after : List Token) : Type 0 where
  pub no_const : NotAtWord word.Const after
  pub no_reference : NotAt Ampersand after
  pub no_pointer : NotAt Star after

-- `&` comes next
abbrev pub BeginsWithAmpersand : List Token → Type 0
BeginsWithAmpersand tokens = (after : List Token) × (tokens ≡ token.Symbol Ampersand ∷ after)

-- a name and `&` come next
abbrev pub BeginsWithReference : List Token → Type 0
BeginsWithReference tokens = (name : List ℕ) × (after : List Token) × (tokens ≡ token.Name name ∷ token.Symbol Ampersand ∷ after)
