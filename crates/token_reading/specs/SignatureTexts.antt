-- The texts of signatures, which two readers cut: `tokens`, and what finds a signature's normal form
-- (docs/language.md, "Signatures").
use Rattle.std.specs.Prelude.{ℕ, ◌≡◌, ◌≢◌, ◌⊎◌, true, List, [], Some}
use Rattle.std.specs.List.{AllByRecursion, AllZip}
use Rattle.basic_types.specs.Name.{is_name_byte}
use Rattle.basic_types.specs.Normal.{normal_of}
use Rattle.basic_types.specs.Signatures.{Normal}
use Rattle.basic_types.specs.Tokens.{is_blank, mark_of}
use Rattle.basic_types.specs.declared.qtype.QType.{QType}
use Rattle.basic_types.specs.declared.mark.Mark.TheVariants.{Other}
use Rattle.basic_types.specs.declared.sig.Sig.{Sig}
use Rattle.texts.specs.Pieces.{AreTokens}
use Rattle.token_reading.specs.Signatures.{TypeReading, spelled_type, sig, spell_sig}
use Rattle.syntax_trees.specs.Connections.{HasFewTypes}

-- a letter, a digit, a blank or one of `( ) , & *`
abbrev pub IsSigByte : ℕ → Type 0
IsSigByte b = (is_name_byte b ≡ true) ⊎ (is_blank b ≡ true) ⊎ (mark_of b ≢ Other)

-- the type that is spelled so is in normal form
abbrev pub IsNormalFormOf : TypeReading → QType → Type 0
IsNormalFormOf (spelled_type place name ending) type = normal_of name place ending ≡ Some type

-- the text's tokens are a signature and nothing more, and this is its normal form
pub record IsSigInTokens (text : List ℕ) (s : Sig) : Type 0 where
  pub types : List TypeReading
  pub cut : AreTokens text (spell_sig (sig s.name types) [])
  pub normal : AllZip IsNormalFormOf types s.types
  pub few : HasFewTypes s

-- where a text has no other bytes, the signature that is read from its tokens is its normal form
abbrev pub TokensGiveNormalForms : Type 0
TokensGiveNormalForms =
    (text : List ℕ) → AllByRecursion IsSigByte text → (s : Sig) → IsSigInTokens text s → Normal text s

-- and the normal form of any text is read from its tokens
abbrev pub NormalFormsAreInTokens : Type 0
NormalFormsAreInTokens = (text : List ℕ) → (s : Sig) → Normal text s → IsSigInTokens text s
