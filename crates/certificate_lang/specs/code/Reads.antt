-- What each step of reading a text answers.
use Rattle.std.specs.Borrow.{Bor}
use Rattle.std.specs.Prelude.{◌≡◌, ℕ, List, [], ◌∷◌, Option, Some, None, MatchOption, Result, Ok, Err}
use Rattle.std.specs.List.{AllZip}
use Rattle.token_reading.specs.declared.fault.ParseFault.{ParseFault}
use Rattle.token_reading.specs.declared.fault.ParseFault.TheVariants as parse
use Rattle.texts.specs.declared.lexer.LexFault.{LexFault}
use Rattle.texts.specs.declared.lexer.LexFault.TheVariants as lex
use Rattle.texts.specs.declared.token.Token.{Token}
use Rattle.certificate_lang.specs.declared.certificate.Line.{Line}
use Rattle.certificate_lang.specs.declared.fault.CertificateFault.{CertificateFault}
use Rattle.certificate_lang.specs.declared.fault.CertificateFault.TheVariants.{Format, Memory}
use Rattle.certificate_lang.specs.declared.version.Version.{Version}
use Rattle.certificate_lang.specs.Grammar.{IsSetting, IsNodeLine}
use Rattle.certificate_lang.specs.Reads.{version_number, HasRows}

-- faults of cutting lines and of reading their tokens, as the text's
abbrev pub fault_of_cutting : LexFault → CertificateFault
fault_of_cutting lex.BadByte = Format
fault_of_cutting lex.Memory = Memory

abbrev pub fault_of_parsing : ParseFault → CertificateFault
fault_of_parsing parse.Syntax = Format
fault_of_parsing parse.Memory = Memory

-- the version of this number, if there is one
abbrev pub FindsVersion : ℕ → Option Version → Type 0
FindsVersion n found = MatchOption found ((version : Version) → ¬ (version_number version ≡ n)) (λ version. version_number version ≡ n)

-- the first of the text's rows has these tokens, and those of `rest` follow it
pub record TakesRow (text : List ℕ) (tokens : List Token) (rest : List ℕ) : Type 0 where
  pub onward : (later : List (List Token)) → HasRows rest later → HasRows text (tokens ∷ later)
  pub back : (rows : List (List Token)) → HasRows text rows → (later : List (List Token)) × HasRows rest later × (rows ≡ tokens ∷ later)

-- the first of the text's rows, which has these tokens, is taken; or there is none; or the text can't be cut
abbrev pub SplitsRow : List ℕ → List Token → Result (Option (Bor (List ℕ))) CertificateFault → Type 0
SplitsRow text tokens (Ok (Some rest)) = TakesRow text tokens rest.now
SplitsRow text tokens (Ok None) = HasRows text []
SplitsRow text tokens (Err Format) = (rows : List (List Token)) → ¬ HasRows text rows
SplitsRow text tokens (Err Memory) = Unit {0}

-- the first of the text's rows is this setting
pub record TakesSetting (name text : List ℕ) (n : ℕ) (rest : List ℕ) : Type 0 where
  pub tokens : List Token
  pub takes : TakesRow text tokens rest
  pub is : IsSetting name tokens n

abbrev pub SplitsSetting : List ℕ → List ℕ → Result (ℕ × Bor (List ℕ)) CertificateFault → Type 0
SplitsSetting name text (Ok parts) = TakesSetting name text parts.0 parts.1.now
SplitsSetting name text (Err Format) =
    (tokens : List Token) (later : List (List Token)) (n : ℕ) → HasRows text (tokens ∷ later) → ¬ IsSetting name tokens n
SplitsSetting name text (Err Memory) = Unit {0}

-- all of its rows are lines of nodes
pub record AreNodeLines (version : Version) (text : List ℕ) (lines : List Line) : Type 0 where
  pub rows : List (List Token)
  pub has_rows : HasRows text rows
  pub each : AllZip (IsNodeLine version) rows lines

abbrev pub ReadsNodeLines : Version → List ℕ → Result (List Line) CertificateFault → Type 0
ReadsNodeLines version text (Ok lines) = AreNodeLines version text lines
ReadsNodeLines version text (Err Format) = (lines : List Line) → ¬ AreNodeLines version text lines
ReadsNodeLines version text (Err Memory) = Unit {0}

abbrev pub ReadsWholeSetting : List ℕ → List Token → Result ℕ CertificateFault → Type 0
ReadsWholeSetting name tokens (Ok n) = IsSetting name tokens n
ReadsWholeSetting name tokens (Err Format) = (n : ℕ) → ¬ IsSetting name tokens n
ReadsWholeSetting name tokens (Err Memory) = Unit {0}

abbrev pub ReadsLine : Version → List Token → Result Line CertificateFault → Type 0
ReadsLine version tokens (Ok line) = IsNodeLine version tokens line
ReadsLine version tokens (Err Format) = (line : Line) → ¬ IsNodeLine version tokens line
ReadsLine version tokens (Err Memory) = Unit {0}
