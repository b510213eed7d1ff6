-- What each step of reading a text answers.
use Rattle.std.specs.Borrow.{Bor}
use Rattle.std.specs.Prelude.{◌≡◌, ℕ, List, ◌∷◌, Result, Ok, Err, codes}
use Rattle.std.specs.List.{AllZip}
use Rattle.texts.specs.declared.token.Token.{Token}
use Rattle.texts.specs.declared.token.Token.TheVariants as token
use Rattle.certificate_lang.specs.Grammar.{IsSetting}
use Rattle.certificate_lang.specs.Reads.{HasRows}
use Rattle.certificate_lang.specs.code.Reads.{TakesRow}
use Rattle.certificate_lang.specs.declared.fault.CertificateFault.{CertificateFault}
use Rattle.certificate_lang.specs.declared.fault.CertificateFault.TheVariants.{Format, Memory}
use Rattle.settling_texts.specs.Grammar.{IsDepth, IsSettlingLine, IsSettlingSet, IsRow, lines_of, sets_of}
use Rattle.settling.specs.declared.certificate.SettlingLine.{SettlingLine}
use Rattle.settling.specs.declared.certificate.SettlingSet.{SettlingSet}
use Rattle.settling_texts.specs.declared.row.SettlingRow.{SettlingRow}
use Rattle.settling_texts.specs.declared.syntax.Depth.{Depth}

-- ---- the tokens of a line

-- the tokens are what they have to be; a fault of the format only where they are nothing such
abbrev pub ReadsWhole : {A : Type 0} → (List Token → A → Type 0) → List Token → Result A CertificateFault → Type 0
ReadsWhole Is tokens (Ok a) = Is tokens a
ReadsWhole {A} Is tokens (Err Format) = (a : A) → ¬ Is tokens a
ReadsWhole Is tokens (Err Memory) = Unit {0}

abbrev pub ReadsHeader : List Token → Result (Unit {0}) CertificateFault → Type 0
ReadsHeader tokens result = ReadsWhole (λ tokens done. IsSetting (codes "settling") tokens 1) tokens result

abbrev pub ReadsWholeDepth : List Token → Result Depth CertificateFault → Type 0
ReadsWholeDepth tokens result = ReadsWhole IsDepth tokens result

abbrev pub ReadsWholeLine : List Token → Result SettlingLine CertificateFault → Type 0
ReadsWholeLine tokens result = ReadsWhole IsSettlingLine tokens result

abbrev pub ReadsWholeSet : List Token → Result SettlingSet CertificateFault → Type 0
ReadsWholeSet tokens result = ReadsWhole IsSettlingSet tokens result

abbrev pub ReadsRow : List Token → Result SettlingRow CertificateFault → Type 0
ReadsRow tokens result = ReadsWhole IsRow tokens result

-- the second token is a number
abbrev pub IsAtNumber : List Token → Type 0
IsAtNumber tokens = (first : Token) × (digits : List ℕ) × (after : List Token) × (tokens ≡ first ∷ token.Number digits ∷ after)

-- ---- the lines of a text

-- the first of the text's rows, which has these tokens, is taken; or there is none, or the text can't be cut
abbrev pub SplitsFirst : List ℕ → List Token → Result (Bor (List ℕ)) CertificateFault → Type 0
SplitsFirst text tokens (Ok rest) = TakesRow text tokens rest.now
SplitsFirst text tokens (Err Format) = (first : List Token) (later : List (List Token)) → ¬ HasRows text (first ∷ later)
SplitsFirst text tokens (Err Memory) = Unit {0}

-- all of its rows are lines of nodes or of sets: these
pub record AreRows (text : List ℕ) (lines : List SettlingLine) (sets : List SettlingSet) : Type 0 where
  pub tokens : List (List Token)
  pub has_rows : HasRows text tokens
  pub rows : List SettlingRow
  pub each : AllZip IsRow tokens rows
  pub lines_are : lines_of rows ≡ lines
  pub sets_are : sets_of rows ≡ sets

abbrev pub ReadsRows : List ℕ → Result (List SettlingLine × List SettlingSet) CertificateFault → Type 0
ReadsRows text (Ok parts) = AreRows text parts.0 parts.1
ReadsRows text (Err Format) = (lines : List SettlingLine) (sets : List SettlingSet) → ¬ AreRows text lines sets
ReadsRows text (Err Memory) = Unit {0}
