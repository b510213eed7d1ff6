-- What the reader answers for a text (docs/settling.md, "The certificate").
use Rattle.std.specs.Prelude.{◌≡◌, ℕ, List, ◌∷◌, Result, Ok, Err, codes}
use Rattle.std.specs.List.{AllZip}
use Rattle.texts.specs.declared.token.Token.{Token}
use Rattle.certificate_lang.specs.Grammar.{IsSetting}
use Rattle.certificate_lang.specs.Reads.{HasRows}
use Rattle.certificate_lang.specs.declared.fault.CertificateFault.{CertificateFault}
use Rattle.certificate_lang.specs.declared.fault.CertificateFault.TheVariants.{Format, Memory}
use Rattle.settling_texts.specs.Grammar.{IsDepth, IsRow, lines_of, sets_of}
use Rattle.settling.specs.declared.certificate.SettlingCertificate.{SettlingCertificate}
use Rattle.settling_texts.specs.declared.row.SettlingRow.{SettlingRow}

-- The text is a settling certificate: `settling 1`, the bound and the step, and the lines of nodes and of sets. The order of each
-- kind is kept; where one kind stands among the other says nothing.
pub record IsSettling (text : List ℕ) (certificate : SettlingCertificate) : Type 0 where
  pub first : List Token
  pub second : List Token
  pub others : List (List Token)
  pub has_rows : HasRows text (first ∷ second ∷ others)
  pub header : IsSetting (codes "settling") first 1
  pub depth : IsDepth second (record { bound = certificate.bound; step = certificate.step })
  pub rows : List SettlingRow
  pub each : AllZip IsRow others rows
  pub lines : lines_of rows ≡ certificate.lines
  pub sets : sets_of rows ≡ certificate.sets

-- where memory is refused, nothing is said
abbrev pub ReadsSettling : List ℕ → Result SettlingCertificate CertificateFault → Type 0
ReadsSettling text (Ok certificate) = IsSettling text certificate
ReadsSettling text (Err Format) = (certificate : SettlingCertificate) → ¬ IsSettling text certificate
ReadsSettling text (Err Memory) = Unit {0}

-- ---- laws

-- the text has one settling certificate at most
abbrev pub HasOneSettling : List ℕ → Type 0
HasOneSettling text = (a b : SettlingCertificate) → IsSettling text a → IsSettling text b → a ≡ b
