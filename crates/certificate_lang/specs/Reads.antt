-- What the reader answers for a text (docs/certificate.md, "The certificate").
use Rattle.std.specs.Prelude.{◌≡◌, ℕ, List, [], ◌∷◌, Option, Some, None, Result, Ok, Err, codes}
use Rattle.std.specs.List.{AllZip}
use Rattle.texts.specs.Lines.{AreLines}
use Rattle.texts.specs.Pieces.{AreTokens}
use Rattle.texts.specs.declared.token.Token.{Token}
use Rattle.certificate_lang.specs.declared.certificate.Certificate.{Certificate}
use Rattle.certificate_lang.specs.declared.fault.CertificateFault.{CertificateFault}
use Rattle.certificate_lang.specs.declared.fault.CertificateFault.TheVariants.{Format, Memory}
use Rattle.certificate_lang.specs.declared.version.Version.{Version}
use Rattle.certificate_lang.specs.declared.version.Version.TheVariants.{One, Two}
use Rattle.certificate_lang.specs.Grammar.{IsSetting, IsNodeLine}

-- ---- lines with tokens

-- a line that is blank or has only a comment is passed over
abbrev pub before : List Token → List (List Token) → List (List Token)
before [] later = later
before (t ∷ ts) later = (t ∷ ts) ∷ later

-- the tokens of those of the lines that have some
abbrev pub AreRows : List (List ℕ) → List (List Token) → Type 0
AreRows [] rows = rows ≡ []
AreRows (line ∷ lines) rows =
    (tokens : List Token) × (later : List (List Token)) × AreTokens line tokens × AreRows lines later × (rows ≡ before tokens later)

-- the tokens of those of the text's lines that have some
pub record HasRows (text : List ℕ) (rows : List (List Token)) : Type 0 where
  pub lines : List (List ℕ)
  pub cut : AreLines text lines
  pub are_rows : AreRows lines rows

-- ---- certificates

-- the number of a version
abbrev pub version_number : Version → ℕ
version_number One = 1
version_number Two = 2

-- the text is a certificate: `certificate` and the version's number, the bound, and the lines of nodes
pub record IsCertificate (text : List ℕ) (certificate : Certificate) : Type 0 where
  pub version : Version
  pub first : List Token
  pub second : List Token
  pub others : List (List Token)
  pub has_rows : HasRows text (first ∷ second ∷ others)
  pub header : IsSetting (codes "certificate") first (version_number version)
  pub bound : IsSetting (codes "bound") second certificate.bound
  pub nodes : AllZip (IsNodeLine version) others certificate.lines

-- where memory is refused, nothing is said
abbrev pub ReadsCertificate : List ℕ → Result Certificate CertificateFault → Type 0
ReadsCertificate text (Ok certificate) = IsCertificate text certificate
ReadsCertificate text (Err Format) = (certificate : Certificate) → ¬ IsCertificate text certificate
ReadsCertificate text (Err Memory) = Unit {0}

-- the number of a refusal; running out of memory has none
abbrev pub number_of : CertificateFault → Option ℕ
number_of Format = Some 77
number_of Memory = None

-- ---- laws

-- the text has one certificate at most
abbrev pub HasOneCertificate : List ℕ → Type 0
HasOneCertificate text = (a b : Certificate) → IsCertificate text a → IsCertificate text b → a ≡ b
