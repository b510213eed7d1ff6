-- What the commands on programs and certificates come to (docs/commands.md). Memory may run out at any step; that it
-- comes only where a growth of memory was refused is not stated here.
use Rattle.std.specs.Prelude.{◌≡◌, ◌⊎◌, ℕ, List}
use Rattle.program_commands.specs.Laws.{IsSameReason}
use Rattle.program_commands.specs.declared.settling_commands.outcome.SettlingOutcome.{SettlingOutcome}
use Rattle.program_commands.specs.declared.settling_commands.outcome.SettlingOutcome.TheVariants as settling
use Rattle.certificate_lang.specs.Texts.{certificate_text}
use Rattle.class_lang.specs.declared.size.Limits.{Limits}
use Rattle.meta_model.specs.Loaded.{Loaded}
use Rattle.rank_check.specs.Checks.{Checking}
use Rattle.rank_make.specs.Makes.{Makes}
use Rattle.program_commands.specs.declared.outcome.Outcome.{Outcome}
use Rattle.program_commands.specs.declared.outcome.Outcome.TheVariants.{Refused, Classes, Certificate as Certified, Uncertified, Valid, Settling}
use Rattle.program_commands.specs.Loading.{LoadsProgram, LoadsValid}
use Rattle.program_commands.specs.Texts.{with_text}
use Rattle.program_commands.specs.Outcomes.{outcome_text, outcome_status, IsShort}
use Rattle.program_commands.specs.Settling.{CertifySettlingComesTo, CheckSettlingComesTo}
use Rattle.program_commands.specs.Steps.{First, Is}

-- `meta`, from the limits and the program's text
abbrev pub MetaComesTo : Limits → List ℕ → Outcome → Type 0
MetaComesTo limits program = First (LoadsProgram limits program) Refused (λ loaded. Is (Classes loaded))

-- `certify`, from the program
abbrev pub CertifiedComesTo : Loaded → Outcome → Type 0
CertifiedComesTo loaded = First (Makes loaded) (Uncertified loaded) (λ certificate. Is (Certified (with_text loaded (certificate_text certificate))))

-- `certify`, from the limits and the program's text
abbrev pub CertifyComesTo : Limits → List ℕ → Outcome → Type 0
CertifyComesTo limits program =
    First (LoadsProgram limits program) Refused (λ loaded.
    CertifiedComesTo loaded)

-- `check`, from the limits and the texts of the program and the certificate
abbrev pub CheckComesTo : Limits → List ℕ → List ℕ → Outcome → Type 0
CheckComesTo limits program certificate = First (LoadsValid limits program certificate) Refused (λ checked. Is (Valid checked))

-- ---- laws

-- the outcome is a program with its certificate's text, and `check` comes to these from the outcome's text
abbrev pub IsAgreed : Limits → List ℕ → Outcome → Type 0
IsAgreed limits program outcome =
    (checked : Checking) × (outcome ≡ Certified (with_text checked.program (certificate_text checked.certificate))) × CheckComesTo limits program (outcome_text outcome) (Valid checked)

-- what `certify` writes of a program with status 0, `check` says yes to, byte for byte
abbrev pub CertifiedIsAgreed : Type 0
CertifiedIsAgreed =
    (limits : Limits) (program : List ℕ) (outcome : Outcome) → CertifyComesTo limits program outcome → outcome_status outcome ≡ 0 →
    IsAgreed limits program outcome

-- Unless memory runs out, `meta` comes to one thing, and so writes one thing.
abbrev pub OneDescription : Type 0
OneDescription =
    (limits : Limits) (program : List ℕ) (a b : Outcome) → MetaComesTo limits program a → MetaComesTo limits program b → IsShort a ⊎ IsShort b ⊎ (a ≡ b)

-- Unless memory runs out, `check` comes to one thing.
abbrev pub OneCheck : Type 0
OneCheck =
    (limits : Limits) (program certificate : List ℕ) (a b : Outcome) → CheckComesTo limits program certificate a →
    CheckComesTo limits program certificate b →
    IsShort a ⊎ IsShort b ⊎ (a ≡ b)

-- outcomes are the same; of what is made for a program only that it is for it
abbrev pub IsSameSettling : SettlingOutcome → SettlingOutcome → Type 0
IsSameSettling (settling.Certificate p s) (settling.Certificate q t) = p ≡ q
IsSameSettling (settling.Certificate p s) (settling.Uncertified q w) = p ≡ q
IsSameSettling (settling.Uncertified p v) (settling.Certificate q t) = p ≡ q
IsSameSettling (settling.Uncertified p v) (settling.Uncertified q w) = p ≡ q
IsSameSettling a b = a ≡ b

-- outcomes are the same; but which cycle, path or chain shows why there is no certificate isn't fixed
abbrev pub IsSameOutcome : Outcome → Outcome → Type 0
IsSameOutcome (Uncertified p v) (Uncertified q w) = (p ≡ q) × IsSameReason v w
IsSameOutcome (Settling a) (Settling b) = IsSameSettling a b
IsSameOutcome a b = a ≡ b

abbrev pub OneCertifying : Type 0
OneCertifying =
    (limits : Limits) (program : List ℕ) (a b : Outcome) → CertifyComesTo limits program a → CertifyComesTo limits program b → IsShort a ⊎ IsShort b ⊎ IsSameOutcome a b

-- unless memory runs out, `check --settling` comes to one thing
abbrev pub OneSettlingCheck : Type 0
OneSettlingCheck =
    (limits : Limits) (program certificate : List ℕ) (a b : Outcome) → CheckSettlingComesTo limits program certificate a →
    CheckSettlingComesTo limits program certificate b → IsShort a ⊎ IsShort b ⊎ (a ≡ b)

-- unless memory runs out, `certify --settling` comes to one refusal, or to what is made for one program
abbrev pub OneSettlingCertifying : Type 0
OneSettlingCertifying =
    (limits : Limits) (program : List ℕ) (a b : Outcome) → CertifySettlingComesTo limits program a →
    CertifySettlingComesTo limits program b → IsShort a ⊎ IsShort b ⊎ IsSameOutcome a b
