-- Programs and certificates, from their texts, and what refuses them first (docs/commands.md, "Refusals").
use Rattle.std.specs.Prelude.{ℕ, List, Result, Err}
use Rattle.certificate_lang.specs.Reads.{ReadsCertificate}
use Rattle.certificate_lang.specs.declared.certificate.Certificate.{Certificate}
use Rattle.class_lang.specs.Reads.{ReadsWithin}
use Rattle.class_lang.specs.declared.size.Limits.{Limits}
use Rattle.meta_objects.specs.Builds.{Builds}
use Rattle.meta_model.specs.Loaded.{Loaded}
use Rattle.rank_check.specs.Checks.{Checking, Examines}
use Rattle.settling.specs.Checks.{Checking as Settled, Checks as ChecksSettling}
use Rattle.settling.specs.declared.certificate.SettlingCertificate.{SettlingCertificate}
use Rattle.settling_texts.specs.Reads.{ReadsSettling}
use Rattle.program_commands.specs.declared.refusal.Refusal.{Refusal}
use Rattle.program_commands.specs.declared.refusal.Refusal.TheVariants.{Text, Loading, Certificate as OfCertificate, Check, Unsettled}
use Rattle.program_commands.specs.Steps.{First, Gives}

-- the program, and this certificate
abbrev pub with_certificate : Loaded → Certificate → Checking
with_certificate p certificate = record { program = p; certificate = certificate }

-- the program's text is read by these limits, and the program is loaded
abbrev pub LoadsProgram : Limits → List ℕ → Result Loaded Refusal → Type 0
LoadsProgram limits program =
    First (ReadsWithin limits program) (λ fault. Err (Text fault)) (λ tree.
    First (Builds tree) (λ fault. Err (Loading fault)) Gives)

-- the program is loaded, and then its certificate is read
abbrev pub LoadsCertified : Limits → List ℕ → List ℕ → Result (Loaded × Certificate) Refusal → Type 0
LoadsCertified limits program certificate =
    First (LoadsProgram limits program) Err (λ loaded.
    First (ReadsCertificate certificate) (λ fault. Err (OfCertificate fault)) (λ read. Gives (loaded, read)))

-- the program and its certificate are read, and then the one is checked with the other
abbrev pub LoadsValid : Limits → List ℕ → List ℕ → Result Checking Refusal → Type 0
LoadsValid limits program certificate =
    First (LoadsCertified limits program certificate) Err (λ both.
    First (Examines both.0 both.1) (λ why. Err (Check why)) Gives)

-- the program is loaded, and then its settling certificate is read
abbrev pub LoadsSettling : Limits → List ℕ → List ℕ → Result (Loaded × SettlingCertificate) Refusal → Type 0
LoadsSettling limits program certificate =
    First (LoadsProgram limits program) Err (λ loaded.
    First (ReadsSettling certificate) (λ fault. Err (OfCertificate fault)) (λ read. Gives (loaded, read)))

-- the program and its settling certificate are read, and then the one is checked with the other
abbrev pub LoadsSettled : Limits → List ℕ → List ℕ → Result Settled Refusal → Type 0
LoadsSettled limits program certificate =
    First (LoadsSettling limits program certificate) Err (λ both.
    First (ChecksSettling both.0 both.1) (λ reason. Err (Unsettled reason)) Gives)
