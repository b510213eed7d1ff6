-- Laws on the certificates of a program (docs/certificate.md, "The check" and "The maker").
use Rattle.std.specs.Prelude.{◌≡◌, ◌⊎◌, ℕ, List, Result, Ok, Err}
use Rattle.syntax_trees.specs.declared.program.Program.{Program}
use Rattle.class_lang.specs.Reads.{ReadsWithin}
use Rattle.class_lang.specs.declared.size.Limits.{Limits}
use Rattle.meta_model.specs.Loaded.{Loaded}
use Rattle.meta_model.specs.Sound.{IsSound}
use Rattle.meta_objects.specs.Builds.{Builds}
use Rattle.certificate_lang.specs.Reads.{ReadsCertificate}
use Rattle.certificate_lang.specs.declared.certificate.Certificate.{Certificate}
use Rattle.certificate_lang.specs.Texts.{certificate_text}
use Rattle.certificate_lang.specs.Written.{IsWritable}
use Rattle.rank_check.specs.Checks.{Checking, Checks}
use Rattle.rank_check.specs.Valid.{IsValid}
use Rattle.rank_check.specs.declared.no.No.{No}
use Rattle.rank_check.specs.declared.no.No.TheVariants.{Memory}
use Rattle.rank_make.specs.Least.{IsLeastValid}
use Rattle.rank_make.specs.Makes.{Makes}
use Rattle.rank_make.specs.declared.why.Why.{Why}
use Rattle.rank_make.specs.declared.why.Why.TheVariants as why

-- valid least certificates that are in order are equal
abbrev pub OneLeast : Type 0
OneLeast = (p : Loaded) → IsSound p → (a b : Certificate) → IsLeastValid p a → IsLeastValid p b → a ≡ b

-- the maker makes this certificate for the program that is read from the text by these limits
pub record IsMadeFor (limits : Limits) (source : List ℕ) (certificate : Certificate) : Type 0 where
  pub program : Program
  pub reads : ReadsWithin limits source (Ok program)
  pub loaded : Loaded
  pub builds : Builds program (Ok loaded)
  pub makes : Makes loaded (Ok certificate)

-- so a text has one such certificate at most
abbrev pub OneMade : Type 0
OneMade = (limits : Limits) (source : List ℕ) (a b : Certificate) → IsMadeFor limits source a → IsMadeFor limits source b → a ≡ b

-- the same reason: which cycle, path or chain shows it isn't fixed
abbrev pub IsSameReason : Why → Why → Type 0
IsSameReason (why.Wire j) (why.Wire k) = j ≡ k
IsSameReason (why.BodyType s) (why.BodyType t) = s ≡ t
IsSameReason (why.Cycle m) (why.Cycle n) = Unit {0}
IsSameReason (why.DestroyPath m) (why.DestroyPath n) = Unit {0}
IsSameReason (why.TooHigh m) (why.TooHigh n) = Unit {0}
IsSameReason _ _ = ⊥

-- the same reason, or the same certificate
abbrev pub IsSameAnswer : Result Certificate Why → Result Certificate Why → Type 0
IsSameAnswer (Ok a) (Ok b) = a ≡ b
IsSameAnswer (Err v) (Err w) = IsSameReason v w
IsSameAnswer _ _ = ⊥

-- unless memory runs out, a maker answers one thing
abbrev pub OneMaking : Type 0
OneMaking =
    (p : Loaded) → IsSound p → (a b : Result Certificate Why) → Makes p a → Makes p b
    → (a ≡ Err why.Memory) ⊎ (b ≡ Err why.Memory) ⊎ IsSameAnswer a b

-- unless memory runs out, a check answers one thing
abbrev pub OneVerdict : Type 0
OneVerdict =
    (p : Loaded) (certificate : Certificate) (a b : Result Checking No) → Checks p certificate a → Checks p certificate b
    → (a ≡ Err Memory) ⊎ (b ≡ Err Memory) ⊎ (a ≡ b)

-- what is valid for a program that was read and loaded has a text that is read again
abbrev pub ValidIsWritable : Type 0
ValidIsWritable =
    (limits : Limits) (source : List ℕ) (program : Program) (p : Loaded) (certificate : Certificate)
    → ReadsWithin limits source (Ok program) → Builds program (Ok p) → IsValid p certificate → IsWritable certificate

-- what the maker makes for it is read from its text
abbrev pub MadeIsRead : Type 0
MadeIsRead =
    (limits : Limits) (source : List ℕ) (program : Program) (p : Loaded) (certificate : Certificate)
    → ReadsWithin limits source (Ok program) → Builds program (Ok p) → Makes p (Ok certificate)
    → ReadsCertificate (certificate_text certificate) (Ok certificate)
