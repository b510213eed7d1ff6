-- What is made where a certificate without steps is valid (docs/settling.md, "The maker").
use Rattle.std.specs.Prelude.{◌≡◌, ◌≤◌, Result, Ok, Err}
use Rattle.meta_model.specs.Loaded.{Loaded}
use Rattle.certificate_lang.specs.declared.certificate.Certificate.{Certificate}
use Rattle.rank_check.specs.Valid as plain
use Rattle.settling.specs.declared.certificate.SettlingCertificate.{SettlingCertificate}
use Rattle.settling_make.specs.declared.why.Why.{Why}
use Rattle.settling_make.specs.declared.why.Why.TheVariants.{Memory}

-- the step 0 and no greater bound than that of a certificate without steps; where there is one, memory alone stands against it
abbrev pub IsFlatAs : Certificate → Result SettlingCertificate Why → Type 0
IsFlatAs given (Ok certificate) = (certificate.step ≡ 0) × (certificate.bound ≤ given.bound)
IsFlatAs given (Err why) = why ≡ Memory

-- so it is of each valid certificate without steps
abbrev pub MakesFlat : Loaded → Result SettlingCertificate Why → Type 0
MakesFlat p result = (given : Certificate) → plain.IsValid p given → IsFlatAs given result
