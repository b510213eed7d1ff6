-- What holds of valid settling certificates.
use Rattle.std.specs.Prelude.{◌≡◌}
use Rattle.std.specs.List.{Contains}
use Rattle.meta_model.specs.Loaded.{Loaded}
use Rattle.certificate_lang.specs.declared.certificate.Certificate.{Certificate}
use Rattle.rank_check.specs.Valid as plain
use Rattle.settling.specs.Settles.{Settles}
use Rattle.settling.specs.declared.certificate.SettlingSet.{SettlingSet}
use Rattle.settling.specs.declared.certificate.SettlingCertificate.{SettlingCertificate}
use Rattle.settling.specs.Sets.{IsMember}
use Rattle.settling.specs.Valid.{IsValid}

-- a program with a certificate without steps has a settling one with the same bound and step 0
pub record HasAlike (p : Loaded) (certificate : Certificate) : Type 0 where
  pub settling : SettlingCertificate
  pub valid : IsValid p settling
  pub bound : settling.bound ≡ certificate.bound
  pub step : settling.step ≡ 0

abbrev pub EachHasAlike : Type 0
EachHasAlike = (p : Loaded) (certificate : Certificate) → plain.IsValid p certificate → HasAlike p certificate

-- the sets of a valid certificate settle
abbrev pub SetsSettle : Type 0
SetsSettle = (p : Loaded) (certificate : SettlingCertificate) → IsValid p certificate →
    (set : SettlingSet) → Contains certificate.sets set → Settles p (λ x. IsMember p set x)
