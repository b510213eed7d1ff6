-- The settling certificates whose text is read again (docs/settling.md, "The certificate").
use Rattle.std.specs.Prelude.{◌≢◌, ◌≤◌, []}
use Rattle.std.specs.List.{AllByRecursion}
use Rattle.token_reading.specs.Literals.{greatest}
use Rattle.certificate_lang.specs.Written.{IsWritableNode, IsWritableItem}
use Rattle.settling_texts.specs.Reads.{IsSettling}
use Rattle.settling_texts.specs.Texts.{settling_text}
use Rattle.settling.specs.declared.certificate.SettlingLine.{SettlingLine}
use Rattle.settling.specs.declared.certificate.SettlingSet.{SettlingSet}
use Rattle.settling.specs.declared.certificate.SettlingCertificate.{SettlingCertificate}

-- no number is larger than one may be
pub record IsWritableLine (line : SettlingLine) : Type 0 where
  pub node : IsWritableNode line.node
  pub rank : line.rank ≤ greatest
  pub step : line.step ≤ greatest
  pub destroys : AllByRecursion IsWritableItem line.destroys

-- a set has a node
pub record IsWritableSet (set : SettlingSet) : Type 0 where
  pub round : set.round ≤ greatest
  pub some : set.members ≢ []
  pub members : AllByRecursion IsWritableNode set.members

pub record IsWritable (certificate : SettlingCertificate) : Type 0 where
  pub bound : certificate.bound ≤ greatest
  pub step : certificate.step ≤ greatest
  pub lines : AllByRecursion IsWritableLine certificate.lines
  pub sets : AllByRecursion IsWritableSet certificate.sets

-- ---- laws

-- a settling certificate's text is that certificate
abbrev pub TextsAreRead : Type 0
TextsAreRead = (certificate : SettlingCertificate) → IsWritable certificate → IsSettling (settling_text certificate) certificate
