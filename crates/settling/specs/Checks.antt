-- What a check of a settling certificate answers (docs/settling.md, "The check").
use Rattle.std.specs.Prelude.{◌≡◌, Result, Ok, Err}
use Rattle.meta_model.specs.Loaded.{Loaded}
use Rattle.type_check.specs.Wires.{AreFitWires}
use Rattle.type_check.specs.Typed.{IsTypedProgram}
use Rattle.rank_check.specs.declared.no.No.{No}
use Rattle.rank_check.specs.declared.no.No.TheVariants.{Wire, BodyType, Missing, Extra, Edge, Destroys, Bound, Memory}
use Rattle.settling.specs.declared.certificate.SettlingCertificate.{SettlingCertificate}
use Rattle.settling.specs.Valid.{HasEachNode, HasNothingElse, EdgesFall, SetsHold, IsBounded, AreRounds, IsValid}

-- The condition of the no doesn't hold, and those of the nos with lower numbers do; running out of memory says nothing. What has to
-- hold of a set that comes to rest, but for its members and the edges between them, has the number of the bound.
abbrev pub IsNo : Loaded → SettlingCertificate → No → Type 0
IsNo p certificate Wire = ¬ AreFitWires p
IsNo p certificate BodyType = AreFitWires p × ¬ IsTypedProgram p
IsNo p certificate Missing = AreFitWires p × IsTypedProgram p × ¬ HasEachNode p certificate
IsNo p certificate Extra = AreFitWires p × IsTypedProgram p × HasEachNode p certificate × ¬ HasNothingElse p certificate
IsNo p certificate Edge =
    AreFitWires p × IsTypedProgram p × HasEachNode p certificate × HasNothingElse p certificate × ¬ EdgesFall p certificate
IsNo p certificate Destroys =
    AreFitWires p × IsTypedProgram p × HasEachNode p certificate × HasNothingElse p certificate × EdgesFall p certificate
    × ¬ SetsHold p certificate
IsNo p certificate Bound =
    AreFitWires p × IsTypedProgram p × HasEachNode p certificate × HasNothingElse p certificate × EdgesFall p certificate
    × SetsHold p certificate × ¬ (IsBounded certificate × AreRounds p certificate)
IsNo p certificate Memory = Unit {0}

-- nothing is wrong just where the certificate is valid
abbrev pub Judges : Loaded → SettlingCertificate → Result (Unit {0}) No → Type 0
Judges p certificate (Ok _) = IsValid p certificate
Judges p certificate (Err reason) = IsNo p certificate reason

-- a program with a settling certificate that is valid for it
pub record Checking : Type 0 where
  pub program : Loaded
  pub certificate : SettlingCertificate

-- yes exactly where the certificate is valid, with the program and the certificate that were taken
abbrev pub Checks : Loaded → SettlingCertificate → Result Checking No → Type 0
Checks p certificate (Ok checked) = (checked.program ≡ p) × (checked.certificate ≡ certificate) × IsValid p certificate
Checks p certificate (Err reason) = IsNo p certificate reason
