-- What a check answers (docs/certificate.md, "The check").
use Rattle.std.specs.Prelude.{◌≡◌, ℕ, Option, Some, None, Result, Ok, Err}
use Rattle.meta_model.specs.Loaded.{Loaded}
use Rattle.certificate_lang.specs.declared.certificate.Certificate.{Certificate}
use Rattle.type_check.specs.Wires.{AreFitWires}
use Rattle.type_check.specs.Typed.{IsTypedProgram}
use Rattle.rank_check.specs.declared.no.No.{No}
use Rattle.rank_check.specs.declared.no.No.TheVariants.{Wire, BodyType, Missing, Extra, Edge, Destroys, Bound, Memory}
use Rattle.rank_check.specs.declared.causes.Cause.{Cause}
use Rattle.rank_check.specs.declared.causes.Cause.TheVariants as cause
use Rattle.rank_check.specs.Valid.{HasEachNode, HasNothingElse, RanksFall, SetsHold, IsBounded, IsValid}
use Rattle.rank_check.specs.Causes.{Breaks}

-- the number of a no; running out of memory has none
abbrev pub number_of : No → Option ℕ
number_of Wire = Some 70
number_of BodyType = Some 71
number_of Missing = Some 72
number_of Extra = Some 73
number_of Edge = Some 74
number_of Destroys = Some 75
number_of Bound = Some 76
number_of Memory = None

-- the condition that a cause breaks
abbrev pub no_of : Cause → No
no_of (cause.Wire place) = Wire
no_of (cause.BodyType spot) = BodyType
no_of (cause.Missing node) = Missing
no_of (cause.Extra extra) = Extra
no_of (cause.Edge rise) = Edge
no_of (cause.Destroys mistake) = Destroys
no_of (cause.Bound loose) = Bound
no_of cause.Memory = Memory

-- a program with a certificate that is valid for it
pub record Checking : Type 0 where
  pub program : Loaded
  pub certificate : Certificate

-- The condition of the no doesn't hold, and those of the nos with lower numbers do; running out of memory says nothing.
abbrev pub IsNo : Loaded → Certificate → No → Type 0
IsNo p certificate Wire = ¬ AreFitWires p
IsNo p certificate BodyType = AreFitWires p × ¬ IsTypedProgram p
IsNo p certificate Missing = AreFitWires p × IsTypedProgram p × ¬ HasEachNode p certificate
IsNo p certificate Extra = AreFitWires p × IsTypedProgram p × HasEachNode p certificate × ¬ HasNothingElse p certificate
IsNo p certificate Edge =
    AreFitWires p × IsTypedProgram p × HasEachNode p certificate × HasNothingElse p certificate × ¬ RanksFall p certificate
IsNo p certificate Destroys =
    AreFitWires p × IsTypedProgram p × HasEachNode p certificate × HasNothingElse p certificate × RanksFall p certificate
    × ¬ SetsHold p certificate
IsNo p certificate Bound =
    AreFitWires p × IsTypedProgram p × HasEachNode p certificate × HasNothingElse p certificate × RanksFall p certificate
    × SetsHold p certificate × ¬ IsBounded certificate
IsNo p certificate Memory = Unit {0}

-- the first condition that doesn't hold is that of the cause's no, and what the cause names breaks it
abbrev pub IsCause : Loaded → Certificate → Cause → Type 0
IsCause p certificate cause = IsNo p certificate (no_of cause) × Breaks p certificate cause

-- nothing is wrong just where the certificate is valid
abbrev pub Judges : Loaded → Certificate → Result (Unit {0}) Cause → Type 0
Judges p certificate (Ok _) = IsValid p certificate
Judges p certificate (Err cause) = IsCause p certificate cause

-- a program with a certificate that isn't valid for it, and the first condition that doesn't hold
pub record Denial : Type 0 where
  pub program : Loaded
  pub certificate : Certificate
  pub no : No

-- yes exactly where the certificate is valid, with the program and the certificate that were taken
abbrev pub Checks : Loaded → Certificate → Result Checking No → Type 0
Checks p certificate (Ok checked) = (checked.program ≡ p) × (checked.certificate ≡ certificate) × IsValid p certificate
Checks p certificate (Err reason) = IsNo p certificate reason

-- the same, where a no comes with the program and the certificate that were taken
abbrev pub Examines : Loaded → Certificate → Result Checking Denial → Type 0
Examines p certificate (Ok checked) = Checks p certificate (Ok checked)
Examines p certificate (Err denial) =
    (denial.program ≡ p) × (denial.certificate ≡ certificate) × IsNo p certificate denial.no
