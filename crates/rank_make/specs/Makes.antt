-- What the maker answers (docs/certificate.md, "The maker").
use Rattle.std.specs.Prelude.{Some, Result, Ok, Err}
use Rattle.meta_model.specs.Loaded.{Loaded}
use Rattle.certificate_lang.specs.declared.certificate.Certificate.{Certificate}
use Rattle.type_check.specs.Firsts.{IsFirstWithout}
use Rattle.type_check.specs.Wires.{IsFitWire, AreFitWires}
use Rattle.type_check.specs.Typed.{FindsUntyped}
use Rattle.rank_check.specs.Valid.{IsValid}
use Rattle.rank_check.specs.Entries.{IsReady}
use Rattle.rank_make.specs.declared.why.Why.{Why}
use Rattle.rank_make.specs.declared.why.Why.TheVariants.{Wire, BodyType, Cycle, DestroyPath, TooHigh, Memory}
use Rattle.rank_make.specs.Walks.{NoCycle, IsToldCycle, NoDestroyPath, IsDestroyPath, IsHighChain}
use Rattle.rank_make.specs.Least.{IsLeastValid}

abbrev pub NoneIsValid : Loaded → Type 0
NoneIsValid p = (certificate : Certificate) → ¬ IsValid p certificate

-- What is named is so, the reasons before don't hold, and no certificate is valid; running out of memory says nothing.
abbrev pub IsReason : Loaded → Why → Type 0
IsReason p (Wire place) = IsFirstWithout (IsFitWire p) p.wires place × NoneIsValid p
IsReason p (BodyType spot) = AreFitWires p × FindsUntyped p (Some spot) × NoneIsValid p
IsReason p (Cycle nodes) = IsReady p × IsToldCycle p nodes × NoneIsValid p
IsReason p (DestroyPath nodes) = IsReady p × NoCycle p × IsDestroyPath p nodes × NoneIsValid p
IsReason p (TooHigh nodes) = IsReady p × NoCycle p × NoDestroyPath p × IsHighChain p nodes × NoneIsValid p
IsReason p Memory = Unit {0}

-- the program is ready for a certificate, or this is the reason that it is not
abbrev pub ReadyOrReason : Loaded → Result (Unit {0}) Why → Type 0
ReadyOrReason p (Ok _) = IsReady p
ReadyOrReason p (Err why) = IsReason p why

-- a valid certificate that is least, or the first reason why none is valid
abbrev pub Makes : Loaded → Result Certificate Why → Type 0
Makes p (Ok certificate) = IsLeastValid p certificate
Makes p (Err why) = IsReason p why
