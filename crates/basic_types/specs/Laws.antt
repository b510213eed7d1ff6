-- Which types and signatures are in normal form, and what holds of fitting (docs/language.md, "Signatures").
use Rattle.std.specs.Prelude.{◌≡◌, ◌≤◌, true, length}
use Rattle.std.specs.List.{AllByRecursion}
use Rattle.basic_types.specs.Signatures.{IsFreeName, most_parameters}
use Rattle.basic_types.specs.Types.{Fits}
use Rattle.basic_types.specs.declared.qtype.QType.{QType}
use Rattle.basic_types.specs.declared.sig.Sig.{Sig}

-- `T`, `T*` or `const T*`
pub record IsNormalType (type : QType) : Type 0 where
  pub named : IsFreeName type.name
  pub const_pointer : type.constant ≡ true → type.pointer ≡ true

pub record IsNormalSig (sig : Sig) : Type 0 where
  pub named : IsFreeName sig.name
  pub types : AllByRecursion IsNormalType sig.types
  pub few : length sig.types ≤ most_parameters

abbrev pub FitsItself : Type 0
FitsItself = (sig : Sig) → Fits sig sig

abbrev pub FitsAlong : Type 0
FitsAlong = (a b c : Sig) → Fits a b → Fits b c → Fits a c
