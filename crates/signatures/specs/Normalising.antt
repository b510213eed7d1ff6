-- What a text's normal form is, and what is wrong with one that has none (docs/language.md, "Signatures").
use Rattle.std.specs.Prelude.{ℕ, ◌<◌, List, length, Some, Option, None, Result, Ok, Err}
use Rattle.basic_types.specs.Signatures.{most_parameters, IsFramed, IsTyped, Normal}
use Rattle.basic_types.specs.declared.sig.Sig.{Sig}
use Rattle.signatures.specs.declared.fault.SigFault.{SigFault}
use Rattle.signatures.specs.declared.fault.SigFault.TheVariants.{BadName, BadType, TooMany, Memory}

-- in the frame of a signature stands what is no list of types
pub record HasBadType (text : List ℕ) : Type 0 where
  pub framed : IsFramed text
  pub none : (sig : Sig) → IsTyped text sig → ⊥

-- a signature but for the number of its parameters
pub record HasTooMany (text : List ℕ) : Type 0 where
  pub sig : Sig
  pub typed : IsTyped text sig
  pub many : most_parameters < length sig.types

-- the normal form of the text, or the first thing that is wrong with it; running out of memory says nothing of the text
abbrev pub Normalises : List ℕ → Result Sig SigFault → Type 0
Normalises text (Ok sig) = Normal text sig
Normalises text (Err BadName) = ¬ IsFramed text
Normalises text (Err BadType) = HasBadType text
Normalises text (Err TooMany) = HasTooMany text
Normalises text (Err Memory) = Unit {0}

-- ---- faults

-- the number of a refusal; running out of memory has none
abbrev pub number_of : SigFault → Option ℕ
number_of BadName = Some 1
number_of BadType = Some 2
number_of TooMany = Some 3
number_of Memory = None
