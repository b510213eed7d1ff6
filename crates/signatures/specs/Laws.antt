-- What holds of normal forms (docs/language.md, "Signatures").
use Rattle.std.specs.Prelude.{ℕ, ◌≡◌, ◌≤◌, ◌⊎◌, List, length, Result, Err}
use Rattle.basic_types.specs.Laws.{IsNormalSig}
use Rattle.basic_types.specs.Signatures.{Normal}
use Rattle.basic_types.specs.Spelling.{text_of_sig}
use Rattle.basic_types.specs.declared.sig.Sig.{Sig}
use Rattle.signatures.specs.Normalising.{Normalises}
use Rattle.signatures.specs.declared.fault.SigFault.{SigFault}
use Rattle.signatures.specs.declared.fault.SigFault.TheVariants.{Memory}

-- a text has at most one normal form
abbrev pub OneNormalForm : Type 0
OneNormalForm = (text : List ℕ) → (a b : Sig) → Normal text a → Normal text b → a ≡ b

-- a text has at most one answer, unless memory runs out
abbrev pub OneAnswer : Type 0
OneAnswer = (text : List ℕ) → (a b : Result Sig SigFault) → Normalises text a → Normalises text b → (a ≡ Err Memory) ⊎ (b ≡ Err Memory) ⊎ (a ≡ b)

-- such signatures are the normal forms
abbrev pub NormalFormsAreNormal : Type 0
NormalFormsAreNormal = (text : List ℕ) → (sig : Sig) → Normal text sig → IsNormalSig sig

-- and each is the normal form of its text
abbrev pub TextsAreNormal : Type 0
TextsAreNormal = (sig : Sig) → IsNormalSig sig → Normal (text_of_sig sig) sig

abbrev pub AtMostEight : Type 0
AtMostEight = (text : List ℕ) → (sig : Sig) → Normal text sig → length sig.types ≤ 8
