-- What of a program breaks a rule of loading, and which of its declarations that is (docs/machine.md, "Loading").
use Rattle.std.specs.Prelude.{◌≡◌, ℕ, ◌<◌, length, Option, None, Some, Result, Ok, Err, ◌⊎◌}
use Rattle.syntax_trees.specs.declared.program.Class.{Class}
use Rattle.syntax_trees.specs.declared.program.Program.{Program}
use Rattle.class_outlines.specs.declared.fault.MetaFault.{MetaFault}
use Rattle.class_outlines.specs.declared.fault.MetaFault.TheVariants as fault
use Rattle.class_outlines.specs.declared.reason.Reason.{Reason}
use Rattle.class_outlines.specs.declared.reason.Reason.TheVariants as reason
use Rattle.class_outlines.specs.declared.offence.Member.{Member}
use Rattle.class_outlines.specs.declared.offence.Member.TheVariants as member
use Rattle.class_outlines.specs.declared.offence.Declaration.{Declaration}
use Rattle.class_outlines.specs.declared.offence.Declaration.TheVariants as declaration
use Rattle.class_outlines.specs.declared.offence.Breach.{Breach}
use Rattle.class_outlines.specs.declared.offence.Offence.{Offence}
use Rattle.class_outlines.specs.declared.offence.PartFault.{PartFault}
use Rattle.class_outlines.specs.declared.offence.PartFault.TheVariants as part
use Rattle.class_outlines.specs.declared.offence.LoadFault.{LoadFault}
use Rattle.class_outlines.specs.declared.offence.LoadFault.TheVariants as load
use Rattle.name_indexes.specs.Places.{StandsAt}

-- ---- declarations
-- the class declares the member
abbrev pub IsMember : Class → Member → Type 0
IsMember class (member.Property k) = k < length class.properties
IsMember class (member.Signal k) = k < length class.signals
IsMember class (member.Slot k) = k < length class.slots

-- it is one of the program's declarations
abbrev pub IsDeclared : Program → Declaration → Type 0
IsDeclared program (declaration.Class i) = i < length program.classes
IsDeclared program (declaration.Member i m) = StandsAt (λ (class : Class). IsMember class m) program.classes i
IsDeclared program (declaration.Wire i) = i < length program.wires
IsDeclared program (declaration.Owns i) = i < length program.owns
IsDeclared program (declaration.Site i) = i < length program.sites

-- ---- faults
-- the refusal of programs with a declaration that breaks a rule so
abbrev pub fault_of : Reason → MetaFault
fault_of (reason.DuplicateClass clash) = fault.DuplicateClass
fault_of (reason.NoBase place) = fault.NoBase
fault_of (reason.DuplicateMember repeated) = fault.DuplicateMember
fault_of (reason.NoMember missing) = fault.NoMember
fault_of (reason.BadNotify near) = fault.BadNotify
fault_of (reason.NoType unfit) = fault.NoType

-- the refusal that a part's fault leads to
abbrev pub fault_in : PartFault → MetaFault
fault_in (part.Breach b) = fault_of b.reason
fault_in part.Memory = fault.Memory

-- the refusal that a program's fault leads to
abbrev pub fault_told : LoadFault → MetaFault
fault_told (load.Offence o) = fault_of o.reason
fault_told load.Memory = fault.Memory

-- the breach, of this declaration
abbrev pub offence_of : Declaration → Breach → Offence
offence_of d b = record { declaration = d; name = b.name; reason = b.reason }

-- the part's fault, of this declaration
abbrev pub located : Declaration → PartFault → LoadFault
located d (part.Breach b) = load.Offence (offence_of d b)
located d part.Memory = load.Memory

-- ---- answers
-- the offence has this fault, and is of one of the program's declarations
pub record IsOffence (program : Program) (fault : MetaFault) (o : Offence) : Type 0 where
  pub leads : fault_of o.reason ≡ fault
  pub declared : IsDeclared program o.declaration

-- the offence has this fault, and is of a member of this class, which has this place in the program
pub record IsOffenceIn (i : ℕ) (class : Class) (fault : MetaFault) (o : Offence) : Type 0 where
  pub leads : fault_of o.reason ≡ fault
  pub member : Member
  pub is : o.declaration ≡ declaration.Member i member
  pub declares : IsMember class member

-- loading failed by an offence of this fault, and memory didn't run out
abbrev pub IsOffenceBy : Program → MetaFault → LoadFault → Type 0
IsOffenceBy program fault (load.Offence o) = IsOffence program fault o
IsOffenceBy program fault load.Memory = ⊥

-- what breaks the rule in the program, where it is broken
abbrev pub TellsOffence : Program → MetaFault → Type 0 → Option Offence → Type 0
TellsOffence program fault Broken None = ¬ Broken
TellsOffence program fault Broken (Some o) = Broken × IsOffence program fault o

-- what breaks the rule in this class, where it is broken
abbrev pub TellsOffenceIn : ℕ → Class → MetaFault → Type 0 → Option Offence → Type 0
TellsOffenceIn i class fault Broken None = ¬ Broken
TellsOffenceIn i class fault Broken (Some o) = Broken × IsOffenceIn i class fault o

-- what breaks the rule in a declaration, where it is broken
abbrev pub TellsBreach : MetaFault → Type 0 → Option Breach → Type 0
TellsBreach fault Broken None = ¬ Broken
TellsBreach fault Broken (Some b) = Broken × (fault_of b.reason ≡ fault)

-- a part of a declaration is loaded, or it lacks something, which is this fault; memory may always be refused
abbrev pub LoadsPart : {Y : Type 0} → MetaFault → Type 0 → (Y → Type 0) → Result Y PartFault → Type 0
LoadsPart fault Lacks Is (Ok y) = Is y
LoadsPart fault Lacks Is (Err e) = (e ≡ part.Memory) ⊎ ((fault_in e ≡ fault) × Lacks)

-- something of a program is loaded, or lacks something, which is this fault; memory may always be refused
abbrev pub LoadsOf : {Y : Type 0} → Program → MetaFault → Type 0 → (Y → Type 0) → Result Y LoadFault → Type 0
LoadsOf program fault Lacks Is (Ok y) = Is y
LoadsOf program fault Lacks Is (Err e) = (e ≡ load.Memory) ⊎ (IsOffenceBy program fault e × Lacks)

-- loading failed by an offence of this fault in this class, and memory didn't run out
abbrev pub IsOffenceInBy : ℕ → Class → MetaFault → LoadFault → Type 0
IsOffenceInBy i class fault (load.Offence o) = IsOffenceIn i class fault o
IsOffenceInBy i class fault load.Memory = ⊥

abbrev pub LoadsIn : {Y : Type 0} → ℕ → Class → MetaFault → Type 0 → (Y → Type 0) → Result Y LoadFault → Type 0
LoadsIn i class fault Lacks Is (Ok y) = Is y
LoadsIn i class fault Lacks Is (Err e) = (e ≡ load.Memory) ⊎ (IsOffenceInBy i class fault e × Lacks)

-- where a program isn't loaded, the fault is of one of its declarations, or memory was refused
abbrev pub IsPlaced : Program → LoadFault → Type 0
IsPlaced program (load.Offence o) = IsDeclared program o.declaration
IsPlaced program load.Memory = Unit {0}
