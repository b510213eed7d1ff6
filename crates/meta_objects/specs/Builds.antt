-- When a program loads, and what its meta-objects are (docs/machine.md, "Loading").
use Rattle.std.specs.Prelude.{◌≡◌, ◌≢◌, List, Option, None, Some, Result, Ok, Err}
use Rattle.syntax_trees.specs.declared.program.Program.{Program}
use Rattle.class_outlines.specs.declared.fault.MetaFault.{MetaFault}
use Rattle.class_outlines.specs.declared.fault.MetaFault.TheVariants as fault
use Rattle.class_outlines.specs.declared.offence.LoadFault.{LoadFault}
use Rattle.class_outlines.specs.declared.offence.Offence.{Offence}
use Rattle.class_outlines.specs.declared.outline.Outline.{Outline}
use Rattle.class_outlines.specs.Offences.{fault_of, fault_told, IsDeclared, IsPlaced}
use Rattle.meta_model.specs.Loaded.{Loaded}
use Rattle.class_outlines.specs.Outlines.{Outlines}
use Rattle.class_outlines.specs.Clashes.{DuplicateClass}
use Rattle.class_outlines.specs.Bases.{NoBase}
use Rattle.class_outlines.specs.Conditions.{DuplicateMember, NoType}
use Rattle.class_outlines.specs.Notifiers.{BadNotify}
use Rattle.name_resolution.specs.LackedNames.{LacksMember}
use Rattle.meta_objects.specs.LoadedProgram.{IsLoadedProgram}

-- class names and bases are as they are to be, so that the classes have these members
pub record HasOutlines (program : Program) (outlines : List Outline) : Type 0 where
  pub distinct : ¬ DuplicateClass program
  pub based : ¬ NoBase program
  pub are : Outlines program.classes outlines

-- no two members are alike, the names that are used are there, notify signals fit, types are there
pub record IsClean (program : Program) (outlines : List Outline) : Type 0 where
  pub members : ¬ DuplicateMember program outlines
  pub names : ¬ LacksMember program outlines
  pub notifiers : ¬ BadNotify outlines
  pub types : ¬ NoType program outlines

-- what is loaded of a program that no condition refuses: the program as declared, of which there is one (`OneAsDeclared`)
pub record IsLoadedForm (program : Program) (loaded : Loaded) : Type 0 where
  pub outlines : List Outline
  pub outlined : HasOutlines program outlines
  pub clean : IsClean program outlines
  pub declared : IsLoadedProgram program loaded

-- the first condition that holds, over the whole program, refuses it; where none holds, the program is loaded
abbrev pub Builds : Program → Result Loaded MetaFault → Type 0
Builds program (Ok loaded) = IsLoadedForm program loaded
Builds program (Err fault.DuplicateClass) = DuplicateClass program
Builds program (Err fault.NoBase) = (¬ DuplicateClass program) × NoBase program
Builds program (Err fault.DuplicateMember) = (o : List Outline) × HasOutlines program o × DuplicateMember program o
Builds program (Err fault.NoMember) =
    (o : List Outline) × HasOutlines program o × (¬ DuplicateMember program o) × LacksMember program o
Builds program (Err fault.BadNotify) =
    (o : List Outline) × HasOutlines program o × (¬ DuplicateMember program o) × (¬ LacksMember program o) × BadNotify o
Builds program (Err fault.NoType) =
    (o : List Outline) × HasOutlines program o × (¬ DuplicateMember program o) × (¬ LacksMember program o) × (¬ BadNotify o) × NoType program o
Builds program (Err fault.Memory) = Unit {0}

-- the program is loaded; or a condition refuses it, and it is reported which of its declarations leads to that
abbrev pub LoadsProgram : Program → Result Loaded LoadFault → Type 0
LoadsProgram program (Ok loaded) = Builds program (Ok loaded)
LoadsProgram program (Err e) = Builds program (Err (fault_told e)) × IsPlaced program e

-- what refuses the program, by itself; there is none exactly where the program is loaded
abbrev pub TellsRefusal : Program → Option Offence → Type 0
TellsRefusal program None = (loaded : Loaded) × Builds program (Ok loaded)
TellsRefusal program (Some o) = Builds program (Err (fault_of o.reason)) × IsDeclared program o.declaration

-- where no class and no member appears twice and bases are there, a program is loaded as declared in one way at most
abbrev pub OneAsDeclared : Type 0
OneAsDeclared =
    (program : Program) (outlines : List Outline) → HasOutlines program outlines → (¬ DuplicateMember program outlines)
    → (p q : Loaded) → IsLoadedProgram program p → IsLoadedProgram program q → p ≡ q

-- a program is loaded in one way at most
abbrev pub OneLoading : Type 0
OneLoading = (program : Program) (a b : Loaded) → Builds program (Ok a) → Builds program (Ok b) → a ≡ b

-- unless memory runs out, a program has one answer: one refusal, or one loaded form
abbrev pub OneAnswer : Type 0
OneAnswer =
    (program : Program) (a b : Result Loaded MetaFault) → Builds program a → Builds program b
    → a ≢ Err fault.Memory → b ≢ Err fault.Memory → a ≡ b
