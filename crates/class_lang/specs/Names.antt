-- How long the names that a program declares may be (docs/language.md, "Limits").
use Rattle.std.specs.Prelude.{ℕ, ◌≤◌, List, length, All, IfSome}
use Rattle.syntax_trees.specs.declared.program.Parameter.{Parameter}
use Rattle.syntax_trees.specs.declared.program.Signal.{Signal}
use Rattle.syntax_trees.specs.declared.program.Slot.{Slot}
use Rattle.syntax_trees.specs.declared.program.Class.{Class}
use Rattle.syntax_trees.specs.declared.program.Site.{Site}
use Rattle.syntax_trees.specs.declared.program.Program.{Program}

-- a name of at most so many bytes
abbrev pub IsShortName : ℕ → List ℕ → Type 0
IsShortName most name = length name ≤ most

-- so are the parameters' names, where they have one
abbrev pub HaveShortNames : ℕ → List Parameter → Type 0
HaveShortNames most parameters = All (λ parameter. IfSome parameter.name (IsShortName most)) parameters

pub record SignalHasShortNames (most : ℕ) (signal : Signal) : Type 0 where
  pub own : IsShortName most signal.name
  pub parameters : HaveShortNames most signal.parameters

pub record SlotHasShortNames (most : ℕ) (slot : Slot) : Type 0 where
  pub own : IsShortName most slot.name
  pub parameters : HaveShortNames most slot.parameters

pub record ClassHasShortNames (most : ℕ) (class : Class) : Type 0 where
  pub own : IsShortName most class.name
  pub properties : All (λ property. IsShortName most property.name) class.properties
  pub signals : All (SignalHasShortNames most) class.signals
  pub slots : All (SlotHasShortNames most) class.slots

pub record SiteHasShortNames (most : ℕ) (site : Site) : Type 0 where
  pub own : IsShortName most site.name
  pub formals : All (λ formal. IsShortName most formal.name) site.formals

-- no name that the program declares is longer
pub record HasShortNames (most : ℕ) (program : Program) : Type 0 where
  pub classes : All (ClassHasShortNames most) program.classes
  pub sites : All (SiteHasShortNames most) program.sites
