-- Classes whose members are found by name (docs/machine.md, "Meta-objects").
use Rattle.std.specs.Prelude.{◌≡◌, ℕ, List, length, Any, Result}
use Rattle.syntax_trees.specs.declared.program.Property.{Property}
use Rattle.syntax_trees.specs.declared.program.Program.{Program}
use Rattle.class_outlines.specs.declared.fault.MetaFault.TheVariants as fault
use Rattle.class_outlines.specs.declared.outline.Heading.{Heading}
use Rattle.class_outlines.specs.declared.outline.Outline.{Outline}
use Rattle.name_indexes.specs.NamePlaces.{place_in}
use Rattle.name_indexes.specs.CallPlaces.{Index, Layers, IndexesCalls}
use Rattle.name_indexes.specs.Places.{IsPlace}
use Rattle.class_outlines.specs.Clashes.{HasTwoMembers}
use Rattle.class_outlines.specs.declared.offence.LoadFault.{LoadFault}
use Rattle.class_outlines.specs.Offences.{LoadsOf}

-- a method of this name and with so many parameters
abbrev pub IsCallOf : List ℕ → ℕ → Heading → Type 0
IsCallOf name count h = (h.sig.name ≡ name) × (length h.sig.types ≡ count)

-- a property of this name
abbrev pub IsPropertyOfName : List ℕ → Property → Type 0
IsPropertyOfName name property = property.name ≡ name

abbrev pub IndexesHeadings : List Heading → Layers → Type 0
IndexesHeadings methods layers = IndexesCalls (λ (h : Heading). h.sig.name) (λ (h : Heading). length h.sig.types) methods layers

-- properties have no parameters
abbrev pub IndexesDeclared : List Property → Layers → Type 0
IndexesDeclared properties layers = IndexesCalls (λ (p : Property). p.name) (λ (p : Property). 0) properties layers

-- the indexes of a class's members, each of which appears once
pub record IndexesOutline (outline : Outline) (methods properties : Layers) : Type 0 where
  pub methods_by : IndexesHeadings outline.methods methods
  pub properties_by : IndexesDeclared outline.properties properties
  pub once : ¬ HasTwoMembers outline

-- under each name stands the number of the first class that has it
abbrev pub IndexesNames : List Outline → Index → Type 0
IndexesNames classes index = (name : List ℕ) → IsPlace (λ (o : Outline). o.name ≡ name) classes (place_in index name)

-- a class with its indexes is the class that was given, and each of its members appears once
pub record IsIndexed (outline indexed : Outline) : Type 0 where
  pub same : indexed ≡ outline
  pub each_once : ¬ HasTwoMembers outline

-- all classes with their indexes are those that were given, and each of their members appears once
pub record AreIndexed (outlines indexed : List Outline) : Type 0 where
  pub same : indexed ≡ outlines
  pub each_once : ¬ Any HasTwoMembers outlines

-- all classes are indexed; or `DuplicateMember`, where a member of one of them appears twice
abbrev pub IndexesOutlines : Program → List Outline → Result (List Outline) LoadFault → Type 0
IndexesOutlines program outlines result =
    LoadsOf program fault.DuplicateMember (Any HasTwoMembers outlines) (AreIndexed outlines) result
