-- The names of a program's classes and members (docs/language.md, "Names").
use Rattle.std.specs.Prelude.{ℕ, List, Ok}
use Rattle.std.specs.List.{AllByRecursion}
use Rattle.basic_types.specs.Laws.{IsNormalSig}
use Rattle.basic_types.specs.Signatures.{IsFreeName}
use Rattle.syntax_trees.specs.declared.program.Property.{Property}
use Rattle.syntax_trees.specs.declared.program.Signal.{Signal}
use Rattle.syntax_trees.specs.declared.program.Slot.{Slot}
use Rattle.syntax_trees.specs.declared.program.Class.{Class}
use Rattle.syntax_trees.specs.declared.program.Program.{Program}
use Rattle.class_lang.specs.Reads.{ReadsWithin}
use Rattle.class_lang.specs.declared.size.Limits.{Limits}
use Rattle.meta_model.specs.declared.object.MetaMethod.{MetaMethod}
use Rattle.meta_model.specs.declared.object.MetaProperty.{MetaProperty}
use Rattle.meta_model.specs.declared.object.MetaObject.{MetaObject}
use Rattle.meta_model.specs.Loaded.{Loaded}
use Rattle.meta_model.specs.QObject.{sig_of}
use Rattle.class_outlines.specs.Outlines.{types_of}
use Rattle.meta_objects.specs.Builds.{Builds}

-- ---- what is declared
-- the class and its properties have names that aren't reserved, and the signatures of its methods are in normal form
pub record IsNamedClass (class : Class) : Type 0 where
  pub named : IsFreeName class.name
  pub properties : AllByRecursion (λ (p : Property). IsFreeName p.name) class.properties
  pub signals : AllByRecursion (λ (s : Signal). IsNormalSig (sig_of s.name (types_of s.parameters))) class.signals
  pub slots : AllByRecursion (λ (s : Slot). IsNormalSig (sig_of s.name (types_of s.parameters))) class.slots

abbrev pub IsNamedProgram : Program → Type 0
IsNamedProgram program = AllByRecursion IsNamedClass program.classes

-- ---- what is loaded
-- the class and its properties, inherited ones too, have names that aren't reserved, and the signatures of its methods
-- are in normal form
pub record IsNamedObject (class : MetaObject) : Type 0 where
  pub named : IsFreeName class.name
  pub methods : AllByRecursion (λ (m : MetaMethod). IsNormalSig m.sig) class.methods
  pub properties : AllByRecursion (λ (q : MetaProperty). IsFreeName q.name) class.properties

abbrev pub IsNamedLoaded : Loaded → Type 0
IsNamedLoaded p = AllByRecursion IsNamedObject p.classes

-- ---- laws
abbrev pub ReadProgramsAreNamed : Type 0
ReadProgramsAreNamed = (limits : Limits) (text : List ℕ) (program : Program) → ReadsWithin limits text (Ok program) → IsNamedProgram program

abbrev pub LoadedProgramsAreNamed : Type 0
LoadedProgramsAreNamed = (program : Program) (loaded : Loaded) → IsNamedProgram program → Builds program (Ok loaded) → IsNamedLoaded loaded
