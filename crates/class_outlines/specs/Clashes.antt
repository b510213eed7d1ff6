-- Names of classes and of members that clash (docs/language.md, "Names").
use Rattle.std.specs.Prelude.{◌≡◌, ℕ, List, length, Any, ◌⊎◌, codes}
use Rattle.basic_types.specs.Types.{IsValueName}
use Rattle.syntax_trees.specs.declared.program.Property.{Property}
use Rattle.syntax_trees.specs.declared.program.Class.{Class}
use Rattle.syntax_trees.specs.declared.program.Program.{Program}
use Rattle.class_outlines.specs.declared.outline.Heading.{Heading}
use Rattle.class_outlines.specs.declared.outline.Outline.{Outline}
use Rattle.name_indexes.specs.Twice.{StandsTwice}

-- ---- names of classes
-- no class may have this name
abbrev pub IsTaken : List ℕ → Type 0
IsTaken name = (name ≡ codes "QObject") ⊎ IsValueName name

-- two classes have one name, or a class has a name that none may have
abbrev pub DuplicateClass : Program → Type 0
DuplicateClass program =
    StandsTwice (λ (a b : Class). a.name ≡ b.name) program.classes ⊎ Any (λ (class : Class). IsTaken class.name) program.classes

-- ---- members that appear twice
-- one name and one number of parameters
abbrev pub AreOneCall : Heading → Heading → Type 0
AreOneCall a b = (a.sig.name ≡ b.sig.name) × (length a.sig.types ≡ length b.sig.types)

-- two methods or two properties of the class, inherited ones too, are one
abbrev pub HasTwoMembers : Outline → Type 0
HasTwoMembers outline =
    StandsTwice AreOneCall outline.methods ⊎ StandsTwice (λ (a b : Property). a.name ≡ b.name) outline.properties
