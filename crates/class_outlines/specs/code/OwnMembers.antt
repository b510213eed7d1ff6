-- Which members of a class it declares itself, while it is indexed behind those before it.
use Rattle.std.specs.Prelude.{◌≡◌, ℕ, List, [], length, take, Any, Option, None, Some, slice_get, MatchOption}
use Rattle.std.specs.Option.{option_and_then}
use Rattle.syntax_trees.specs.declared.program.Property.{Property}
use Rattle.syntax_trees.specs.declared.program.Program.{Program}
use Rattle.class_outlines.specs.declared.outline.Heading.{Heading}
use Rattle.class_outlines.specs.declared.outline.Outline.{Outline}
use Rattle.class_outlines.specs.declared.twin_members.TwinMembers.{TwinMembers}
use Rattle.class_outlines.specs.declared.twin_members.TwinMembers.TheVariants as twins
use Rattle.class_outlines.specs.Clashes.{AreOneCall, HasTwoMembers}
use Rattle.class_outlines.specs.Outlines.{Outlines}
use Rattle.name_indexes.specs.Twice.{StandsTwice}
use Rattle.name_indexes.specs.code.Twins.{AreTwins}

-- the outline is the program's next one behind these, in which each member appears once
pub record IsNext (program : Program) (done : List Outline) (outline : Outline) : Type 0 where
  pub all : List Outline
  pub outlined : Outlines program.classes all
  pub is : slice_get all (length done) ≡ Some outline
  pub are : take (length done) all ≡ done
  pub once : ¬ Any HasTwoMembers done

-- two properties of one name
abbrev pub AreOneProperty : Property → Property → Type 0
AreOneProperty a b = a.name ≡ b.name

-- ---- inherited members
abbrev pub methods_of : Option Outline → List Heading
methods_of None = []
methods_of (Some o) = o.methods

abbrev pub properties_of : Option Outline → List Property
properties_of None = []
properties_of (Some o) = o.properties

-- the members of the base of this number
abbrev pub base_methods : List Outline → Option ℕ → List Heading
base_methods done base = methods_of (option_and_then (slice_get done) base)

abbrev pub base_properties : List Outline → Option ℕ → List Property
base_properties done base = properties_of (option_and_then (slice_get done) base)

-- how many of them there are
abbrev pub methods_above : List Outline → Option ℕ → ℕ
methods_above done base = length (base_methods done base)

abbrev pub properties_above : List Outline → Option ℕ → ℕ
properties_above done base = length (base_properties done base)

-- the members of the outline's base come first among its own, and each of them appears once
pub record IsOverBase (done : List Outline) (outline : Outline) : Type 0 where
  pub methods : take (methods_above done outline.base) outline.methods ≡ base_methods done outline.base
  pub properties : take (properties_above done outline.base) outline.properties ≡ base_properties done outline.base
  pub methods_once : ¬ StandsTwice AreOneCall (base_methods done outline.base)
  pub properties_once : ¬ StandsTwice AreOneProperty (base_properties done outline.base)

-- ---- members that are one
abbrev pub AreTwinMembers : Outline → TwinMembers → Type 0
AreTwinMembers outline (twins.Methods t) = AreTwins AreOneCall outline.methods t
AreTwinMembers outline (twins.Properties t) = AreTwins AreOneProperty outline.properties t

abbrev pub FindsTwinMembers : Outline → Option TwinMembers → Type 0
FindsTwinMembers outline answer = MatchOption answer (¬ HasTwoMembers outline) (AreTwinMembers outline)
