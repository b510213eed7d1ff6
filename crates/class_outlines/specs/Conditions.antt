-- The conditions under which a program doesn't load, but for those on the names of its classes, on bases and on notify
-- signals, and for names in bodies, wires and owns that aren't there (docs/language.md, "Names").
use Rattle.std.specs.Prelude.{◌≡◌, ℕ, List, Some, Any, ◌⊎◌}
use Rattle.syntax_trees.specs.declared.program.Parameter.{Parameter}
use Rattle.syntax_trees.specs.declared.program.Property.{Property}
use Rattle.syntax_trees.specs.declared.program.Signal.{Signal}
use Rattle.syntax_trees.specs.declared.program.Slot.{Slot}
use Rattle.syntax_trees.specs.declared.program.Class.{Class}
use Rattle.syntax_trees.specs.declared.program.Program.{Program}
use Rattle.class_outlines.specs.declared.outline.Heading.{Heading}
use Rattle.class_outlines.specs.declared.outline.Outline.{Outline}
use Rattle.name_indexes.specs.Twice.{StandsTwice}
use Rattle.class_outlines.specs.Clashes.{HasTwoMembers}
use Rattle.class_outlines.specs.DeclaredKinds.{LacksType}
use Rattle.class_outlines.specs.DeclaredSites.{RepeatsSite, UsesReference}
use Rattle.class_outlines.specs.Natives.{RepeatsEffectIn, HasReferenceNative}

-- ---- members that appear twice
-- both parameters have a name, and it is the same
abbrev pub AreOneParameter : Parameter → Parameter → Type 0
AreOneParameter a b = (name : List ℕ) × (a.name ≡ Some name) × (b.name ≡ Some name)

-- two of a method's parameters are one
abbrev pub RepeatsName : List Parameter → Type 0
RepeatsName parameters = StandsTwice AreOneParameter parameters

-- two parameters of a slot or native have one name, or a name appears twice in a list of a native
abbrev pub RepeatsInSlot : Slot → Type 0
RepeatsInSlot slot = RepeatsName slot.parameters ⊎ RepeatsEffectIn slot.work

-- two parameters of a method of the class have one name, or a name appears twice in a list of one of its natives
abbrev pub RepeatsInMethod : Class → Type 0
RepeatsInMethod class = Any (λ (signal : Signal). RepeatsName signal.parameters) class.signals ⊎ Any RepeatsInSlot class.slots

-- two parameters of a method, two names in a list of a native, two binding sites or two formal sources of one are one
abbrev pub RepeatsDeclared : Program → Type 0
RepeatsDeclared program = Any RepeatsInMethod program.classes ⊎ RepeatsSite program.sites

abbrev pub DuplicateMember : Program → List Outline → Type 0
DuplicateMember program outlines = Any HasTwoMembers outlines ⊎ RepeatsDeclared program

-- ---- types
-- the property's type isn't there
abbrev pub LacksPropertyType : List Outline → Property → Type 0
LacksPropertyType outlines property = LacksType outlines property.kind

-- the type of one of the method's parameters isn't there
abbrev pub LacksParameterType : List Outline → Heading → Type 0
LacksParameterType outlines h = Any (LacksType outlines) h.sig.types

abbrev pub LacksTypes : List Outline → Outline → Type 0
LacksTypes outlines outline =
    Any (LacksPropertyType outlines) outline.properties ⊎ Any (LacksParameterType outlines) outline.methods

abbrev pub LacksAnyType : List Outline → Type 0
LacksAnyType outlines = Any (LacksTypes outlines) outlines

-- a binding's target, or a property that a binding reads, is a reference, or a native takes, reads, emits or sets one
abbrev pub MisusesReference : Program → List Outline → Type 0
MisusesReference program outlines =
    Any (UsesReference outlines) program.sites ⊎ Any (HasReferenceNative outlines) program.classes

-- a type isn't there, or a reference stands where only values may
abbrev pub NoType : Program → List Outline → Type 0
NoType program outlines = LacksAnyType outlines ⊎ MisusesReference program outlines
