-- What a class itself declares of types that aren't there.
use Rattle.std.specs.Prelude.{List, Any, ◌⊎◌}
use Rattle.syntax_trees.specs.declared.program.Signal.{Signal}
use Rattle.syntax_trees.specs.declared.program.Slot.{Slot}
use Rattle.syntax_trees.specs.declared.program.Class.{Class}
use Rattle.class_outlines.specs.declared.outline.Outline.{Outline}
use Rattle.class_outlines.specs.Conditions.{LacksPropertyType}
use Rattle.class_outlines.specs.DeclaredKinds.{LacksType}
use Rattle.class_outlines.specs.Outlines.{types_of}

-- the type of one of its own properties, or of a parameter of one of its own methods, isn't there
abbrev pub DeclaresUnknown : List Outline → Class → Type 0
DeclaresUnknown outlines class =
    Any (LacksPropertyType outlines) class.properties
    ⊎ Any (λ (signal : Signal). Any (LacksType outlines) (types_of signal.parameters)) class.signals
    ⊎ Any (λ (slot : Slot). Any (LacksType outlines) (types_of slot.parameters)) class.slots
