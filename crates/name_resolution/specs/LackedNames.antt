-- Names that slots, natives, wires, owns and bindings use, but that aren't there: where a part has no form in which each of
-- its names is found, the program doesn't load (docs/language.md, "Names").
use Rattle.std.specs.Prelude.{◌⊎◌, List, Any}
use Rattle.syntax_trees.specs.declared.program.Slot.{Slot}
use Rattle.syntax_trees.specs.declared.program.Class.{Class}
use Rattle.syntax_trees.specs.declared.program.Wire.{Wire}
use Rattle.syntax_trees.specs.declared.program.Owns.{Owns}
use Rattle.syntax_trees.specs.declared.program.Site.{Site}
use Rattle.syntax_trees.specs.declared.program.Program.{Program}
use Rattle.meta_model.specs.declared.object.MetaWire.{MetaWire}
use Rattle.meta_model.specs.declared.object.MetaOwns.{MetaOwns}
use Rattle.meta_model.specs.declared.site.MetaSite.{MetaSite}
use Rattle.class_outlines.specs.declared.outline.Outline.{Outline}
use Rattle.name_resolution.specs.declared.body_resolution.work.ResolvedWork.{ResolvedWork}
use Rattle.name_resolution.specs.code.Bodies.{IsSlotWork}
use Rattle.name_resolution.specs.code.Wires.{IsWire, IsOwns}
use Rattle.name_resolution.specs.code.Sites.{IsSite}

-- a name in the slot or native isn't there
abbrev pub LacksInSlot : List Outline → Class → Slot → Type 0
LacksInSlot outlines class slot = (work : ResolvedWork) → ¬ IsSlotWork outlines class slot work

abbrev pub LacksInClass : List Outline → Class → Type 0
LacksInClass outlines class = Any (LacksInSlot outlines class) class.slots

abbrev pub LacksEnd : List Outline → Wire → Type 0
LacksEnd outlines wire = (loaded : MetaWire) → ¬ IsWire outlines wire loaded

abbrev pub LacksClass : List Outline → Owns → Type 0
LacksClass outlines owns = (loaded : MetaOwns) → ¬ IsOwns outlines owns loaded

-- a name in the site isn't there
abbrev pub LacksInSite : List Outline → Site → Type 0
LacksInSite outlines site = (loaded : MetaSite) → ¬ IsSite outlines site loaded

-- a name that is used in a body, a native, a wire, an owns or a binding isn't there
abbrev pub LacksMember : Program → List Outline → Type 0
LacksMember program outlines =
    Any (LacksInClass outlines) program.classes ⊎ Any (LacksEnd outlines) program.wires ⊎ Any (LacksClass outlines) program.owns
    ⊎ Any (LacksInSite outlines) program.sites
