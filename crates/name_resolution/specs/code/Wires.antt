-- How the names in wires and owns are looked up, in the outlines of classes (docs/language.md, "Names").
use Rattle.std.specs.Prelude.{◌≡◌, ◌<◌, List}
use Rattle.syntax_trees.specs.declared.program.Wire.{Wire}
use Rattle.syntax_trees.specs.declared.program.Owns.{Owns}
use Rattle.meta_model.specs.declared.object.MetaWire.{MetaWire}
use Rattle.meta_model.specs.declared.object.MetaOwns.{MetaOwns}
use Rattle.class_outlines.specs.declared.outline.Outline.{Outline}
use Rattle.class_outlines.specs.Outlines.{IsOutlineNamed}
use Rattle.meta_model.specs.declared.qobject.TheConstants.{OBJECT_NAME_CHANGED}
use Rattle.class_outlines.specs.Notifiers.{IsSignalOf}
use Rattle.class_outlines.specs.Ends.{IsSigned, IsEnd}

-- a wire leads from a signal to a slot or a signal, which isn't one that the runtime emits
pub record IsWire (outlines : List Outline) (wire : Wire) (loaded : MetaWire) : Type 0 where
  pub from : IsEnd (IsSignalOf wire.signal) outlines wire.sender loaded.sender loaded.signal
  pub to : IsEnd (IsSigned wire.method) outlines wire.receiver loaded.receiver loaded.method
  pub called : OBJECT_NAME_CHANGED < loaded.method
  pub same_kind : loaded.kind ≡ wire.kind

pub record IsOwns (outlines : List Outline) (owns : Owns) (loaded : MetaOwns) : Type 0 where
  pub parent : IsOutlineNamed outlines owns.parent loaded.parent
  pub child : IsOutlineNamed outlines owns.child loaded.child
