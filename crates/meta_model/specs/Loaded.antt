-- What contracts see of a loaded program: its classes, wires, owns and binding sites, by number (docs/machine.md,
-- "Meta-objects").
use Rattle.std.specs.Prelude.{List}
use Rattle.meta_model.specs.declared.object.MetaObject.{MetaObject}
use Rattle.meta_model.specs.declared.object.MetaWire.{MetaWire}
use Rattle.meta_model.specs.declared.object.MetaOwns.{MetaOwns}
use Rattle.meta_model.specs.declared.site.MetaSite.{MetaSite}

pub record Loaded : Type 0 where
  pub classes : List MetaObject
  pub wires : List MetaWire
  pub owns : List MetaOwns
  pub sites : List MetaSite
