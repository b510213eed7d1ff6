-- Wires whose methods take what their signals give (Qt 6, "Signals & Slots"; docs/certificate.md, "Typing").
use Rattle.basic_types.specs.Types.{Fits}
use Rattle.meta_model.specs.declared.object.MetaMethod.{MetaMethod}
use Rattle.meta_model.specs.declared.object.MetaWire.{MetaWire}
use Rattle.meta_model.specs.Loaded.{Loaded}
use Rattle.meta_model.specs.Members.{IsMethod}
use Rattle.type_check.specs.Firsts.{AllHave}

-- the method's parameter types are the first of the signal's
pub record IsFitWire (p : Loaded) (wire : MetaWire) : Type 0 where
  pub signal : MetaMethod
  pub from : IsMethod p wire.sender wire.signal signal
  pub method : MetaMethod
  pub to : IsMethod p wire.receiver wire.method method
  pub fits : Fits signal.sig method.sig

-- of each wire the method's parameter types are the first of the signal's
abbrev pub AreFitWires : Loaded → Type 0
AreFitWires p = AllHave (IsFitWire p) p.wires
