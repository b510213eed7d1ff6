-- What wires and the statements `connect` and `disconnect` name, by number (docs/language.md, "Names").
use Rattle.std.specs.Prelude.{◌≡◌, ℕ, ◌<◌}
use Rattle.basic_types.specs.declared.sig.Sig.{Sig}
use Rattle.meta_model.specs.declared.object.Work.TheVariants.{Signal}
use Rattle.meta_model.specs.declared.qobject.TheConstants.{OBJECT_NAME_CHANGED}
use Rattle.meta_model.specs.Loaded.{Loaded}
use Rattle.meta_model.specs.Members.{HasSig}

-- the first signature is that of signal g of class c, the second that of method m of class d, which isn't one of
-- the signals that the runtime emits
pub record Connects (p : Loaded) (c : ℕ) (from : Sig) (g d : ℕ) (to : Sig) (m : ℕ) : Type 0 where
  pub signal : HasSig p c from g
  pub signals : signal.method.work ≡ Signal
  pub method : HasSig p d to m
  pub called : OBJECT_NAME_CHANGED < m
