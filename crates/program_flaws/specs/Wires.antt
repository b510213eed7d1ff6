-- What warnings say of wires (docs/explanations.md, "After a success").
use Rattle.std.specs.Prelude.{◌≡◌, ◌≢◌, ◌↔◌, ◌⊎◌, ℕ, Some, slice_get}
use Rattle.basic_types.specs.declared.sig.Sig.{Sig}
use Rattle.basic_types.specs.declared.kind.Kind.{Kind}
use Rattle.meta_model.specs.declared.object.MetaWire.{MetaWire}
use Rattle.meta_model.specs.Loaded.{Loaded}
use Rattle.meta_model.specs.Members.{Below, CoversBy, Covers, IsIn}
use Rattle.effect_scan.specs.code.Relations.{Holds}
use Rattle.program_flaws.specs.declared.warned.lineage.Lineage.{Lineage}
use Rattle.program_flaws.specs.declared.warned.warning.Warning.{Warning}
use Rattle.program_flaws.specs.declared.warned.warning.Warning.TheVariants.{Empty, IdleWire, Unwired, NotifiedTwice, LostSender}

-- the lineage tells which classes are which others, or below them
pub record IsLineageOf (p : Loaded) (lineage : Lineage) : Type 0 where
  pub tells : (c d : ℕ) → Holds lineage.rows c d ↔ Below p c d

-- the one wire is for what the other is for, and for classes that are the other's or above them
pub record IsWider (p : Loaded) (wider wire : MetaWire) : Type 0 where
  pub kind : wider.kind ≡ wire.kind
  pub signal : wider.signal ≡ wire.signal
  pub method : wider.method ≡ wire.method
  pub sender : Below p wire.sender wider.sender
  pub receiver : Below p wire.receiver wider.receiver

-- each connection that the wire covers is covered by the other one
abbrev pub LeavesNothing : Loaded → MetaWire → MetaWire → Type 0
LeavesNothing p other wire =
    (c d : ℕ) (signal method : Sig) (kind : Kind) → CoversBy p c signal d method kind wire → CoversBy p c signal d method kind other

-- the wire is for what the wanted one would be for, and for classes of which some are, or are below, both its own and the wanted
-- one's
pub record MayServe (p : Loaded) (wire wanted : MetaWire) : Type 0 where
  pub kind : wire.kind ≡ wanted.kind
  pub signal : wire.signal ≡ wanted.signal
  pub method : wire.method ≡ wanted.method
  pub sender : Below p wire.sender wanted.sender ⊎ Below p wanted.sender wire.sender
  pub receiver : Below p wire.receiver wanted.receiver ⊎ Below p wanted.receiver wire.receiver

-- some wire of the program may serve for the wanted one
pub record IsServed (p : Loaded) (wanted : MetaWire) : Type 0 where
  pub wire : MetaWire
  pub declared : IsIn wire p.wires
  pub serves : MayServe p wire wanted

-- no connection that this wire would cover is covered by a wire of the program
abbrev pub IsLacking : Loaded → MetaWire → Type 0
IsLacking p wanted =
    (c d : ℕ) (signal method : Sig) → CoversBy p c signal d method wanted.kind wanted → Covers p c signal d method wanted.kind → ⊥

-- another wire of the program, at this place, is wider than the one at the first place
pub record Leaves (p : Loaded) (place : ℕ) (wire : MetaWire) (other : ℕ) : Type 0 where
  pub wider : MetaWire
  pub beside : slice_get p.wires other ≡ Some wider
  pub differ : other ≢ place
  pub wide : IsWider p wider wire

-- beside another wire of the program, this one covers nothing more
pub record IsIdle (p : Loaded) (place other : ℕ) : Type 0 where
  pub wire : MetaWire
  pub at : slice_get p.wires place ≡ Some wire
  pub wider : MetaWire
  pub beside : slice_get p.wires other ≡ Some wider
  pub differ : other ≢ place
  pub leaves : LeavesNothing p wider wire

-- what a warning says of wires is so
abbrev pub IsSo : Loaded → Warning → Type 0
IsSo p (IdleWire wire other) = IsIdle p wire other
IsSo p (Unwired class method statement wanted) = IsLacking p wanted
IsSo p Empty = Unit {0}
IsSo p (NotifiedTwice class method property emit) = Unit {0}
IsSo p (LostSender class signal) = Unit {0}
