-- What a loaded program is, in Qt's words: the classes in their order, each with its base's members and then its own, as
-- declared, and names are replaced by numbers (Qt 6, "The Meta-Object System"; docs/machine.md, "Loading").
use Rattle.std.specs.{Prelude.{◌≡◌, ℕ, suc, ◌<◌, List, ◌++◌, length, Option, None, Some, slice_get}, List.{AllZip}}
use Rattle.basic_types.specs.declared.sig.Sig.{Sig}
use Rattle.syntax_trees.specs.{declared.program.Property.{Property}, declared.program.Signal.{Signal}, declared.program.SlotWork.{SlotWork}, declared.program.Slot.{Slot}, declared.program.Class.{Class}, declared.program.Wire.{Wire}, declared.program.Owns.{Owns}, declared.program.Program.{Program}}
use Rattle.syntax_trees.specs.declared.program.SlotWork.TheVariants as slot
use Rattle.meta_model.specs.{declared.object.Work.{Work}, declared.object.MetaMethod.{MetaMethod}, declared.object.MetaProperty.{MetaProperty}, declared.object.MetaObject.{MetaObject}, declared.object.MetaWire.{MetaWire}, declared.object.MetaOwns.{MetaOwns}, declared.qobject.TheConstants.{QOBJECT}, Loaded.{Loaded}, Members.{IsClass, IsClassNamed}, QObject.{sig_of}, Root.{root_class}, Kinds.{IsKind}}
use Rattle.meta_model.specs.declared.object.Work.TheVariants as work
use Rattle.class_outlines.specs.Outlines.{types_of, base_name}
use Rattle.name_resolution.specs.InitialValues.{initial_of}
use Rattle.meta_objects.specs.{LoadedBodies.{Site, site, AreLoadedStatements}, LoadedEnds.{Connects}, LoadedNatives.{AreLoadedEffects}, LoadedSites.{IsLoadedSite}}

-- ---- members
-- a signal: its name, and its parameters' types, each resolved
pub record IsLoadedSignal (p : Loaded) (declared : Signal) (method : MetaMethod) : Type 0 where
  pub signed : method.sig ≡ sig_of declared.name (types_of declared.parameters)
  pub typed : AllZip (IsKind p) (types_of declared.parameters) method.types
  pub signals : method.work ≡ work.Signal

-- what a slot or native does: a slot's statements, and a native's effects, their names resolved
abbrev pub IsLoadedWork : Site → SlotWork → Work → Type 0
IsLoadedWork s (slot.Body body) (work.Slot statements) = AreLoadedStatements s body statements
IsLoadedWork s (slot.Body body) (work.Native effects) = ⊥
IsLoadedWork s (slot.Body body) work.Signal = ⊥
IsLoadedWork s (slot.Native names) (work.Native effects) = AreLoadedEffects s.program s.me names effects
IsLoadedWork s (slot.Native names) (work.Slot statements) = ⊥
IsLoadedWork s (slot.Native names) work.Signal = ⊥

-- a slot or native of class c: likewise, and what it does, in whose names `this` is of that class
pub record IsLoadedSlot (p : Loaded) (c : ℕ) (declared : Slot) (method : MetaMethod) : Type 0 where
  pub signed : method.sig ≡ sig_of declared.name (types_of declared.parameters)
  pub typed : AllZip (IsKind p) (types_of declared.parameters) method.types
  pub does : IsLoadedWork (site p c declared.parameters method.types) declared.work method.work

-- method m of the class is the signal of this signature
pub record IsSignalAt (class : MetaObject) (sig : Sig) (m : ℕ) : Type 0 where
  pub signal : MetaMethod
  pub is : slice_get class.methods m ≡ Some signal
  pub signed : signal.sig ≡ sig
  pub signals : signal.work ≡ work.Signal

-- the notify signal's number, where one is declared
abbrev pub HasNotifier : MetaObject → Option Sig → Option ℕ → Type 0
HasNotifier class None number = number ≡ None
HasNotifier class (Some sig) None = ⊥
HasNotifier class (Some sig) (Some m) = IsSignalAt class sig m

pub record IsLoadedProperty (p : Loaded) (class : MetaObject) (declared : Property) (property : MetaProperty) : Type 0 where
  pub named : property.name ≡ declared.name
  pub declared_as : property.declared ≡ declared.kind
  pub typed : IsKind p declared.kind property.kind
  pub initial : property.initial ≡ initial_of declared.initial property.kind
  pub notified : HasNotifier class declared.notify property.notify

-- ---- classes
-- Class c: its methods are its base's, then its own signals, then its own slots and natives; its properties are its base's,
-- then its own.
pub record IsLoadedClass (p : Loaded) (c : ℕ) (declared : Class) (class : MetaObject) : Type 0 where
  pub named : class.name ≡ declared.name
  pub base_number : ℕ
  pub smaller : base_number < c
  pub based : class.base ≡ Some base_number
  pub base : MetaObject
  pub is_base : IsClass p base_number base
  pub base_named : base.name ≡ base_name declared.base
  pub signals : List MetaMethod
  pub are_signals : AllZip (IsLoadedSignal p) declared.signals signals
  pub slots : List MetaMethod
  pub are_slots : AllZip (IsLoadedSlot p c) declared.slots slots
  pub methods : class.methods ≡ base.methods ++ signals ++ slots
  pub own_properties : List MetaProperty
  pub are_properties : AllZip (IsLoadedProperty p class) declared.properties own_properties
  pub properties : class.properties ≡ base.properties ++ own_properties

pub record HasLoadedClass (p : Loaded) (c : ℕ) (declared : Class) : Type 0 where
  pub class : MetaObject
  pub is : IsClass p c class
  pub loaded : IsLoadedClass p c declared class

-- ---- wires and owns, by the numbers of their classes and methods
pub record IsLoadedWire (p : Loaded) (declared : Wire) (wire : MetaWire) : Type 0 where
  pub sender : IsClassNamed p declared.sender wire.sender
  pub receiver : IsClassNamed p declared.receiver wire.receiver
  pub connects : Connects p wire.sender declared.signal wire.signal wire.receiver declared.method wire.method
  pub same_kind : wire.kind ≡ declared.kind

pub record IsLoadedOwns (p : Loaded) (declared : Owns) (owns : MetaOwns) : Type 0 where
  pub parent : IsClassNamed p declared.parent owns.parent
  pub child : IsClassNamed p declared.child owns.child

-- ---- the program
-- `QObject`, then the declared classes in their order
pub record IsLoadedProgram (program : Program) (p : Loaded) : Type 0 where
  pub root : IsClass p QOBJECT root_class
  pub counted : length p.classes ≡ suc (length program.classes)
  pub classes : (i : ℕ) (declared : Class) → slice_get program.classes i ≡ Some declared → HasLoadedClass p (suc i) declared
  pub wires : AllZip (IsLoadedWire p) program.wires p.wires
  pub owns : AllZip (IsLoadedOwns p) program.owns p.owns
  pub sites : AllZip (IsLoadedSite p) program.sites p.sites
