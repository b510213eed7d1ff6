-- The members that classes have, by name, inherited ones too (Qt 6, "The Meta-Object System" and "Using the Meta-Object
-- Compiler"; docs/machine.md, "Meta-objects").
use Rattle.std.specs.Borrow.{Bor}
use Rattle.std.specs.Prelude.{◌≡◌, ℕ, suc, false, List, [], ◌∷◌, ◌++◌, map, length, take, Option, None, Some, slice_get, Result, codes}
use Rattle.basic_types.specs.declared.qtype.QType.{QType}
use Rattle.basic_types.specs.declared.sig.Sig.{Sig}
use Rattle.basic_types.specs.Types.{value_type, text_name}
use Rattle.syntax_trees.specs.declared.program.Parameter.{Parameter}
use Rattle.syntax_trees.specs.declared.program.Property.{Property}
use Rattle.syntax_trees.specs.declared.program.Signal.{Signal}
use Rattle.syntax_trees.specs.declared.program.Slot.{Slot}
use Rattle.syntax_trees.specs.declared.program.Class.{Class}
use Rattle.class_outlines.specs.declared.outline.Sort.{Sort}
use Rattle.class_outlines.specs.declared.outline.Sort.TheVariants as sort
use Rattle.class_outlines.specs.declared.outline.Heading.{Heading}
use Rattle.class_outlines.specs.declared.outline.Outline.{Outline}
use Rattle.class_outlines.specs.declared.offence.PartFault.{PartFault}
use Rattle.class_outlines.specs.declared.fault.MetaFault.TheVariants as fault
use Rattle.class_outlines.specs.Offences.{LoadsPart}
use Rattle.meta_model.specs.QObject.{sig_of, destroyed, destroyed_alone, name_changed, delete_later}
use Rattle.name_indexes.specs.Places.{StandsFirst, NoneStands, IsFirst}

abbrev pub heading : Sig → Sort → Heading
heading sig s = record { sig = sig; sort = s }

-- ---- QObject
abbrev pub object_name : Property
object_name = record { kind = value_type text_name; name = codes "objectName"; initial = None; notify = Some name_changed }

abbrev pub qobject : Outline
qobject = record {
  name = codes "QObject";
  base = None;
  methods = heading destroyed sort.Signal ∷ heading destroyed_alone sort.Signal ∷ heading name_changed sort.Signal ∷ heading delete_later sort.DeleteLater ∷ [];
  properties = object_name ∷ [];
}

-- ---- declared classes
abbrev pub types_of : List Parameter → List QType
types_of parameters = map (λ (p : Parameter). p.kind) parameters

abbrev pub signal_heading : Signal → Heading
signal_heading signal = heading (sig_of signal.name (types_of signal.parameters)) sort.Signal

-- the slots and natives of class i of the program, from place j on
abbrev pub slot_headings : ℕ → ℕ → List Slot → List Heading
slot_headings i j [] = []
slot_headings i j (slot ∷ slots) = heading (sig_of slot.name (types_of slot.parameters)) (sort.Slot i j) ∷ slot_headings i (suc j) slots

-- a class's own methods: its signals, then its slots and natives, each as declared
abbrev pub own_methods : ℕ → Class → List Heading
own_methods i class = map signal_heading class.signals ++ slot_headings i 0 class.slots

-- a class without a declared base has the base `QObject`
abbrev pub base_name : Option (List ℕ) → List ℕ
base_name None = codes "QObject"
base_name (Some name) = name

-- the name is that of the declared base
abbrev pub IsBase : Option (List ℕ) → Outline → Type 0
IsBase base outline = outline.name ≡ base_name base

-- the base among the classes before its class, with its number
abbrev pub FindsBase : List Outline → Option (List ℕ) → Option (ℕ × Bor Outline) → Type 0
FindsBase before base answer = IsFirst (IsBase base) before answer

-- class i of the program, where the classes before it, and `QObject`, are `done`: its base's members, then its own
pub record IsOutline (done : List Outline) (i : ℕ) (class : Class) (outline : Outline) : Type 0 where
  pub number : ℕ
  pub based : StandsFirst (IsBase class.base) done number
  pub is : outline ≡ record {
    name = class.name;
    base = Some number;
    methods = based.at.item.methods ++ own_methods i class;
    properties = based.at.item.properties ++ class.properties;
  }

-- the class is outlined; or `NoBase`, where its base isn't among the classes before it
abbrev pub OutlinesClass : List Outline → ℕ → Class → Result Outline PartFault → Type 0
OutlinesClass done i class result =
    LoadsPart fault.NoBase (NoneStands (IsBase class.base) done) (IsOutline done i class) result

-- the class has an outline among all, over those before it
pub record HasOutline (all : List Outline) (i : ℕ) (class : Class) : Type 0 where
  pub outline : Outline
  pub is : slice_get all (suc i) ≡ Some outline
  pub outlined : IsOutline (take (suc i) all) i class outline

-- `QObject`, then the declared classes in their order
pub record Outlines (declared : List Class) (all : List Outline) : Type 0 where
  pub root : slice_get all 0 ≡ Some qobject
  pub counted : length all ≡ suc (length declared)
  pub classes : (i : ℕ) (class : Class) → slice_get declared i ≡ Some class → HasOutline all i class

-- ---- what is found in outlines, by name
abbrev pub IsOutlineNamed : List Outline → List ℕ → ℕ → Type 0
IsOutlineNamed outlines name c = StandsFirst (λ (o : Outline). o.name ≡ name) outlines c
