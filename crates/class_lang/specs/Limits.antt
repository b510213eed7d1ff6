-- How large programs may be (docs/language.md, "Limits").
use Rattle.std.specs.Prelude.{ℕ, ◌+◌, ◌≤◌, Bool, true, false, List, length, count_by, sum_by, All, IfSome}
use Rattle.basic_types.specs.declared.sig.Sig.{Sig}
use Rattle.basic_types.specs.Signatures.{most_parameters}
use Rattle.syntax_trees.specs.Connections.{HasFewTypes}
use Rattle.slot_lang.specs.Bodies.{signatures_in}
use Rattle.syntax_trees.specs.declared.program.Class.{Class}
use Rattle.syntax_trees.specs.declared.program.Slot.{Slot}
use Rattle.syntax_trees.specs.declared.program.SlotWork.{SlotWork}
use Rattle.syntax_trees.specs.declared.program.SlotWork.TheVariants as work
use Rattle.syntax_trees.specs.declared.program.Wire.{Wire}
use Rattle.syntax_trees.specs.declared.program.Site.{Site}
use Rattle.syntax_trees.specs.declared.program.Program.{Program}
use Rattle.texts.specs.Limits.{most_bytes}
use Rattle.class_lang.specs.Names.{HasShortNames}
use Rattle.class_lang.specs.declared.size.Limits.{Limits}

-- those of a program that a person writes
abbrev pub standard : Limits
standard = record { bytes = most_bytes; name = most_bytes; classes = 256; methods = 64; properties = 32; natives = 64; wires = 1000; owns = 1000; sites = 1000 }

-- those of a program that a tool writes, as one that is read from C++
abbrev pub wide : Limits
wide = record { bytes = 33554432; name = 255; classes = 8192; methods = 1024; properties = 256; natives = 64; wires = 16384; owns = 16384; sites = 16384 }

-- the signatures in a slot's body, and those that a native may emit
abbrev pub signatures_at_work : SlotWork → List Sig
signatures_at_work (work.Body body) = signatures_in body
signatures_at_work (work.Native effects) = effects.emits

-- nor have these more than a signature may have
pub record SlotHasFewParameters (slot : Slot) : Type 0 where
  pub own : length slot.parameters ≤ most_parameters
  pub work : All HasFewTypes (signatures_at_work slot.work)

-- no signature of the class has more parameters than one may have
unfoldable pub ClassHasFewParameters : Class → Type 0
ClassHasFewParameters class =
    All (λ property. IfSome property.notify HasFewTypes) class.properties
    × All (λ signal. length signal.parameters ≤ most_parameters) class.signals
    × All SlotHasFewParameters class.slots

pub record WireHasFewParameters (wire : Wire) : Type 0 where
  pub signal : HasFewTypes wire.signal
  pub method : HasFewTypes wire.method

abbrev pub SiteHasFewFormals : Site → Type 0
SiteHasFewFormals site = length site.formals ≤ most_parameters

-- nor has one of the program, and no binding has more formal sources
pub record HasFewParameters (program : Program) : Type 0 where
  pub classes : All ClassHasFewParameters program.classes
  pub wires : All WireHasFewParameters program.wires
  pub sites : All SiteHasFewFormals program.sites

-- what the host does
abbrev pub is_for_host : SlotWork → Bool
is_for_host (work.Body body) = false
is_for_host (work.Native effects) = true

abbrev pub is_native : Slot → Bool
is_native slot = is_for_host slot.work

-- how many of the slots are natives
abbrev pub natives_among : List Slot → ℕ
natives_among slots = count_by is_native slots

abbrev pub natives_of : Class → ℕ
natives_of class = natives_among class.slots

-- all of the classes together have no more natives than this
abbrev pub HaveFewNatives : ℕ → List Class → Type 0
HaveFewNatives most classes = sum_by natives_of classes ≤ most

pub record ClassIsWithinLimits (limits : Limits) (class : Class) : Type 0 where
  pub methods : length class.signals + length class.slots ≤ limits.methods
  pub properties : length class.properties ≤ limits.properties

pub record IsWithinLimits (limits : Limits) (program : Program) : Type 0 where
  pub classes : length program.classes ≤ limits.classes
  pub each_class : All (ClassIsWithinLimits limits) program.classes
  pub natives : HaveFewNatives limits.natives program.classes
  pub wires : length program.wires ≤ limits.wires
  pub owns : length program.owns ≤ limits.owns
  pub sites : length program.sites ≤ limits.sites
  pub names : HasShortNames limits.name program
