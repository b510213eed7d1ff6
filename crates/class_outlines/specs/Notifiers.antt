-- Which signal notifies a property, and properties that none notifies as declared (docs/language.md, "Names").
use Rattle.std.specs.Prelude.{◌≡◌, ℕ, ◌<◌, List, [], ◌∷◌, Option, None, Some, Any, ◌⊎◌, codes}
use Rattle.basic_types.specs.declared.sig.Sig.{Sig}
use Rattle.syntax_trees.specs.declared.program.Property.{Property}
use Rattle.class_outlines.specs.declared.outline.Heading.{Heading}
use Rattle.class_outlines.specs.declared.outline.Outline.{Outline}
use Rattle.class_outlines.specs.declared.outline.Sort.TheVariants as sort
use Rattle.meta_model.specs.declared.qobject.TheConstants.{DELETE_LATER}
use Rattle.name_indexes.specs.Places.{StandsFirst}

abbrev pub IsSignalOf : Sig → Heading → Type 0
IsSignalOf sig h = (h.sig ≡ sig) × (h.sort ≡ sort.Signal)

-- of QObject's own signals, which have the first numbers, only `objectName` may be notified by one
abbrev pub MayNotify : ℕ → Property → Type 0
MayNotify m property = (DELETE_LATER < m) ⊎ (property.name ≡ codes "objectName")

-- the notify signature is that of signal m of the class, without parameter or with one of the property's type
pub record IsNotifiedBy (outline : Outline) (property : Property) (sig : Sig) (m : ℕ) : Type 0 where
  pub signal : StandsFirst (IsSignalOf sig) outline.methods m
  pub fits : (sig.types ≡ []) ⊎ (sig.types ≡ property.kind ∷ [])
  pub own : MayNotify m property

abbrev pub LacksNotifier : Outline → Property → Option Sig → Type 0
LacksNotifier outline property None = ⊥
LacksNotifier outline property (Some sig) = (m : ℕ) → ¬ IsNotifiedBy outline property sig m

-- a property of the class has a notify signature by which no signal of the class notifies it
abbrev pub NotifiesBadly : Outline → Type 0
NotifiesBadly outline = Any (λ (property : Property). LacksNotifier outline property property.notify) outline.properties

abbrev pub BadNotify : List Outline → Type 0
BadNotify outlines = Any NotifiesBadly outlines
