-- Natives as declared: which names may not appear twice, and that no reference may be among what a native takes, reads,
-- emits or sets (docs/language.md, "Names").
use Rattle.std.specs.Prelude.{◌≡◌, ℕ, ◌⊎◌, true, List, Any}
use Rattle.basic_types.specs.declared.qtype.QType.{QType}
use Rattle.basic_types.specs.declared.sig.Sig.{Sig}
use Rattle.syntax_trees.specs.declared.program.Parameter.{Parameter}
use Rattle.syntax_trees.specs.declared.program.EffectNames.{EffectNames}
use Rattle.syntax_trees.specs.declared.program.SlotWork.{SlotWork}
use Rattle.syntax_trees.specs.declared.program.SlotWork.TheVariants as work
use Rattle.syntax_trees.specs.declared.program.Slot.{Slot}
use Rattle.syntax_trees.specs.declared.program.Class.{Class}
use Rattle.class_outlines.specs.declared.outline.Outline.{Outline}
use Rattle.name_indexes.specs.Twice.{StandsTwice}
use Rattle.class_outlines.specs.DeclaredSites.{IsReferenceIn}

-- ---- names that appear twice
-- two of the signals that the native emits have one name, or a property is named twice among those that it sets
abbrev pub RepeatsAction : EffectNames → Type 0
RepeatsAction effects =
    StandsTwice (λ (a b : Sig). a.name ≡ b.name) effects.emits ⊎ StandsTwice (λ (a b : List ℕ). a ≡ b) effects.sets

-- two signals that the native emits have one name, or a property is named twice among those that it sets, or reads
abbrev pub RepeatsEffect : EffectNames → Type 0
RepeatsEffect effects = StandsTwice (λ (a b : List ℕ). a ≡ b) effects.reads ⊎ RepeatsAction effects

-- the slot is a native that repeats a name so
abbrev pub RepeatsEffectIn : SlotWork → Type 0
RepeatsEffectIn (work.Body body) = ⊥
RepeatsEffectIn (work.Native effects) = RepeatsEffect effects

-- ---- references
abbrev pub IsPointer : QType → Type 0
IsPointer T = T.pointer ≡ true

-- a parameter is a reference
abbrev pub TakesReference : List Parameter → Type 0
TakesReference parameters = Any (λ (p : Parameter). IsPointer p.kind) parameters

-- a parameter of a signal that the native of this class emits, or a property that it sets, is a reference
abbrev pub ActsOnReference : List Outline → List ℕ → EffectNames → Type 0
ActsOnReference outlines class effects =
    Any (λ (sig : Sig). Any IsPointer sig.types) effects.emits ⊎ Any (IsReferenceIn outlines class) effects.sets

-- a parameter of a signal that the native of this class emits, or a property that it sets or reads, is a reference
abbrev pub AffectsReference : List Outline → List ℕ → EffectNames → Type 0
AffectsReference outlines class effects =
    Any (IsReferenceIn outlines class) effects.reads ⊎ ActsOnReference outlines class effects

-- the slot is a native, and takes or affects a reference
abbrev pub TouchesReference : List Outline → List ℕ → List Parameter → SlotWork → Type 0
TouchesReference outlines class parameters (work.Body body) = ⊥
TouchesReference outlines class parameters (work.Native effects) =
    TakesReference parameters ⊎ AffectsReference outlines class effects

-- one of the class's slots is a native that takes or affects a reference
abbrev pub HasReferenceNative : List Outline → Class → Type 0
HasReferenceNative outlines class =
    Any (λ (slot : Slot). TouchesReference outlines class.name slot.parameters slot.work) class.slots
