-- What a class has of the name of a method that is looked for.
use Rattle.std.specs.Prelude.{◌≡◌, ◌≢◌, ◌<◌, ◌≤◌, ℕ, List, Any, ◌⊎◌}
use Rattle.class_outlines.specs.declared.outline.Heading.{Heading}
use Rattle.class_outlines.specs.declared.outline.Outline.{Outline}
use Rattle.class_outlines.specs.declared.outline.Sort.TheVariants as sort
use Rattle.meta_model.specs.declared.qobject.TheConstants.{OBJECT_NAME_CHANGED}
use Rattle.class_outlines.specs.declared.reason.Near.{Near}
use Rattle.class_outlines.specs.declared.reason.Near.TheVariants as near
use Rattle.name_indexes.specs.Places.{Found, NoneStands}

-- the method, which has this number: a slot or native, or a signal, which the runtime alone may emit
abbrev pub IsNearOf : ℕ → Heading → Near → Type 0
IsNearOf m h near.Slot = h.sort ≢ sort.Signal
IsNearOf m h near.Signal = (h.sort ≡ sort.Signal) × (OBJECT_NAME_CHANGED < m)
IsNearOf m h near.RuntimeSignal = (h.sort ≡ sort.Signal) × (m ≤ OBJECT_NAME_CHANGED)
IsNearOf m h near.Nothing = ⊥
IsNearOf m h near.Namesake = ⊥

-- whether there is a method of this name
abbrev pub IsNamesake : List Heading → List ℕ → Near → Type 0
IsNamesake methods name near.Namesake = Any (λ (h : Heading). h.sig.name ≡ name) methods
IsNamesake methods name near.Nothing = ¬ Any (λ (h : Heading). h.sig.name ≡ name) methods
IsNamesake methods name near.Slot = ⊥
IsNamesake methods name near.Signal = ⊥
IsNamesake methods name near.RuntimeSignal = ⊥

-- the first method with P, as it is; or else whether there is one of this name
abbrev pub IsNear : (Heading → Type 0) → List ℕ → Outline → Near → Type 0
IsNear P name outline answer =
    ((m : ℕ) × (h : Heading) × Found P outline.methods m h × IsNearOf m h answer)
    ⊎ (NoneStands P outline.methods × IsNamesake outline.methods name answer)
