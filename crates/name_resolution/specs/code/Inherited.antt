-- A class's inherited members, which are its base's: what is resolved of the base, the class shares.
use Rattle.std.specs.Prelude.{◌≡◌, ℕ, List, take, Option, Some, slice_get, IfSome}
use Rattle.std.specs.List.{AllZip}
use Rattle.std.specs.Option.{option_and_then}
use Rattle.syntax_trees.specs.declared.program.Property.{Property}
use Rattle.syntax_trees.specs.declared.program.Class.{Class}
use Rattle.meta_model.specs.declared.object.MetaMethod.{MetaMethod}
use Rattle.meta_model.specs.declared.object.MetaProperty.{MetaProperty}
use Rattle.meta_model.specs.declared.object.MetaObject.{MetaObject}
use Rattle.class_outlines.specs.declared.outline.Heading.{Heading}
use Rattle.class_outlines.specs.declared.outline.Outline.{Outline}
use Rattle.class_outlines.specs.Notifiers.{BadNotify}
use Rattle.class_outlines.specs.Outlines.{Outlines}
use Rattle.name_resolution.specs.declared.body_resolution.work.ResolvedWork.{ResolvedWork}
use Rattle.name_resolution.specs.code.Loading.{IsMethodOf, IsPropertyOf, IsObject}

-- the outlines are those of classes, each behind its base
abbrev pub AreOutlined : List Outline → Type 0
AreOutlined outlines = (classes : List Class) × Outlines classes outlines

-- the base of this number, if there is one
abbrev pub base_among : List MetaObject → Option ℕ → Option MetaObject
base_among before base = option_and_then (slice_get before) base

-- the base's members of this place
abbrev pub inherited_method : List MetaObject → Option ℕ → ℕ → Option MetaMethod
inherited_method before base place = option_and_then (λ (object : MetaObject). slice_get object.methods place) (base_among before base)

abbrev pub inherited_property : List MetaObject → Option ℕ → ℕ → Option MetaProperty
inherited_property before base place = option_and_then (λ (object : MetaObject). slice_get object.properties place) (base_among before base)

-- what the base has at a place is what the class is to have there
abbrev pub InheritMethods : List Outline → List (List ResolvedWork) → List MetaObject → Outline → Type 0
InheritMethods outlines works before outline =
    (place : ℕ) (heading : Heading) → slice_get outline.methods place ≡ Some heading
    → IfSome (inherited_method before outline.base place) (IsMethodOf outlines works heading)

abbrev pub InheritProperties : List Outline → List MetaObject → Outline → Type 0
InheritProperties outlines before outline =
    (place : ℕ) (declared : Property) → slice_get outline.properties place ≡ Some declared
    → IfSome (inherited_property before outline.base place) (IsPropertyOf outlines outline declared)

-- the outline is the next one behind those of which these classes are
pub record IsNextObject (outlines : List Outline) (works : List (List ResolvedWork)) (before : List MetaObject) (outline : Outline) : Type 0 where
  pub outlined : AreOutlined outlines
  pub notified : ¬ BadNotify outlines
  pub number : ℕ
  pub is : slice_get outlines number ≡ Some outline
  pub resolved : AllZip (IsObject outlines works) (take number outlines) before
