-- What is there: a living object and one of its methods or properties; and what is dead (docs/machine.md, "Rules").
use Rattle.std.specs.Prelude.{◌≡◌, ℕ, List, None, Some, slice_get}
use Rattle.meta_model.specs.declared.object.MetaMethod.{MetaMethod}
use Rattle.meta_model.specs.declared.object.MetaObject.{MetaObject}
use Rattle.meta_model.specs.declared.object.MetaProperty.{MetaProperty}
use Rattle.meta_model.specs.Loaded.{Loaded}
use Rattle.meta_model.specs.Members.{IsClass, IsMethod}
use Rattle.object_tree.specs.declared.life.Life.{Life}
use Rattle.object_tree.specs.declared.object.Object.{Object}
use Rattle.object_tree.specs.Objects.{Lives}
use Rattle.object_tree.specs.Seen.{seen_reference}
use Rattle.binding_graph.specs.declared.place.Place.{Place}

-- a living object and one of its methods
pub record IsMember (p : Loaded) (objects : List Object) (o m : ℕ) (x : Object) (method : MetaMethod) : Type 0 where
  pub life : Life
  pub lives : Lives objects o x life
  pub is_method : IsMethod p life.class m method

-- no such object lives, or it has no such method
abbrev pub LacksMember : Loaded → List Object → ℕ → ℕ → Type 0
LacksMember p objects o m = (x : Object) (method : MetaMethod) → ¬ IsMember p objects o m x method

-- a living object and one of its properties
pub record IsField (p : Loaded) (objects : List Object) (o q : ℕ) (x : Object) (property : MetaProperty) : Type 0 where
  pub life : Life
  pub lives : Lives objects o x life
  pub class : MetaObject
  pub is_class : IsClass p life.class class
  pub is_property : slice_get class.properties q ≡ Some property

-- the living object and the property at a place
pub record HasField (p : Loaded) (objects : List Object) (at : Place) : Type 0 where
  pub object : Object
  pub property : MetaProperty
  pub is : IsField p objects at.object at.property object property

-- no such object lives, or it has no such property
abbrev pub LacksField : Loaded → List Object → ℕ → ℕ → Type 0
LacksField p objects o q = (x : Object) (property : MetaProperty) → ¬ IsField p objects o q x property

-- the object was created, and lives no more
abbrev pub IsDead : List Object → ℕ → Type 0
IsDead objects o = seen_reference objects (Some o) ≡ None

-- no object has died
abbrev pub NoneDied : List Object → List Object → Type 0
NoneDied old new = (o : ℕ) → IsDead new o → IsDead old o
