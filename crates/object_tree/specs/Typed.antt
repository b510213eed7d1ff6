-- Objects whose properties have values of their types (docs/machine.md, "What every run keeps").
use Rattle.std.specs.Prelude.{ℕ, List, map}
use Rattle.std.specs.List.{AllZip}
use Rattle.basic_types.specs.declared.value.Value.{Value}
use Rattle.meta_model.specs.declared.object.MetaObject.{MetaObject}
use Rattle.meta_model.specs.declared.object.MetaProperty.{MetaProperty}
use Rattle.meta_model.specs.declared.object.ValueType.{ValueType}
use Rattle.meta_model.specs.Loaded.{Loaded}
use Rattle.meta_model.specs.Members.{IsClass, IsProperty}
use Rattle.meta_model.specs.Values.{Has}
use Rattle.object_tree.specs.declared.life.Life.{Life}
use Rattle.object_tree.specs.declared.object.Object.{Object}
use Rattle.object_tree.specs.Objects.{Lives, class_of}
use Rattle.object_tree.specs.Seen.{seen}

-- as it reads, the value has the type
abbrev pub ReadsAs : Loaded → List Object → Value → ValueType → Type 0
ReadsAs p objects v kind = Has p (class_of objects) (seen objects v) kind

-- as they read, there are as many values as types, each of its type
abbrev pub ReadAs : Loaded → List Object → List Value → List ValueType → Type 0
ReadAs p objects values types = AllZip (Has p (class_of objects)) (map (seen objects) values) types

-- the class is there, and the values are as many as its properties, each of its type
pub record IsTyped (p : Loaded) (objects : List Object) (life : Life) : Type 0 where
  pub class : MetaObject
  pub is_class : IsClass p life.class class
  pub typed : ReadAs p objects life.values (map (λ (q : MetaProperty). q.kind) class.properties)

-- of each living object the class is there, and the values are as many as its properties, each of its type
abbrev pub AreTyped : Loaded → List Object → Type 0
AreTyped p objects = (o : ℕ) (x : Object) (life : Life) → Lives objects o x life → IsTyped p objects life

-- what was typed stays so, by whatever program
abbrev pub StayTyped : List Object → List Object → Type 0
StayTyped old new = (p : Loaded) → AreTyped p old → AreTyped p new

-- what was typed stays so, by each program of which this holds
abbrev pub StayTypedIf : (Loaded → Type 0) → List Object → List Object → Type 0
StayTypedIf holds old new = (p : Loaded) → holds p → AreTyped p old → AreTyped p new

-- the value has the type of a living object's property
pub record FitsProperty (objects : List Object) (o q : ℕ) (v : Value) (p : Loaded) : Type 0 where
  pub object : Object
  pub life : Life
  pub lives : Lives objects o object life
  pub property : MetaProperty
  pub is_property : IsProperty p life.class q property
  pub reads : ReadsAs p objects v property.kind
