-- Whether a value has a type, by the class of the object that it refers to (docs/machine.md, "Meta-objects").
use Rattle.std.specs.Prelude.{◌≡◌, ◌↔◌, ℕ, Bool, IsTrue, Option, Some}
use Rattle.basic_types.specs.declared.value.Value.{Value}
use Rattle.basic_types.specs.declared.value.Value.TheVariants.{Ref}
use Rattle.meta_model.specs.declared.object.ValueType.{ValueType}
use Rattle.meta_model.specs.Loaded.{Loaded}
use Rattle.meta_model.specs.Values.{Has}

-- if the value refers to an object, that object is of this class, or dead where there is none
abbrev pub IsOfClass : (ℕ → Option ℕ) → Value → Option ℕ → Type 0
IsOfClass classes v class = (o : ℕ) → v ≡ Ref (Some o) → classes o ≡ class

-- whether the value has the type
abbrev pub TellsType : Loaded → Value → Option ℕ → ValueType → Bool → Type 0
TellsType p v class T answer =
    (classes : ℕ → Option ℕ) → IsOfClass classes v class → (IsTrue answer ↔ Has p classes v T)

-- whether the value, where it is null or refers to this object, has the type
abbrev pub TellsReference : Loaded → Option ℕ → Option ℕ → ValueType → Bool → Type 0
TellsReference p object class T answer =
    (classes : ℕ → Option ℕ) → ((o : ℕ) → object ≡ Some o → classes o ≡ class)
    → (IsTrue answer ↔ Has p classes (Ref object) T)
