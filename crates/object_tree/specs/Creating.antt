-- When an object is created, and why not (docs/machine.md, "Objects" and "Events").
use Rattle.std.specs.Prelude.{◌≡◌, ℕ, ◌<◌, ◌≤◌, false, List, [], ◌∷◌, ◌++◌, length, map, All, Result, Ok, Err, None, Some}
use Rattle.basic_types.specs.declared.value.Value.{Value}
use Rattle.meta_model.specs.declared.object.MetaObject.{MetaObject}
use Rattle.meta_model.specs.declared.object.MetaProperty.{MetaProperty}
use Rattle.meta_model.specs.Loaded.{Loaded}
use Rattle.meta_model.specs.Members.{IsClass, IsClassNamed}
use Rattle.meta_model.specs.Values.{Has}
use Rattle.object_tree.specs.declared.fault.CreateFault.{CreateFault}
use Rattle.object_tree.specs.declared.fault.CreateFault.TheVariants.{NameUsed, NoClass, TooMany, BadType, Memory}
use Rattle.object_tree.specs.declared.life.Life.{Life}
use Rattle.object_tree.specs.declared.object.Object.{Object}
use Rattle.object_tree.specs.Objects.{IsNamed, IsFree, class_with}
use Rattle.object_tree.specs.Seen.{seen}

-- how many objects may be created
abbrev pub most_objects : ℕ
most_objects = 100000

-- the property of a new object of the class of this number has at first a value that reads as its type
abbrev pub BeginsAs : Loaded → List Object → ℕ → MetaProperty → Type 0
BeginsAs p objects number q = Has p (class_with objects number) (seen objects q.initial) q.kind

-- each property of a new object has at first a value that reads as its type
abbrev pub BeginsWell : Loaded → List Object → ℕ → MetaObject → Type 0
BeginsWell p objects number class = All (BeginsAs p objects number) class.properties

-- the values that properties have at first
abbrev pub initials : List MetaProperty → List Value
initials properties = map (λ (q : MetaProperty). q.initial) properties

abbrev pub initial_values : MetaObject → List Value
initial_values class = map (λ (q : MetaProperty). q.initial) class.properties

-- the life of a new object
abbrev pub begun : ℕ → ℕ → List Value → Life
begun class home values =
    record { class = class; home = home; parent = None; blocked = false; scheduled = false; values = values }

-- a new object
abbrev pub fresh : List ℕ → ℕ → ℕ → List Value → Object
fresh name class home values =
    record { name = name; children = []; life = Some (record { class = class; home = home; parent = None; blocked = false; scheduled = false; values = values }) }

-- an object of this name and class may be created: the class has this number and this meta-object
pub record MayCreate (p : Loaded) (objects : List Object) (name class : List ℕ) (number : ℕ) (kind : MetaObject)
    : Type 0 where
  pub free : IsFree objects name
  pub named : IsClassNamed p class number
  pub is : IsClass p number kind
  pub room : length objects < most_objects
  pub begins : BeginsWell p objects number kind

-- why it may not: the first of these that holds; or memory was refused
pub data IsNotCreated (p : Loaded) (objects : List Object) (name class : List ℕ) : CreateFault → Type 0 where
  name_used : {o : ℕ} → IsNamed objects name o → IsNotCreated p objects name class NameUsed
  no_class : IsFree objects name → ((c : ℕ) → ¬ IsClassNamed p class c)
      → IsNotCreated p objects name class NoClass
  too_many : {c : ℕ} → IsFree objects name → IsClassNamed p class c → most_objects ≤ length objects
      → IsNotCreated p objects name class TooMany
  bad_type : {c : ℕ} {kind : MetaObject} → IsFree objects name → IsClassNamed p class c → IsClass p c kind
      → length objects < most_objects → (¬ BeginsWell p objects c kind) → IsNotCreated p objects name class BadType
  no_memory : IsNotCreated p objects name class Memory

-- an object is created: it is the last one, and the others stay as they were
pub record IsCreated (p : Loaded) (old : List Object) (name class : List ℕ) (home o : ℕ) (new : List Object)
    : Type 0 where
  pub number : ℕ
  pub kind : MetaObject
  pub may : MayCreate p old name class number kind
  pub last : o ≡ length old
  pub appended : new ≡ old ++ fresh name number home (initial_values kind) ∷ []

-- what `create` answers, with the objects before and after it
abbrev pub Creates : Loaded → List Object → List ℕ → List ℕ → ℕ → Result ℕ CreateFault → List Object
    → Type 0
Creates p old name class home (Ok o) new = IsCreated p old name class home o new
Creates p old name class home (Err fault) new = IsNotCreated p old name class fault × (new ≡ old)
