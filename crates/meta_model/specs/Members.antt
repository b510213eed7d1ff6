-- Classes and their members, by name, signature and number (Qt 6, "The Meta-Object System"; docs/machine.md,
-- "Meta-objects").
use Rattle.std.specs.Prelude.{◌≡◌, ◌<◌, ◌≤◌, ℕ, List, [], ◌∷◌, length, Option, None, Some, slice_get, ◌⊎◌}
use Rattle.std.specs.List.{Any}
use Rattle.std.specs.Option.{option_and_then}
use Rattle.basic_types.specs.declared.sig.Sig.{Sig}
use Rattle.basic_types.specs.declared.kind.Kind.{Kind}
use Rattle.meta_model.specs.declared.object.MetaObject.{MetaObject}
use Rattle.meta_model.specs.declared.object.MetaMethod.{MetaMethod}
use Rattle.meta_model.specs.declared.object.MetaProperty.{MetaProperty}
use Rattle.meta_model.specs.declared.object.MetaWire.{MetaWire}
use Rattle.meta_model.specs.declared.object.MetaOwns.{MetaOwns}
use Rattle.meta_model.specs.Loaded.{Loaded}

-- class c of the program
pub record IsClass (p : Loaded) (c : ℕ) (class : MetaObject) : Type 0 where
  pub is : slice_get p.classes c ≡ Some class

-- class c has this name
pub record IsClassNamed (p : Loaded) (name : List ℕ) (c : ℕ) : Type 0 where
  pub class : MetaObject
  pub is : IsClass p c class
  pub named : class.name ≡ name

-- method m of class c, inherited or its own
pub record IsMethod (p : Loaded) (c m : ℕ) (method : MetaMethod) : Type 0 where
  pub class : MetaObject
  pub is_class : IsClass p c class
  pub is : slice_get class.methods m ≡ Some method

-- method m of class c has this signature
pub record HasSig (p : Loaded) (c : ℕ) (sig : Sig) (m : ℕ) : Type 0 where
  pub method : MetaMethod
  pub is : IsMethod p c m method
  pub signed : method.sig ≡ sig

-- method m of class c has this name and so many parameters
pub record IsMethodNamed (p : Loaded) (c : ℕ) (name : List ℕ) (count m : ℕ) : Type 0 where
  pub method : MetaMethod
  pub is : IsMethod p c m method
  pub named : method.sig.name ≡ name
  pub counted : length method.sig.types ≡ count

-- property q of class c, inherited or its own
pub record IsProperty (p : Loaded) (c q : ℕ) (property : MetaProperty) : Type 0 where
  pub class : MetaObject
  pub is_class : IsClass p c class
  pub is : slice_get class.properties q ≡ Some property

-- property q of class c has this name
pub record IsPropertyNamed (p : Loaded) (c : ℕ) (name : List ℕ) (q : ℕ) : Type 0 where
  pub class : MetaObject
  pub is_class : IsClass p c class
  pub property : MetaProperty
  pub is : slice_get class.properties q ≡ Some property
  pub named : property.name ≡ name

-- property q of class c, where there is one
abbrev pub property_at : Loaded → ℕ → ℕ → Option MetaProperty
property_at p c q = option_and_then (λ (class : MetaObject). slice_get class.properties q) (slice_get p.classes c)

-- the number of the base of class c; only `QObject` has none
abbrev pub base_of : Loaded → ℕ → Option ℕ
base_of p c = option_and_then (λ (class : MetaObject). class.base) (slice_get p.classes c)

-- the class of a base's number, where there is a base
abbrev pub class_at : Loaded → Option ℕ → Option MetaObject
class_at p base = option_and_then (slice_get p.classes) base

-- the base of this class
abbrev pub base_class : Loaded → MetaObject → Option MetaObject
base_class p class = class_at p class.base

-- the first class, which is one of the program, is the second or below it
pub data Below (p : Loaded) : ℕ → ℕ → Type 0 where
  same : {c : ℕ} {class : MetaObject} → IsClass p c class → Below p c c
  under : {c b d : ℕ} → base_of p c ≡ Some b → Below p b d → Below p c d

-- how many methods a class has, inherited ones too; what is no class has none
abbrev pub methods_in : Option MetaObject → ℕ
methods_in None = 0
methods_in (Some class) = length class.methods

-- how many properties a class has, inherited ones too; what is no class has none
abbrev pub properties_in : Option MetaObject → ℕ
properties_in None = 0
properties_in (Some class) = length class.properties

abbrev pub method_count : Loaded → ℕ → ℕ
method_count p c = methods_in (slice_get p.classes c)

-- how many of them its base has, which come first
abbrev pub methods_before : Loaded → Option ℕ → ℕ
methods_before p base = methods_in (class_at p base)

abbrev pub method_offset : Loaded → ℕ → ℕ
method_offset p c = methods_before p (base_of p c)

-- the class declares method m, which its base doesn't have
pub record Declares (p : Loaded) (c m : ℕ) : Type 0 where
  pub after : method_offset p c ≤ m
  pub within : m < method_count p c

-- the wire covers a connection between objects of these two classes, which are its classes or below them, with these
-- signatures and this kind
pub record CoversBy (p : Loaded) (c : ℕ) (signal : Sig) (d : ℕ) (method : Sig) (kind : Kind) (wire : MetaWire) : Type 0 where
  pub sender : Below p c wire.sender
  pub receiver : Below p d wire.receiver
  pub from : HasSig p wire.sender signal wire.signal
  pub to : HasSig p wire.receiver method wire.method
  pub same_kind : wire.kind ≡ kind

-- a wire of the program covers the connection
abbrev pub Covers : Loaded → ℕ → Sig → ℕ → Sig → Kind → Type 0
Covers p c signal d method kind = Any (CoversBy p c signal d method kind) p.wires

-- an object of class c may be the parent of one of class d: the program declares so for these or for classes above them
abbrev pub Owns : Loaded → ℕ → ℕ → Type 0
Owns p c d = Any (λ (owns : MetaOwns). Below p c owns.parent × Below p d owns.child) p.owns

-- ---- a part of these, by recursion
abbrev pub IsIn : {X : Type 0} → X → List X → Type 0
IsIn x [] = ⊥
IsIn x (y ∷ ys) = (x ≡ y) ⊎ IsIn x ys
