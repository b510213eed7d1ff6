-- Objects by number and name (docs/machine.md, "Objects"). An object's number is its place in the order of creation.
-- An object is its name, its children and, while it lives, its life.
use Rattle.std.specs.Prelude.{◌≡◌, ◌≢◌, ℕ, zero, suc, Bool, true, List, [], ◌∷◌, Option, None, Some, slice_get, slice_set}
use Rattle.std.specs.Option.{option_map, option_and_then}
use Rattle.basic_types.specs.declared.value.Value.{Value}
pub use Rattle.basic_types.specs.Lists.{change}
use Rattle.object_tree.specs.declared.life.Life.{Life}
use Rattle.object_tree.specs.declared.object.Object.{Object}

-- object o is x, and lives this life
pub record Lives (objects : List Object) (o : ℕ) (x : Object) (life : Life) : Type 0 where
  pub is : slice_get objects o ≡ Some x
  pub lives : x.life ≡ Some life

-- no object lives under this number
abbrev pub IsGone : List Object → ℕ → Type 0
IsGone objects o = (x : Object) (life : Life) → ¬ Lives objects o x life

-- the name of an object, which may be dead
abbrev pub name_of : List Object → ℕ → Option (List ℕ)
name_of objects o = option_map (λ (x : Object). x.name) (slice_get objects o)

-- object o, which may be dead, has this name, and no other object ever had it
pub record IsNamed (objects : List Object) (name : List ℕ) (o : ℕ) : Type 0 where
  pub named : name_of objects o ≡ Some name
  pub only : (k : ℕ) → name_of objects k ≡ Some name → k ≡ o

-- no object ever had the name
abbrev pub IsFree : List Object → List ℕ → Type 0
IsFree objects name = (o : ℕ) → name_of objects o ≢ Some name

-- the life of an object that lives
abbrev pub life_of : List Object → ℕ → Option Life
life_of objects o = option_and_then (λ (x : Object). x.life) (slice_get objects o)

-- the class of an object that lives
abbrev pub class_of : List Object → ℕ → Option ℕ
class_of objects o = option_map (λ (l : Life). l.class) (life_of objects o)

-- the event loop in which an object lives
abbrev pub home_of : List Object → ℕ → Option ℕ
home_of objects o = option_map (λ (l : Life). l.home) (life_of objects o)

-- the value of a property of an object that lives
abbrev pub stored : List Object → ℕ → ℕ → Option Value
stored objects o q = option_and_then (λ (l : Life). slice_get l.values q) (life_of objects o)

-- the classes of the living objects, where one more of this class comes last
abbrev pub class_with : List Object → ℕ → ℕ → Option ℕ
class_with [] class zero = Some class
class_with [] class (suc o) = None
class_with (x ∷ xs) class zero = option_map (λ (l : Life). l.class) x.life
class_with (x ∷ xs) class (suc o) = class_with xs class o

-- the objects with the life of one of them changed; a number of no living object changes nothing
abbrev pub change_life : ℕ → (Life → Life) → List Object → List Object
change_life o f objects = change o (λ (x : Object). record x { life = option_map f x.life }) objects

-- an object with its life changed, if it lives
abbrev pub with_life : (Life → Life) → Object → Object
with_life f x = record x { life = option_map f x.life }

abbrev pub blocked : Bool → Life → Life
blocked b l = record l { blocked = b }

abbrev pub scheduled : Life → Life
scheduled l = record l { scheduled = true }

-- a property is written
abbrev pub written : ℕ → Value → Life → Life
written q v l = record l { values = slice_set l.values q v }
