-- Who is whose parent (docs/machine.md, "Objects"; Qt 6, "Object Trees & Ownership").
use Rattle.std.specs.Prelude.{◌≡◌, ℕ, List, [], ◌∷◌, ◌++◌, Option, None, Some, slice_get}
use Rattle.std.specs.Option.{option_and_then, option_map_or}
use Rattle.object_tree.specs.declared.life.Life.{Life}
use Rattle.object_tree.specs.declared.object.Object.{Object}
use Rattle.object_tree.specs.Children.{without}
use Rattle.object_tree.specs.Objects.{Lives, life_of, change, change_life}

-- the parent of a living object
abbrev pub parent_of : List Object → ℕ → Option ℕ
parent_of objects o = option_and_then (λ (l : Life). l.parent) (life_of objects o)

-- the living children of an object, which may be dead, in the order of adoption
abbrev pub children_of : List Object → ℕ → List ℕ
children_of objects o = option_map_or (λ (x : Object). x.children) (slice_get objects o) []

-- object o lives, and this is its parent
pub record IsChild (objects : List Object) (parent o : ℕ) : Type 0 where
  pub object : Object
  pub life : Life
  pub lives : Lives objects o object life
  pub under : life.parent ≡ Some parent

-- no living object has this parent
abbrev pub IsChildless : List Object → ℕ → Type 0
IsChildless objects parent = (o : ℕ) → ¬ IsChild objects parent o

-- a is o or one of its ancestors, which are counted up to the first dead one
pub data Above (objects : List Object) (a : ℕ) : ℕ → Type 0 where
  itself : Above objects a a
  over_parent : {o parent : ℕ} → parent_of objects o ≡ Some parent → Above objects a parent → Above objects a o

-- a child leaves the children of its parent, if it has one
abbrev pub leaves : Option ℕ → ℕ → List Object → List Object
leaves None child objects = objects
leaves (Some parent) child objects = change parent (λ (x : Object). record x { children = without child x.children }) objects

-- the child comes last among the new parent's children, and leaves those of its old parent
abbrev pub moved : ℕ → ℕ → List Object → List Object
moved parent child objects =
    change_life child (λ (l : Life). record l { parent = Some parent })
    (leaves (parent_of objects child) child (change parent (λ (x : Object). record x { children = x.children ++ child ∷ [] }) objects))

-- an object that lives no more leaves its parent's children; its own stay its children
abbrev pub without_life : ℕ → List Object → List Object
without_life o objects = change o (λ (x : Object). record x { life = None }) (leaves (parent_of objects o) o objects)

-- ---- what there is of one object, and what happens to it, as the code has it
abbrev pub children_in : Option Object → List ℕ
children_in found = option_map_or (λ (x : Object). x.children) found []

-- a child comes last among an object's children
abbrev pub joined_by : ℕ → Object → Object
joined_by child x = record x { children = x.children ++ child ∷ [] }

-- a child leaves an object's children
abbrev pub left_by : ℕ → Object → Object
left_by child x = record x { children = without child x.children }

abbrev pub put_under : ℕ → Life → Life
put_under parent l = record l { parent = Some parent }

-- an object that lives no more
abbrev pub dead : Object → Object
dead x = record x { life = None }
