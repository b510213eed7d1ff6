-- What every tree keeps (docs/machine.md, "What every run keeps").
use Rattle.std.specs.Prelude.{◌≡◌, ℕ, eqb, Bool, true, false, List, Option, None, Some}
use Rattle.object_tree.specs.declared.object.Object.{Object}
use Rattle.meta_model.specs.Among.{is_among}
use Rattle.object_tree.specs.Children.{are_distinct}
use Rattle.object_tree.specs.Objects.{home_of}
use Rattle.object_tree.specs.Family.{parent_of, children_of, IsChild, Above}

abbrev pub is_the : ℕ → Option ℕ → Bool
is_the a None = false
is_the a (Some b) = eqb b a

-- no child appears twice among the children of this parent
abbrev pub HasDistinct : List Object → ℕ → Type 0
HasDistinct objects parent = are_distinct (children_of objects parent) ≡ true

-- Parents and children agree, a child appears once among its parent's children, no object is its own ancestor, and a
-- child lives in the loop of its parent, if that lives.
pub record Forest (objects : List Object) : Type 0 where
  pub listed : (parent child : ℕ) → is_among child (children_of objects parent) ≡ is_the parent (parent_of objects child)
  pub distinct : (parent : ℕ) → are_distinct (children_of objects parent) ≡ true
  pub acyclic : (parent child : ℕ) → IsChild objects parent child → ¬ Above objects child parent
  pub one_loop : (parent child home : ℕ) → IsChild objects parent child → home_of objects parent ≡ Some home → home_of objects child ≡ Some home
