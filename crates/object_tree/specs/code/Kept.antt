-- What every tree keeps, with its index of names (docs/machine.md, "What every run keeps").
use Rattle.std.specs.Prelude.{◌≡◌, ◌↔◌, ℕ, List, Some}
use Rattle.name_indexes.specs.NamePlaces.{place_in}
use Rattle.object_tree.specs.declared.object.Object.{Object}
use Rattle.object_tree.specs.Objects.{name_of}
use Rattle.object_tree.specs.Forest.{Forest}

-- the index gives each name the number of the object that has it
pub record Kept (names : List (List ℕ × ℕ)) (objects : List Object) : Type 0 where
  pub named : (name : List ℕ) (o : ℕ) → (place_in names name ≡ Some o) ↔ (name_of objects o ≡ Some name)
  pub forest : Forest objects
