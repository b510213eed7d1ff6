-- Which write is the first whose property isn't there (docs/machine.md, "Faults").
use Rattle.std.specs.Prelude.{◌≡◌, List, ◌∷◌, ◌++◌}
use Rattle.meta_model.specs.Loaded.{Loaded}
use Rattle.object_tree.specs.declared.object.Object.{Object}
use Rattle.prop_bindings.specs.declared.plans.assignment.Assignment.{Assignment}
use Rattle.prop_bindings.specs.Calls.{AllFit}
use Rattle.machine_rules.specs.There.{LacksField}

-- this one of the writes comes after such as fit
pub record IsAfterFit (p : Loaded) (objects : List Object) (writes : List Assignment) (set : Assignment) : Type 0 where
  pub front : List Assignment
  pub back : List Assignment
  pub are : writes ≡ front ++ set ∷ back
  pub fit : AllFit p objects front

-- one of the writes comes after such as fit, and its property isn't there
pub record LacksFirst (p : Loaded) (objects : List Object) (writes : List Assignment) : Type 0 where
  pub set : Assignment
  pub after : IsAfterFit p objects writes set
  pub lacks : LacksField p objects set.place.object set.place.property
