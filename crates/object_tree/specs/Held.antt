-- The objects for which memory is held (docs/machine.md, "Objects"): those that live, and those that have a living child.
use Rattle.std.specs.Prelude.{ℕ, Bool, true, false, ◌||◌, not, is_some, List, [], ◌∷◌, Option, None, Some, if◌then◌else◌}
use Rattle.object_tree.specs.declared.object.Object.{Object}

abbrev pub are_any : List ℕ → Bool
are_any [] = false
are_any (k ∷ ks) = true

-- the object lives or has a living child
abbrev pub is_held : Object → Bool
is_held x = is_some x.life || are_any x.children

-- an object, if there is one that lives or has a living child
abbrev pub held_in : Option Object → Option Object
held_in None = None
held_in (Some x) = if is_held x then Some x else None

-- the object was created and lives no more
abbrev pub is_dead : Option Object → Bool
is_dead None = false
is_dead (Some x) = not (is_some x.life)
