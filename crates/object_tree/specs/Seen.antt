-- What values read as: a reference to a dead object is null (docs/machine.md, "Objects").
use Rattle.std.specs.Prelude.{ℕ, List, Option, None, Some, slice_get}
use Rattle.std.specs.Option.{option_map, option_map_or}
use Rattle.basic_types.specs.declared.value.Value.{Value}
use Rattle.basic_types.specs.declared.value.Value.TheVariants.{Ref}
use Rattle.object_tree.specs.declared.life.Life.{Life}
use Rattle.object_tree.specs.declared.object.Object.{Object}

-- what a reference refers to: nothing once its object is dead; a number that no object has yet stays as it is
abbrev pub seen_reference : List Object → Option ℕ → Option ℕ
seen_reference objects None = None
seen_reference objects (Some o) = option_map_or (λ (x : Object). option_map (λ (l : Life). o) x.life) (slice_get objects o) (Some o)

-- a value as it reads
abbrev pub seen : List Object → Value → Value
seen objects (Ref r) = Ref (seen_reference objects r)
seen objects v = v

-- ---- a part of these, as the code asks it
-- what a reference to this object refers to
abbrev pub seen_object : Option Object → ℕ → Option ℕ
seen_object found o = option_map_or (λ (x : Object). option_map (λ (l : Life). o) x.life) found (Some o)
