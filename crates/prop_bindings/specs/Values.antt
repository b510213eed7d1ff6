-- The values that properties of objects have (docs/machine.md, "Bindings"). Bound properties, and those that expressions of
-- bindings read, are of value types, whose values read as they are stored.
use Rattle.std.specs.Prelude.{List, Option}
use Rattle.basic_types.specs.declared.value.Value.{Value}
use Rattle.object_tree.specs.declared.object.Object.{Object}
use Rattle.object_tree.specs.Objects.{stored}
use Rattle.binding_graph.specs.declared.place.Place.{Place}

-- the values of all properties; none where no such object lives, or it has no such property
abbrev pub Env : Type 0
Env = Place → Option Value

abbrev pub values_in : List Object → Place → Option Value
values_in objects p = stored objects p.object p.property
