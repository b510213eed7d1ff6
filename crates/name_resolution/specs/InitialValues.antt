-- The value that a property of a new object has.
use Rattle.std.specs.Prelude.{Option, None, Some}
use Rattle.basic_types.specs.declared.value.Value.{Value}
use Rattle.syntax_trees.specs.Literals.{literal_value}
use Rattle.syntax_trees.specs.declared.syntax.Literal.{Literal}
use Rattle.meta_model.specs.declared.object.ValueType.{ValueType}
use Rattle.meta_model.specs.Values.{default}

-- what a property is at first: its literal, or else the default of its type
abbrev pub initial_of : Option Literal → ValueType → Value
initial_of None kind = default kind
initial_of (Some l) kind = literal_value l
