-- The values of literals (docs/language.md, "Literals").
use Rattle.std.specs.Prelude.{None}
use Rattle.basic_types.specs.declared.value.Value.{Value}
use Rattle.basic_types.specs.declared.value.Value.TheVariants as value
use Rattle.syntax_trees.specs.declared.syntax.Literal.{Literal}
use Rattle.syntax_trees.specs.declared.syntax.Literal.TheVariants as literal

-- the value that a literal stands for, which refers to no object
abbrev pub literal_value : Literal → Value
literal_value (literal.Int n) = value.Int n
literal_value (literal.Bool b) = value.Bool b
literal_value (literal.Text bytes) = value.Text bytes
literal_value literal.Null = value.Ref None
