-- Operators: how they are spelled, and how tight they bind (docs/language.md, "Expressions").
use Rattle.std.specs.Prelude.{◌≡◌}
use Rattle.slot_lang.specs.declared.precedence.Precedence.{Precedence}
use Rattle.slot_lang.specs.declared.precedence.Precedence.TheVariants as precedence
use Rattle.texts.specs.declared.symbol.Symbol.{Symbol}
use Rattle.texts.specs.declared.symbol.Symbol.TheVariants as symbol
use Rattle.syntax_trees.specs.declared.syntax.Binary.{Binary}
use Rattle.syntax_trees.specs.declared.syntax.Binary.TheVariants as binary
use Rattle.syntax_trees.specs.declared.syntax.Unary.{Unary}
use Rattle.syntax_trees.specs.declared.syntax.Unary.TheVariants as unary

abbrev pub symbol_of : Binary → Symbol
symbol_of binary.Add = symbol.Plus
symbol_of binary.Subtract = symbol.Minus
symbol_of binary.Multiply = symbol.Star
symbol_of binary.Less = symbol.Less
symbol_of binary.AtMost = symbol.AtMost
symbol_of binary.Greater = symbol.Greater
symbol_of binary.AtLeast = symbol.AtLeast
symbol_of binary.Equal = symbol.Equal
symbol_of binary.Different = symbol.Unequal
symbol_of binary.And = symbol.And
symbol_of binary.Or = symbol.Or

abbrev pub precedence_of : Binary → Precedence
precedence_of binary.Add = precedence.Sum
precedence_of binary.Subtract = precedence.Sum
precedence_of binary.Multiply = precedence.Term
precedence_of binary.Less = precedence.Comparison
precedence_of binary.AtMost = precedence.Comparison
precedence_of binary.Greater = precedence.Comparison
precedence_of binary.AtLeast = precedence.Comparison
precedence_of binary.Equal = precedence.Comparison
precedence_of binary.Different = precedence.Comparison
precedence_of binary.And = precedence.And
precedence_of binary.Or = precedence.Or

abbrev pub prefix_symbol_of : Unary → Symbol
prefix_symbol_of unary.Not = symbol.Not
prefix_symbol_of unary.Minus = symbol.Minus

-- an operator that binds so tight
pub record Operator (p : Precedence) : Type 0 where
  pub binary : Binary
  pub binds : precedence_of binary ≡ p
