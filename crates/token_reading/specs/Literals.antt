-- The grammar of literals. A value of a type below is a way to read tokens by its rule (docs/language.md, "Literals").
--
--   literal  = unsigned | "-" number
--   unsigned = number | "true" | "false" | text | "null"
--
-- A number lies between -2147483648 and 2147483647, and a text has at most 255 bytes.
use Rattle.std.specs.Prelude.{ℕ, Bool, true, false, List, ◌∷◌, pos, ◌-ℤ◌}
use Rattle.basic_types.specs.Text.{IsText}
use Rattle.basic_types.specs.declared.word.Word.TheVariants as word
use Rattle.texts.specs.Numerals.{Numeral, spell_numeral, value_of}
use Rattle.texts.specs.declared.symbol.Symbol.TheVariants.{Minus}
use Rattle.syntax_trees.specs.declared.syntax.Literal.{Literal}
use Rattle.syntax_trees.specs.declared.syntax.Literal.TheVariants as literal
use Rattle.texts.specs.declared.token.Token.{Token}
use Rattle.texts.specs.declared.token.Token.TheVariants as token

abbrev pub greatest : ℕ
greatest = 2147483647

-- how far below 0 the least number is
abbrev pub deepest : ℕ
deepest = 2147483648

-- a text that a value may have
pub record Quoted : Type 0 where
  pub bytes : List ℕ
  pub fits : IsText bytes

pub data UnsignedReading : Type 0 where
  plain : Numeral greatest → UnsignedReading
  truth : Bool → UnsignedReading
  quoted : Quoted → UnsignedReading
  null : UnsignedReading

-- each is one token
abbrev pub token_of_unsigned : UnsignedReading → Token
token_of_unsigned (plain n) = token.Number n.digits
token_of_unsigned (truth true) = token.Word word.True
token_of_unsigned (truth false) = token.Word word.False
token_of_unsigned (quoted q) = token.Text q.bytes
token_of_unsigned null = token.Word word.Null

abbrev pub tree_of_unsigned : UnsignedReading → Literal
tree_of_unsigned (plain n) = literal.Int (pos (value_of n.digits))
tree_of_unsigned (truth b) = literal.Bool b
tree_of_unsigned (quoted q) = literal.Text q.bytes
tree_of_unsigned null = literal.Null

pub data LiteralReading : Type 0 where
  unsigned : UnsignedReading → LiteralReading
  negative : Numeral deepest → LiteralReading

abbrev pub spell_literal : LiteralReading → List Token → List Token
spell_literal (unsigned u) after = token_of_unsigned u ∷ after
spell_literal (negative n) after = token.Symbol Minus ∷ spell_numeral deepest n after

abbrev pub tree_of_literal : LiteralReading → Literal
tree_of_literal (unsigned u) = tree_of_unsigned u
tree_of_literal (negative n) = literal.Int (pos 0 -ℤ pos (value_of n.digits))
