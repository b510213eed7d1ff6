-- What the reader of a literal without a sign does.
use Rattle.std.specs.Prelude.{◌≡◌, Result, Ok, Err}
use Rattle.token_reading.specs.declared.fault.ParseFault.{ParseFault}
use Rattle.token_reading.specs.declared.fault.ParseFault.TheVariants.{Syntax}
use Rattle.syntax_trees.specs.declared.syntax.Literal.{Literal}
use Rattle.texts.specs.declared.token.Token.{Token}
use Rattle.token_reading.specs.Literals.{UnsignedReading, token_of_unsigned, tree_of_unsigned}

-- the token is this unsigned literal
pub record IsUnsigned (t : Token) (l : Literal) : Type 0 where
  pub reading : UnsignedReading
  pub is : t ≡ token_of_unsigned reading
  pub tree : tree_of_unsigned reading ≡ l

-- the literal that the token is, or a fault of syntax only where it is none
abbrev pub ReadsUnsigned : Token → Result Literal ParseFault → Type 0
ReadsUnsigned t (Ok l) = IsUnsigned t l
ReadsUnsigned t (Err fault) = fault ≡ Syntax → (reading : UnsignedReading) → t ≡ token_of_unsigned reading → ⊥
