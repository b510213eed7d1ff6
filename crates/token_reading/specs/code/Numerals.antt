-- What the reader of a number does.
use Rattle.std.specs.Prelude.{ℕ, List, Result}
use Rattle.token_reading.specs.code.Reading.{Reads, EndsAnywhere}
use Rattle.token_reading.specs.declared.fault.ParseFault.{ParseFault}
use Rattle.texts.specs.declared.token.Token.{Token}
use Rattle.texts.specs.Numerals.{value_of, spell_numeral}

-- the number that comes next, if it is at most so much, whatever follows it
abbrev pub ReadsNumeral : ℕ → List Token → Result ℕ ParseFault → List Token → Type 0
ReadsNumeral most before result after = Reads (spell_numeral most) (λ n. value_of n.digits) EndsAnywhere before result after
