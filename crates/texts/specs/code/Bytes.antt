-- What a piece of text that begins with a byte may be.
use Rattle.std.specs.Prelude.{ℕ, Bool, true, false, nat_eq}
use Rattle.basic_types.specs.Name.{is_letter, is_digit}
use Rattle.basic_types.specs.Tokens.{is_blank}
use Rattle.texts.specs.declared.bytes.ByteClass.{ByteClass}
use Rattle.texts.specs.declared.bytes.ByteClass.TheVariants.{Blank, Slash, Letter, Digit, Quote, Other}

-- the first that holds
abbrev pub class_by : (blank slash letter digit quote : Bool) → ByteClass
class_by true slash letter digit quote = Blank
class_by false true letter digit quote = Slash
class_by false false true digit quote = Letter
class_by false false false true quote = Digit
class_by false false false false true = Quote
class_by false false false false false = Other

-- what a piece of text that begins with the byte is: `/` is 47, and `"` is 34
abbrev pub class_of : ℕ → ByteClass
class_of b = class_by (is_blank b) (nat_eq b 47) (is_letter b) (is_digit b) (nat_eq b 34)
