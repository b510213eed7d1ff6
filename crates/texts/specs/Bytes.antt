-- Runs of bytes (docs/language.md, "Tokens").
use Rattle.std.specs.Prelude.{ℕ, Bool, not, ◌&&◌, nat_le, nat_eq, List}
use Rattle.basic_types.specs.Name.{is_digit, is_name_byte}
use Rattle.basic_types.specs.Tokens.{IsRunBy}
use Rattle.texts.specs.declared.bytes.Run.{Run}
use Rattle.texts.specs.declared.bytes.Run.TheVariants.{Name, Number, Text, Line}

-- whether a token of this kind goes on with the byte
abbrev pub belongs : Run → ℕ → Bool
belongs Name b = is_name_byte b
belongs Number b = is_digit b
belongs Text b = nat_le 32 b && nat_le b 126 && not (nat_eq b 34)
belongs Line b = not (nat_eq b 10)

-- `taken` is the longest run at the front of the bytes, and `rest` is what follows it
abbrev pub IsRun : Run → List ℕ → List ℕ → List ℕ → Type 0
IsRun run bytes taken rest = IsRunBy (belongs run) bytes taken rest
