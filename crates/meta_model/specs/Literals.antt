-- The literals of programs, which can't name an object (docs/language.md, "Values").
use Rattle.std.specs.Prelude.{◌≢◌, ℕ, Some, None}
use Rattle.basic_types.specs.declared.value.Value.{Value}
use Rattle.basic_types.specs.declared.value.Value.TheVariants as value

-- what a literal stands for: of references it can be null alone
abbrev pub literal : Value → Value
literal (value.Int n) = value.Int n
literal (value.Bool b) = value.Bool b
literal (value.Text t) = value.Text t
literal (value.Ref o) = value.Ref None

abbrev pub HoldsNoObject : Value → Type 0
HoldsNoObject v = (o : ℕ) → v ≢ value.Ref (Some o)
