-- What the readers of numbers do.
use Rattle.std.specs.Prelude.{ℕ, ◌≡◌, ◌≤◌, ◌<◌, List, Option, Some, None}
use Rattle.texts.specs.Numerals.{value_of, IsNumeral}

-- the number that the digits write, or none where it is more than `most`
abbrev pub ValueUpTo : ℕ → List ℕ → Option ℕ → Type 0
ValueUpTo most digits (Some n) = (n ≡ value_of digits) × (n ≤ most)
ValueUpTo most digits None = most < value_of digits

-- the number that the word writes, or none where it writes none that is at most `most`
abbrev pub FindsNumeral : ℕ → List ℕ → Option ℕ → Type 0
FindsNumeral most word (Some n) = IsNumeral word n × (n ≤ most)
FindsNumeral most word None = (n : ℕ) → IsNumeral word n → most < n
