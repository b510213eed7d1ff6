-- Places in a text, by line and column (docs/explanations.md, "Places"): lines end at newlines, and both are counted
-- from 1.
use Rattle.std.specs.Prelude.{ℕ, ◌≡◌, ◌≢◌, ◌+◌, ◌-◌, ◌≤◌, ◌<◌, ◌==◌, List, length, take, count_by, slice_index, ◌⊎◌}

-- the line around a byte of the text, or around its end: from where to where it goes, without its newline
pub record IsLineAround (text : List ℕ) (at begin end : ℕ) : Type 0 where
  pub reached : begin ≤ at
  pub goes_on : at ≤ end
  pub within : end ≤ length text
  pub begins : (begin ≡ 0) ⊎ (slice_index text (begin - 1) ≡ 10)
  pub ends : (end ≡ length text) ⊎ (slice_index text end ≡ 10)
  pub unbroken : (k : ℕ) → begin ≤ k → k < end → slice_index text k ≢ 10

-- the place has this line, which is one more than the newlines before it, and this column
pub record IsPlace (text : List ℕ) (at line column : ℕ) : Type 0 where
  pub begin : ℕ
  pub end : ℕ
  pub around : IsLineAround text at begin end
  pub line_is : line ≡ count_by (λ b. b == 10) (take at text) + 1
  pub column_is : column ≡ at - begin + 1
