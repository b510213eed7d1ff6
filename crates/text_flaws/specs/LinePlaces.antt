-- Places in a line of a text (docs/explanations.md, "Places").
use Rattle.std.specs.Prelude.{ℕ, ◌≡◌, ◌+◌, ◌≤◌, List, length}
use Rattle.texts.specs.Lines.{IsFirstLine, AreFirstLines}

-- the byte is in the line of this number, counted from 1, or at its end, and so behind the lines before it
pub record IsInLine (text : List ℕ) (number at : ℕ) : Type 0 where
  pub before : List (List ℕ)
  pub from_line : List ℕ
  pub line : List ℕ
  pub rest : List ℕ
  pub lead : AreFirstLines text before from_line
  pub front : IsFirstLine from_line line rest
  pub number_is : number ≡ length before + 1
  pub begun : length text ≤ at + length from_line
  pub ended : at + length from_line ≤ length text + length line
