-- The lines of a text, one after another, counted.
use Rattle.std.proofs.Common.{◌≡◌, ℕ, ◌+◌, List, [], ◌∷◌, ◌++◌, length, arith}
use Rattle.std.proofs.lemmas.List.{length-append}
use Rattle.texts.specs.Lines.{IsFirstLine, AreFirstLines}
use Rattle.texts.proofs.FirstLines.{one_more_line}

-- so many lines come before what is left
pub record LinesSoFar (text : List ℕ) (number : ℕ) (left : List ℕ) : Type 0 where
  pub lines : List (List ℕ)
  pub lead : AreFirstLines text lines left
  pub counted : length lines ≡ number

pub line_passed : (text left line rest : List ℕ) (number : ℕ) → LinesSoFar text number left → IsFirstLine left line rest → LinesSoFar text (number + 1) rest
line_passed text left line rest number s f = record {
  lines = s.lines ++ line ∷ [];
  lead = one_more_line text s.lines left line rest s.lead f;
  counted = omega (arith, length-append s.lines (line ∷ []), s.counted);
}
