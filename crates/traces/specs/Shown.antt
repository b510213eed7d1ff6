-- How a trace is shown to a person (docs/traces.md, "The program trace_view").
use Rattle.std.specs.Prelude.{ℕ, ◌≡◌, ◌≢◌, ◌*◌, ◌==◌, ◌&&◌, nat_le, if◌then◌else◌, length, IsTrue, Bool, true, false, min, replicate, List, [], ◌∷◌, ◌++◌, codes, ◌⊎◌, Option, Some, None}
use Rattle.std.specs.List.{AllByRecursion}
use Rattle.std.specs.Io.KnownBytes.{Appends}
use Rattle.texts.specs.Limits.{most_depth}
use Rattle.texts.specs.Lines.{IsFirstLine}
use Rattle.traces.specs.Lines.{IsLine}
use Rattle.traces.specs.declared.reading.line.TraceLine.{TraceLine}
use Rattle.traces.specs.declared.reading.line.TraceLine.TheVariants as line

-- two blanks for each level of the depth, up to the greatest that there is
abbrev pub indent_of : TraceLine → List ℕ
indent_of (line.At depth what) = replicate (2 * min depth most_depth) 32
indent_of _ = []

-- digits and `;`, and `m` at the end
abbrev pub ends_colour : List ℕ → Bool
ends_colour [] = false
ends_colour (b ∷ bs) = if b == 109 then length bs == 0 else nat_le 48 b && nat_le b 59 && ends_colour bs

-- escape, `[`, numbers, which `;` parts, and `m`: a terminal takes it for a colour and shows nothing
abbrev pub is_colour : List ℕ → Bool
is_colour [] = false
is_colour (escape ∷ []) = false
is_colour (escape ∷ bracket ∷ bs) = (escape == 27) && (bracket == 91) && ends_colour bs

abbrev pub IsColour : List ℕ → Type 0
IsColour bytes = IsTrue (is_colour bytes)

-- nothing, or ` -- ` and a sentence, which ends no line
abbrev pub IsRemark : List ℕ → Type 0
IsRemark bytes = (bytes ≡ []) ⊎ ((words : List ℕ) × AllByRecursion (λ b. b ≢ 10) words × (bytes ≡ codes "  -- " ++ words))

-- the line in a colour, which ends behind it, where colours are wanted
abbrev pub IsColoured : Bool → List ℕ → List ℕ → Type 0
IsColoured true text shown = (colour reset : List ℕ) × IsColour colour × IsColour reset × (shown ≡ colour ++ text ++ reset)
IsColoured false text shown = shown ≡ text

-- a line of a trace as it is shown
pub record IsDressed (colours : Bool) (told : TraceLine) (text shown : List ℕ) : Type 0 where
  pub coloured : List ℕ
  pub remark : List ℕ
  pub in_colour : IsColoured colours text coloured
  pub is_remark : IsRemark remark
  pub whole : shown ≡ indent_of told ++ coloured ++ remark

-- a line as it is shown: dressed where it tells anything, and as it is where no line of a trace tells anything of it
abbrev pub IsShownAs : Bool → List ℕ → List ℕ → Type 0
IsShownAs colours text shown =
    (((told : TraceLine) → ¬ IsLine text told) × (shown ≡ text))
    ⊎ ((told : TraceLine) × IsLine text told × IsDressed colours told text shown)

-- the bytes grow by the line as it is shown
abbrev pub ShowsLine : Bool → List ℕ → List ℕ → List ℕ → Type 0
ShowsLine colours text before after = (shown : List ℕ) × IsShownAs colours text shown × (after ≡ before ++ shown)

-- the bytes grow by a line in its colour
abbrev pub AddsColoured : Bool → List ℕ → List ℕ → List ℕ → Type 0
AddsColoured colours text before after = (coloured : List ℕ) × IsColoured colours text coloured × (after ≡ before ++ coloured)

-- the bytes grow by a remark
abbrev pub AddsRemark : List ℕ → List ℕ → Type 0
AddsRemark before after = (remark : List ℕ) × IsRemark remark × (after ≡ before ++ remark)

-- a line of a text, and what it is shown as
pub record ShownLine : Type 0 where
  pub text : List ℕ
  pub shown : List ℕ

-- The line is at the front of the text, and what it is shown as at the front of the output; where a newline ends the
-- one, a newline ends the other.
pub record ShowsPrefix (colours : Bool) (line : ShownLine) (input output input_rest output_rest : List ℕ) : Type 0 where
  pub unbroken : AllByRecursion (λ b. b ≢ 10) line.text
  pub is_shown : IsShownAs colours line.text line.shown
  pub ends :
      ((input ≡ line.text ++ 10 ∷ input_rest) × (output ≡ line.shown ++ 10 ∷ output_rest))
      ⊎ ((line.text ≢ []) × (input ≡ line.text) × (output ≡ line.shown) × (input_rest ≡ []) × (output_rest ≡ []))

-- the output is what the lines at the front of the text, before this rest of it, are shown as
abbrev pub ShowsUpTo : Bool → List ShownLine → List ℕ → List ℕ → List ℕ → Type 0
ShowsUpTo colours [] input rest output = (input ≡ rest) × (output ≡ [])
ShowsUpTo colours (line ∷ lines) input rest output =
    (input_rest output_rest : List ℕ) × ShowsPrefix colours line input output input_rest output_rest
    × ShowsUpTo colours lines input_rest rest output_rest

-- the output is the text, line for line, each as it is shown
abbrev pub ShowsText : Bool → List ℕ → List ℕ → Type 0
ShowsText colours input output = (lines : List ShownLine) × ShowsUpTo colours lines input [] output

-- what is known of the output grows by what the text is shown as, where that is known
abbrev pub ShowsTrace : Bool → Option (List ℕ) → Option (List ℕ) → Option (List ℕ) → Type 0
ShowsTrace colours None before after = Unit {0}
ShowsTrace colours (Some input) before after = (output : List ℕ) × ShowsText colours input output × Appends before after output

-- the bytes grow by a line as it is shown, with its newline where it has one
pub record ShowsRead (colours : Bool) (read before after : List ℕ) : Type 0 where
  pub line : ShownLine
  pub rest : List ℕ
  pub is_shown : IsShownAs colours line.text line.shown
  pub front : IsFirstLine read line.text rest
  pub ends :
      ((read ≡ line.text ++ 10 ∷ rest) × (after ≡ before ++ (line.shown ++ 10 ∷ [])))
      ⊎ ((read ≡ line.text) × (after ≡ before ++ line.shown))
