-- The lines of a text (docs/language.md, "Scripts").
use Rattle.std.specs.Prelude.{ℕ, ◌≡◌, ◌≢◌, List, [], ◌∷◌, ◌++◌, ◌⊎◌}
use Rattle.std.specs.List.{AllByRecursion}

-- A line is at the front of the text: it has no newline, which is the byte 10, and goes up to the next newline,
-- which is not part of it, or to the end of the text. Where nothing is left there is no line.
pub record IsFirstLine (text line rest : List ℕ) : Type 0 where
  pub unbroken : AllByRecursion (λ b. b ≢ 10) line
  pub ends : (text ≡ line ++ 10 ∷ rest) ⊎ ((text ≡ line) × (line ≢ []) × (rest ≡ []))

-- the lines are at the front of the text, one after another, and `rest` follows them
abbrev pub AreFirstLines : List ℕ → List (List ℕ) → List ℕ → Type 0
AreFirstLines text [] rest = text ≡ rest
AreFirstLines text (line ∷ lines) rest = (after : List ℕ) × IsFirstLine text line after × AreFirstLines after lines rest

-- the text consists of these lines
abbrev pub AreLines : List ℕ → List (List ℕ) → Type 0
AreLines text lines = AreFirstLines text lines []

-- none of the lines is this one
abbrev pub AreOthers : List ℕ → List (List ℕ) → Type 0
AreOthers line lines = AllByRecursion (λ other. other ≢ line) lines

-- The text is `front`, this line and `rest`. The front consists of lines, with their newlines, and none of them is this one.
pub record IsPartedAt (line text front rest : List ℕ) : Type 0 where
  pub lines : List (List ℕ)
  pub from_line : List ℕ
  pub joined : text ≡ front ++ from_line
  pub lead : AreFirstLines text lines from_line
  pub others : AreOthers line lines
  pub here : IsFirstLine from_line line rest

-- no line of the text is this one
pub record LacksLine (line text : List ℕ) : Type 0 where
  pub lines : List (List ℕ)
  pub cut : AreLines text lines
  pub others : AreOthers line lines
