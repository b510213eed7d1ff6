-- How an input is cut into texts (docs/commands.md, "The input").
use Rattle.std.specs.Prelude.{◌≡◌, ℕ, List, [], ◌∷◌, codes}
use Rattle.texts.specs.Lines.{IsPartedAt, LacksLine}

-- the line that parts two texts
abbrev pub parting : List ℕ
parting = codes "%%"

-- no line of the text is exactly `%%`
abbrev pub IsUnparted : List ℕ → Type 0
IsUnparted text = LacksLine parting text

-- The input is a text, the first line that is exactly `%%`, and the rest. The text has the newlines of its lines.
abbrev pub IsParted : List ℕ → List ℕ → List ℕ → Type 0
IsParted input text rest = IsPartedAt parting input text rest

-- the text is all of the input, in which no line parts texts
abbrev pub IsWholeInput : List ℕ → List ℕ → Type 0
IsWholeInput input text = (text ≡ input) × IsUnparted input

-- the input is these texts, with a line `%%` between each and the next one
abbrev pub AreTexts : List ℕ → List (List ℕ) → Type 0
AreTexts input [] = ⊥
AreTexts input (text ∷ []) = (input ≡ text) × IsUnparted text
AreTexts input (text ∷ next ∷ texts) = (rest : List ℕ) × IsParted input text rest × AreTexts rest (next ∷ texts)

-- the input is no other texts than these
abbrev pub AreOnly : List ℕ → List (List ℕ) → Type 0
AreOnly input texts = (others : List (List ℕ)) → AreTexts input others → others ≡ texts

-- the input isn't one text
abbrev pub IsNoText : List ℕ → Type 0
IsNoText input = (text : List ℕ) → AreTexts input (text ∷ []) → ⊥

-- the input isn't two texts
abbrev pub AreNotTwo : List ℕ → Type 0
AreNotTwo input = (first second : List ℕ) → AreTexts input (first ∷ second ∷ []) → ⊥

-- the input isn't three texts
abbrev pub AreNotThree : List ℕ → Type 0
AreNotThree input = (first second third : List ℕ) → AreTexts input (first ∷ second ∷ third ∷ []) → ⊥
