-- Texts, by their bytes (docs/language.md, "Texts").
use Rattle.std.specs.Prelude.{ℕ, ◌≡◌, ◌≤◌, ◌≢◌, List, length, All, Option, Some, None}

-- a printable byte of ASCII other than the quote
abbrev pub IsTextByte : ℕ → Type 0
IsTextByte b = (32 ≤ b) × (b ≤ 126) × (b ≢ 34)

-- how many bytes a text has at most
abbrev pub longest_text : ℕ
longest_text = 255

-- so many such bytes at most
abbrev pub IsText : List ℕ → Type 0
IsText bytes = (length bytes ≤ longest_text) × All IsTextByte bytes

-- the text of these bytes, or none where no text has them
abbrev pub FindsText : List ℕ → Option (List ℕ) → Type 0
FindsText bytes None = ¬ IsText bytes
FindsText bytes (Some text) = (text ≡ bytes) × IsText bytes
