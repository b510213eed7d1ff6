-- How symbols are spelled, and the longest symbol at the front of a text.
use Rattle.std.specs.Prelude.{ℕ, ◌≡◌, ◌≤◌, List, ◌++◌, length, codes}
use Rattle.texts.specs.declared.symbol.Symbol.{Symbol}
use Rattle.texts.specs.declared.symbol.Symbol.TheVariants as s

abbrev pub spelling : Symbol → List ℕ
spelling s.OpenBrace = codes "{"
spelling s.CloseBrace = codes "}"
spelling s.Open = codes "("
spelling s.Close = codes ")"
spelling s.Semicolon = codes ";"
spelling s.Comma = codes ","
spelling s.Dot = codes "."
spelling s.Colon = codes ":"
spelling s.Assign = codes "="
spelling s.Equal = codes "=="
spelling s.Unequal = codes "!="
spelling s.Less = codes "<"
spelling s.AtMost = codes "<="
spelling s.Greater = codes ">"
spelling s.AtLeast = codes ">="
spelling s.Plus = codes "+"
spelling s.Minus = codes "-"
spelling s.Star = codes "*"
spelling s.Not = codes "!"
spelling s.And = codes "&&"
spelling s.Or = codes "||"
spelling s.Arrow = codes "->"
spelling s.Ampersand = codes "&"
spelling s.Tilde = codes "~"

-- the front is at the front of the bytes
abbrev pub Begins : List ℕ → List ℕ → Type 0
Begins front bytes = (rest : List ℕ) × (bytes ≡ front ++ rest)

-- the symbol is the longest one at the front of the bytes
pub record IsSymbolAt (symbol : Symbol) (bytes rest : List ℕ) : Type 0 where
  pub split : bytes ≡ spelling symbol ++ rest
  pub longest : (other : Symbol) → Begins (spelling other) bytes → length (spelling other) ≤ length (spelling symbol)
