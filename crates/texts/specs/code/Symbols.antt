-- Symbols by their one or two bytes.
use Rattle.std.specs.Borrow.{Bor}
use Rattle.std.specs.Prelude.{ℕ, ◌≡◌, ◌&&◌, nat_eq, List, ◌∷◌, ◌++◌, Option, Some, None, if◌then◌else◌}
use Rattle.texts.specs.Symbols.{spelling, IsSymbolAt}
use Rattle.texts.specs.declared.symbol.Symbol.{Symbol}
use Rattle.texts.specs.declared.symbol.Symbol.TheVariants.{Equal, Unequal, AtMost, AtLeast, And, Or, Arrow, OpenBrace, CloseBrace, Open, Close, Semicolon, Comma, Dot, Colon, Assign, Less, Greater, Plus, Minus, Star, Not, Ampersand, Tilde}

-- the symbol that the two bytes are
abbrev pub double : ℕ → ℕ → Option Symbol
double first second =
    if nat_eq first 61 && nat_eq second 61 then Some Equal else (
    if nat_eq first 33 && nat_eq second 61 then Some Unequal else (
    if nat_eq first 60 && nat_eq second 61 then Some AtMost else (
    if nat_eq first 62 && nat_eq second 61 then Some AtLeast else (
    if nat_eq first 38 && nat_eq second 38 then Some And else (
    if nat_eq first 124 && nat_eq second 124 then Some Or else (
    if nat_eq first 45 && nat_eq second 62 then Some Arrow else (
    None)))))))

-- the symbol that the byte is
abbrev pub single : ℕ → Option Symbol
single byte =
    if nat_eq byte 123 then Some OpenBrace else (
    if nat_eq byte 125 then Some CloseBrace else (
    if nat_eq byte 40 then Some Open else (
    if nat_eq byte 41 then Some Close else (
    if nat_eq byte 59 then Some Semicolon else (
    if nat_eq byte 44 then Some Comma else (
    if nat_eq byte 46 then Some Dot else (
    if nat_eq byte 58 then Some Colon else (
    if nat_eq byte 61 then Some Assign else (
    if nat_eq byte 60 then Some Less else (
    if nat_eq byte 62 then Some Greater else (
    if nat_eq byte 43 then Some Plus else (
    if nat_eq byte 45 then Some Minus else (
    if nat_eq byte 42 then Some Star else (
    if nat_eq byte 33 then Some Not else (
    if nat_eq byte 38 then Some Ampersand else (
    if nat_eq byte 126 then Some Tilde else (
    None)))))))))))))))))

-- no symbol of two bytes is at the front
abbrev pub LacksDouble : List ℕ → Type 0
LacksDouble bytes = (first second : ℕ) (rest : List ℕ) → bytes ≡ first ∷ second ∷ rest → double first second ≡ None

-- a symbol of two bytes, and what follows it
abbrev pub SplitsDouble : List ℕ → Option (Symbol × Bor (List ℕ)) → Type 0
SplitsDouble bytes None = LacksDouble bytes
SplitsDouble bytes (Some parts) = IsSymbolAt parts.0 bytes parts.1.now

-- no symbol of one byte is at the front
abbrev pub LacksSingle : List ℕ → Type 0
LacksSingle bytes = (first : ℕ) (rest : List ℕ) → bytes ≡ first ∷ rest → single first ≡ None

-- a symbol of one byte, and what follows it
abbrev pub SplitsSingle : List ℕ → Option (Symbol × Bor (List ℕ)) → Type 0
SplitsSingle bytes None = LacksSingle bytes
SplitsSingle bytes (Some parts) = bytes ≡ spelling parts.0 ++ parts.1.now
