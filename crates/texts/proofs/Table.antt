-- Symbols of one byte and of two.
use Rattle.std.proofs.Common.{◌≡◌, ℕ, ◌≤◌, List, [], ◌∷◌, ◌++◌, Some, None, length, refl, ap, lit≤, arith}
use Rattle.std.specs.List.{AllByRecursion}
use Rattle.texts.specs.code.Symbols.{single, LacksDouble, LacksSingle}
use Rattle.texts.specs.Symbols.{spelling, Begins, IsSymbolAt}
use Rattle.texts.specs.declared.symbol.Symbol.{Symbol}
use Rattle.texts.specs.declared.symbol.Symbol.TheVariants as s

-- none of these symbols is at the front
abbrev pub NoneBegins : List Symbol → List ℕ → Type 0
NoneBegins symbols bytes = AllByRecursion (λ s. ¬ Begins (spelling s) bytes) symbols

-- the symbols of two bytes
abbrev pub doubles : List Symbol
doubles = s.Equal ∷ s.Unequal ∷ s.AtMost ∷ s.AtLeast ∷ s.And ∷ s.Or ∷ s.Arrow ∷ []

-- the symbols of one byte
abbrev pub singles : List Symbol
singles = s.OpenBrace ∷ s.CloseBrace ∷ s.Open ∷ s.Close ∷ s.Semicolon ∷ s.Comma ∷ s.Dot ∷ s.Colon ∷ s.Assign ∷ s.Less ∷ s.Greater ∷ s.Plus ∷ s.Minus ∷ s.Star ∷ s.Not ∷ s.Ampersand ∷ s.Tilde ∷ []

pub no_double : (bytes : List ℕ) → LacksDouble bytes → NoneBegins doubles bytes
no_double bytes d = ((λ h. let e : ◌≡◌ (Some s.Equal) None = d 61 61 h.0 h.1 in cc), ((λ h. let e : ◌≡◌ (Some s.Unequal) None = d 33 61 h.0 h.1 in cc), ((λ h. let e : ◌≡◌ (Some s.AtMost) None = d 60 61 h.0 h.1 in cc), ((λ h. let e : ◌≡◌ (Some s.AtLeast) None = d 62 61 h.0 h.1 in cc), ((λ h. let e : ◌≡◌ (Some s.And) None = d 38 38 h.0 h.1 in cc), ((λ h. let e : ◌≡◌ (Some s.Or) None = d 124 124 h.0 h.1 in cc), ((λ h. let e : ◌≡◌ (Some s.Arrow) None = d 45 62 h.0 h.1 in cc), tt)))))))

-- a symbol at the front that isn't one of two bytes is its first byte
is_single : (bytes : List ℕ) → NoneBegins doubles bytes → (s : Symbol) → Begins (spelling s) bytes → (first : ℕ) × (rest : List ℕ) × (bytes ≡ first ∷ rest) × (single first ≡ Some s)
is_single bytes d s.Equal h = absurd (d.0 h)
is_single bytes d s.Unequal h = absurd (d.1.0 h)
is_single bytes d s.AtMost h = absurd (d.1.1.0 h)
is_single bytes d s.AtLeast h = absurd (d.1.1.1.0 h)
is_single bytes d s.And h = absurd (d.1.1.1.1.0 h)
is_single bytes d s.Or h = absurd (d.1.1.1.1.1.0 h)
is_single bytes d s.Arrow h = absurd (d.1.1.1.1.1.1.0 h)
is_single bytes d s.OpenBrace h = (123, h.0, h.1, refl)
is_single bytes d s.CloseBrace h = (125, h.0, h.1, refl)
is_single bytes d s.Open h = (40, h.0, h.1, refl)
is_single bytes d s.Close h = (41, h.0, h.1, refl)
is_single bytes d s.Semicolon h = (59, h.0, h.1, refl)
is_single bytes d s.Comma h = (44, h.0, h.1, refl)
is_single bytes d s.Dot h = (46, h.0, h.1, refl)
is_single bytes d s.Colon h = (58, h.0, h.1, refl)
is_single bytes d s.Assign h = (61, h.0, h.1, refl)
is_single bytes d s.Less h = (60, h.0, h.1, refl)
is_single bytes d s.Greater h = (62, h.0, h.1, refl)
is_single bytes d s.Plus h = (43, h.0, h.1, refl)
is_single bytes d s.Minus h = (45, h.0, h.1, refl)
is_single bytes d s.Star h = (42, h.0, h.1, refl)
is_single bytes d s.Not h = (33, h.0, h.1, refl)
is_single bytes d s.Ampersand h = (38, h.0, h.1, refl)
is_single bytes d s.Tilde h = (126, h.0, h.1, refl)

pub no_symbol : (bytes : List ℕ) → LacksDouble bytes → LacksSingle bytes → (s : Symbol) → ¬ Begins (spelling s) bytes
no_symbol bytes d g s h =
    let w = is_single bytes (no_double bytes d) s h in
    let e = w.3 in
    let none = g w.0 w.1 w.2 in
    cc

short : (bytes : List ℕ) → NoneBegins doubles bytes → (s : Symbol) → Begins (spelling s) bytes → length (spelling s) ≤ 1
short bytes d s.Equal h = absurd (d.0 h)
short bytes d s.Unequal h = absurd (d.1.0 h)
short bytes d s.AtMost h = absurd (d.1.1.0 h)
short bytes d s.AtLeast h = absurd (d.1.1.1.0 h)
short bytes d s.And h = absurd (d.1.1.1.1.0 h)
short bytes d s.Or h = absurd (d.1.1.1.1.1.0 h)
short bytes d s.Arrow h = absurd (d.1.1.1.1.1.1.0 h)
short bytes d _ h = lit≤ tt

one_at_least : (s : Symbol) → 1 ≤ length (spelling s)
one_at_least s.Equal = lit≤ tt
one_at_least _ = lit≤ tt

pub is_longest_single : (s : Symbol) (bytes rest : List ℕ) → NoneBegins doubles bytes → bytes ≡ spelling s ++ rest → IsSymbolAt s bytes rest
is_longest_single s bytes rest d e = record { split = e; longest = λ other h. let a = short bytes d other h in let b = one_at_least s in omega arith }

two_at_most : (s : Symbol) → length (spelling s) ≤ 2
two_at_most s.Equal = lit≤ tt
two_at_most _ = lit≤ tt

pub is_longest_double : (s : Symbol) (first second : ℕ) (bytes rest : List ℕ) → spelling s ≡ first ∷ second ∷ [] → bytes ≡ first ∷ second ∷ rest → IsSymbolAt s bytes rest
is_longest_double s first second bytes rest spelled e = record { split = rw spelled e; longest = λ other h. let a = two_at_most other in let b = ap length spelled in omega arith }
