-- Texts that nest too deep (docs/language.md, "Nesting").
use Rattle.std.specs.Prelude.{ℕ, ◌≡◌, ◌+◌, ◌-◌, ◌<◌, List, [], ◌∷◌, ◌++◌, length, All, ◌⊎◌}
use Rattle.texts.specs.declared.symbol.Symbol.TheVariants as s
use Rattle.texts.specs.declared.token.Token.{Token}
use Rattle.texts.specs.declared.token.Token.TheVariants as token

-- of `(` and `{`, how many are open at once
abbrev pub most_open : ℕ
most_open = 32

-- how many tokens stand together without one that parts tokens
abbrev pub most_together : ℕ
most_together = 200

-- how many of `(` and `{` are open after a token, if so many were before it; a closing one takes one off, not below none
abbrev pub open_after : ℕ → Token → ℕ
open_after n (token.Symbol s.Open) = n + 1
open_after n (token.Symbol s.OpenBrace) = n + 1
open_after n (token.Symbol s.Close) = n - 1
open_after n (token.Symbol s.CloseBrace) = n - 1
open_after n t = n

-- how many are open after these tokens
abbrev pub open_after_all : ℕ → List Token → ℕ
open_after_all n [] = n
open_after_all n (t ∷ ts) = open_after_all (open_after n t) ts

-- `;`, `{` and `}` part tokens
abbrev pub IsParted : Token → Type 0
IsParted t = (t ≡ token.Symbol s.Semicolon) ⊎ (t ≡ token.Symbol s.OpenBrace) ⊎ (t ≡ token.Symbol s.CloseBrace)

-- after some front too many are open
pub record OpensTooMany (tokens : List Token) : Type 0 where
  pub front : List Token
  pub rest : List Token
  pub split : tokens ≡ front ++ rest
  pub many : most_open < open_after_all 0 front

-- too many tokens stand together, none of which parts tokens
pub record StandsTooLong (tokens : List Token) : Type 0 where
  pub before : List Token
  pub together : List Token
  pub rest : List Token
  pub split : tokens ≡ before ++ together ++ rest
  pub long : most_together < length together
  pub unparted : All (λ t. ¬ IsParted t) together

abbrev pub IsTooDeep : List Token → Type 0
IsTooDeep tokens = OpensTooMany tokens ⊎ StandsTooLong tokens
