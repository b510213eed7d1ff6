-- Numbers by their digits (docs/language.md, "Tokens").
use Rattle.std.specs.Prelude.{ℕ, ◌≡◌, ◌≢◌, ◌+◌, ◌-◌, ◌*◌, ◌≤◌, true, All, List, [], ◌∷◌}
use Rattle.basic_types.specs.Name.{is_digit}
use Rattle.texts.specs.declared.token.Token.{Token}
use Rattle.texts.specs.declared.token.Token.TheVariants as token

-- the number that digits after `n` write, `0` being 48
abbrev pub value_from : ℕ → List ℕ → ℕ
value_from n [] = n
value_from n (d ∷ ds) = value_from (n * 10 + (d - 48)) ds

abbrev pub value_of : List ℕ → ℕ
value_of digits = value_from 0 digits

-- The word writes the number in decimal digits, of which there is one at least. Leading zeros are allowed, a sign isn't.
pub record IsNumeral (word : List ℕ) (n : ℕ) : Type 0 where
  pub some : word ≢ []
  pub digits : All (λ d. is_digit d ≡ true) word
  pub value : n ≡ value_of word

-- a number that is at most so much, with its digits
pub record Numeral (most : ℕ) : Type 0 where
  pub digits : List ℕ
  pub fits : value_of digits ≤ most

abbrev pub spell_numeral : (most : ℕ) → Numeral most → List Token → List Token
spell_numeral most n after = token.Number n.digits ∷ after
