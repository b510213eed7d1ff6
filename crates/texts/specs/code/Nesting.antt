-- What is counted from token to token.
use Rattle.std.specs.Prelude.{ℕ, ◌≡◌, ◌+◌, ◌⊎◌}
use Rattle.texts.specs.declared.token.Token.{Token}
use Rattle.texts.specs.Nesting.{IsParted}

-- how many tokens stand together at the token's end, if so many did before it
abbrev pub StandTogether : ℕ → Token → ℕ → Type 0
StandTogether before t after = (IsParted t × (after ≡ 0)) ⊎ (¬ IsParted t × (after ≡ before + 1))
