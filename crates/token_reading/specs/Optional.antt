-- Optional parts of a grammar.
use Rattle.std.specs.Prelude.{ℕ, List, ◌∷◌, Option, Some, None}
use Rattle.texts.specs.declared.token.Token.{Token}
use Rattle.texts.specs.declared.token.Token.TheVariants as token

-- [first part]: a part that is there where its first token is
abbrev pub spell_optional : {R : Type 0} → Token → (R → List Token → List Token) → Option R → List Token → List Token
spell_optional first spell None after = after
spell_optional first spell (Some r) after = first ∷ spell r after

-- [Name]
abbrev pub spell_optional_name : Option (List ℕ) → List Token → List Token
spell_optional_name None after = after
spell_optional_name (Some name) after = token.Name name ∷ after
