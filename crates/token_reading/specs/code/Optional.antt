-- What the readers of optional parts do, and where such a part is missing.
use Rattle.std.specs.Prelude.{ℕ, ◌≡◌, List, ◌∷◌, Option, Result}
use Rattle.token_reading.specs.code.Reading.{Reads}
use Rattle.token_reading.specs.declared.fault.ParseFault.{ParseFault}
use Rattle.texts.specs.declared.token.Token.{Token}
use Rattle.texts.specs.declared.token.Token.TheVariants as token
use Rattle.token_reading.specs.Optional.{spell_optional_name}

-- its first token doesn't come next
abbrev pub EndsWithout : Token → List Token → Type 0
EndsWithout first after = (rest : List Token) → after ≡ first ∷ rest → ⊥

-- no name comes next
abbrev pub EndsWithoutName : List Token → Type 0
EndsWithoutName after = (name : List ℕ) (rest : List Token) → after ≡ token.Name name ∷ rest → ⊥

abbrev pub ReadsOptionalName : List Token → Result (Option (List ℕ)) ParseFault → List Token → Type 0
ReadsOptionalName before result after = Reads spell_optional_name (λ name. name) EndsWithoutName before result after
