-- What a text is cut into, where that is asked of one that may be wrong (docs/language.md, "Tokens").
use Rattle.std.specs.Prelude.{ℕ, ◌≡◌, ◌⊎◌, List, []}
use Rattle.texts.specs.Pieces.{AreTokens, IsUncut}
use Rattle.texts.specs.code.Places.{ArePlaced, IsStuckAt}
use Rattle.texts.specs.declared.token.Token.{Token}
use Rattle.texts.specs.declared.placed.PlacedToken.{PlacedToken}

-- its tokens; none where a byte begins no token
abbrev pub HasTokens : List ℕ → List Token → Type 0
HasTokens text tokens = AreTokens text tokens ⊎ (IsUncut text × (tokens ≡ []))

-- the same, each token with its place
abbrev pub HasPlacedTokens : List ℕ → List PlacedToken → Type 0
HasPlacedTokens text placed = ArePlaced text placed ⊎ ((at : ℕ) × IsStuckAt text at × (placed ≡ []))
