-- What the readers of a line do.
use Rattle.std.specs.Borrow.{Bor}
use Rattle.std.specs.Prelude.{ℕ, ◌≡◌, List, ◌∷◌, ◌++◌, Option, Some, None}
use Rattle.diagnostics.specs.declared.other_text.place.OtherPlace.{OtherPlace}
use Rattle.diagnostics.specs.OtherPlaces.{IsPart, IsCount, IsPlaceLine}

-- what comes before the first tab, and what follows it, or none where there is no tab
abbrev pub SplitsPart : List ℕ → Option (Bor (List ℕ) × Bor (List ℕ)) → Type 0
SplitsPart text None = IsPart text
SplitsPart text (Some parts) = IsPart parts.0.now × (text ≡ parts.0.now ++ 9 ∷ parts.1.now)

-- the number that the part writes, or none where it writes none
abbrev pub FindsCount : List ℕ → Option ℕ → Type 0
FindsCount part (Some n) = IsCount part n
FindsCount part None = (n : ℕ) → IsCount part n → ⊥

-- the place that the line is, or none where it is none
abbrev pub FindsPlace : List ℕ → Option OtherPlace → Type 0
FindsPlace line (Some place) = IsPlaceLine line place
FindsPlace line None = (place : OtherPlace) → IsPlaceLine line place → ⊥
