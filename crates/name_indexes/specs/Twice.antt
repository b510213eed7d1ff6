-- Elements that appear twice (docs/language.md, "Names").
use Rattle.std.specs.Prelude.{ℕ, ◌<◌, List, [], ◌∷◌, length, Any, ◌⊎◌, Option, MatchOption}

-- an element is alike to a later one
abbrev pub StandsTwice : {X : Type 0} → (X → X → Type 0) → List X → Type 0
StandsTwice alike [] = ⊥
StandsTwice alike (x ∷ xs) = Any (alike x) xs ⊎ StandsTwice alike xs

-- an element to which one before it is alike, by its place
abbrev pub FindsRepeated : {X : Type 0} → (X → X → Type 0) → List X → Option ℕ → Type 0
FindsRepeated alike xs answer = MatchOption answer (¬ StandsTwice alike xs) (λ k. StandsTwice alike xs × (k < length xs))
