-- Lists of which one element changes.
use Rattle.std.specs.Prelude.{ℕ, zero, suc, List, [], ◌∷◌}

-- a list with the element at a place changed; where there is none, nothing changes
abbrev pub change : {X : Type 0} → ℕ → (X → X) → List X → List X
change n f [] = []
change zero f (x ∷ xs) = f x ∷ xs
change (suc n) f (x ∷ xs) = x ∷ change n f xs
