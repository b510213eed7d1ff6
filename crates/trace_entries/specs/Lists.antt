-- Lists that lose an element.
use Rattle.std.specs.Prelude.{◌≡◌, List, [], ◌∷◌, ◌++◌}

-- the last element, if there is one, was taken off
abbrev pub LosesLast : {A : Type 0} → List A → List A → Type 0
LosesLast {A} old new = (front : List A) (last : A) → old ≡ front ++ last ∷ [] → new ≡ front
