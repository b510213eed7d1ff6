-- Lists of objects, by their numbers (docs/machine.md, "Objects").
use Rattle.std.specs.Prelude.{ℕ, eqb, Bool, false, ◌||◌, List, [], ◌∷◌}

-- whether the object is in the list
abbrev pub is_among : ℕ → List ℕ → Bool
is_among c [] = false
is_among c (k ∷ ks) = eqb k c || is_among c ks
