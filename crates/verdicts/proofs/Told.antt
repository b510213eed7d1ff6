-- Something is found.
use Rattle.std.proofs.Common.{◌≡◌, ◌≢◌, List, [], ◌∷◌, ◌++◌, sym, ◌∙◌}

-- a list to which something was added isn't empty
pub not_empty : {A : Type 0} (before : List A) (x : A) (after : List A) → after ≡ before ++ x ∷ [] → after ≢ []
not_empty [] x after is none = let no : x ∷ [] ≡ [] = sym is ∙ none in cc
not_empty (y ∷ ys) x after is none = let no : y ∷ (ys ++ x ∷ []) ≡ [] = sym is ∙ none in cc
