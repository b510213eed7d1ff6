-- Which command lines judge no program (docs/explanations.md, "After a success").
use Rattle.std.specs.Prelude.{◌≡◌, ℕ, List, [], ◌∷◌, ◌⊎◌, codes}

-- `meta`, and each line whose second word is `--unchecked`
pub data IsUnjudged : List (List ℕ) → Type 0 where
  meta : IsUnjudged (codes "meta" ∷ [])
  unchecked : (first : List ℕ) (rest : List (List ℕ)) → IsUnjudged (first ∷ codes "--unchecked" ∷ rest)
