-- Names, by their bytes (docs/language.md, "Tokens").
use Rattle.std.specs.Prelude.{ℕ, ◌≡◌, Bool, true, ◌&&◌, ◌||◌, nat_le, nat_eq, List, [], ◌∷◌, All, Option, Some, None}

-- `A` to `Z`, `a` to `z` and `_`
abbrev pub is_letter : ℕ → Bool
is_letter b = (nat_le 65 b && nat_le b 90) || (nat_le 97 b && nat_le b 122) || nat_eq b 95

-- `0` to `9`
abbrev pub is_digit : ℕ → Bool
is_digit b = nat_le 48 b && nat_le b 57

abbrev pub is_name_byte : ℕ → Bool
is_name_byte b = is_letter b || is_digit b

-- a letter, then letters and digits
abbrev pub IsName : List ℕ → Type 0
IsName [] = ⊥
IsName (b ∷ bs) = (is_letter b ≡ true) × All (λ c. is_name_byte c ≡ true) bs

-- the name with these bytes, or none where no name has them
abbrev pub FindsName : List ℕ → Option (List ℕ) → Type 0
FindsName bytes None = ¬ IsName bytes
FindsName bytes (Some name) = (name ≡ bytes) × IsName bytes
