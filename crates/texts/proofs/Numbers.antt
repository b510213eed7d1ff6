-- Numbers by their digits.
use Rattle.std.proofs.Common.{◌≡◌, ◌<◌, ◌∙◌, ℕ, ◌+◌, ◌*◌, ◌-◌, ◌≤◌, List, [], ◌∷◌, length, drop, get_or, add-one, drop-cons, arith}
use Rattle.texts.specs.Numerals.{value_from, value_of}

-- more digits make no smaller number
pub at_least : (n : ℕ) (digits : List ℕ) → n ≤ value_from n digits
at_least n [] = omega arith
at_least n (d ∷ ds) = omega (arith, at_least (n * 10 + (d - 48)) ds)

next_digit : (digits : List ℕ) (i value : ℕ) → i < length digits → value_from value (drop i digits) ≡ value_from (value * 10 + (get_or digits i 0 - 48)) (drop (i + 1) digits)
next_digit digits i value h = rw (add-one, drop-cons digits i 0)

-- digits whose front is a larger number already
pub too_large : (digits : List ℕ) (i value most : ℕ) → i < length digits → value_of digits ≡ value_from value (drop i digits) → most < value * 10 + (get_or digits i 0 - 48) → most < value_of digits
too_large digits i value most h e large =
    let same = e ∙ next_digit digits i value h in
    let least = at_least (value * 10 + (get_or digits i 0 - 48)) (drop (i + 1) digits) in
    omega arith
