-- A word up to the first blank.
use Rattle.std.proofs.Common.{◌≡◌, ◌≢◌, ℕ, zero, suc, ◌<◌, ◌≤◌, ◌+◌, ◌-◌, false, nat_eq, List, [], ◌∷◌, ◌++◌, length, take, drop, get_or, ap, Some, None, arith}
use Rattle.std.proofs.lemmas.Bool.{eqb-true}
use Rattle.std.proofs.lemmas.List.{take_all, length-drop}
use Rattle.std.proofs.lemmas.Bool.Decides.{nat_tests}
use Rattle.std.proofs.lemmas.List.Quantifiers.{position-Some}
use Rattle.std.proofs.lemmas.List.Sums.{fails_before_first}
use Rattle.std.specs.List.{AllByRecursion, position, position_or_len}

-- the bytes before the first blank, the blank, and what follows it
split_at : (text : List ℕ) (at : ℕ) → at < length text → get_or text at 0 ≡ 32 → ((k : ℕ) → k < at → get_or text k 0 ≢ 32) → AllByRecursion (λ b. b ≢ 32) (take at text) × (text ≡ take at text ++ 32 ∷ drop (suc at) text)
split_at [] at within here before = absurd (omega arith)
split_at (b ∷ bs) zero within here before = (tt, cc)
split_at (b ∷ bs) (suc n) within here before =
    let r = split_at bs n (omega arith) here (λ k h. before (suc k) (omega arith)) in
    ((before 0 (omega arith), r.0), ap (λ xs. b ∷ xs) r.1)

all_of_each : (text : List ℕ) → ((k : ℕ) → k < length text → get_or text k 0 ≢ 32) → AllByRecursion (λ b. b ≢ 32) text
all_of_each [] each = tt
all_of_each (b ∷ bs) each = (each 0 (omega arith), all_of_each bs (λ k h. each (suc k) (omega arith)))

not_blank : (b : ℕ) → nat_eq b 32 ≡ false → b ≢ 32
not_blank b h e = grind (arith, nat_tests)

-- the slice from `n` to the end
from_there : (text : List ℕ) (n : ℕ) → take (length text - n) (drop n text) ≡ drop n text
from_there text n = take_all (length text - n) (drop n text) (omega (arith, length-drop n text))

pub cut_at : (text : List ℕ) (at : ℕ) → position (λ b. nat_eq b 32) text ≡ Some at → AllByRecursion (λ b. b ≢ 32) (take at text) × (text ≡ take at text ++ 32 ∷ take (length text - (at + 1)) (drop (at + 1) text))
cut_at text at e =
    let p = position-Some (λ b. nat_eq b 32) text at 0 e in
    let next : at + 1 ≡ suc at = omega arith in
    rw (from_there text (at + 1), next)
    (split_at text at p.0 (eqb-true (get_or text at 0) 32 p.1) (λ k h. not_blank (get_or text k 0) (p.2 k h)))

none_before_end : (text : List ℕ) → position (λ b. nat_eq b 32) text ≡ None → length text ≤ position_or_len (λ b. nat_eq b 32) text
none_before_end text e = grind (arith, nat_tests)

pub uncut : (text : List ℕ) → position (λ b. nat_eq b 32) text ≡ None → AllByRecursion (λ b. b ≢ 32) text
uncut text e =
    let n = none_before_end text e in
    all_of_each text (λ k h. not_blank (get_or text k 0) (fails_before_first (λ b. nat_eq b 32) text k 0 (omega arith)))
