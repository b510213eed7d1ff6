-- Lists of increasing numbers.
use Rattle.std.proofs.Common.{◌≡◌, ℕ, suc, ◌+◌, ◌<◌, inl, inr, List, [], ◌∷◌, slice_index, refl, sym, ap, ◌∙◌, subst, arith}
use Rattle.std.specs.List.{Contains}
use Rattle.std.specs.List.Sorted.{IsStrictlyIncreasing}
use Rattle.rank_graph.proofs.Distinct.{in_first, in_rest, cons_cases}

behind : (x : ℕ) (xs : List ℕ) → IsStrictlyIncreasing (x ∷ xs) → IsStrictlyIncreasing xs
behind x xs h = λ k within.
    let same : suc k + 1 ≡ suc (k + 1) = omega arith in
    subst (λ (n : ℕ). slice_index xs k < slice_index (x ∷ xs) n) same (h (suc k) (omega arith))

first_low : (x : ℕ) (xs : List ℕ) → IsStrictlyIncreasing (x ∷ xs) → (y : ℕ) → Contains xs y → x < y
first_low x [] h y held = omega (arith, held.1)
first_low x (z ∷ zs) h y held =
    let low : x < z = h 0 (omega arith) in
    elim (cons_cases z zs y held) [
      | inl e ↦ omega arith
      | inr more ↦ let lower = first_low z zs (behind x (z ∷ zs) h) y more in omega arith
    ]

-- the same numbers, in their order, are one list
pub one_list : (xs ys : List ℕ) → IsStrictlyIncreasing xs → IsStrictlyIncreasing ys → ((n : ℕ) → Contains xs n → Contains ys n) → ((n : ℕ) → Contains ys n → Contains xs n) → xs ≡ ys
one_list [] [] h k there back = refl
one_list [] (y ∷ ys) h k there back = absurd (let held = back y (in_first y ys) in omega (arith, held.1))
one_list (x ∷ xs) [] h k there back = absurd (let held = there x (in_first x xs) in omega (arith, held.1))
one_list (x ∷ xs) (y ∷ ys) h k there back =
    let first : x ≡ y = elim (cons_cases y ys x (there x (in_first x xs))) [
      | inl e ↦ sym e
      | inr held ↦ elim (cons_cases x xs y (back y (in_first y ys))) [
        | inl e ↦ e
        | inr other ↦ let low = first_low y ys k x held in let high = first_low x xs h y other in omega arith
      ]
    ] in
    let more : xs ≡ ys = one_list xs ys (behind x xs h) (behind y ys k)
    (λ n held. elim (cons_cases y ys n (there n (in_rest x xs n held))) [ inl e ↦ (let low = first_low x xs h n held in absurd (omega arith)) | inr there ↦ there ])
    (λ n held. elim (cons_cases x xs n (back n (in_rest y ys n held))) [ inl e ↦ (let low = first_low y ys k n held in absurd (omega arith)) | inr back ↦ back ])
    in
    ap (λ (n : ℕ). n ∷ xs) first ∙ ap (λ (l : List ℕ). y ∷ l) more
