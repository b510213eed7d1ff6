-- What holds of the first elements of a list, and at last of all.
use Rattle.std.proofs.Common.{◌≡◌, inl, inr, ℕ, zero, suc, ◌+◌, ◌<◌, ◌≤◌, Bool, true, false, MatchBool, List, [], ◌∷◌, ◌++◌, length, get_or, slice_get, Some, sym, ap, ◌∙◌, subst, arith}
use Rattle.std.specs.List.{Contains}
use Rattle.std.proofs.lemmas.Bool.{cases_lt}
use Rattle.effect_scan.proofs.Numbered.{get_either}
use Rattle.std.proofs.lemmas.Option.{slice_get_within, slice_get-get_or, same_Some, none-some}
use Rattle.rank_check.proofs.Elements.{each_number}

-- the first elements, each with its place, have P
abbrev pub AllFirst : {X : Type 0} → (ℕ → X → Type 0) → List X → ℕ → Type 0
AllFirst {X} P xs end = (k : ℕ) → k < end → (x : X) → slice_get xs k ≡ Some x → P k x

module _ {X : Type 0} (P : ℕ → X → Type 0) (xs : List X) where
  pub first_none : AllFirst P xs 0
  first_none k low = absurd (omega (arith, low))

  pub first_more : (i : ℕ) (x : X) → slice_get xs i ≡ Some x → P i x → AllFirst P xs i → AllFirst P xs (i + 1)
  first_more i x at has first k low y at_y =
      elim (cases_lt k i) [
        | inl early ↦ first k early y at_y
        | inr late ↦
            let now : i ≡ k = omega (arith, low, late) in
            let same : x ≡ y = same_Some x y (sym at ∙ ap (λ (j : ℕ). slice_get xs j) now ∙ at_y) in
            subst (λ (j : ℕ). P j y) now (subst (λ (z : X). P i z) same has)
      ]

  pub first_all : (i : ℕ) → length xs ≤ i → AllFirst P xs i → (k : ℕ) (x : X) → slice_get xs k ≡ Some x → P k x
  first_all i past first k x at = first k (omega (arith, slice_get_within xs k x at, past)) x at

-- what was read at the places of these numbers has Q
module _ {X : Type 0} (Q : X → Type 0) (xs : List X) (targets : List ℕ) where
  abbrev pub AllRead : ℕ → Type 0
  AllRead end = (k : ℕ) → k < end → (x : X) → slice_get xs (get_or targets k 0) ≡ Some x → Q x

  pub read_more : (i : ℕ) (x : X) → slice_get xs (get_or targets i 0) ≡ Some x → Q x → AllRead i → AllRead (i + 1)
  read_more i x at has first k low y at_y =
      elim (cases_lt k i) [
        | inl early ↦ first k early y at_y
        | inr late ↦
            let now : i ≡ k = omega (arith, low, late) in
            subst Q (same_Some x y (sym at ∙ ap (λ (j : ℕ). slice_get xs (get_or targets j 0)) now ∙ at_y)) has
      ]

  pub read_all : (i : ℕ) → length targets ≤ i → AllRead i → (b : ℕ) (x : X) → Contains targets b → slice_get xs b ≡ Some x → Q x
  read_all i past first b x held at = each_number (λ (n : ℕ). (y : X) → slice_get xs n ≡ Some y → Q y) targets i past first b held x at

-- an element that was read, where there is one
pub read_there : {X : Type 0} (xs : List X) (n : ℕ) (x d : X) → slice_get xs n ≡ Some x → slice_get xs n ≡ Some (get_or xs n d)
read_there xs n x d at = slice_get-get_or xs n d (slice_get_within xs n x at)

-- what is decided of the one is decided of the other
pub match_also : {A B : Type 0} (r : Bool) → (A → B) → (B → A) → MatchBool r A (A → ⊥) → MatchBool r B (B → ⊥)
match_also true to from h = to h
match_also false to from h = λ b. h (from b)

-- a list with one element more
pub pushed_each : {X : Type 0} (P : ℕ → X → Type 0) (xs ys : List X) (y : X) → ys ≡ xs ++ y ∷ [] → ((n : ℕ) (x : X) → slice_get xs n ≡ Some x → P n x) → P (length xs) y
    → (n : ℕ) (x : X) → slice_get ys n ≡ Some x → P n x
pushed_each {X} P xs ys y same before has n x at =
    elim (get_either xs (y ∷ []) n x (subst (λ (l : List X). slice_get l n ≡ Some x) same at)) [
      | inl old ↦ before n x old.1
      | inr new ↦ by_place new.0 new.1 new.2
    ]
  where
    by_place : (k : ℕ) → n ≡ length xs + k → slice_get (y ∷ []) k ≡ Some x → P n x
    by_place zero e is =
        let here : length xs ≡ n = omega (arith, e) in
        subst (λ (j : ℕ). P j x) here (subst (λ (z : X). P (length xs) z) (same_Some y x is) has)
    by_place (suc k) e is = absurd (none-some x is)

-- an element that was read of a list that equals another one
pub read_same : {X : Type 0} (items xs : List X) (n : ℕ) (d : X) → items ≡ xs → n < length items → slice_get xs n ≡ Some (get_or items n d)
read_same {X} items xs n d same inside = subst (λ (ys : List X). slice_get ys n ≡ Some (get_or items n d)) same (slice_get-get_or items n d inside)
