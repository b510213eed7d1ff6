-- First elements, by place and through a map.
use Rattle.std.proofs.Common.{◌≡◌, ℕ, zero, suc, List, [], ◌∷◌, Bool, true, false, ◌<◌, ◌≤◌, ◌+◌, length, slice_get, Option, None, Some, refl, sym, ◌∙◌, ap, subst, map, arith, rules}
use Rattle.std.specs.List.{find, position, position_or_len}
use Rattle.std.specs.Option.{option_map, unwrap_or}
use Rattle.std.specs.Prelude.{if◌then◌else◌, nat_lt, not}
use Rattle.std.proofs.lemmas.List.Folds.{find_at}
use Rattle.std.proofs.lemmas.Option.{slice_get_within, slice_get_past}

module _ {X Y : Type 0} (p : Y → Bool) (f : X → Y) where
  here : (b : Bool) (x : X) (xs : List X) → find p (map f xs) ≡ option_map f (find (λ x. p (f x)) xs) → (if b then Some (f x) else find p (map f xs)) ≡ option_map f (if b then Some x else find (λ x. p (f x)) xs)
  here true x xs e = refl
  here false x xs e = e

  -- the first of the images is the image of the first
  pub find_map : (xs : List X) → find p (map f xs) ≡ option_map f (find (λ x. p (f x)) xs)
  find_map [] = refl
  find_map (x ∷ xs) = here (p (f x)) x xs (find_map xs)

module _ {X : Type 0} where
  none_some : (x : X) → ◌≡◌ {A = Option X} None (Some x) → ⊥
  none_some x h = cc

place_some : (b : Bool) (n i : ℕ) → (if b then Some n else None) ≡ Some i → (b ≡ true) × (n ≡ i)
place_some true n i e = (refl, ap (λ o. unwrap_or o 0) e)
place_some false n i e = absurd (none_some i e)

place_none : (b : Bool) (n : ℕ) → (if b then Some n else None) ≡ None → b ≡ false
place_none true n e = absurd (none_some n (sym e))
place_none false n e = refl

-- a step of the search, by whether the element passes
cond_zero : (b : Bool) (n : ℕ) → b ≡ true → (if not b then 1 + n else 0) ≡ 0
cond_zero true n e = refl
cond_zero false n e = absurd (false_true e)
  where
    false_true : false ≡ true → ⊥
    false_true e = cc

cond_later : (b : Bool) (n i : ℕ) → suc i ≤ (if not b then 1 + n else 0) → (b ≡ false) × (i ≤ n)
cond_later true n i h = absurd (omega arith)
cond_later false n i h = (refl, omega arith)

cond_suc : (b : Bool) (n : ℕ) → b ≡ false → (if not b then 1 + n else 0) ≡ 1 + n
cond_suc false n e = refl
cond_suc true n e = absurd (true_false e)
  where
    true_false : true ≡ false → ⊥
    true_false e = cc

chosen : (b : Bool) (i : ℕ) → b ≡ true → (if b then Some i else None) ≡ Some i
chosen true i e = refl
chosen false i e = absurd (false_true e)
  where
    false_true : false ≡ true → ⊥
    false_true e = cc

lt_of_test : (m n : ℕ) → nat_lt m n ≡ true → m < n
lt_of_test m n e = search (e, rules)

le_of_test : (m n : ℕ) → nat_lt m n ≡ false → n ≤ m
le_of_test m n e = search (e, rules)

test_of_lt : (m n : ℕ) → m < n → nat_lt m n ≡ true
test_of_lt m n h = search (h, rules)

module _ {X : Type 0} (p : X → Bool) where
  -- the element at the place that is found is the first
  pub find_placed : (xs : List X) (i : ℕ) → position p xs ≡ Some i → find p xs ≡ slice_get xs i
  find_placed xs i e = find_at p xs ∙ ap (λ k. slice_get xs k) (place_some _ (position_or_len p xs) i e).1

  pub placed_within : (xs : List X) (i : ℕ) → position p xs ≡ Some i → i < length xs
  placed_within xs i e =
      let found = place_some (nat_lt (position_or_len p xs) (length xs)) (position_or_len p xs) i e in
      subst (λ n. n < length xs) found.1 (lt_of_test _ _ found.0)

  pub find_missing : (xs : List X) → position p xs ≡ None → find p xs ≡ None
  find_missing xs e =
      find_at p xs ∙ slice_get_past xs (position_or_len p xs) (le_of_test _ _ (place_none (nat_lt (position_or_len p xs) (length xs)) (position_or_len p xs) e))

  at_place : (xs : List X) (i : ℕ) (x : X) → slice_get xs i ≡ Some x → p x ≡ true → i ≤ position_or_len p xs → position_or_len p xs ≡ i
  at_place [] i x e t h = absurd (none_some x e)
  at_place (y ∷ ys) zero x e t h = cond_zero (p y) (position_or_len p ys) (ap (λ o. p (unwrap_or o x)) e ∙ t)
  at_place (y ∷ ys) (suc i) x e t h =
      let step = cond_later (p y) (position_or_len p ys) i h in
      let here = at_place ys i x e t step.1 in
      let next : 1 + position_or_len p ys ≡ suc i = omega arith in
      cond_suc (p y) (position_or_len p ys) step.0 ∙ next

  -- no earlier element passes, and this one doesn't either
  pub is_later : (xs : List X) (i : ℕ) (x : X) → slice_get xs i ≡ Some x → p x ≡ false → i ≤ position_or_len p xs → i + 1 ≤ position_or_len p xs
  is_later [] i x e f h = absurd (none_some x e)
  is_later (y ∷ ys) zero x e f h =
      let at = cond_suc (p y) (position_or_len p ys) (ap (λ o. p (unwrap_or o x)) e ∙ f) in
      let some : 0 + 1 ≤ 1 + position_or_len p ys = omega arith in
      subst (λ n. 0 + 1 ≤ n) (sym at) some
  is_later (y ∷ ys) (suc i) x e f h =
      let step = cond_later (p y) (position_or_len p ys) i h in
      let more = is_later ys i x e f step.1 in
      let next : suc i + 1 ≤ 1 + position_or_len p ys = omega arith in
      subst (λ n. suc i + 1 ≤ n) (sym (cond_suc (p y) (position_or_len p ys) step.0)) next

  -- no earlier element passes, and this one does
  pub is_here : (xs : List X) (i : ℕ) (x : X) → slice_get xs i ≡ Some x → p x ≡ true → i ≤ position_or_len p xs → Some i ≡ position p xs
  is_here xs i x e t h =
      let at = at_place xs i x e t h in
      let within = slice_get_within xs i x e in
      sym (subst (λ n. (if nat_lt n (length xs) then Some n else None) ≡ Some i) (sym at) (chosen (nat_lt i (length xs)) i (test_of_lt _ _ within)))
