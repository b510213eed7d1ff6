-- Elements of lists, by what reads them.
use Rattle.std.proofs.Common.{◌≡◌, ℕ, zero, suc, ◌<◌, ◌≤◌, List, [], ◌∷◌, length, get_or, slice_get, Some, refl, sym, ap, ◌∙◌, subst, arith}
use Rattle.std.specs.List.{Contains}
use Rattle.std.proofs.lemmas.List.{get_or_default}
use Rattle.std.proofs.lemmas.Option.{slice_get_within, slice_get-get_or, get_or_from_slice_get, same_Some}

module _ {X : Type 0} (xs : List X) where
  pub some_inside : (k : ℕ) → k < length xs → (x : X) × (slice_get xs k ≡ Some x)
  some_inside k h = inside_of xs k h
    where
      inside_of : (ys : List X) (k : ℕ) → k < length ys → (x : X) × (slice_get ys k ≡ Some x)
      inside_of [] k h = absurd (omega arith)
      inside_of (y ∷ ys) zero h = (y, refl)
      inside_of (y ∷ ys) (suc k) h = inside_of ys k (omega arith)

  pub place_of : (x : X) → Contains xs x → (k : ℕ) × (slice_get xs k ≡ Some x)
  place_of x h = (h.0, slice_get-get_or xs h.0 x h.1 ∙ ap (λ y. Some y) h.2)

  pub element_at : (k : ℕ) (x : X) → slice_get xs k ≡ Some x → Contains xs x
  element_at k x e = (k, slice_get_within xs k x e, get_or_from_slice_get xs k x x e)

  -- an element that was read
  pub at_index : (k : ℕ) (x : X) → k < length xs → x ≡ get_or xs k x → slice_get xs k ≡ Some x
  at_index k x inside is = slice_get-get_or xs k x inside ∙ ap (λ y. Some y) (sym is)

  -- .. is the one that stands there
  pub same_index : (k : ℕ) (x y : X) → k < length xs → x ≡ get_or xs k x → slice_get xs k ≡ Some y → x ≡ y
  same_index k x y inside is at = same_Some x y (sym (at_index k x inside is) ∙ at)

-- what holds at each place holds of each number
pub each_number : (P : ℕ → Type 0) (xs : List ℕ) (end : ℕ) → length xs ≤ end → ((k : ℕ) → k < end → P (get_or xs k 0)) → (n : ℕ) → Contains xs n → P n
each_number P xs end past each n h =
    let is : get_or xs h.0 0 ≡ n = get_or_default xs h.0 0 n h.1 ∙ h.2 in
    subst P is (each h.0 (omega (arith, h.1)))
