-- Searching a list from its front.
use Rattle.std.proofs.Common.{◌≡◌, ℕ, zero, suc, ◌<◌, ◌≤◌, ◌+◌, List, length, get_or, slice_get, Option, Some, None, MatchOption, ◌⊎◌, inl, inr, refl, sym, ap, ◌∙◌, subst, arith, below_more}
use Rattle.std.proofs.lemmas.Option.{slice_get_within, same_Some, slice_get_read, slice_get-get_or}
use Rattle.name_indexes.specs.Places.{StandsAt, StandsFirst, StandsOnlyAt, NoneStands, Found, IsPlace}

pub order : (i j : ℕ) → (i < j) ⊎ ((i ≡ j) ⊎ (j < i))
order zero zero = inr (inl refl)
order zero (suc j) = inl (omega arith)
order (suc i) zero = inr (inr (omega arith))
order (suc i) (suc j) = elim (order i j) [ inl h ↦ inl (omega arith) | inr rest ↦ elim rest [ inl e ↦ inr (inl (ap suc e)) | inr h ↦ inr (inr (omega arith)) ] ]

module _ {X : Type 0} (P : X → Type 0) (xs : List X) where
  -- what the places before i are known of, and the element at i, holds of the places up to i
  pub none_more : (i : ℕ) (x : X) → ((k : ℕ) → k < i → ¬ StandsAt P xs k) → i < length xs → x ≡ get_or xs i x → ¬ P x → (k : ℕ) → k < i + 1 → ¬ StandsAt P xs k
  none_more i x before inside is not =
      below_more _ _ before (λ at. not (subst P (same_Some _ _ (sym at.is ∙ slice_get_read xs (length xs) i x refl inside is)) at.has))

  -- a search that has gone past the end has seen all places
  pub none_at_all : (i : ℕ) → ((k : ℕ) → k < i → ¬ StandsAt P xs k) → length xs ≤ i → (k : ℕ) → ¬ StandsAt P xs k
  none_at_all i before past k at =
      let within : k < length xs = slice_get_within xs k at.item at.is in before k (omega arith) at

  -- an element that was met by its index
  pub met : (i : ℕ) (x : X) → i < length xs → x ≡ get_or xs i x → P x → StandsAt P xs i
  met i x inside is has = record { item = x; is = slice_get_read xs (length xs) i x refl inside is; has = has }

  pub met_first : (i : ℕ) (x : X) → ((k : ℕ) → k < i → ¬ StandsAt P xs k) → i < length xs → x ≡ get_or xs i x → P x → StandsFirst P xs i
  met_first i x before inside is has = record { at = met i x inside is has; first = before }

-- two first elements with P are one
pub same_first : {X : Type 0} (P : X → Type 0) (xs : List X) (i j : ℕ) → StandsFirst P xs i → StandsFirst P xs j → i ≡ j
same_first P xs i j h k =
    elim (order i j) [ inl below ↦ absurd (k.first i below h.at) | inr rest ↦ elim rest [ inl e ↦ e | inr above ↦ absurd (h.first j above k.at) ] ]

-- what a search for Q says of P, which only elements with Q have
module _ {X : Type 0} (P Q : X → Type 0) (xs : List X) (also : (x : X) → P x → Q x) where
  at_also : (k : ℕ) → StandsAt P xs k → StandsAt Q xs k
  at_also k at = record { item = at.item; is = at.is; has = also at.item at.has }

  pub none_also : NoneStands Q xs → NoneStands P xs
  none_also none k at = none k (at_also k at)

  pub first_also : (m : ℕ) (x : X) → Found Q xs m x → P x → StandsFirst P xs m
  first_also m x found has = record {
    at = record { item = x; is = found.first.at.is ∙ ap Some found.is; has = has };
    first = λ k below at. found.first.first k below (at_also k at);
  }

  pub found_also : (m : ℕ) (x : X) → Found Q xs m x → P x → Found P xs m x
  found_also m x found has = record {
    first = record {
      at = record { item = x; is = found.first.at.is ∙ ap Some found.is; has = has };
      first = λ k below at. found.first.first k below (at_also k at);
    };
    is = refl;
  }

  -- the one element with Q doesn't have P
  pub none_but : (m : ℕ) (x : X) → Found Q xs m x → StandsOnlyAt Q xs m → ¬ P x → NoneStands P xs
  none_but m x found only not k at =
      let place : k ≡ m = only k (at_also k at) in
      let same : at.item ≡ x = same_Some _ _ (sym at.is ∙ ap (λ n. slice_get xs n) place ∙ found.first.at.is ∙ ap Some found.is) in
      not (subst P same at.has)

-- the answer of a search says what the caller calls an element with P
pub answer_of : {X : Type 0} (P : X → Type 0) (xs : List X) (Q : ℕ → Type 0) → ((i : ℕ) → StandsAt P xs i → Q i) → ((i : ℕ) → Q i → StandsAt P xs i) → (r : Option ℕ) → IsPlace P xs r → MatchOption r ((i : ℕ) → ¬ Q i) Q
answer_of P xs Q to from None h = λ i q. h i (from i q)
answer_of P xs Q to from (Some i) h = to i h.at

-- an element is the same where it is read with some default
pub read_at : {X : Type 0} (xs : List X) (i : ℕ) (d : X) → i < length xs → get_or xs i d ≡ get_or xs i (get_or xs i d)
read_at xs i d inside = same_Some _ _ (sym (slice_get-get_or xs i d inside) ∙ slice_get-get_or xs i (get_or xs i d) inside)
