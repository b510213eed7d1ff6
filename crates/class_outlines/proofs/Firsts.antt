-- The first elements of lists.
use Rattle.std.proofs.Common.{◌≡◌, ℕ, ◌<◌, List, ◌++◌, length, slice_get, inl, inr, sym, ap, ◌∙◌, subst, arith}
use Rattle.std.proofs.lemmas.Option.{same_Some, slice_get_within}
use Rattle.name_indexes.specs.Places.{StandsAt, StandsFirst, Found}
use Rattle.name_indexes.proofs.Once.{get_split_at}
use Rattle.name_indexes.proofs.Searches.{same_first}
use Rattle.name_indexes.proofs.Zips.{get_front}

module _ {X : Type 0} (P : X → Type 0) (xs : List X) where
  -- the first elements at two places are one
  pub first_item : (i j : ℕ) (h : StandsFirst P xs i) (k : StandsFirst P xs j) → h.at.item ≡ k.at.item
  first_item i j h k = same_Some _ _ (sym h.at.is ∙ ap (λ n. slice_get xs n) (same_first P xs i j h k) ∙ k.at.is)

  pub found_item : (i j : ℕ) (x : X) (h : StandsFirst P xs i) → Found P xs j x → h.at.item ≡ x
  found_item i j x h found = first_item i j h found.first ∙ found.is

-- .. of a name
pub one_by : {X N : Type 0} (P : N → X → Type 0) (xs : List X) (a b : N) → a ≡ b → (i j : ℕ) (h : StandsFirst (P a) xs i) (k : StandsFirst (P b) xs j) → (i ≡ j) × (h.at.item ≡ k.at.item)
one_by P xs a b e i j h k =
    let same : i ≡ j = same_first (P a) xs i j h (subst (λ n. StandsFirst (P n) xs j) (sym e) k) in
    (same, same_Some _ _ (sym h.at.is ∙ ap (λ n. slice_get xs n) same ∙ k.at.is))

-- .. in the lists of two that are the same
pub same_in : {O X : Type 0} (list : O → List X) (P : X → Type 0) (o u : O) → o ≡ u → (q r : ℕ) (h : StandsFirst P (list o) q) (k : StandsFirst P (list u) r) → (q ≡ r) × (h.at.item ≡ k.at.item)
same_in list P o u e q r h k =
    let same : q ≡ r = same_first P (list o) q r h (subst (λ v. StandsFirst P (list v) r) (sym e) k) in
    (same, same_Some _ _ (sym h.at.is ∙ ap (λ n. slice_get (list o) n) same ∙ ap (λ v. slice_get (list v) r) e ∙ k.at.is))

-- ---- fronts
-- an element of a front
in_front : {X : Type 0} (P : X → Type 0) (xs ys : List X) (m k : ℕ) → k < m → m < length xs → StandsAt P (xs ++ ys) k → StandsAt P xs k
in_front P xs ys m k less inside at =
    elim (get_split_at xs ys k at.item at.is) [
      | inl e ↦ record { item = at.item; is = e; has = at.has }
      | inr r ↦ absurd (omega (arith, r.1))
    ]

-- the first in a front is the first
pub first_in_front : {X : Type 0} (P : X → Type 0) (xs ys : List X) (m : ℕ) → StandsFirst P xs m → StandsFirst P (xs ++ ys) m
first_in_front P xs ys m h = record {
  at = record { item = h.at.item; is = get_front xs ys m h.at.item h.at.is; has = h.at.has };
  first = λ k below at. h.first k below (in_front P xs ys m k below (slice_get_within xs m h.at.item h.at.is) at);
}
