-- The places of the lines of nodes.
use Rattle.std.proofs.Common.{◌≡◌, ◌≢◌, inl, inr, ℕ, suc, ◌+◌, ◌<◌, ◌≤◌, List, [], ◌∷◌, length, get_or, set, replicate, slice_get, Option, Some, None, Result, Ok, Err, refl, sym, ap, ◌∙◌, subst, arith, get_or-set_same, get_or-set_other}
use Rattle.std.specs.List.{AllZip}
use Rattle.std.proofs.lemmas.Bool.{cases_eq, cases_lt}
use Rattle.std.proofs.lemmas.List.{length-set, length-replicate, get_or-replicate, get_or_past}
use Rattle.std.proofs.lemmas.Option.{slice_get_within, slice_get-get_or, get_or_from_slice_get, same_Some, none-some}
use Rattle.meta_model.proofs.Zips.{zip_right}
use Rattle.rank_check.specs.Entries.{IsFor, place_at, PlacesFirst, PlacesEach, ArePlaces, LacksPlace, FindsAll, FindsPlaces, LacksLine, IsPlaced, IsSecond}

none_at : (count n : ℕ) → place_at (replicate count None) n ≡ None
none_at count n =
    elim (cases_lt n count) [
      | inl l ↦ get_or-replicate count n None None l
      | inr m ↦ get_or_past (replicate count None) n None (omega (arith, m, length-replicate {A = Option ℕ} count None))
    ]

pub one_node : (numbers : List (Option ℕ)) (k m n : ℕ) → IsFor numbers k m → IsFor numbers k n → m ≡ n
one_node numbers k m n h g = same_Some m n (same_Some (Some m) (Some n) (sym h ∙ g))

module _ (count : ℕ) (numbers : List (Option ℕ)) where
  pub none_placed : PlacesFirst count 0 numbers (replicate count None)
  none_placed = record {
    counted = length-replicate count None;
    is_for = λ n k e. absurd (none-some k (sym (none_at count n) ∙ e));
    each = λ n k low is e. absurd (omega (arith, low));
  }

  module _ (places : List (Option ℕ)) (i : ℕ) (h : PlacesFirst count i numbers places) where
    pub placed_one : (n : ℕ) → n < count → IsFor numbers i n → PlacesFirst count (i + 1) numbers (set places n (Some i))
    placed_one n low is = record {
      counted = length-set places n (Some i) ∙ h.counted;
      is_for = λ m k e.
          elim (cases_eq m n) [
            | inl same ↦
                let here = subst (λ (x : ℕ). place_at (set places n (Some i)) x ≡ Some k) same e in
                let there = get_or-set_same places n (Some i) None inside in
                let place : i ≡ k = same_Some i k (sym there ∙ here) in
                subst (λ (x : ℕ). IsFor numbers x m) place (subst (λ (x : ℕ). IsFor numbers i x) (sym same) is)
            | inr other ↦ h.is_for m k (sym (get_or-set_other places n m (Some i) None other) ∙ e)
          ];
      each = λ m k early is_m e.
          elim (cases_eq m n) [
            | inl same ↦
                let here = subst (λ (x : ℕ). place_at (set places n (Some i)) x ≡ None) same e in
                let there = get_or-set_same places n (Some i) None inside in
                none-some i (sym here ∙ there)
            | inr other ↦
                elim (cases_lt k i) [
                  | inl before ↦ h.each m k before is_m (sym (get_or-set_other places n m (Some i) None other) ∙ e)
                  | inr not ↦
                      let now : k ≡ i = omega arith in
                      other (one_node numbers i m n (subst (λ (x : ℕ). IsFor numbers x m) now is_m) is)
                ]
          ];
    }
      where
        inside : n < length places
        inside = omega (arith, low, h.counted)

    pub placed_none : slice_get numbers i ≡ Some None → PlacesFirst count (i + 1) numbers places
    placed_none is = record {
      counted = h.counted;
      is_for = h.is_for;
      each = λ m k early is_m e.
          elim (cases_lt k i) [
            | inl before ↦ h.each m k before is_m e
            | inr not ↦
                let now : k ≡ i = omega arith in
                none-some m (same_Some None (Some m) (sym is ∙ subst (λ (x : ℕ). IsFor numbers x m) now is_m))
          ];
    }

    pub placed_all : length numbers ≤ i → PlacesEach count numbers places
    placed_all past = record {
      counted = h.counted;
      is_for = h.is_for;
      each = λ m k early is e. h.each m k (omega arith) is e;
    }

-- the places that are there, as numbers
abbrev pub IsThere : Option ℕ → ℕ → Type 0
IsThere o k = o ≡ Some k

pub zip_count : {A B : Type 0} (R : A → B → Type 0) (xs : List A) (ys : List B) → AllZip R xs ys → length ys ≡ length xs
zip_count R [] [] h = refl
zip_count R [] (y ∷ ys) h = absurd h
zip_count R (x ∷ xs) [] h = absurd h
zip_count R (x ∷ xs) (y ∷ ys) h = ap suc (zip_count R xs ys h.1)

module _ (count : ℕ) (numbers places : List (Option ℕ)) (h : PlacesEach count numbers places) where
  node_lacks : (n : ℕ) → LacksPlace places n → LacksLine count numbers n
  node_lacks n lacks = record {
    inside = omega (arith, lacks.inside, h.counted);
    none = λ k for. h.each n k (slice_get_within numbers k (Some n) for) for lacks.none;
  }

  places_found : (all : List ℕ) → AllZip IsThere places all → ArePlaces count numbers all
  places_found all zip = record {
    counted = zip_count IsThere places all zip ∙ h.counted;
    is_for = λ n k e.
        let pair = zip_right IsThere places all zip n k e in
        h.is_for n k (get_or_from_slice_get places n pair.0 None pair.1 ∙ pair.2);
  }

  pub places_told : (found : Result (List ℕ) ℕ) → FindsAll places found → FindsPlaces count numbers found
  places_told (Err n) lacks = node_lacks n lacks
  places_told (Ok all) zip = places_found all zip

pub place_lacks : (places : List (Option ℕ)) (i : ℕ) → i < length places → place_at places i ≡ None → LacksPlace places i
place_lacks places i inside none = record { inside = inside; none = none }

-- ---- each line is that of its node
module _ (numbers : List (Option ℕ)) (places : List ℕ) where
  pub is_second : (k n : ℕ) → IsFor numbers k n → (d : ℕ) → n < length places → get_or places n d ≢ k → IsSecond numbers places k (get_or places n d)
  is_second k n is d inside other = record { node = n; is_for = is; placed = slice_get-get_or places n d inside; other = other }

  pub is_placed : (k n : ℕ) → IsFor numbers k n → (d : ℕ) → n < length places → get_or places n d ≡ k → IsPlaced numbers places k
  is_placed k n is d inside e = record { node = n; is_for = is; placed = slice_get-get_or places n d inside ∙ ap (λ (x : ℕ). Some x) e }
