-- Places by their numbers.
use Rattle.std.proofs.Common.{◌≡◌, ℕ, zero, suc, ◌+◌, ◌*◌, ◌<◌, ◌≤◌, ◌⊎◌, inl, inr, List, [], ◌∷◌, ◌++◌, length, map, get_or, refl, sym, ◌∙◌, ap, Option, Some, None, Bor, arith}
use Rattle.std.specs.Prelude.{slice_get}
use Rattle.std.specs.List.{AllByRecursion}
use Rattle.std.specs.Option.{option_copied}
use Rattle.std.proofs.lemmas.Option.{get_or_from_slice_get, slice_get_cases}
use Rattle.std.proofs.lemmas.Bool.{cases_lt, cases_order}
use Rattle.std.proofs.lemmas.List.{length-append, length-map, get_or_append_left, get_or-map}
use Rattle.std.proofs.Math.Seq.{get_or-append_seam}
use Rattle.diagnostics.specs.OtherPlaces.{IsBehind, spot_of, StandsAt, FindsAt}
use Rattle.diagnostics.specs.code.Keys.{key_of, key_of_place, IsNarrow, AreIndexed}
use Rattle.diagnostics.specs.declared.other_text.place.OtherPlace.{OtherPlace}

-- ---- which of two places is behind the other

module _ (last : ℕ × ℕ) (place : OtherPlace) (narrow : last.1 ≤ 4294967295) (short : place.column ≤ 4294967295) where
  pub behind : key_of last.0 last.1 < key_of_place place → IsBehind last (spot_of place)
  behind less = go (cases_order last.0 place.line)
    where
      go : (last.0 ≡ place.line) ⊎ ((last.0 < place.line) ⊎ (place.line < last.0)) → IsBehind last (spot_of place)
      go (inl same) = inr (same, omega (arith, same, less))
      go (inr (inl before)) = inl before
      go (inr (inr after)) = absurd (omega (arith, after, less, narrow, short))

  pub not_behind : key_of_place place ≤ key_of last.0 last.1 → IsBehind last (spot_of place) → ⊥
  not_behind low (inl before) = omega (arith, before, low, narrow, short)
  not_behind low (inr (same, before)) = omega (arith, same, before, low)

-- ---- the numbers so far

all_more : (places : List OtherPlace) (place : OtherPlace) → AllByRecursion IsNarrow places → IsNarrow place → AllByRecursion IsNarrow (places ++ place ∷ [])
all_more [] place all one = (one, tt)
all_more (p ∷ places) place all one = (all.0, all_more places place all.1 one)

narrow_at : (places : List OtherPlace) (i : ℕ) (d : OtherPlace) → AllByRecursion IsNarrow places → i < length places → IsNarrow (get_or places i d)
narrow_at [] i d all high = absurd (omega (arith, high))
narrow_at (p ∷ places) zero d all high = all.0
narrow_at (p ∷ places) (suc i) d all high = narrow_at places i d all.1 (omega (arith, high))

-- they are those of the places, and none is above the last
pub record KeysSoFar (keys : List ℕ) (places : List OtherPlace) (last : ℕ) : Type 0 where
  pub index : AreIndexed places keys
  pub top : (k : ℕ) → k < length keys → get_or keys k 0 ≤ last

pub no_keys : KeysSoFar [] [] 0
no_keys = record {
  index = record { are = refl; rising = λ i j low high. absurd (omega (arith, high)); narrow = tt };
  top = λ k high. absurd (omega (arith, high));
}

map-push : (places : List OtherPlace) (place : OtherPlace) → map key_of_place (places ++ place ∷ []) ≡ map key_of_place places ++ key_of_place place ∷ []
map-push [] place = refl
map-push (p ∷ places) place = ap (λ ks. key_of_place p ∷ ks) (map-push places place)

module _ (keys : List ℕ) (key : ℕ) where
  at_end : (k : ℕ) → length keys ≤ k → k < length (keys ++ key ∷ []) → get_or (keys ++ key ∷ []) k 0 ≡ key
  at_end k low high =
      let last : k ≡ length keys = omega (arith, low, high, length-append keys (key ∷ [])) in
      rw last (get_or-append_seam keys key [] 0)

  module _ {places : List OtherPlace} {last : ℕ} (h : KeysSoFar keys places last) (less : last < key) where
    below : (k : ℕ) → k < length (keys ++ key ∷ []) → get_or (keys ++ key ∷ []) k 0 ≤ key
    below k high = go (cases_lt k (length keys))
      where
        go : (k < length keys) ⊎ (length keys ≤ k) → get_or (keys ++ key ∷ []) k 0 ≤ key
        go (inl low) = omega (arith, get_or_append_left keys (key ∷ []) 0 k low, h.top k low, less)
        go (inr end) = omega (arith, at_end k end high)

    rises : (i j : ℕ) → i ≤ j → j < length (keys ++ key ∷ []) → get_or (keys ++ key ∷ []) i 0 ≤ get_or (keys ++ key ∷ []) j 0
    rises i j low high = go (cases_lt j (length keys))
      where
        go : (j < length keys) ⊎ (length keys ≤ j) → get_or (keys ++ key ∷ []) i 0 ≤ get_or (keys ++ key ∷ []) j 0
        go (inl inside) = omega (arith, get_or_append_left keys (key ∷ []) 0 i (omega (arith, low, inside)), get_or_append_left keys (key ∷ []) 0 j inside, h.index.rising i j low inside)
        go (inr end) = omega (arith, at_end j end high, below i (omega (arith, low, high)))

    pub keys_more : (place : OtherPlace) → key ≡ key_of_place place → IsNarrow place → KeysSoFar (keys ++ key ∷ []) (places ++ place ∷ []) key
    keys_more place is narrow = record {
      index = record {
        are = ap (λ ks. ks ++ key ∷ []) h.index.are ∙ (ap (λ k. map key_of_place places ++ k ∷ []) is ∙ sym (map-push places place));
        rising = rises;
        narrow = all_more places place h.index.narrow narrow;
      };
      top = below;
    }

-- ---- what is found by a number

nothing_is : (place : OtherPlace) → ◌≡◌ {A = Option OtherPlace} None (Some place) → ⊥
nothing_is place e = cc

one_key : (a b c d : ℕ) → b ≤ 4294967295 → d < 18446744073709551616 → key_of a b ≡ key_of c d → (a ≡ c) × (b ≡ d)
one_key a b c d low high same = go (cases_order a c)
  where
    go : (a ≡ c) ⊎ ((a < c) ⊎ (c < a)) → (a ≡ c) × (b ≡ d)
    go (inl e) = (e, omega (arith, e, same))
    go (inr (inl less)) = absurd (omega (arith, less, low, same))
    go (inr (inr more)) = absurd (omega (arith, more, high, same))

module _ (places : List OtherPlace) (keys : List ℕ) (h : AreIndexed places keys) (line column : ℕ) (fits : column < 18446744073709551616) where
  as_many : length keys ≡ length places
  as_many = ap (λ (ks : List ℕ). length ks) h.are ∙ length-map places key_of_place

  key_at : (i : ℕ) (d : OtherPlace) → i < length places → get_or keys i 0 ≡ key_of_place (get_or places i d)
  key_at i d high = ap (λ (ks : List ℕ). get_or ks i 0) h.are ∙ get_or-map key_of_place places i d 0 high

  pub found : (i : ℕ) → i < length keys → get_or keys i 0 ≡ key_of line column → (r : Option (Bor OtherPlace)) → option_copied r ≡ slice_get places i → FindsAt places line column r
  found i high same (Some place) is =
      let here : get_or places i place.now ≡ place.now = get_or_from_slice_get places i place.now place.now (sym is) in
      let n : i < length places = omega (arith, high, as_many) in
      let key : key_of_place place.now ≡ key_of line column = rw here at (sym (key_at i place.now n) ∙ same) in
      let narrow : place.now.column ≤ 4294967295 = rw here at (narrow_at places i place.now h.narrow n) in
      ((i, sym is), one_key place.now.line place.now.column line column narrow fits key)
  found i high same None is = go (slice_get_cases places i).1
    where
      go : ((x : OtherPlace) × (i < length places) × (slice_get places i ≡ Some x) × (get_or places i x ≡ x)) ⊎ ((length places ≤ i) × (slice_get places i ≡ None)) → FindsAt places line column None
      go (inl x) = absurd (nothing_is x.0 (is ∙ x.2))
      go (inr out) = absurd (omega (arith, out.0, high, as_many))

  pub missing : (i : ℕ) → ((k : ℕ) → k < i → get_or keys k 0 < key_of line column) → ((k : ℕ) → i ≤ k → k < length keys → key_of line column < get_or keys k 0) → (k : ℕ) (d : OtherPlace) → k < length places → StandsAt line column (get_or places k d) → ⊥
  missing i low high k d inside stands = go (cases_lt k i)
    where
      go : (k < i) ⊎ (i ≤ k) → ⊥
      go (inl before) = omega (arith, low k before, key_at k d inside, stands.0, stands.1)
      go (inr behind) = omega (arith, high k behind (omega (arith, inside, as_many)), key_at k d inside, stands.0, stands.1)
