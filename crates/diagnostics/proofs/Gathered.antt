-- The places of the lines so far.
use Rattle.std.proofs.Common.{◌≡◌, ℕ, ◌+◌, ◌<◌, ◌≤◌, List, [], ◌∷◌, ◌++◌, length, refl, sym, ◌∙◌, ap, arith}
use Rattle.std.proofs.lemmas.List.{length-append}
use Rattle.texts.specs.Lines.{IsFirstLine, AreFirstLines}
use Rattle.texts.proofs.FirstLines.{one_more_line}
use Rattle.diagnostics.specs.OtherPlaces.{IsPlaceLine, IsBehind, spot_of, ArePlaces, AreOtherPlaces, IsNoPlace}
use Rattle.diagnostics.specs.code.Keys.{key_of, key_of_place}
use Rattle.diagnostics.specs.declared.other_text.place.OtherPlace.{OtherPlace}
use Rattle.diagnostics.proofs.Keyed.{behind, not_behind}
use Rattle.diagnostics.proofs.Counting.{IsNone, same_spot}

places_more : (first : ℕ × ℕ) (lines : List (List ℕ)) (places : List OtherPlace) (last : ℕ × ℕ) (line : List ℕ) (place : OtherPlace) → ArePlaces first lines places last → IsPlaceLine line place → IsBehind last (spot_of place) → ArePlaces first (lines ++ line ∷ []) (places ++ place ∷ []) (spot_of place)
places_more first [] places last line place w is behind = (place, [], is, rw (sym w.1) at behind, (refl, refl), ap (λ ps. ps ++ place ∷ []) w.0)
places_more first (l ∷ lines) places last line place w is behind = (w.0, w.1 ++ place ∷ [], w.2, w.3, places_more (spot_of w.0) lines w.1 last line place w.4 is behind, ap (λ ps. ps ++ place ∷ []) w.5)

-- after so many lines, each of them a place, of which the last has this number
pub record PlacesSoFar (text : List ℕ) (places : List OtherPlace) (number : ℕ) (rest : List ℕ) (key : ℕ) : Type 0 where
  pub good : List (List ℕ)
  pub last : ℕ × ℕ
  pub lead : AreFirstLines text good rest
  pub are : ArePlaces (0, 0) good places last
  pub counted : number ≡ length good
  pub key_is : key ≡ key_of last.0 last.1
  pub narrow : last.1 ≤ 4294967295

pub none_yet : (text : List ℕ) → PlacesSoFar text [] 0 text 0
none_yet text = record { good = []; last = (0, 0); lead = refl; are = (refl, refl); counted = refl; key_is = refl; narrow = omega arith }

module _ {text : List ℕ} {places : List OtherPlace} {number : ℕ} {rest : List ℕ} {key : ℕ} (h : PlacesSoFar text places number rest key) where
  module _ {line after : List ℕ} (front : IsFirstLine rest line after) where
    pub place_next : (place : OtherPlace) → IsPlaceLine line place → key < key_of_place place → PlacesSoFar text (places ++ place ∷ []) (number + 1) after (key_of_place place)
    place_next place is less = record {
      good = h.good ++ line ∷ [];
      last = spot_of place;
      lead = one_more_line text h.good rest line after h.lead front;
      are = places_more (0, 0) h.good places h.last line place h.are is (behind h.last place h.narrow is.are_place.column.fits (rw h.key_is at less));
      counted = omega (arith, h.counted, length-append h.good (line ∷ []));
      key_is = refl;
      narrow = is.are_place.column.fits;
    }

    bad_next : ((place : OtherPlace) → IsPlaceLine line place → IsBehind h.last (spot_of place) → ⊥) → IsNoPlace text (number + 1)
    bad_next bad = record {
      good = h.good;
      places = places;
      last = h.last;
      are = h.are;
      line = line;
      from_line = rest;
      after = after;
      lead = h.lead;
      front = front;
      bad = bad;
      counted = ap (λ n. n + 1) h.counted;
    }

    -- the place isn't behind the last one
    pub low_next : (place : OtherPlace) → IsPlaceLine line place → key_of_place place ≤ key → IsNoPlace text (number + 1)
    low_next place is low = bad_next (λ other that behind.
        let spot = same_spot line place other is that in
        not_behind h.last other h.narrow that.are_place.column.fits (omega (arith, low, h.key_is, spot.0, spot.1)) behind)

    pub none_next : IsNone line → IsNoPlace text (number + 1)
    none_next none = bad_next (λ place is behind. none place is)

  pub places_read : rest ≡ [] → AreOtherPlaces text places
  places_read e = record { lines = h.good; last = h.last; cut = rw e at h.lead; are = h.are }
