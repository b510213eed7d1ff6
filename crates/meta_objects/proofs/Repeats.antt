-- The first element to which one before it is alike.
use Rattle.std.proofs.Common.{◌≡◌, ℕ, zero, suc, ◌+◌, ◌<◌, ◌≤◌, List, [], ◌∷◌, length, take, get_or, slice_get, Some, Any, refl, sym, ap, ◌∙◌, subst, below_more, arith}
use Rattle.std.proofs.lemmas.Option.{slice_get_read, slice_get_within, same_Some, none-some}
use Rattle.name_indexes.specs.Twice.{StandsTwice}
use Rattle.class_outlines.proofs.Prefixes.{get_take, take_get}
use Rattle.class_outlines.proofs.Indexing.{twice_at, places_of_twice}
use Rattle.class_outlines.proofs.Zips.{any_of, place_of_any}

-- no element before i has one before it to which it is alike
abbrev pub NoneRepeats : {X : Type 0} → (X → X → Type 0) → List X → ℕ → Type 0
NoneRepeats {X} alike xs i = (j : ℕ) → j < i → (y : X) → slice_get xs j ≡ Some y → ¬ Any (λ x. alike x y) (take j xs)

module _ {X : Type 0} (alike : X → X → Type 0) (xs : List X) where
  pub none_repeats : NoneRepeats alike xs 0
  none_repeats j below y at any = absurd (omega (arith, below))

  pub repeats_further : (i : ℕ) (y : X) → i < length xs → y ≡ get_or xs i y → ¬ Any (λ x. alike x y) (take i xs) → NoneRepeats alike xs i → NoneRepeats alike xs (i + 1)
  repeats_further i y inside is not before =
      below_more _ _ before
      (λ z at. subst (λ u. ¬ Any (λ x. alike x u) (take i xs)) (same_Some _ _ (sym (slice_get_read xs (length xs) i y refl inside is) ∙ at)) not)

  pub repeats_here : (i : ℕ) (y : X) → i < length xs → y ≡ get_or xs i y → Any (λ x. alike x y) (take i xs) → StandsTwice alike xs
  repeats_here i y inside is any =
      let at = place_of_any (λ x. alike x y) (take i xs) any in
      let front = get_take i xs at.0 at.1.item at.1.is in
      twice_at alike xs at.0 i at.1.item y front.0 (slice_get_read xs (length xs) i y refl inside is) front.1 at.1.has

  pub repeats_never : (i : ℕ) → length xs ≤ i → NoneRepeats alike xs i → ¬ StandsTwice alike xs
  repeats_never i past before twice =
      let t = places_of_twice alike xs twice in
      let within : t.j < length xs = slice_get_within xs t.j t.y t.at_j in
      before t.j (omega (arith, past, within)) t.y t.at_j
      (any_of (λ x. alike x t.y) (take t.j xs) t.i (record { item = t.x; is = take_get t.j xs t.i t.x t.at_i t.before; has = t.are }))
