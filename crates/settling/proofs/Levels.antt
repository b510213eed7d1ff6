-- A stack is no deeper than the bound and the step for each object.
use Rattle.std.proofs.Common.{◌≡◌, ◌≢◌, inl, inr, ℕ, zero, suc, ◌+◌, ◌*◌, ◌<◌, ◌≤◌, IsTrue, List, [], ◌∷◌, length, Option, None, Some, refl, sym, ap, ◌∙◌, subst, arith}
use Rattle.std.specs.List.{AllByRecursion}
use Rattle.std.proofs.lemmas.Bool.{cases_eq}
use Rattle.binding_graph.specs.declared.place.Place.{Place}
use Rattle.binding_graph.specs.Places.{In, Distinct}
use Rattle.settling.specs.Levels.{Level, Counting, cost_of, AreCounted, StandsAbove, lowest, apart, inside, writes}

mul-mono : (n a b : ℕ) → a ≤ b → n * a ≤ n * b
mul-mono zero a b low = omega arith
mul-mono (suc n) a b low = let rest = mul-mono n a b low in omega (arith, rest, low)

mul-add : (n a b : ℕ) → n * (a + b) ≡ n * a + n * b
mul-add n a b = omega arith

mul-more : (a n : ℕ) → a * suc n ≡ a * n + a
mul-more a n = omega arith

mul-turn : (a n b : ℕ) → a * (n * b) ≡ n * (a * b)
mul-turn a n b = omega arith

-- ---- places of one object, and of the others

data Splits (n : ℕ) : List Place → List Place → List Place → Type 0 where
  none : Splits n [] [] []
  here : {q : Place} {all own others : List Place} → q.object ≡ n → Splits n all own others → Splits n (q ∷ all) (q ∷ own) others
  other : {q : Place} {all own others : List Place} → q.object ≢ n → Splits n all own others → Splits n (q ∷ all) own (q ∷ others)

split : (n : ℕ) (all : List Place) → (own : List Place) × (others : List Place) × Splits n all own others
split n [] = ([], [], none)
split n (q ∷ all) =
    let rest = split n all in
    elim (cases_eq q.object n) [
      | inl same ↦ (q ∷ rest.0, rest.1, here same rest.2)
      | inr differs ↦ (rest.0, q ∷ rest.1, other differs rest.2)
    ]

counted : {n : ℕ} {all own others : List Place} → Splits n all own others → length all ≡ length own + length others
counted none = refl
counted (here at rest) = let more = counted rest in omega (arith, more)
counted (other at rest) = let more = counted rest in omega (arith, more)

in_own : {n : ℕ} {all own others : List Place} (q : Place) → Splits n all own others → In q own → In q all
in_own q none i = i
in_own q (here at rest) (inl e) = inl e
in_own q (here at rest) (inr i) = inr (in_own q rest i)
in_own q (other at rest) i = inr (in_own q rest i)

in_others : {n : ℕ} {all own others : List Place} (q : Place) → Splits n all own others → In q others → In q all
in_others q none i = i
in_others q (here at rest) i = inr (in_others q rest i)
in_others q (other at rest) (inl e) = inl e
in_others q (other at rest) (inr i) = inr (in_others q rest i)

own_once : {n : ℕ} {all own others : List Place} → Splits n all own others → Distinct all → Distinct own
own_once none d = d
own_once (here {q = q} at rest) d = (λ i. d.0 (in_own q rest i), own_once rest d.1)
own_once (other at rest) d = own_once rest d.1

others_once : {n : ℕ} {all own others : List Place} → Splits n all own others → Distinct all → Distinct others
others_once none d = d
others_once (here at rest) d = others_once rest d.1
others_once (other {q = q} at rest) d = (λ i. d.0 (in_others q rest i), others_once rest d.1)

module _ (sets : Counting) where
  -- of the set, and of objects below a number
  abbrev AreBelow : ℕ → ℕ → List Place → Type 0
  AreBelow k n places = AllByRecursion (λ q. (q.object < n) × IsTrue (sets.is_of k q)) places

  own_of : (k : ℕ) {n : ℕ} {all own others : List Place} → Splits n all own others → AreBelow k (suc n) all → AllByRecursion (λ q. (q.object ≡ n) × IsTrue (sets.is_of k q)) own
  own_of k none below = tt
  own_of k (here at rest) below = ((at, below.0.1), own_of k rest below.1)
  own_of k (other at rest) below = own_of k rest below.1

  others_below : (k : ℕ) {n : ℕ} {all own others : List Place} → Splits n all own others → AreBelow k (suc n) all → AreBelow k n others
  others_below k none below = tt
  others_below k (here at rest) below = others_below k rest below.1
  others_below k (other at rest) below = let low = below.0.0 in ((omega (arith, low, at), below.0.1), others_below k rest below.1)

  module _ (few : AreCounted sets) where
    -- the places of a set are no more than the objects, each with the most that a class has
    places_few : (k n : ℕ) (places : List Place) → Distinct places → AreBelow k n places → length places ≤ n * sets.most k
    places_few k zero [] once below = omega arith
    places_few k zero (q ∷ places) once below = let low = below.0.0 in absurd (omega (arith, low))
    places_few k (suc n) places once below =
        let parts = split n places in
        let own = few k n parts.0 (record { once = own_once parts.2 once; each = own_of k parts.2 below }) in
        let rest = places_few k n parts.1 (others_once parts.2 once) (others_below k parts.2 below) in
        let whole = counted parts.2 in
        omega (arith, own, rest, whole)

    module _ (objects bound step : ℕ) where
      abbrev Above : Level → ℕ → List Place → Type 0
      Above l height places = StandsAbove sets objects bound step l height places

      abbrev round_of : Option ℕ → ℕ
      round_of None = 0
      round_of (Some k) = sets.round k

      abbrev HeldIn : Option ℕ → List Place → Type 0
      HeldIn None places = places ≡ []
      HeldIn (Some k) places = Distinct places × AreBelow k objects places

      held_none : (w : Option ℕ) → HeldIn w []
      held_none None = refl
      held_none (Some k) = (tt, tt)

      held : {l : Level} {height : ℕ} {places : List Place} → Above l height places → HeldIn l.within places
      held {l} (lowest rank low enough) = held_none l.within
      held {l} (apart s rank low enough) = held_none l.within
      held {l} {places = places} (inside s same step_is rank) = subst (λ (w : Option ℕ). HeldIn w places) (sym same) (held s)
      held {l} (writes {l = lower} {place = place} {places = places} s in_lower in_upper step_is rank is_of made new) =
          let before = subst (λ (w : Option ℕ). HeldIn w places) in_lower (held s) in
          subst (λ (w : Option ℕ). HeldIn w (place ∷ places)) (sym in_upper) ((new, before.0), ((made, is_of), before.1))

      room : (w : Option ℕ) (places : List Place) → HeldIn w places → round_of w * length places ≤ objects * cost_of sets w
      room None places is = omega arith
      room (Some k) places is =
          let low = mul-mono (sets.round k) (length places) (objects * sets.most k) (places_few k objects places is.0 is.1) in
          let turned = mul-turn (sets.round k) objects (sets.most k) in
          omega (arith, low, turned)

      enough_step : {l : Level} {height : ℕ} {places : List Place} → Above l height places → cost_of sets l.within ≤ l.step
      enough_step (lowest rank low enough) = enough
      enough_step (apart s rank low enough) = enough
      enough_step (inside s same step_is rank) = let below = enough_step s in let cost = ap (cost_of sets) same in omega (arith, below, cost, step_is)
      enough_step (writes {l = lower} s in_lower in_upper step_is rank is_of made new) =
          let below = enough_step s in
          let cost = ap (cost_of sets) (in_upper ∙ sym in_lower) in
          omega (arith, below, cost, step_is)

      climbs : {l : Level} {height : ℕ} {places : List Place} → Above l height places
          → l.rank + height + objects * l.step + 1 ≤ bound + objects * step + round_of l.within * length places
      climbs {l} (lowest rank low enough) = let more = mul-mono objects l.step step low in omega (arith, rank, more)
      climbs {l} (apart {l = lower} {places = places} s rank low enough) =
          let below = climbs s in
          let fits = room lower.within places (held s) in
          let steps = mul-mono objects (l.step + cost_of sets lower.within) lower.step low in
          let sum = mul-add objects l.step (cost_of sets lower.within) in
          omega (arith, below, fits, steps, sum, rank)
      climbs {l} {places = places} (inside {l = lower} s same step_is rank) =
          let below = climbs s in
          let rounds = ap (λ (w : Option ℕ). round_of w * length places) same in
          let steps = ap (λ (n : ℕ). objects * n) step_is in
          omega (arith, below, rounds, steps, rank)
      climbs {l} (writes {l = lower} {k = k} {places = places} s in_lower in_upper step_is rank is_of made new) =
          let below = climbs s in
          let old = ap (λ (w : Option ℕ). round_of w * length places) in_lower in
          let now = ap (λ (w : Option ℕ). round_of w * suc (length places)) in_upper in
          let more = mul-more (sets.round k) (length places) in
          let steps = ap (λ (n : ℕ). objects * n) step_is in
          omega (arith, below, old, now, more, steps, rank)

      pub shallow : {l : Level} {height : ℕ} {places : List Place} → Above l height places → l.rank + suc height ≤ bound + step * objects
      shallow {l} {places = places} s =
          let all = climbs s in
          let fits = room l.within places (held s) in
          let steps = mul-mono objects (cost_of sets l.within) l.step (enough_step s) in
          let turned : step * objects ≡ objects * step = omega arith in
          omega (arith, all, fits, steps, turned)
