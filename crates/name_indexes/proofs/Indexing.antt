-- Making an index of a list from its front.
use Rattle.std.proofs.Common.{◌≡◌, ℕ, zero, suc, ◌<◌, ◌≤◌, ◌+◌, List, [], ◌∷◌, ◌++◌, length, take, get_or, set, slice_get, Option, Some, None, MatchOption, ◌⊎◌, inl, inr, Bool, true, false, refl, sym, ap, ◌∙◌, subst, arith, below_more}
use Rattle.std.specs.Prelude.{nat_eq}
use Rattle.std.specs.Option.{unwrap_or, option_and_then, option_or}
use Rattle.std.specs.Cmp.Lexicographic.{pointwise, bytes_decides}
use Rattle.std.proofs.lemmas.Bool.{cases_eq, cases_lt}
use Rattle.std.proofs.lemmas.List.{length-set, get_or-set_same, get_or-set_other}
use Rattle.std.proofs.lemmas.Option.{none-some, same_Some, slice_get-get_or, slice_get_past, slice_get_within, slice_get_read}
use Rattle.name_indexes.specs.NamePlaces.{place_in, Adds}
use Rattle.name_indexes.specs.Places.{StandsAt, StandsFirst, NoneStands, Found, IsPlace}
use Rattle.name_indexes.specs.CallPlaces.{Index, Layers, place_at, place_by, SamePlaces, IndexesCalls, AreCalledAlike}
use Rattle.name_indexes.specs.Twice.{StandsTwice}
use Rattle.name_indexes.specs.code.CallSteps.{AddsCall}
use Rattle.name_indexes.specs.code.Twins.{AreTwins}
use Rattle.name_indexes.proofs.Prefixes.{get_take, take_get}
use Rattle.name_indexes.proofs.Searches.{order, none_more, none_at_all, met_first}
use Rattle.name_indexes.proofs.Zips.{any_of, place_of_any}

-- the answer is the place of the first element with P among those before i, or `None` where there is none
abbrev pub IsPlaceBefore : {X : Type 0} → (X → Type 0) → List X → ℕ → Option ℕ → Type 0
IsPlaceBefore P xs i answer = MatchOption answer ((k : ℕ) → k < i → ¬ StandsAt P xs k) (λ k. StandsFirst P xs k)

module _ {X : Type 0} (P : X → Type 0) (xs : List X) where
  -- an element with P takes the place, unless one before it has it
  pub place_here : (i : ℕ) (x : X) → i < length xs → x ≡ get_or xs i x → P x → (old : Option ℕ) → IsPlaceBefore P xs i old → IsPlaceBefore P xs (i + 1) (Some (unwrap_or old i))
  place_here i x inside is has None before = met_first P xs i x before inside is has
  place_here i x inside is has (Some k) before = before

  -- another one leaves it
  pub place_there : (i : ℕ) (x : X) → i < length xs → x ≡ get_or xs i x → ¬ P x → (old : Option ℕ) → IsPlaceBefore P xs i old → IsPlaceBefore P xs (i + 1) old
  place_there i x inside is not None before = none_more P xs i x before inside is not
  place_there i x inside is not (Some k) before = before

  pub place_all : (i : ℕ) → length xs ≤ i → (answer : Option ℕ) → IsPlaceBefore P xs i answer → IsPlace P xs answer
  place_all i past None before = none_at_all P xs i before past
  place_all i past (Some k) before = before

-- two names are one, or they aren't
pub same_name : (name other : List ℕ) → (other ≡ name) ⊎ (¬ (other ≡ name))
same_name name other = by (pointwise nat_eq other name) refl
  where
    by : (b : Bool) → pointwise nat_eq other name ≡ b → (other ≡ name) ⊎ (¬ (other ≡ name))
    by true e = inl ((bytes_decides other name).0 e)
    by false e = inr (λ same. let t = (bytes_decides other name).1 same in cc)

module _ {X : Type 0} (name_of : X → List ℕ) (xs : List X) where
  -- one element more
  pub names_more : (i : ℕ) (x : X) → i < length xs → x ≡ get_or xs i x → (old new : Index) → Adds (name_of x) i old new
      → ((name : List ℕ) → IsPlaceBefore (λ item. name_of item ≡ name) xs i (place_in old name))
      → (name : List ℕ) → IsPlaceBefore (λ item. name_of item ≡ name) xs (i + 1) (place_in new name)
  names_more i x inside is old new adds before name =
      elim (same_name (name_of x) name) [
        | inl e ↦
            subst (λ n. IsPlaceBefore (λ item. name_of item ≡ n) xs (i + 1) (place_in new n)) (sym e)
            (subst (IsPlaceBefore (λ item. name_of item ≡ name_of x) xs (i + 1)) (sym adds.named)
            (place_here (λ item. name_of item ≡ name_of x) xs i x inside is refl (place_in old (name_of x)) (before (name_of x))))
        | inr n ↦
            subst (IsPlaceBefore (λ item. name_of item ≡ name) xs (i + 1)) (sym (adds.others name n))
            (place_there (λ item. name_of item ≡ name) xs i x inside is (λ e. n (sym e)) (place_in old name) (before name))
      ]

  pub names_all : (i : ℕ) → length xs ≤ i → (index : Index)
      → ((name : List ℕ) → IsPlaceBefore (λ item. name_of item ≡ name) xs i (place_in index name))
      → (name : List ℕ) → IsPlace (λ item. name_of item ≡ name) xs (place_in index name)
  names_all i past index before name = place_all (λ item. name_of item ≡ name) xs i past (place_in index name) (before name)

module _ (indexes : List Index) (count : ℕ) (index : Index) where
  -- an index that is put in the place of another one
  put_same : count < length indexes → slice_get (set indexes count index) count ≡ Some index
  put_same inside =
      slice_get-get_or (set indexes count index) count index (omega (arith, length-set {A = Index}))
      ∙ ap Some (get_or-set_same indexes count index index inside)

  put_other : (k : ℕ) → ¬ (k ≡ count) → slice_get (set indexes count index) k ≡ slice_get indexes k
  put_other k differs =
      elim (cases_lt k (length indexes)) [
        | inl inside ↦
            slice_get-get_or (set indexes count index) k index (omega (arith, length-set {A = Index}))
            ∙ ap Some (get_or-set_other indexes count k index index differs)
            ∙ sym (slice_get-get_or indexes k index inside)
        | inr past ↦
            slice_get_past (set indexes count index) k (omega (arith, length-set {A = Index})) ∙ sym (slice_get_past indexes k past)
      ]

  by_same : count < length indexes → (name : List ℕ) → place_at (set indexes count index) count name ≡ place_in index name
  by_same inside name = ap (option_and_then (λ (o : Index). place_in o name)) (put_same inside)

  by_other : (k : ℕ) → ¬ (k ≡ count) → (name : List ℕ) → place_at (set indexes count index) k name ≡ place_at indexes k name
  by_other k differs name = ap (option_and_then (λ (o : Index). place_in o name)) (put_other k differs)

-- what the index for so many parameters says
by_of : (indexes : List Index) (count : ℕ) (d : Index) → count < length indexes → (name : List ℕ) → place_at indexes count name ≡ place_in (get_or indexes count d) name
by_of indexes count d inside name = ap (option_and_then (λ (o : Index). place_in o name)) (slice_get-get_or indexes count d inside)

-- an empty index more has no name
pub empty_more : (indexes : List Index) (k : ℕ) (name : List ℕ) → place_at (indexes ++ [] ∷ []) k name ≡ place_at indexes k name
empty_more [] zero name = refl
empty_more [] (suc k) name = refl
empty_more (index ∷ indexes) zero name = refl
empty_more (index ∷ indexes) (suc k) name = empty_more indexes k name

-- ---- one call more
-- in the index for as many parameters
module _ (old grown : List Index) (name : List ℕ) (count place : ℕ) (own index : Index) (same : SamePlaces old grown) (there : count < length grown) (is_own : own ≡ get_or grown count own) (adds : Adds name place own index) where
  was : (n : List ℕ) → place_in own n ≡ place_at old count n
  was n = ap (λ (o : Index). place_in o n) is_own ∙ sym (by_of grown count own there n) ∙ same count n

  another : (k : ℕ) (n : List ℕ) → ¬ ((n ≡ name) × (k ≡ count)) → place_at (set grown count index) k n ≡ place_at old k n
  another k n not =
      elim (cases_eq k count) [
        | inl e ↦
            ap (λ j. place_at (set grown count index) j n) e ∙ by_same grown count index there n ∙ adds.others n (λ f. not (f, e)) ∙ was n
            ∙ sym (ap (λ j. place_at old j n) e)
        | inr differs ↦ by_other grown count index k differs n ∙ same k n
      ]

  pub puts_call : AddsCall name count place (place_at old) (place_at (set grown count index))
  puts_call = record {
    named = by_same grown count index there name ∙ adds.named ∙ ap (λ (o : Option ℕ). Some (unwrap_or o place)) (was name);
    others = another;
  }

or_none : (o p : Option ℕ) → p ≡ None → option_or o p ≡ o
or_none None p e = e
or_none (Some x) p e = refl

or_some : (o p : Option ℕ) (x place : ℕ) → p ≡ Some x → option_or o p ≡ Some (unwrap_or (option_or o p) place)
or_some None p x place e = e ∙ ap (λ (q : Option ℕ). Some (unwrap_or q place)) (sym e)
or_some (Some y) p x place e = refl

-- in the first layer, where the others don't have it
pub adds_in_front : (own new : List Index) (base : Layers) (name : List ℕ) (count place : ℕ) → place_by base count name ≡ None → AddsCall name count place (place_at own) (place_at new)
    → AddsCall name count place (place_by (own ∷ base)) (place_by (new ∷ base))
adds_in_front own new base name count place none adds = record {
  named =
      ap (λ (o : Option ℕ). option_or o (place_by base count name)) adds.named
      ∙ ap (λ (o : Option ℕ). Some (unwrap_or o place)) (sym (or_none (place_at own count name) (place_by base count name) none));
  others = λ k n not. ap (λ (o : Option ℕ). option_or o (place_by base k n)) (adds.others k n not);
}

-- where another layer has it, nothing changes
pub had_behind : (own : List Index) (base : Layers) (name : List ℕ) (count place x : ℕ) → place_by base count name ≡ Some x → AddsCall name count place (place_by (own ∷ base)) (place_by (own ∷ base))
had_behind own base name count place x some = record {
  named = or_some (place_at own count name) (place_by base count name) x place some;
  others = λ k n not. refl;
}

-- ---- all calls
-- an element by its name and its number of parameters
abbrev pub IsCalled : {X : Type 0} → (X → List ℕ) → (X → ℕ) → List ℕ → ℕ → X → Type 0
IsCalled name_of count_of name count x = (name_of x ≡ name) × (count_of x ≡ count)

-- each call has the place of the first of those before i that are called so
abbrev pub ArePlacedBefore : {X : Type 0} → (X → List ℕ) → (X → ℕ) → List X → ℕ → (ℕ → List ℕ → Option ℕ) → Type 0
ArePlacedBefore name_of count_of xs i at = (name : List ℕ) (count : ℕ) → IsPlaceBefore (IsCalled name_of count_of name count) xs i (at count name)

-- what is known of a front
front_before : {X : Type 0} (P : X → Type 0) (n : ℕ) (xs : List X) (answer : Option ℕ) → IsPlace P (take n xs) answer → IsPlaceBefore P xs n answer
front_before P n xs None none = λ k low at. none k (record { item = at.item; is = take_get n xs k at.item at.is low; has = at.has })
front_before P n xs (Some j) first =
    let place = get_take n xs j first.at.item first.at.is in
    record {
      at = record { item = first.at.item; is = place.0; has = first.at.has };
      first = λ k low at. first.first k low (record { item = at.item; is = take_get n xs k at.item at.is (omega (arith, low, place.1)); has = at.has });
    }

module _ {X : Type 0} (name_of : X → List ℕ) (count_of : X → ℕ) (xs : List X) where
  -- an empty layer in front of the index of a front
  pub calls_from : (n : ℕ) (base : Layers) → IndexesCalls name_of count_of (take n xs) base → ArePlacedBefore name_of count_of xs n (place_by ([] ∷ base))
  calls_from n base ix name count = front_before (IsCalled name_of count_of name count) n xs (place_by base count name) (ix name count)

  -- empty indexes more
  pub calls_same : (i : ℕ) (own grown : List Index) (base : Layers) → SamePlaces own grown → ArePlacedBefore name_of count_of xs i (place_by (own ∷ base))
      → ArePlacedBefore name_of count_of xs i (place_by (grown ∷ base))
  calls_same i own grown base same before name count =
      subst (IsPlaceBefore (IsCalled name_of count_of name count) xs i)
      (sym (ap (λ (o : Option ℕ). option_or o (place_by base count name)) (same count name))) (before name count)

  -- one element more
  pub calls_more : (i : ℕ) (x : X) → i < length xs → x ≡ get_or xs i x → (old new : ℕ → List ℕ → Option ℕ) → AddsCall (name_of x) (count_of x) i old new
      → ArePlacedBefore name_of count_of xs i old → ArePlacedBefore name_of count_of xs (i + 1) new
  calls_more i x inside is old new adds before name count = by (cases_eq count (count_of x)) (same_name (name_of x) name)
    where
      other : ¬ ((name ≡ name_of x) × (count ≡ count_of x)) → IsPlaceBefore (IsCalled name_of count_of name count) xs (i + 1) (new count name)
      other not =
          subst (IsPlaceBefore (IsCalled name_of count_of name count) xs (i + 1)) (sym (adds.others count name not))
          (place_there (IsCalled name_of count_of name count) xs i x inside is (λ h. not (sym h.0, sym h.1)) (old count name) (before name count))

      by : (count ≡ count_of x) ⊎ (count ≡ count_of x → ⊥) → (name ≡ name_of x) ⊎ (¬ (name ≡ name_of x)) → IsPlaceBefore (IsCalled name_of count_of name count) xs (i + 1) (new count name)
      by (inr n) one = other (λ h. n h.1)
      by (inl e) (inr n) = other (λ h. n h.0)
      by (inl e) (inl f) =
          subst (IsPlaceBefore (IsCalled name_of count_of name count) xs (i + 1))
          (sym (ap (λ (k : ℕ). new k name) e ∙ ap (new (count_of x)) f ∙ adds.named
          ∙ ap (λ (o : Option ℕ). Some (unwrap_or o i)) (sym (ap (λ (k : ℕ). old k name) e ∙ ap (old (count_of x)) f))))
          (place_here (IsCalled name_of count_of name count) xs i x inside is (sym f, sym e) (old count name) (before name count))

  pub calls_all : (i : ℕ) → length xs ≤ i → (layers : Layers) → ArePlacedBefore name_of count_of xs i (place_by layers) → IndexesCalls name_of count_of xs layers
  calls_all i past layers before name count = place_all (IsCalled name_of count_of name count) xs i past (place_by layers count name) (before name count)

  pub calls_none : IndexesCalls name_of count_of (take 0 xs) []
  calls_none name count = λ k at. absurd (none-some at.item at.is)

-- ---- elements that are called alike
-- two elements that are alike
pub twice_at : {X : Type 0} (alike : X → X → Type 0) (xs : List X) (i j : ℕ) (x y : X) → slice_get xs i ≡ Some x → slice_get xs j ≡ Some y → i < j → alike x y → StandsTwice alike xs
twice_at alike [] i j x y ex ey less a = absurd (none-some x ex)
twice_at alike (z ∷ xs) i zero x y ex ey less a = absurd (omega arith)
twice_at alike (z ∷ xs) zero (suc j) x y ex ey less a =
    inl (any_of (alike z) xs j (record { item = y; is = ey; has = subst (λ v. alike v y) (sym (same_Some _ _ ex)) a }))
twice_at alike (z ∷ xs) (suc i) (suc j) x y ex ey less a = inr (twice_at alike xs i j x y ex ey (omega arith) a)

pub record IsTwice {X : Type 0} (alike : X → X → Type 0) (xs : List X) : Type 0 where
  pub i : ℕ
  pub j : ℕ
  pub x : X
  pub y : X
  pub at_i : slice_get xs i ≡ Some x
  pub at_j : slice_get xs j ≡ Some y
  pub before : i < j
  pub are : alike x y

pub places_of_twice : {X : Type 0} (alike : X → X → Type 0) (xs : List X) → StandsTwice alike xs → IsTwice alike xs
places_of_twice alike [] h = absurd h
places_of_twice alike (x ∷ xs) (inl any) =
    let at = place_of_any (alike x) xs any in
    record { i = 0; j = suc at.0; x = x; y = at.1.item; at_i = refl; at_j = at.1.is; before = omega arith; are = at.1.has }
places_of_twice alike (x ∷ xs) (inr rest) =
    let t = places_of_twice alike xs rest in
    record { i = suc t.i; j = suc t.j; x = t.x; y = t.y; at_i = t.at_i; at_j = t.at_j; before = omega (arith, t.before); are = t.are }

pub twice_also : {X : Type 0} (R S : X → X → Type 0) (xs : List X) → ((x y : X) → R x y → S x y) → StandsTwice R xs → StandsTwice S xs
twice_also R S xs f h = let t = places_of_twice R xs h in twice_at S xs t.i t.j t.x t.y t.at_i t.at_j t.before (f t.x t.y t.are)

-- each element before i is the first that is called so
abbrev pub AreFirstBefore : {X : Type 0} → (X → List ℕ) → (X → ℕ) → List X → Layers → ℕ → Type 0
AreFirstBefore {X} name_of count_of xs indexes i =
    (k : ℕ) → k < i → (x : X) → slice_get xs k ≡ Some x → place_by indexes (count_of x) (name_of x) ≡ Some k

module _ {X : Type 0} (name_of : X → List ℕ) (count_of : X → ℕ) (xs : List X) (indexes : Layers) where
  -- where no two of a front are called alike
  pub first_front : (n : ℕ) → IndexesCalls name_of count_of xs indexes → ¬ StandsTwice (AreCalledAlike name_of count_of) (take n xs) → AreFirstBefore name_of count_of xs indexes n
  first_front n ix once k below x at = by (place_by indexes (count_of x) (name_of x)) refl (ix (name_of x) (count_of x))
    where
      by : (found : Option ℕ) → place_by indexes (count_of x) (name_of x) ≡ found → IsPlace (IsCalled name_of count_of (name_of x) (count_of x)) xs found → place_by indexes (count_of x) (name_of x) ≡ Some k
      by None e never = absurd (never k (record { item = x; is = at; has = (refl, refl) }))
      by (Some j) e first =
          elim (order j k) [
            | inl less ↦
                absurd (once (twice_at (AreCalledAlike name_of count_of) (take n xs) j k first.at.item x (take_get n xs j first.at.item first.at.is (omega (arith, less, below))) (take_get n xs k x at below) less first.at.has))
            | inr rest ↦ elim rest [
              | inl same ↦ e ∙ ap Some same
              | inr above ↦ absurd (first.first k above (record { item = x; is = at; has = (refl, refl) }))
            ]
          ]

  pub first_more : (i : ℕ) (x : X) → i < length xs → x ≡ get_or xs i x → place_by indexes (count_of x) (name_of x) ≡ Some i → AreFirstBefore name_of count_of xs indexes i → AreFirstBefore name_of count_of xs indexes (i + 1)
  first_more i x inside is here before =
      below_more _ _ before
      (λ y at. let same : x ≡ y = same_Some _ _ (sym (slice_get_read xs (length xs) i x refl inside is) ∙ at) in
      subst (λ z. place_by indexes (count_of z) (name_of z) ≡ Some i) same here)

  -- an element before which none is found that is called so
  pub first_here : IndexesCalls name_of count_of xs indexes → (i : ℕ) (x : X) → slice_get xs i ≡ Some x → ((k : ℕ) → place_by indexes (count_of x) (name_of x) ≡ Some k → i ≤ k) → place_by indexes (count_of x) (name_of x) ≡ Some i
  first_here ix i x at none = by (place_by indexes (count_of x) (name_of x)) refl (ix (name_of x) (count_of x))
    where
      by : (found : Option ℕ) → place_by indexes (count_of x) (name_of x) ≡ found → IsPlace (IsCalled name_of count_of (name_of x) (count_of x)) xs found → place_by indexes (count_of x) (name_of x) ≡ Some i
      by None e never = absurd (never i (record { item = x; is = at; has = (refl, refl) }))
      by (Some k) e first =
          elim (order k i) [
            | inl below ↦ let past = none k e in absurd (omega (arith, below, past))
            | inr rest ↦ elim rest [
              | inl same ↦ e ∙ ap Some same
              | inr above ↦ absurd (first.first i above (record { item = x; is = at; has = (refl, refl) }))
            ]
          ]

  -- one that is found before it
  pub twins_here : IndexesCalls name_of count_of xs indexes → (i : ℕ) (x : X) → slice_get xs i ≡ Some x → (k : ℕ) → (place_by indexes (count_of x) (name_of x) ≡ Some k) × (k < i) → AreTwins (AreCalledAlike name_of count_of) xs (record { first = k; again = i })
  twins_here ix i x at k found =
      let first = subst (IsPlace (IsCalled name_of count_of (name_of x) (count_of x)) xs) found.0 (ix (name_of x) (count_of x)) in
      record { x = first.at.item; is_x = first.at.is; y = x; is_y = at; before = found.1; are = first.at.has }

  -- where each element is the first that is called so, no two are called alike
  pub none_twice : (i : ℕ) → length xs ≤ i → AreFirstBefore name_of count_of xs indexes i → ¬ StandsTwice (AreCalledAlike name_of count_of) xs
  none_twice i past before h =
      let each : (k : ℕ) (x : X) → slice_get xs k ≡ Some x → place_by indexes (count_of x) (name_of x) ≡ Some k =
      λ k x e. let inside : k < length xs = slice_get_within xs k x e in before k (omega arith) x e in
      let t = places_of_twice (AreCalledAlike name_of count_of) xs h in
      let same : t.i ≡ t.j =
      same_Some _ _
      (sym (each t.i t.x t.at_i) ∙ ap (λ n. place_by indexes n (name_of t.x)) t.are.1 ∙ ap (place_by indexes (count_of t.y)) t.are.0
      ∙ each t.j t.y t.at_j) in
      let less = t.before in
      absurd (omega arith)

-- ---- what an index answers
module _ {X : Type 0} (name_of : X → List ℕ) (count_of : X → ℕ) (xs : List X) (indexes : Layers) (ix : IndexesCalls name_of count_of xs indexes) (name : List ℕ) (count : ℕ) where
  pub found_none : place_by indexes count name ≡ None → NoneStands (IsCalled name_of count_of name count) xs
  found_none e = subst (IsPlace (IsCalled name_of count_of name count) xs) e (ix name count)

  pub found_some : (m : ℕ) (x : X) → place_by indexes count name ≡ Some m → slice_get xs m ≡ Some x → Found (IsCalled name_of count_of name count) xs m x
  found_some m x e is =
      let first : StandsFirst (IsCalled name_of count_of name count) xs m = subst (IsPlace (IsCalled name_of count_of name count) xs) e (ix name count) in
      record { first = first; is = same_Some _ _ (sym first.at.is ∙ is) }
