-- The places of what belongs to a class: how an index of them grows, and what a walk from the last one backwards meets.
use Rattle.std.proofs.Common.{◌≡◌, ℕ, zero, suc, ◌<◌, ◌≤◌, ◌+◌, List, [], ◌∷◌, ◌++◌, length, replicate, get_or, slice_get, Option, Some, None, inl, inr, refl, sym, ap, ◌∙◌, subst, arith}
use Rattle.std.specs.Prelude.{⊤, slice_set, IfSome}
use Rattle.std.specs.Option.{option_and_then}
use Rattle.std.proofs.lemmas.Bool.{cases_lt}
use Rattle.std.proofs.lemmas.List.{length-set, length-replicate, length-append}
use Rattle.std.proofs.lemmas.Option.{none-some, same_Some, slice_get_past, slice_get_within, slice_get_read}
use Rattle.meta_model.specs.declared.class_places.ClassPlaces.{ClassPlaces}
use Rattle.meta_model.specs.Loaded.{Loaded}
use Rattle.meta_model.specs.Indexes.{last_of, before_of, Belongs, IsLast, IsLastBefore, IndexesFirst, HoldsNone, Adds}
use Rattle.meta_model.specs.code.Declared.{StandsFor}
use Rattle.name_indexes.specs.Places.{StandsAt}
use Rattle.name_indexes.proofs.Searches.{order}

-- ---- lists with one element exchanged
set_past : {X : Type 0} (xs : List X) (c : ℕ) (x : X) → length xs ≤ c → slice_set xs c x ≡ xs
set_past [] zero x past = refl
set_past [] (suc c) x past = refl
set_past (y ∷ ys) zero x past = absurd (omega arith)
set_past (y ∷ ys) (suc c) x past = ap (λ zs. y ∷ zs) (set_past ys c x (omega arith))

set_here : {X : Type 0} (xs : List X) (c : ℕ) (x : X) → c < length xs → slice_get (slice_set xs c x) c ≡ Some x
set_here [] c x inside = absurd (omega arith)
set_here (y ∷ ys) zero x inside = refl
set_here (y ∷ ys) (suc c) x inside = set_here ys c x (omega arith)

set_there : {X : Type 0} (xs : List X) (c k : ℕ) (x : X) → ¬ (k ≡ c) → slice_get (slice_set xs c x) k ≡ slice_get xs k
set_there [] zero k x apart = refl
set_there [] (suc c) k x apart = refl
set_there (y ∷ ys) zero zero x apart = absurd (apart refl)
set_there (y ∷ ys) zero (suc k) x apart = refl
set_there (y ∷ ys) (suc c) zero x apart = refl
set_there (y ∷ ys) (suc c) (suc k) x apart = set_there ys c k x (λ e. apart (ap suc e))

-- ---- lists with one more element
nth_left : {X : Type 0} (xs ys : List X) (k : ℕ) → k < length xs → slice_get (xs ++ ys) k ≡ slice_get xs k
nth_left [] ys k inside = absurd (omega arith)
nth_left (x ∷ xs) ys zero inside = refl
nth_left (x ∷ xs) ys (suc k) inside = nth_left xs ys k (omega arith)

nth_seam : {X : Type 0} (xs : List X) (x : X) → slice_get (xs ++ x ∷ []) (length xs) ≡ Some x
nth_seam [] x = refl
nth_seam (y ∷ ys) x = nth_seam ys x

-- ---- an index that grows
pub last_past : (index : ClassPlaces) (c : ℕ) → length index.last ≤ c → last_of index c ≡ None
last_past index c past = ap (λ (found : Option (Option ℕ)). option_and_then (λ place. place) found) (slice_get_past index.last c past)

none_among : (n c : ℕ) → option_and_then (λ (place : Option ℕ). place) (slice_get (replicate n None) c) ≡ None
none_among zero c = refl
none_among (suc n) zero = refl
none_among (suc n) (suc c) = none_among n c

module _ {X : Type 0} (class_of : X → ℕ) (items : List X) where
  pub indexes_none : (classes : ℕ) (index : ClassPlaces) → HoldsNone classes index → IndexesFirst class_of items classes 0 index
  indexes_none classes index none = record {
    classes_counted = ap length none.last ∙ length-replicate classes None;
    items_counted = ap length none.before;
    last = λ c there.
        subst (λ (last : Option ℕ). IsLastBefore class_of items c 0 last)
        (sym (ap (λ (places : List (Option ℕ)). option_and_then (λ place. place) (slice_get places c)) none.last ∙ none_among classes c)) (λ k inside. absurd (omega arith));
    before = λ c i there inside. absurd (omega arith);
  }

  -- the item behind the others is the last one of its class
  module _ (end : ℕ) (x : X) (inside : end < length items) (is : x ≡ get_or items end x) where
    at_end : slice_get items end ≡ Some x
    at_end = slice_get_read items (length items) end x refl inside is

    here : IsLast class_of items (class_of x) (end + 1) end
    here = record {
      inside = omega arith;
      belongs = record { item = x; is = at_end; has = refl };
      none = λ k below above. absurd (omega arith);
    }

    -- .. and of no other one
    not_here : (c k : ℕ) → ¬ (c ≡ class_of x) → k ≡ end → ¬ Belongs class_of items c k
    not_here c k apart e at =
        let same : at.item ≡ x = same_Some _ _ (sym at.is ∙ ap (slice_get items) e ∙ at_end) in
        apart (sym at.has ∙ ap class_of same)

    there : (c : ℕ) (last : Option ℕ) → ¬ (c ≡ class_of x) → IsLastBefore class_of items c end last → IsLastBefore class_of items c (end + 1) last
    there c None apart none = λ k below at. elim (order k end) [ inl less ↦ none k less at | inr rest ↦ elim rest [ inl e ↦ not_here c k apart e at | inr above ↦ absurd (omega arith) ] ]
    there c (Some i) apart last = record {
      inside = let less = last.inside in omega arith;
      belongs = last.belongs;
      none = λ k below above at. elim (order k end) [ inl less ↦ last.none k less above at | inr rest ↦ elim rest [ inl e ↦ not_here c k apart e at | inr past ↦ absurd (omega arith) ] ];
    }

    pub indexes_more : (classes : ℕ) (old new : ClassPlaces) → Adds old new (class_of x) → IndexesFirst class_of items classes end old → IndexesFirst class_of items classes (end + 1) new
    indexes_more classes old new adds is_old = record {
      classes_counted = ap length adds.last ∙ length-set old.last (class_of x) (Some (length old.before)) ∙ is_old.classes_counted;
      items_counted = ap length adds.before ∙ length-append old.before (last_of old (class_of x) ∷ []) ∙ ap (λ n. n + 1) is_old.items_counted;
      last = last_more;
      before = before_more;
    }
      where
        last_new : (c : ℕ) → last_of new c ≡ option_and_then (λ place. place) (slice_get (slice_set old.last (class_of x) (Some (length old.before))) c)
        last_new c = ap (λ (places : List (Option ℕ)). option_and_then (λ place. place) (slice_get places c)) adds.last

        last_more : (c : ℕ) → c < classes → IsLastBefore class_of items c (end + 1) (last_of new c)
        last_more c inside_classes = elim (order c (class_of x)) [
          | inl less ↦ other c inside_classes (λ e. omega arith)
          | inr rest ↦ elim rest [
            | inl e ↦ same c inside_classes e
            | inr above ↦ other c inside_classes (λ e. omega arith)
          ]
        ]
          where
            other : (c : ℕ) → c < classes → ¬ (c ≡ class_of x) → IsLastBefore class_of items c (end + 1) (last_of new c)
            other c inside_classes apart =
                let e : last_of new c ≡ last_of old c = last_new c ∙ ap (λ (found : Option (Option ℕ)). option_and_then (λ place. place) found) (set_there old.last (class_of x) c (Some (length old.before)) apart) in
                subst (λ (last : Option ℕ). IsLastBefore class_of items c (end + 1) last) (sym e) (there c (last_of old c) apart (is_old.last c inside_classes))

            same : (c : ℕ) → c < classes → c ≡ class_of x → IsLastBefore class_of items c (end + 1) (last_of new c)
            same c inside_classes e =
                let within : class_of x < length old.last = let counted = is_old.classes_counted in omega arith in
                let found : last_of new (class_of x) ≡ Some (length old.before) = last_new (class_of x) ∙ ap (λ (found : Option (Option ℕ)). option_and_then (λ place. place) found) (set_here old.last (class_of x) (Some (length old.before)) within) in
                let is_end : last_of new c ≡ Some end = ap (last_of new) e ∙ found ∙ ap Some is_old.items_counted in
                subst (λ (last : Option ℕ). IsLastBefore class_of items c (end + 1) last) (sym is_end) (subst (λ (k : ℕ). IsLast class_of items k (end + 1) end) (sym e) here)

        before_new : (i : ℕ) → before_of new i ≡ option_and_then (λ place. place) (slice_get (old.before ++ last_of old (class_of x) ∷ []) i)
        before_new i = ap (λ (places : List (Option ℕ)). option_and_then (λ place. place) (slice_get places i)) adds.before

        before_more : (c i : ℕ) → c < classes → i < end + 1 → Belongs class_of items c i → IsLastBefore class_of items c i (before_of new i)
        before_more c i inside_classes below at = elim (order i end) [
          | inl less ↦
              let within : i < length old.before = let counted = is_old.items_counted in omega arith in
              let e : before_of new i ≡ before_of old i = before_new i ∙ ap (λ (found : Option (Option ℕ)). option_and_then (λ place. place) found) (nth_left old.before (last_of old (class_of x) ∷ []) i within) in
              subst (λ (last : Option ℕ). IsLastBefore class_of items c i last) (sym e) (is_old.before c i inside_classes less at)
          | inr rest ↦ elim rest [
            | inl e ↦
                let same : at.item ≡ x = same_Some _ _ (sym at.is ∙ ap (slice_get items) e ∙ at_end) in
                let of_class : c ≡ class_of x = sym at.has ∙ ap class_of same in
                let found : before_of new i ≡ last_of old (class_of x) = before_new i ∙ ap (λ (k : ℕ). option_and_then (λ place. place) (slice_get (old.before ++ last_of old (class_of x) ∷ []) k)) (e ∙ sym is_old.items_counted) ∙ ap (λ (found : Option (Option ℕ)). option_and_then (λ place. place) found) (nth_seam old.before (last_of old (class_of x))) in
                let is_last : IsLastBefore class_of items c i (last_of old c) = subst (λ (k : ℕ). IsLastBefore class_of items c k (last_of old c)) (sym e) (is_old.last c inside_classes) in
                subst (λ (last : Option ℕ). IsLastBefore class_of items c i last) (sym (found ∙ ap (last_of old) (sym of_class))) is_last
            | inr above ↦ absurd (omega arith)
          ]
        ]

-- ---- a walk through what belongs to a class, from the last one backwards
-- the place comes after the one at which the walk stands, if it still stands at one
abbrev pub IsAfter : Option ℕ → ℕ → Type 0
IsAfter None k = ⊤
IsAfter (Some i) k = i < k

-- how many places a walk may still stand at
abbrev pub left_of : Option ℕ → ℕ
left_of None = 0
left_of (Some i) = suc i

-- a walk ends
pub fewer : (i : ℕ) (place : Option ℕ) → IfSome place (λ j. j < i) → left_of place < suc i
fewer i None less = omega arith
fewer i (Some j) less = omega arith

module _ (p : Loaded) {X : Type 0} (class_of : X → ℕ) (items : List X) (Q : X → Type 0) (c : ℕ) where
  -- where the walk was there is nothing of which Q holds, and where it stands is an item of the class
  pub record Walks (place : Option ℕ) : Type 0 where
    pub none : (k : ℕ) → IsAfter place k → ¬ StandsFor p class_of items Q c k
    pub there : IfSome place (λ i. c < length p.classes)
    pub belongs : IfSome place (λ i. Belongs class_of items c i)

  pub walked : (place : Option ℕ) → place ≡ None → Walks place → (k : ℕ) → ¬ StandsFor p class_of items Q c k
  walked place e walks k = walks.none k (subst (λ (at : Option ℕ). IsAfter at k) (sym e) tt)

  module _ (index : ClassPlaces) (is : IndexesFirst class_of items (length p.classes) (length items) index) where
    pub begins : Walks (last_of index c)
    begins = elim (cases_lt c (length p.classes)) [
      | inl there ↦ inside (last_of index c) there (is.last c there)
      | inr past ↦ outside (last_of index c) past (last_past index c (subst (λ (n : ℕ). n ≤ c) (sym is.classes_counted) past))
    ]
      where
        inside : (last : Option ℕ) → c < length p.classes → IsLastBefore class_of items c (length items) last → Walks last
        inside None there none = record {
          none = λ k after stands. none k (slice_get_within items k stands.belongs.item stands.belongs.is) stands.belongs;
          there = tt;
          belongs = tt;
        }
        inside (Some i) there last = record {
          none = λ k after stands. last.none k (slice_get_within items k stands.belongs.item stands.belongs.is) after stands.belongs;
          there = there;
          belongs = last.belongs;
        }

        outside : (last : Option ℕ) → length p.classes ≤ c → last ≡ None → Walks last
        outside None past e = record {
          none = λ k after stands. (let there = stands.there in omega arith);
          there = tt;
          belongs = tt;
        }
        outside (Some i) past e = absurd (none-some i (sym e))

    -- it goes on to a smaller place where Q doesn't hold
    pub goes_on : (i : ℕ) → Walks (Some i) → ¬ StandsAt Q items i → Walks (before_of index i) × IfSome (before_of index i) (λ j. j < i)
    goes_on i walks fails = by (before_of index i) (is.before c i walks.there (slice_get_within items i walks.belongs.item walks.belongs.is) walks.belongs)
      where
        not_at : (k : ℕ) → k ≡ i → ¬ StandsFor p class_of items Q c k
        not_at k e stands = fails (subst (StandsAt Q items) e stands.holds)

        by : (before : Option ℕ) → IsLastBefore class_of items c i before → Walks before × IfSome before (λ j. j < i)
        by None none = (
          record {
            none = λ k after stands. elim (order k i) [ inl less ↦ none k less stands.belongs | inr rest ↦ elim rest [ inl e ↦ not_at k e stands | inr above ↦ walks.none k above stands ] ];
            there = tt;
            belongs = tt;
          },
          tt,
        )
        by (Some j) last = (
          record {
            none = λ k after stands. elim (order k i) [ inl less ↦ last.none k less after stands.belongs | inr rest ↦ elim rest [ inl e ↦ not_at k e stands | inr above ↦ walks.none k above stands ] ];
            there = walks.there;
            belongs = last.belongs;
          },
          last.inside,
        )
