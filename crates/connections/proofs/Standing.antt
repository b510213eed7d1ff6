-- Keys that stand at an index, and what a write there changes.
use Rattle.std.proofs.Common.{◌≡◌, ℕ, ◌<◌, Bool, true, false, cond, [], ◌∷◌, ◌++◌, Option, Some, refl, sym, ap, subst, ◌∙◌, slice_get, Result, Ok, Err, OnErr, IsSomeAnd, inl}
use Rattle.std.specs.Cmp.{IsEquivalence}
use Rattle.std.specs.Option.{option_map}
use Rattle.std.specs.Vec.{vec_len, vec_capacity}
use Rattle.indexmap.specs.IndexMap.{IndexMap, get, get_by, with_value_at, IsUnique}
use Rattle.indexmap.proofs.CallerLemmas.{updates-with_value_at}
use Rattle.slab.specs.Slab.{Slab}
use Rattle.connections.specs.declared.cell.Cell.{Cell}
use Rattle.connections.specs.declared.place.CellPlaces.{CellPlaces}
use Rattle.connections.specs.declared.place.CellPlace.{CellPlace}
use Rattle.connections.specs.code.CellPlaces.{Tidies}
use Rattle.connections.specs.code.Groups.{items_of, list_of, HasRoom, Pushes, SameGroups, KeepsRoom, KeepsOtherRoom, TidiesGroups, StandsAt}

abbrev has_room : CellPlaces → Type 0
has_room places = vec_len places.items < vec_capacity places.items

-- keys that are the same have the same
pub get-same : {K S : Type 0} (eq : K → K → Bool) (m : IndexMap K CellPlaces S) (p q : K) → IsEquivalence eq → eq p q ≡ true → get eq m p ≡ get eq m q
get-same eq m p q laws same = λ j. get_by (λ x. laws.congr p q x same j) m

module _ {K S : Type 0} (eq : K → K → Bool) (m : IndexMap K CellPlaces S) (i : ℕ) (key : K) (laws : IsEquivalence eq) (unique : IsUnique eq m) (s : StandsAt eq m i key) where
  key-same : (q : K) → eq key q ≡ eq s.found q
  key-same q = sym (laws.congr s.found key q s.same)

  -- what is written at the index is the list of each key that is the same
  written : (w : CellPlaces) (q : K) → get eq (with_value_at m i w) q ≡ cond (eq key q) (Some w) (get eq m q)
  written w q =
      (updates-with_value_at m i w laws unique s.found s.places s.entry).0 q
      ∙ ap (λ b. cond b (Some w) (get eq m q)) (sym (key-same q))

  -- and so is what stands there
  list-there : (q k : K) (v : CellPlaces) → eq key q ≡ true → slice_get m.entries i ≡ Some (k, v) → get eq m q ≡ Some v
  list-there q k v same at =
      let second : Option (K × CellPlaces) → Option CellPlaces = option_map (λ e. e.1) in
      sym (get-same eq m s.found q laws (sym (key-same q) ∙ same)) ∙ s.there ∙ ap second (sym s.entry ∙ at)

  list-written : (w : CellPlaces) → get eq (with_value_at m i w) key ≡ Some w
  list-written w = written w key ∙ ap (λ b. cond b (Some w) (get eq m key)) (laws.refl key)

  pub room-written : (w : CellPlaces) → has_room w → HasRoom eq (with_value_at m i w) key
  room-written w h = let P : Option CellPlaces → Type 0 = λ x. IsSomeAnd x has_room in subst P (sym (list-written w)) h

  pub room-there : (k : K) (v : CellPlaces) → slice_get m.entries i ≡ Some (k, v) → HasRoom eq m key → has_room v
  room-there k v at h = let P : Option CellPlaces → Type 0 = λ x. IsSomeAnd x has_room in subst P (list-there key k v (laws.refl key) at) h

  pub others-written : (w : CellPlaces) → KeepsOtherRoom eq m (with_value_at m i w) key
  others-written w q h room =
      let P : Option CellPlaces → Type 0 = λ x. IsSomeAnd x has_room in
      subst P (sym (written w q ∙ ap (λ b. cond b (Some w) (get eq m q)) h)) room

  pub rooms-written : (w : CellPlaces) → has_room w → KeepsRoom eq m (with_value_at m i w)
  rooms-written w h q room = let P : Option CellPlaces → Type 0 = λ x. IsSomeAnd x has_room in subst P (sym (written w q)) (by_key (eq key q))
    where
      by_key : (b : Bool) → IsSomeAnd (cond b (Some w) (get eq m q)) has_room
      by_key true = h
      by_key false = room

  module _ (k : K) (v w : CellPlaces) (at : slice_get m.entries i ≡ Some (k, v)) where
    pub pushes-written : (place : CellPlace) → w.items.items ≡ v.items.items ++ place ∷ [] → Pushes eq m (with_value_at m i w) key place
    pushes-written place more q = ap items_of (written w q) ∙ by_key (eq key q) refl
      where
        by_key : (b : Bool) → eq key q ≡ b → items_of (cond b (Some w) (get eq m q)) ≡ cond b (list_of eq m q ++ place ∷ []) (list_of eq m q)
        by_key true e = more ∙ ap (λ o. items_of o ++ place ∷ []) (sym (list-there q k v e at))
        by_key false e = refl

    pub keeps-written : w.items.items ≡ v.items.items → SameGroups eq m (with_value_at m i w)
    keeps-written same q = ap items_of (written w q) ∙ by_key (eq key q) refl
      where
        by_key : (b : Bool) → eq key q ≡ b → items_of (cond b (Some w) (get eq m q)) ≡ list_of eq m q
        by_key true e = same ∙ ap items_of (sym (list-there q k v e at))
        by_key false e = refl

    pub tidies-written : (cells : Slab Cell) → Tidies cells v.items.items w.items.items → TidiesGroups eq cells m (with_value_at m i w)
    tidies-written cells t q =
        let P : Option CellPlaces → Type 0 = λ x. Tidies cells (list_of eq m q) (items_of x) in
        subst P (sym (written w q)) (by_key (eq key q) refl)
      where
        by_key : (b : Bool) → eq key q ≡ b → Tidies cells (list_of eq m q) (items_of (cond b (Some w) (get eq m q)))
        by_key true e = let Q : Option CellPlaces → Type 0 = λ x. Tidies cells (items_of x) w.items.items in subst Q (sym (list-there q k v e at)) t
        by_key false e = inl refl

pub on_err_always : {X E P : Type 0} (r : Result X E) → P → OnErr r P
on_err_always (Ok x) p = tt
on_err_always (Err e) p = p
