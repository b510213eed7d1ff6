-- Lists of which some element has a property.
use Rattle.std.proofs.Common.{◌≡◌, ℕ, zero, suc, Option, Some, None, List, [], ◌∷◌, ◌++◌, Any, ◌⊎◌, inl, inr, refl, sym, subst}
use Rattle.std.proofs.lemmas.Option.{none-some, same_Some}
use Rattle.name_indexes.specs.LookUps.{Tells}
use Rattle.name_indexes.specs.Places.{StandsAt}
use Rattle.name_indexes.proofs.Once.{get_split_at}
use Rattle.name_indexes.proofs.Zips.{any_of, place_of_any, get_front, get_back}

module _ {X : Type 0} (P : X → Type 0) where
  pub any_none : ¬ Any P []
  any_none any = let at = place_of_any P [] any in none-some at.1.item at.1.is

  pub any_one : (x : X) → P x → Any P (x ∷ [])
  any_one x has = any_of P (x ∷ []) 0 (record { item = x; is = refl; has = has })

  pub of_one : (x : X) → Any P (x ∷ []) → P x
  of_one x any = by at.0 at.1
    where
      at : (i : ℕ) × StandsAt P (x ∷ []) i
      at = place_of_any P (x ∷ []) any

      by : (i : ℕ) → StandsAt P (x ∷ []) i → P x
      by zero h = subst P (sym (same_Some _ _ h.is)) h.has
      by (suc i) h = absurd (none-some h.item h.is)

  pub any_front : (xs ys : List X) → Any P xs → Any P (xs ++ ys)
  any_front xs ys any =
      let at = place_of_any P xs any in
      any_of P (xs ++ ys) at.0 (record { item = at.1.item; is = get_front xs ys at.0 at.1.item at.1.is; has = at.1.has })

  pub any_back : (xs ys : List X) → Any P ys → Any P (xs ++ ys)
  any_back xs ys any =
      let at = place_of_any P ys any in
      let later = get_back xs ys at.0 at.1.item at.1.is in
      any_of P (xs ++ ys) later.0 (record { item = at.1.item; is = later.1; has = at.1.has })

  pub any_part : (xs ys : List X) → Any P (xs ++ ys) → Any P xs ⊎ Any P ys
  any_part xs ys any =
      let at = place_of_any P (xs ++ ys) any in
      elim (get_split_at xs ys at.0 at.1.item at.1.is) [
        | inl is ↦ inl (any_of P xs at.0 (record { item = at.1.item; is = is; has = at.1.has }))
        | inr r ↦ inr (any_of P ys r.0 (record { item = at.1.item; is = r.2; has = at.1.has }))
      ]

  -- .. in the second of two lists in a row, where none is in the first
  pub tells_back : (zs xs ys : List X) → zs ≡ xs ++ ys → ¬ Any P xs → {Y : Type 0} (r : Option Y) → Tells (Any P ys) r → Tells (Any P zs) r
  tells_back zs xs ys e none None h = λ any. elim (any_part xs ys (subst (λ us. Any P us) e any)) [ inl front ↦ none front | inr back ↦ h back ]
  tells_back zs xs ys e none (Some y) h = subst (λ us. Any P us) (sym e) (any_back xs ys h)
