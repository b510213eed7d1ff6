-- Lists that are made element by element.
use Rattle.std.proofs.Common.{◌≡◌, ℕ, zero, suc, ◌<◌, ◌+◌, List, [], ◌∷◌, ◌++◌, length, get_or, slice_get, take, Any, Option, None, Some, MatchOption, refl, sym, ap, ◌∙◌, subst}
use Rattle.std.specs.List.{AllZip}
use Rattle.std.proofs.lemmas.List.{take_more}
use Rattle.std.proofs.lemmas.Option.{slice_get_within, get_or_from_slice_get, none-some, same_Some}
use Rattle.name_indexes.specs.Places.{StandsAt}
use Rattle.name_indexes.proofs.Searches.{met}

module _ {A B : Type 0} (R : A → B → Type 0) where
  pub zip_append : (xs us : List A) (ys vs : List B) → AllZip R xs ys → AllZip R us vs → AllZip R (xs ++ us) (ys ++ vs)
  zip_append [] us [] vs h k = k
  zip_append [] us (y ∷ ys) vs h k = absurd h
  zip_append (x ∷ xs) us [] vs h k = absurd h
  zip_append (x ∷ xs) us (y ∷ ys) vs h k = (h.0, zip_append xs us ys vs h.1 k)

  -- one element more
  pub zip_more : (xs : List A) (ys : List B) (i : ℕ) (x : A) (y : B) → i < length xs → x ≡ get_or xs i x → R x y → AllZip R (take i xs) ys → AllZip R (take (i + 1) xs) (ys ++ y ∷ [])
  zip_more xs ys i x y inside is r before =
      subst (λ us. AllZip R us (ys ++ y ∷ [])) (sym (take_more xs i x inside)) (zip_append (take i xs) (get_or xs i x ∷ []) ys (y ∷ []) before (subst (λ v. R v y) is r, tt))

  pub zip_push : (xs : List A) (ys zs : List B) (i : ℕ) (x : A) (y : B) → i < length xs → x ≡ get_or xs i x → R x y → AllZip R (take i xs) ys → zs ≡ ys ++ y ∷ [] → AllZip R (take (i + 1) xs) zs
  zip_push xs ys zs i x y inside is r before e = subst (λ us. AllZip R (take (i + 1) xs) us) (sym e) (zip_more xs ys i x y inside is r before)

-- a search that found nothing
pub lacks : {Y : Type 0} (P : Type 0) (Q : Y → Type 0) (o : Option Y) → o ≡ None → P → MatchOption o P Q
lacks P Q None e p = p
lacks P Q (Some y) e p = absurd (cc)

module _ {A : Type 0} (P : A → Type 0) (xs : List A) where
  pub any_of : (i : ℕ) → StandsAt P xs i → Any P xs
  any_of i at = (i, at.item, slice_get_within xs i at.item at.is, get_or_from_slice_get xs i at.item at.item at.is, at.has)

  pub place_of_any : Any P xs → (i : ℕ) × StandsAt P xs i
  place_of_any any = (any.0, met P xs any.0 any.1 any.2 (sym any.3) any.4)

module _ {A B : Type 0} (R : A → B → Type 0) where
  -- the element that is at the same place in the other list
  pub zip_left : (xs : List A) (ys : List B) → AllZip R xs ys → (i : ℕ) (x : A) → slice_get xs i ≡ Some x → (y : B) × (slice_get ys i ≡ Some y) × R x y
  zip_left [] ys h i x e = absurd (none-some x e)
  zip_left (a ∷ xs) [] h i x e = absurd h
  zip_left (a ∷ xs) (b ∷ ys) h zero x e = (b, refl, subst (λ v. R v b) (same_Some _ _ e) h.0)
  zip_left (a ∷ xs) (b ∷ ys) h (suc i) x e = zip_left xs ys h.1 i x e

  pub zip_right : (xs : List A) (ys : List B) → AllZip R xs ys → (i : ℕ) (y : B) → slice_get ys i ≡ Some y → (x : A) × (slice_get xs i ≡ Some x) × R x y
  zip_right xs [] h i y e = absurd (none-some y e)
  zip_right [] (b ∷ ys) h i y e = absurd h
  zip_right (a ∷ xs) (b ∷ ys) h zero y e = (a, refl, subst (λ v. R a v) (same_Some _ _ e) h.0)
  zip_right (a ∷ xs) (b ∷ ys) h (suc i) y e = zip_right xs ys h.1 i y e

  -- what no element of a pair has, no element of the first list has
  pub none_of_zip : (P : A → Type 0) (xs : List A) (ys : List B) → AllZip R xs ys → ((x : A) (y : B) → R x y → ¬ P x) → ¬ Any P xs
  none_of_zip P xs ys h not any =
      let at = place_of_any P xs any in
      let pair = zip_left xs ys h at.0 at.1.item at.1.is in
      not at.1.item pair.0 pair.2 at.1.has

module _ {A : Type 0} where
  -- a place in two lists in a row
  pub get_front : (xs ys : List A) (i : ℕ) (x : A) → slice_get xs i ≡ Some x → slice_get (xs ++ ys) i ≡ Some x
  get_front [] ys i x e = absurd (none-some x e)
  get_front (a ∷ xs) ys zero x e = e
  get_front (a ∷ xs) ys (suc i) x e = get_front xs ys i x e

  pub get_back : (xs ys : List A) (i : ℕ) (x : A) → slice_get ys i ≡ Some x → (j : ℕ) × (slice_get (xs ++ ys) j ≡ Some x)
  get_back [] ys i x e = (i, e)
  get_back (a ∷ xs) ys i x e = let r = get_back xs ys i x e in (suc r.0, r.1)

module _ {A B : Type 0} (R : A → B → Type 0) where
  -- a list that relates to two lists in a row
  pub zip_split : (xs us : List A) (zs : List B) → AllZip R (xs ++ us) zs → (ys : List B) × (vs : List B) × (zs ≡ ys ++ vs) × AllZip R xs ys × AllZip R us vs
  zip_split [] us zs h = ([], zs, refl, tt, h)
  zip_split (x ∷ xs) us [] h = absurd h
  zip_split (x ∷ xs) us (z ∷ zs) h =
      let rest = zip_split xs us zs h.1 in
      (z ∷ rest.0, rest.1, ap (λ r. z ∷ r) rest.2, (h.0, rest.3), rest.4)

-- what relates in one way relates in another
pub zip_also : {A B : Type 0} (R S : A → B → Type 0) (xs : List A) (ys : List B) → ((x : A) (y : B) → R x y → S x y) → AllZip R xs ys → AllZip S xs ys
zip_also R S [] [] f h = tt
zip_also R S [] (y ∷ ys) f h = absurd h
zip_also R S (x ∷ xs) [] f h = absurd h
zip_also R S (x ∷ xs) (y ∷ ys) f h = (f x y h.0, zip_also R S xs ys f h.1)

-- two relations that give the same for each element
pub same_zip_by : {A B : Type 0} (R S : A → B → Type 0) (xs : List A) (ys zs : List B) → ((i : ℕ) (x : A) → slice_get xs i ≡ Some x → (y z : B) → R x y → S x z → y ≡ z) → AllZip R xs ys → AllZip S xs zs → ys ≡ zs
same_zip_by R S [] [] [] f h k = refl
same_zip_by R S [] [] (z ∷ zs) f h k = absurd k
same_zip_by R S [] (y ∷ ys) zs f h k = absurd h
same_zip_by R S (x ∷ xs) [] zs f h k = absurd h
same_zip_by R S (x ∷ xs) (y ∷ ys) [] f h k = absurd k
same_zip_by R S (x ∷ xs) (y ∷ ys) (z ∷ zs) f h k =
    ap (λ v. v ∷ ys) (f 0 x refl y z h.0 k.0) ∙ ap (λ vs. z ∷ vs) (same_zip_by R S xs ys zs (λ i. f (suc i)) h.1 k.1)

-- what relates in two ways relates in both
pub zip_both : {A B : Type 0} (R S : A → B → Type 0) (xs : List A) (ys : List B) → AllZip R xs ys → AllZip S xs ys → AllZip (λ x y. R x y × S x y) xs ys
zip_both R S [] [] h k = tt
zip_both R S [] (y ∷ ys) h k = absurd h
zip_both R S (x ∷ xs) [] h k = absurd h
zip_both R S (x ∷ xs) (y ∷ ys) h k = ((h.0, k.0), zip_both R S xs ys h.1 k.1)
