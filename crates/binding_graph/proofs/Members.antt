-- Properties that are named under keys.
use Rattle.std.proofs.Common.{◌≡◌, ℕ, zero, suc, ◌+◌, ◌<◌, ◌≤◌, ◌⊎◌, ◌||◌, ◌&&◌, Bool, true, false, cond, eqb, List, [], ◌∷◌, ◌++◌, map, length, take, drop, get_or, inl, inr, refl, ap, sym, ◌∙◌, subst, arith, if◌then◌else◌}
use Rattle.std.specs.List.{list_any}
use Rattle.std.proofs.lemmas.Bool.{cases_Bool, eqb-true, eq-eqb, false≢true}
use Rattle.std.proofs.lemmas.List.{take_more, drop_more}
use Rattle.binding_graph.specs.declared.place.Place.{Place}
use Rattle.binding_graph.specs.Places.{In, property_of}
use Rattle.binding_graph.specs.code.Keys.{key_of, same_key}
use Rattle.binding_graph.specs.code.Lists.{is_key_in, place_at}
use Rattle.binding_graph.proofs.Keyed.{key-same, key-refl, key-places}

-- ---- one list
pub in-places : (ks : List (ℕ × ℕ)) (q : Place) → is_key_in (key_of q) ks ≡ true → In q (map place_at ks)
in-places [] q h = absurd (false≢true h)
in-places (k ∷ ks) q h = elim (cases_Bool (same_key (key_of q) k)) [
  | inl t ↦ inl (ap place_at (sym (key-same (key_of q) k t)))
  | inr f ↦ inr (in-places ks q (sym (ap (λ (b : Bool). b || is_key_in (key_of q) ks) f) ∙ h))
]

pub none-has : (ks : List (ℕ × ℕ)) (k : ℕ × ℕ) → length ks ≡ 0 → is_key_in k ks ≡ true → ⊥
none-has [] k z h = false≢true h
none-has (x ∷ xs) k z h = absurd (omega (arith, z))

-- the first ones and the next
pub key-taken : (ks : List (ℕ × ℕ)) (i : ℕ) (d : ℕ × ℕ) (p : Place) → p ≡ place_at (get_or ks i d) → i < length ks → map place_at (take (i + 1) ks) ≡ map place_at (take i ks) ++ p ∷ []
key-taken ks i d p is below =
    ap (map place_at) (take_more ks i d below) ∙ more (take i ks) ∙ ap (λ (x : Place). map place_at (take i ks) ++ x ∷ []) (sym is)
  where
    more : (xs : List (ℕ × ℕ)) → map place_at (xs ++ get_or ks i d ∷ []) ≡ map place_at xs ++ place_at (get_or ks i d) ∷ []
    more [] = refl
    more (x ∷ xs) = ap (λ (ps : List Place). place_at x ∷ ps) (more xs)

pub keys-taken : (ks : List (ℕ × ℕ)) (i : ℕ) → length ks ≤ i → take i ks ≡ ks
keys-taken [] zero past = refl
keys-taken [] (suc i) past = refl
keys-taken (k ∷ ks) zero past = absurd (omega (arith, past))
keys-taken (k ∷ ks) (suc i) past = let less : length ks ≤ i = omega (arith, past) in ap (λ (xs : List (ℕ × ℕ)). k ∷ xs) (keys-taken ks i less)

-- what is in the rest is the next one or in the rest behind it
pub key-next : (ks : List (ℕ × ℕ)) (i : ℕ) (d x : ℕ × ℕ) (p : Place) → p ≡ place_at (get_or ks i d) → i < length ks → is_key_in x (drop i ks) ≡ true → (is_key_in x (drop (i + 1) ks) ≡ true) ⊎ (p ≡ place_at x)
key-next ks i d x p is below h = elim (cases_Bool (same_key x (get_or ks i d))) [
  | inl t ↦ inr (is ∙ ap place_at (sym (key-same x (get_or ks i d) t)))
  | inr f ↦ inl (sym (ap (λ (b : Bool). b || is_key_in x (drop (i + 1) ks)) f) ∙ sym (ap (is_key_in x) (drop_more ks i d below)) ∙ h)
]

-- ---- lists by key, where one changes
module _ {K : Type 0} (eq : K → K → Bool) (same : (a b : K) → eq a b ≡ true → a ≡ b) (old new : K → ℕ × ℕ → Bool) (key : K) (place : ℕ × ℕ) where
  module _ (is : (q : K) (k : ℕ × ℕ) → new q k ≡ (if eq key q then cond (same_key place k) true (old key k) else old q k)) where
    pub added-kept : (q : K) (k : ℕ × ℕ) → old q k ≡ true → new q k ≡ true
    added-kept q k h = is q k ∙ by_test (eq key q) refl
      where
        by_key : (b : Bool) {more : Bool} → more ≡ true → cond b true more ≡ true
        by_key true rest = refl
        by_key false rest = rest

        by_test : (b : Bool) → eq key q ≡ b → (if b then cond (same_key place k) true (old key k) else old q k) ≡ true
        by_test true t = by_key (same_key place k) (ap (λ (r : K). old r k) (same key q t) ∙ h)
        by_test false f = h

    pub added-here : eq key key ≡ true → new key place ≡ true
    added-here here =
        is key place
        ∙ ap (λ (b : Bool). if b then cond (same_key place place) true (old key place) else old key place) here
        ∙ ap (λ (b : Bool). cond b true (old key place)) (key-refl place)

  pub forgotten-kept : ((q : K) (k : ℕ × ℕ) → new q k ≡ (if eq key q then cond (same_key place k) false (old key k) else old q k)) → (q : K) (k : ℕ × ℕ) → old q k ≡ true → (new q k ≡ true) ⊎ ((key ≡ q) × (place ≡ k))
  forgotten-kept is q k h = by_test (eq key q) refl (is q k)
    where
      by_key : (b : Bool) → same_key place k ≡ b → key ≡ q → new q k ≡ cond b false (old key k) → (new q k ≡ true) ⊎ ((key ≡ q) × (place ≡ k))
      by_key true t e now = inr (e, key-same place k t)
      by_key false f e now = inl (now ∙ ap (λ (r : K). old r k) e ∙ h)

      by_test : (b : Bool) → eq key q ≡ b → new q k ≡ (if b then cond (same_key place k) false (old key k) else old q k) → (new q k ≡ true) ⊎ ((key ≡ q) × (place ≡ k))
      by_test true t now = by_key (same_key place k) refl (same key q t) now
      by_test false f now = inl (now ∙ h)

  pub cleared-kept : ((q : K) (k : ℕ × ℕ) → new q k ≡ (if eq key q then false else old q k)) → (q : K) (k : ℕ × ℕ) → eq key q ≡ false → old q k ≡ true → new q k ≡ true
  cleared-kept is q k f h = is q k ∙ ap (λ (b : Bool). if b then false else old q k) f ∙ h
