-- Some of a list's numbers, put into a set one after the other.
use Rattle.std.proofs.Common.{◌≡◌, ℕ, zero, suc, ◌+◌, ◌<◌, ◌≤◌, ◌||◌, ◌&&◌, Bool, true, false, cond, eqb, List, [], ◌∷◌, ◌++◌, length, take, get_or, inl, inr, refl, ap, sym, ◌∙◌, arith}
use Rattle.std.specs.List.{list_any}
use Rattle.std.proofs.lemmas.Bool.{cases_Bool, eq-eqb, ne_eqb, eqb-true, false≢true}
use Rattle.std.proofs.lemmas.List.{take_more}
use Rattle.std.proofs.lemmas.List.Folds.{list_any-append}
use Rattle.indexmap.specs.IndexSet.{IndexSet, contains, index_set_len}

or-true : (b : Bool) → (b || true) ≡ true
or-true true = refl
or-true false = refl

or-false : (b : Bool) → (b || false) ≡ b
or-false true = refl
or-false false = refl

and-false : (b : Bool) → (b && false) ≡ false
and-false true = refl
and-false false = refl

module _ (xs : List ℕ) where
  abbrev among : ℕ → List ℕ → Bool
  among o ys = list_any (λ k. eqb o k) ys

  pub noted-none : (test : ℕ → Bool) (o : ℕ) → (among o (take 0 xs) && test o) ≡ false
  noted-none test o = none xs
    where
      none : (ys : List ℕ) → (among o (take 0 ys) && test o) ≡ false
      none [] = refl
      none (y ∷ ys) = refl

  module _ (i x : ℕ) (below : i < length xs) (is : x ≡ get_or xs i x) where
    step : (o : ℕ) → among o (take (i + 1) xs) ≡ (among o (take i xs) || (eqb o x || false))
    step o = ap (list_any (λ k. eqb o k)) (take_more xs i x below ∙ ap (λ (y : ℕ). take i xs ++ y ∷ []) (sym is)) ∙ list_any-append (λ k. eqb o k) (take i xs) (x ∷ [])

    module _ (test old : ℕ → Bool) (was : (o : ℕ) → old o ≡ (among o (take i xs) && test o)) where
      other : (o : ℕ) → eqb x o ≡ false → (among o (take i xs) && test o) ≡ (among o (take (i + 1) xs) && test o)
      other o f =
          let turned : eqb o x ≡ false = ne_eqb o x (λ e. false≢true (sym f ∙ eq-eqb x o (sym e))) in
          ap (λ (b : Bool). b && test o) (sym (step o ∙ ap (λ (b : Bool). among o (take i xs) || (b || false)) turned ∙ or-false (among o (take i xs))))

      pub noted-skip : test x ≡ false → (o : ℕ) → old o ≡ (among o (take (i + 1) xs) && test o)
      noted-skip out o = elim (cases_Bool (eqb x o)) [
        | inl t ↦
            let none : test o ≡ false = ap test (sym (eqb-true x o t)) ∙ out in
            was o ∙ ap (λ (b : Bool). among o (take i xs) && b) none ∙ and-false (among o (take i xs))
            ∙ sym (ap (λ (b : Bool). among o (take (i + 1) xs) && b) none ∙ and-false (among o (take (i + 1) xs)))
        | inr f ↦ was o ∙ other o f
      ]

      pub noted-more : (new : ℕ → Bool) → test x ≡ true → ((o : ℕ) → new o ≡ cond (eqb x o) true (old o)) → (o : ℕ) → new o ≡ (among o (take (i + 1) xs) && test o)
      noted-more new in_it now o = elim (cases_Bool (eqb x o)) [
        | inl t ↦
            let same : x ≡ o = eqb-true x o t in
            let here : test o ≡ true = ap test (sym same) ∙ in_it in
            now o ∙ ap (λ (b : Bool). cond b true (old o)) t
            ∙ sym (ap (λ (b : Bool). b && test o) (step o ∙ ap (λ (b : Bool). among o (take i xs) || (b || false)) (eq-eqb o x (sym same)) ∙ or-true (among o (take i xs))) ∙ here)
        | inr f ↦ now o ∙ ap (λ (b : Bool). cond b true (old o)) f ∙ was o ∙ other o f
      ]

pub take-past : (xs : List ℕ) (i : ℕ) → length xs ≤ i → take i xs ≡ xs
take-past [] zero past = refl
take-past [] (suc i) past = refl
take-past (x ∷ xs) zero past = absurd (omega (arith, past))
take-past (x ∷ xs) (suc i) past = let less : length xs ≤ i = omega (arith, past) in ap (λ (ys : List ℕ). x ∷ ys) (take-past xs i less)

-- nothing is in a set that is empty
pub none-in : {S : Type 0} (set : IndexSet ℕ S) → index_set_len set ≡ 0 → (o : ℕ) → contains eqb set o ≡ false
none-in set z o = of-keys set.keys z
  where
    of-keys : (ks : List ℕ) → length ks ≡ 0 → list_any (eqb o) ks ≡ false
    of-keys [] z = refl
    of-keys (k ∷ ks) z = absurd (omega (arith, z))
