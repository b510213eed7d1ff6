-- Objects among others, one by one.
use Rattle.std.proofs.Common.{◌≡◌, ℕ, zero, suc, ◌+◌, ◌<◌, ◌≤◌, ◌||◌, ◌⊎◌, Bool, true, false, eqb, List, [], ◌∷◌, ◌++◌, length, take, get_or, inl, inr, refl, ap, sym, ◌∙◌, subst, arith}
use Rattle.std.proofs.lemmas.Bool.{cases_Bool, eqb-true, false≢true}
use Rattle.std.proofs.lemmas.List.{take_more}
use Rattle.meta_model.specs.Among.{is_among}

among-more : (o : ℕ) (xs : List ℕ) (x : ℕ) → is_among o (xs ++ x ∷ []) ≡ true → (is_among o xs ≡ true) ⊎ (x ≡ o)
among-more o [] x is = elim (cases_Bool (eqb x o)) [
  | inl t ↦ inr (eqb-true x o t)
  | inr f ↦ absurd (false≢true (sym (ap (λ (b : Bool). b || false) f) ∙ is))
]
among-more o (y ∷ ys) x is = elim (cases_Bool (eqb y o)) [
  | inl t ↦ inl (ap (λ (b : Bool). b || is_among o ys) t)
  | inr f ↦ elim (among-more o ys x (sym (ap (λ (b : Bool). b || is_among o (ys ++ x ∷ [])) f) ∙ is)) [
    | inl h ↦ inl (ap (λ (b : Bool). b || is_among o ys) f ∙ h)
    | inr e ↦ inr e
  ]
]

pub among-next : (o : ℕ) (xs : List ℕ) (i x : ℕ) → i < length xs → x ≡ get_or xs i x → is_among o (take (i + 1) xs) ≡ true → (is_among o (take i xs) ≡ true) ⊎ (x ≡ o)
among-next o xs i x below is among = among-more o (take i xs) x (ap (is_among o) (sym (take_more xs i x below ∙ ap (λ (y : ℕ). take i xs ++ y ∷ []) (sym is))) ∙ among)

pub among-all : (xs : List ℕ) (i : ℕ) → length xs ≤ i → take i xs ≡ xs
among-all [] zero past = refl
among-all [] (suc i) past = refl
among-all (x ∷ xs) zero past = absurd (omega (arith, past))
among-all (x ∷ xs) (suc i) past = let less : length xs ≤ i = omega (arith, past) in ap (λ (ys : List ℕ). x ∷ ys) (among-all xs i less)
