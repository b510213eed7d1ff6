-- Steps along a list of properties.
use Rattle.std.proofs.Common.{◌≡◌, ℕ, zero, suc, ◌+◌, ◌<◌, ◌≤◌, List, [], ◌∷◌, ◌++◌, length, take, drop, get_or, inl, inr, refl, ap, sym, ◌∙◌, arith}
use Rattle.std.proofs.lemmas.List.{drop_more, take_more}
use Rattle.binding_graph.specs.declared.place.Place.{Place}
use Rattle.binding_graph.specs.Places.{In}

pub next-taken : (xs : List Place) (i : ℕ) (x : Place) → i < length xs → x ≡ get_or xs i x → take (i + 1) xs ≡ take i xs ++ x ∷ []
next-taken xs i x below is = take_more xs i x below ∙ ap (λ (y : Place). take i xs ++ y ∷ []) (sym is)

-- a member of the first ones is one, and one of all
pub in-take : (xs : List Place) (i : ℕ) (q : Place) → In q (take i xs) → In q xs
in-take [] zero q j = j
in-take [] (suc i) q j = j
in-take (x ∷ xs) zero q j = absurd j
in-take (x ∷ xs) (suc i) q (inl e) = inl e
in-take (x ∷ xs) (suc i) q (inr j) = inr (in-take xs i q j)

pub in-at : (xs : List Place) (i : ℕ) (x : Place) → i < length xs → x ≡ get_or xs i x → In x xs
in-at [] i x below is = absurd (omega arith)
in-at (y ∷ ys) zero x below is = inl (sym is)
in-at (y ∷ ys) (suc i) x below is = let less : i < length ys = omega (arith, below) in inr (in-at ys i x less is)

pub taken-places : (ps : List Place) (i : ℕ) → length ps ≤ i → take i ps ≡ ps
taken-places [] zero past = refl
taken-places [] (suc i) past = refl
taken-places (p ∷ ps) zero past = absurd (omega (arith, past))
taken-places (p ∷ ps) (suc i) past = let less : length ps ≤ i = omega (arith, past) in ap (λ (qs : List Place). p ∷ qs) (taken-places ps i less)

-- what is left begins with the element that is looked at
pub next-is : (xs : List Place) (i : ℕ) (x : Place) → i < length xs → x ≡ get_or xs i x → drop i xs ≡ x ∷ drop (i + 1) xs
next-is xs i x below is = drop_more xs i x below ∙ ap (λ (y : Place). y ∷ drop (i + 1) xs) (sym is)
