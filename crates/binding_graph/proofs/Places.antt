-- Properties of objects, by their places.
use Rattle.std.proofs.Common.{◌≡◌, ℕ, ◌||◌, Bool, true, false, cond, List, [], ◌∷◌, ◌++◌, ◌⊎◌, inl, inr, Option, ap, sym, ◌∙◌, subst, arith}
use Rattle.std.proofs.lemmas.Bool.{false≢true, cases_Bool, or_parts}
use Rattle.std.proofs.lemmas.Bool.Decides.{nat_tests}
use Rattle.basic_types.specs.declared.value.Value.{Value}
use Rattle.binding_graph.specs.declared.place.Place.{Place}
use Rattle.binding_graph.specs.Places.{same_place, is_in, In}
use Rattle.binding_graph.specs.code.Orders.{update}

pub same_place-true : (p q : Place) → same_place p q ≡ true → p ≡ q
same_place-true p q h = let a : p.object ≡ q.object = grind (arith, nat_tests) in let b : p.property ≡ q.property = grind (arith, nat_tests) in
    let place : ℕ → ℕ → Place = λ x y. record { object = x; property = y } in
    ap (λ (x : ℕ). place x p.property) a ∙ ap (λ (y : ℕ). place q.object y) b

pub same_place-refl : (p : Place) → same_place p p ≡ true
same_place-refl p = grind (arith, nat_tests)

pub decide_place : (p q : Place) → (p ≡ q) ⊎ (same_place p q ≡ false)
decide_place p q = elim (cases_Bool (same_place p q)) [ inl t ↦ inl (same_place-true p q t) | inr f ↦ inr f ]

pub decide_in : (p : Place) (qs : List Place) → In p qs ⊎ (In p qs → ⊥)
decide_in p [] = inr (λ h. h)
decide_in p (q ∷ qs) =
    elim (decide_place q p) [
      | inl e ↦ inl (inl e)
      | inr f ↦ elim (decide_in p qs) [
        | inl h ↦ inl (inr h)
        | inr out ↦ inr (λ h. elim h [ inl e ↦ false≢true (sym f ∙ subst (λ (x : Place). same_place q x ≡ true) e (same_place-refl q)) | inr i ↦ out i ])
      ]
    ]

pub different : (p q : Place) → (p ≡ q → ⊥) → same_place p q ≡ false
different p q apart = elim (decide_place p q) [ inl h ↦ absurd (apart h) | inr f ↦ f ]

pub In-left : (p : Place) (xs ys : List Place) → In p xs → In p (xs ++ ys)
In-left p [] ys h = absurd h
In-left p (x ∷ xs) ys (inl e) = inl e
In-left p (x ∷ xs) ys (inr h) = inr (In-left p xs ys h)

pub In-right : (p : Place) (xs ys : List Place) → In p ys → In p (xs ++ ys)
In-right p [] ys h = h
In-right p (x ∷ xs) ys h = inr (In-right p xs ys h)

pub In-cases : (p : Place) (xs ys : List Place) → In p (xs ++ ys) → In p xs ⊎ In p ys
In-cases p [] ys h = inr h
In-cases p (x ∷ xs) ys (inl e) = inl (inl e)
In-cases p (x ∷ xs) ys (inr h) = elim (In-cases p xs ys h) [ inl i ↦ inl (inr i) | inr i ↦ inr i ]

pub is_in-true : (qs : List Place) (p : Place) → is_in qs p ≡ true → In p qs
is_in-true [] p h = absurd (false≢true h)
is_in-true (q ∷ qs) p h = elim (decide_place q p) [ inl e ↦ inl e | inr f ↦ inr (is_in-true qs p (sym (ap (λ (b : Bool). b || is_in qs p) f) ∙ h)) ]

pub is_in-false : (qs : List Place) (p : Place) → is_in qs p ≡ false → In p qs → ⊥
is_in-false [] p h i = i
is_in-false (q ∷ qs) p h (inl e) = false≢true (sym (or_parts (same_place q p) (is_in qs p) h).0 ∙ (subst (λ (y : Place). same_place q y ≡ true) e (same_place-refl q)))
is_in-false (q ∷ qs) p h (inr i) = is_in-false qs p (or_parts (same_place q p) (is_in qs p) h).1 i

-- values of properties

pub update-same : (e : Place → Option Value) (p : Place) (v : Option Value) → update e p v p ≡ v
update-same e p v = ap (λ (b : Bool). cond b v (e p)) (same_place-refl p)

pub update-other : (e : Place → Option Value) (p : Place) (v : Option Value) (q : Place) → (p ≡ q → ⊥) → update e p v q ≡ e q
update-other e p v q apart = elim (decide_place p q) [ inl h ↦ absurd (apart h) | inr f ↦ ap (λ (b : Bool). cond b v (e q)) f ]
