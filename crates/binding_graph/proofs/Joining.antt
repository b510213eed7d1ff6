-- Bindings that join objects with others are among those that are named under the objects.
use Rattle.std.proofs.Common.{◌≡◌, ℕ, suc, ◌+◌, ◌<◌, arith, take, get_or, length, eqb, ◌||◌, ◌&&◌, not, cond, Bool, true, false, List, [], ◌∷◌, ◌++◌, Option, None, inl, inr, Some, refl, ap, sym, ◌∙◌}
use Rattle.std.specs.Prelude.{slice_get}
use Rattle.std.specs.List.{list_any}
use Rattle.std.proofs.lemmas.Bool.{cases_Bool, and_parts, eq-eqb, eqb-true, false≢true, ne_eqb}
use Rattle.std.proofs.lemmas.List.{take_more}
use Rattle.std.proofs.lemmas.Option.{same_Some}
use Rattle.indexmap.specs.IndexSet.{IndexSet, contains}
use Rattle.meta_model.specs.Among.{is_among}
use Rattle.binding_graph.specs.declared.binding.Binding.{Binding}
use Rattle.binding_graph.specs.declared.graph.Graph.{Graph}
use Rattle.binding_graph.specs.declared.place.Place.{Place}
use Rattle.binding_graph.specs.Bindings.{binding_at, touches, joined_by, leads_out, lead_out}
use Rattle.binding_graph.specs.Places.{same_place}
use Rattle.binding_graph.specs.code.Graph.{IsGraph, bindings_of, target_keys}
use Rattle.binding_graph.specs.code.Keys.{key_of, same_key}
use Rattle.binding_graph.specs.code.Lists.{is_key_in, place_at}
use Rattle.binding_graph.specs.code.Touched.{AreTouchedAmong, has_any, lead_out_touched, leads_out_at, leads_out_by, leads_out_of}
use Rattle.binding_graph.proofs.Dropping.{found-at}
use Rattle.binding_graph.proofs.Keyed.{key-same}

pub and-true : (a : Bool) → (a && true) ≡ a
and-true true = refl
and-true false = refl

and-false : (a : Bool) → (a && false) ≡ false
and-false true = refl
and-false false = refl

or-false : (a : Bool) → (a || false) ≡ a
or-false true = refl
or-false false = refl

or-true : (a : Bool) → (a || true) ≡ true
or-true true = refl
or-true false = refl

or-right : (a : Bool) {b : Bool} → b ≡ true → (a || b) ≡ true
or-right true h = refl
or-right false h = h

both-ways : (a b : Bool) → (a ≡ true → b ≡ true) → (b ≡ true → a ≡ true) → a ≡ b
both-ways true b there back = sym (there refl)
both-ways false true there back = back refl
both-ways false false there back = refl

-- ---- those of some objects that bindings touch, one by one
module _ (objects : List ℕ) where
  pub noted-none : (test : ℕ → Bool) (o : ℕ) → (is_among o (take 0 objects) && test o) ≡ false
  noted-none test o = none objects
    where
      none : (os : List ℕ) → (is_among o (take 0 os) && test o) ≡ false
      none [] = refl
      none (x ∷ xs) = refl

  module _ (i x : ℕ) (below : i < length objects) (is : x ≡ get_or objects i x) where
    among-push : (o : ℕ) (os : List ℕ) → is_among o (os ++ x ∷ []) ≡ (is_among o os || eqb x o)
    among-push o [] = or-false (eqb x o)
    among-push o (k ∷ ks) = by_test (eqb k o) (among-push o ks)
      where
        by_test : (b : Bool) → is_among o (ks ++ x ∷ []) ≡ (is_among o ks || eqb x o) → (b || is_among o (ks ++ x ∷ [])) ≡ ((b || is_among o ks) || eqb x o)
        by_test true rest = refl
        by_test false rest = rest

    among-step : (o : ℕ) → is_among o (take (i + 1) objects) ≡ (is_among o (take i objects) || eqb x o)
    among-step o = ap (is_among o) (take_more objects i x below ∙ ap (λ (y : ℕ). take i objects ++ y ∷ []) (sym is)) ∙ among-push o (take i objects)

    module _ (test old : ℕ → Bool) (was : (o : ℕ) → old o ≡ (is_among o (take i objects) && test o)) where
      other : (o : ℕ) → eqb x o ≡ false → (is_among o (take i objects) && test o) ≡ (is_among o (take (i + 1) objects) && test o)
      other o f = ap (λ (b : Bool). b && test o) (sym (among-step o ∙ ap (λ (b : Bool). is_among o (take i objects) || b) f ∙ or-false (is_among o (take i objects))))

      pub noted-skip : test x ≡ false → (o : ℕ) → old o ≡ (is_among o (take (i + 1) objects) && test o)
      noted-skip out o = elim (cases_Bool (eqb x o)) [
        | inl t ↦
            let none : test o ≡ false = ap test (sym (eqb-true x o t)) ∙ out in
            was o ∙ ap (λ (b : Bool). is_among o (take i objects) && b) none ∙ and-false (is_among o (take i objects))
            ∙ sym (ap (λ (b : Bool). is_among o (take (i + 1) objects) && b) none ∙ and-false (is_among o (take (i + 1) objects)))
        | inr f ↦ was o ∙ other o f
      ]

      pub noted-more : (new : ℕ → Bool) → test x ≡ true → ((o : ℕ) → new o ≡ cond (eqb x o) true (old o)) → (o : ℕ) → new o ≡ (is_among o (take (i + 1) objects) && test o)
      noted-more new in_it now o = elim (cases_Bool (eqb x o)) [
        | inl t ↦
            let here : test o ≡ true = ap test (sym (eqb-true x o t)) ∙ in_it in
            now o ∙ ap (λ (b : Bool). cond b true (old o)) t
            ∙ sym (ap (λ (b : Bool). b && test o) (among-step o ∙ ap (λ (b : Bool). is_among o (take i objects) || b) t ∙ or-true (is_among o (take i objects))) ∙ here)
        | inr f ↦ now o ∙ ap (λ (b : Bool). cond b true (old o)) f ∙ was o ∙ other o f
      ]

-- ---- some of a list
any-some : {X : Type 0} (f : X → Bool) (xs : List X) → list_any f xs ≡ true → (x : X) × (f x ≡ true)
any-some f [] h = absurd (false≢true h)
any-some f (x ∷ xs) h = elim (cases_Bool (f x)) [
  | inl t ↦ (x, t)
  | inr g ↦ any-some f xs (sym (ap (λ (b : Bool). b || list_any f xs) g) ∙ h)
]

any-at : (f : Binding → Bool) (xs : List Binding) → list_any f xs ≡ true → (i : ℕ) × (b : Binding) × (slice_get xs i ≡ Some b) × (f b ≡ true)
any-at f [] h = absurd (false≢true h)
any-at f (x ∷ xs) h = elim (cases_Bool (f x)) [
  | inl t ↦ (0, x, refl, t)
  | inr g ↦ (let rest = any-at f xs (sym (ap (λ (b : Bool). b || list_any f xs) g) ∙ h) in (suc rest.0, rest.1, rest.2, rest.3))
]

any-among : (f : ℕ → Bool) (xs : List ℕ) → list_any f xs ≡ true → (o : ℕ) × (is_among o xs ≡ true) × (f o ≡ true)
any-among f [] h = absurd (false≢true h)
any-among f (x ∷ xs) h = elim (cases_Bool (f x)) [
  | inl t ↦ (x, ap (λ (b : Bool). b || is_among x xs) (eq-eqb x x refl), t)
  | inr g ↦ (let rest = any-among f xs (sym (ap (λ (b : Bool). b || list_any f xs) g) ∙ h) in (rest.0, or-right (eqb x rest.0) rest.1, rest.2))
]

any-key : (f : ℕ × ℕ → Bool) (k : ℕ × ℕ) (ks : List (ℕ × ℕ)) → is_key_in k ks ≡ true → f k ≡ true → list_any f ks ≡ true
any-key f k [] h hit = absurd (false≢true h)
any-key f k (x ∷ xs) h hit = elim (cases_Bool (same_key k x)) [
  | inl t ↦ ap (λ (b : Bool). b || list_any f xs) (ap f (sym (key-same k x t)) ∙ hit)
  | inr g ↦ or-right (f x) (any-key f k xs (sym (ap (λ (b : Bool). b || is_key_in k xs) g) ∙ h) hit)
]

any-number : (f : ℕ → Bool) (o : ℕ) (os : List ℕ) → list_any (eqb o) os ≡ true → f o ≡ true → list_any f os ≡ true
any-number f o [] h hit = absurd (false≢true h)
any-number f o (x ∷ xs) h hit = elim (cases_Bool (eqb o x)) [
  | inl t ↦ ap (λ (b : Bool). b || list_any f xs) (ap f (sym (eqb-true o x t)) ∙ hit)
  | inr g ↦ or-right (f x) (any-number f o xs (sym (ap (λ (b : Bool). b || list_any (eqb o) xs) g) ∙ h) hit)
]

any-alike : (f g : ℕ → Bool) (xs : List ℕ) → ((o : ℕ) → is_among o xs ≡ true → f o ≡ g o) → list_any f xs ≡ list_any g xs
any-alike f g [] same = refl
any-alike f g (x ∷ xs) same =
    ap (λ (b : Bool). b || list_any f xs) (same x (ap (λ (b : Bool). b || is_among x xs) (eq-eqb x x refl)))
    ∙ ap (λ (b : Bool). g x || b) (any-alike f g xs (λ o among. same o (or-right (eqb x o) among)))

any-bound : (f : Binding → Bool) (bs : List Binding) (p : Place) (b : Binding) → binding_at bs p ≡ Some b → f b ≡ true → list_any f bs ≡ true
any-bound f [] p b some hit = absurd (cc some)
any-bound f (x ∷ xs) p b some hit = elim (cases_Bool (same_place x.target p)) [
  | inl t ↦ ap (λ (y : Bool). y || list_any f xs) (ap f (same_Some x b (sym (ap (λ (y : Bool). cond y (Some x) (binding_at xs p)) t) ∙ some)) ∙ hit)
  | inr g ↦ or-right (f x) (any-bound f xs p b (sym (ap (λ (y : Bool). cond y (Some x) (binding_at xs p)) g) ∙ some) hit)
]

pub none-lead : (os : List ℕ) (bs : List Binding) → length bs ≡ 0 → lead_out os bs ≡ false
none-lead os [] z = refl
none-lead os (x ∷ xs) z = absurd (omega (arith, z))

-- ---- the bindings that are named under objects
some-has : (ks : List (ℕ × ℕ)) (k : ℕ × ℕ) → is_key_in k ks ≡ true → has_any ks ≡ true
some-has [] k h = absurd (false≢true h)
some-has (x ∷ xs) k h = ap not (ne_eqb (length (x ∷ xs)) 0 (λ e. absurd (omega (arith, e))))

module _ {S : Type 0} (g : Graph) (h : IsGraph g) (objects : List ℕ) (touched : IndexSet ℕ S) (are : AreTouchedAmong g objects touched) where
  abbrev bs : List Binding
  bs = bindings_of g

  abbrev test : ℕ → Bool
  test = contains eqb touched

  -- an object of a binding is among those that are touched where it is among all
  own : (q : Place) (b : Binding) → binding_at bs q ≡ Some b → (o : ℕ) → touches o b ≡ true → test o ≡ is_among o objects
  own q b some o t =
      are o ∙ ap (λ (y : Bool). is_among o objects && y) (some-has (target_keys g.touching o) (key_of q) (h.touched q b o some t refl)) ∙ and-true (is_among o objects)

  alike : (q : Place) (b : Binding) → binding_at bs q ≡ Some b → leads_out_by test b ≡ leads_out objects b
  alike q b some =
      ap (λ (y : Bool). y && list_any (λ o. not (test o)) (joined_by b)) (any-alike test (λ o. is_among o objects) (joined_by b) (λ o t. own q b some o t))
      ∙ ap (λ (y : Bool). list_any (λ o. is_among o objects) (joined_by b) && y) (any-alike (λ o. not (test o)) (λ o. not (is_among o objects)) (joined_by b) (λ o t. ap not (own q b some o t)))

  found : lead_out_touched g test touched.keys ≡ true → lead_out objects bs ≡ true
  found hit =
      let at = any-some (leads_out_at g test) touched.keys hit in
      let key = any-some (λ k. leads_out_of test (binding_at bs (place_at k))) (target_keys g.touching at.0) at.1 in
      by_binding (place_at key.0) (binding_at bs (place_at key.0)) refl key.1
    where
      by_binding : (p : Place) (there : Option Binding) → binding_at bs p ≡ there → leads_out_of test there ≡ true → lead_out objects bs ≡ true
      by_binding p None is led = absurd (false≢true led)
      by_binding p (Some b) is led = any-bound (leads_out objects) bs p b is (sym (alike p b is) ∙ led)

  all-found : lead_out objects bs ≡ true → lead_out_touched g test touched.keys ≡ true
  all-found hit =
      let at = any-at (leads_out objects) bs hit in
      let b : Binding = at.1 in
      let here : binding_at bs b.target ≡ Some b = found-at bs at.0 b h.apart at.2 in
      let inside = any-among (λ o. is_among o objects) (joined_by b) (and_parts (list_any (λ o. is_among o objects) (joined_by b)) (list_any (λ o. not (is_among o objects)) (joined_by b)) at.3).0 in
      let o : ℕ = inside.0 in
      let led : leads_out_of test (binding_at bs b.target) ≡ true = ap (leads_out_of test) here ∙ alike b.target b here ∙ at.3 in
      any-number (leads_out_at g test) o touched.keys (own b.target b here o inside.1 ∙ inside.2)
      (any-key (λ k. leads_out_of test (binding_at bs (place_at k))) (key_of b.target) (target_keys g.touching o) (h.touched b.target b o here inside.1 refl) led)

  pub joins-touched : lead_out_touched g test touched.keys ≡ lead_out objects bs
  joins-touched = both-ways (lead_out_touched g test touched.keys) (lead_out objects bs) found all-found
