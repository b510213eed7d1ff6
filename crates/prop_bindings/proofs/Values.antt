-- What a write of a value changes of objects; and that objects with the same values, and the same but for those, are the
-- same.
use Rattle.std.proofs.Common.{◌≡◌, ◌≢◌, ℕ, zero, suc, Bool, true, false, cond, eqb, List, [], ◌∷◌, map, inl, inr, Option, None, Some, refl, ap, sym, ◌∙◌, subst, arith}
use Rattle.std.specs.Prelude.{slice_get, slice_set}
use Rattle.std.specs.Option.{option_map, option_and_then}
use Rattle.std.proofs.lemmas.Bool.{false≢true, cases_Bool}
use Rattle.std.proofs.lemmas.Bool.Decides.{nat_tests}
use Rattle.std.proofs.lemmas.Option.{same_Some}
use Rattle.basic_types.specs.declared.value.Value.{Value}
use Rattle.object_tree.specs.declared.life.Life.{Life}
use Rattle.object_tree.specs.declared.object.Object.{Object}
use Rattle.object_tree.specs.Objects.{life_of, change_life, with_life, written}
use Rattle.object_tree.proofs.Changing.{get-change_same, get-change_other}
use Rattle.binding_graph.specs.declared.place.Place.{Place}
use Rattle.binding_graph.specs.Places.{property_of, same_place}
use Rattle.prop_bindings.specs.Values.{values_in}
use Rattle.prop_bindings.specs.Changes.{valueless, DifferInValues}
use Rattle.binding_graph.specs.code.Orders.{update}
use Rattle.binding_graph.proofs.Places.{decide_place, same_place-refl}

abbrev emptied : Life → Life
emptied l = record l { values = [] }

abbrev value_at : ℕ → Option Life → Option Value
value_at q there = option_and_then (λ (l : Life). slice_get l.values q) there

-- ---- a write leaves all but the values
life-left : (q : ℕ) (v : Value) (there : Option Life) → option_map emptied (option_map (written q v) there) ≡ option_map emptied there
life-left q v None = refl
life-left q v (Some l) = refl

object-left : (q : ℕ) (v : Value) (x : Object) → valueless (with_life (written q v) x) ≡ valueless x
object-left q v x = ap (λ (there : Option Life). record x { life = there }) (life-left q v x.life)

pub written-differs : (o q : ℕ) (v : Value) (xs : List Object) → DifferInValues xs (change_life o (written q v) xs)
written-differs o q v [] = refl
written-differs zero q v (x ∷ xs) = ap (λ (y : Object). y ∷ map valueless xs) (object-left q v x)
written-differs (suc o) q v (x ∷ xs) = ap (λ (ys : List Object). valueless x ∷ ys) (written-differs o q v xs)

-- ---- the values after it
get-set : (vs : List Value) (q : ℕ) (v w : Value) → slice_get vs q ≡ Some w → slice_get (slice_set vs q v) q ≡ Some v
get-set [] q v w is = absurd (cc is)
get-set (x ∷ vs) zero v w is = refl
get-set (x ∷ vs) (suc q) v w is = get-set vs q v w is

get-set_other : (vs : List Value) (q k : ℕ) (v : Value) → k ≢ q → slice_get (slice_set vs q v) k ≡ slice_get vs k
get-set_other [] zero k v apart = refl
get-set_other [] (suc q) k v apart = refl
get-set_other (x ∷ vs) zero zero v apart = absurd (apart refl)
get-set_other (x ∷ vs) zero (suc k) v apart = refl
get-set_other (x ∷ vs) (suc q) zero v apart = refl
get-set_other (x ∷ vs) (suc q) (suc k) v apart = get-set_other vs q k v (λ e. apart (ap suc e))

life-in : (f : Life → Life) (there : Option Object) → option_and_then (λ (x : Object). x.life) (option_map (with_life f) there) ≡ option_map f (option_and_then (λ (x : Object). x.life) there)
life-in f None = refl
life-in f (Some x) = refl

pub life-changed : (o : ℕ) (f : Life → Life) (xs : List Object) → life_of (change_life o f xs) o ≡ option_map f (life_of xs o)
life-changed o f xs = ap (λ (there : Option Object). option_and_then (λ (x : Object). x.life) there) (get-change_same o (with_life f) xs) ∙ life-in f (slice_get xs o)

pub life-kept : (o k : ℕ) (f : Life → Life) (xs : List Object) → k ≢ o → life_of (change_life o f xs) k ≡ life_of xs k
life-kept o k f xs apart = ap (λ (there : Option Object). option_and_then (λ (x : Object). x.life) there) (get-change_other o k (with_life f) xs apart)

set-in : (q : ℕ) (v w : Value) (there : Option Life) → value_at q there ≡ Some w → value_at q (option_map (written q v) there) ≡ Some v
set-in q v w None is = absurd (cc is)
set-in q v w (Some l) is = get-set l.values q v w is

set-apart : (q k : ℕ) (v : Value) (there : Option Life) → k ≢ q → value_at k (option_map (written q v) there) ≡ value_at k there
set-apart q k v None apart = refl
set-apart q k v (Some l) apart = get-set_other l.values q k v apart

set-all : (vs : List Value) (q : ℕ) (v : Value) → slice_get (slice_set vs q v) q ≡ option_map (λ (own : Value). v) (slice_get vs q)
set-all [] zero v = refl
set-all [] (suc q) v = refl
set-all (x ∷ vs) zero v = refl
set-all (x ∷ vs) (suc q) v = set-all vs q v

set-there : (q : ℕ) (v : Value) (there : Option Life) → value_at q (option_map (written q v) there) ≡ option_map (λ (own : Value). v) (value_at q there)
set-there q v None = refl
set-there q v (Some l) = set-all l.values q v

pub value-written : (xs : List Object) (at : Place) (v w : Value) → values_in xs at ≡ Some w → values_in (change_life at.object (written at.property v) xs) at ≡ Some v
value-written xs at v w is = ap (value_at at.property) (life-changed at.object (written at.property v) xs) ∙ set-in at.property v w (life_of xs at.object) is

pub value-kept : (xs : List Object) (at other : Place) (v : Value) → same_place at other ≡ false → values_in (change_life at.object (written at.property v) xs) other ≡ values_in xs other
value-kept xs at other v apart = elim (cases_Bool (eqb at.object other.object)) [
  | inl t ↦
      let one : other.object ≡ at.object = grind (arith, nat_tests) in
      let away : other.property ≢ at.property = λ e. (let both : same_place at other ≡ true = grind (arith, nat_tests) in false≢true (sym apart ∙ both)) in
      ap (value_at other.property) (ap (life_of (change_life at.object (written at.property v) xs)) one ∙ life-changed at.object (written at.property v) xs)
      ∙ set-apart at.property other.property v (life_of xs at.object) away
      ∙ sym (ap (λ (o : ℕ). value_at other.property (life_of xs o)) one)
  | inr f ↦
      let away : other.object ≢ at.object = λ e. (let both : eqb at.object other.object ≡ true = grind (arith, nat_tests) in false≢true (sym f ∙ both)) in
      ap (value_at other.property) (life-kept at.object other.object (written at.property v) xs away)
]

-- .. all of them
pub values-updated : (xs : List Object) (at : Place) (v w : Value) → values_in xs at ≡ Some w → (q : Place) → values_in (change_life at.object (written at.property v) xs) q ≡ update (values_in xs) at (Some v) q
values-updated xs at v w is q = elim (decide_place at q) [
  | inl e ↦ subst (λ (p : Place). values_in (change_life at.object (written at.property v) xs) p ≡ update (values_in xs) at (Some v) p) e
      (value-written xs at v w is ∙ sym (ap (λ (b : Bool). cond b (Some v) (values_in xs at)) (same_place-refl at)))
  | inr f ↦ value-kept xs at q v f ∙ sym (ap (λ (b : Bool). cond b (Some v) (values_in xs q)) f)
]

-- .. whatever is there
map-same : (o : Option Value) → option_map (λ (own : Value). own) o ≡ o
map-same None = refl
map-same (Some w) = refl

pub value-changed : (xs : List Object) (at : Place) (v : Value) (q : Place) → values_in (change_life at.object (written at.property v) xs) q ≡ option_map (λ (own : Value). cond (same_place at q) v own) (values_in xs q)
value-changed xs at v q = elim (decide_place at q) [
  | inl e ↦ subst (λ (r : Place). values_in (change_life at.object (written at.property v) xs) r ≡ option_map (λ (own : Value). cond (same_place at r) v own) (values_in xs r)) e
      (ap (value_at at.property) (life-changed at.object (written at.property v) xs) ∙ set-there at.property v (life_of xs at.object)
      ∙ sym (ap (λ (b : Bool). option_map (λ (own : Value). cond b v own) (values_in xs at)) (same_place-refl at)))
  | inr f ↦ value-kept xs at q v f ∙ sym (ap (λ (b : Bool). option_map (λ (own : Value). cond b v own) (values_in xs q)) f ∙ map-same (values_in xs q))
]

-- ---- objects by their values and all else
list-same : {X : Type 0} (xs ys : List X) → ((k : ℕ) → slice_get xs k ≡ slice_get ys k) → xs ≡ ys
list-same [] [] h = refl
list-same [] (y ∷ ys) h = absurd (cc (h 0))
list-same (x ∷ xs) [] h = absurd (cc (h 0))
list-same {X} (x ∷ xs) (y ∷ ys) h = ap (λ (z : X). z ∷ xs) (same_Some x y (h 0)) ∙ ap (λ (zs : List X). y ∷ zs) (list-same xs ys (λ k. h (suc k)))

one-life : (l m : Life) → emptied m ≡ emptied l → ((k : ℕ) → slice_get l.values k ≡ slice_get m.values k) → l ≡ m
one-life l m e h = sym (ap (λ (z : Life). record z { values = l.values }) e) ∙ ap (λ (vs : List Value). record m { values = vs }) (list-same l.values m.values h)

one-there : (a b : Option Life) → option_map emptied b ≡ option_map emptied a → ((k : ℕ) → value_at k a ≡ value_at k b) → a ≡ b
one-there None None e h = refl
one-there None (Some m) e h = absurd (cc e)
one-there (Some l) None e h = absurd (cc e)
one-there (Some l) (Some m) e h = ap Some (one-life l m (same_Some (emptied m) (emptied l) e) h)

one-object : (x y : Object) → valueless y ≡ valueless x → ((k : ℕ) → value_at k x.life ≡ value_at k y.life) → x ≡ y
one-object x y e h =
    let there = one-there x.life y.life (ap (λ (z : Object). z.life) e) h in
    sym (ap (λ (z : Object). record z { life = x.life }) e) ∙ ap (λ (life : Option Life). record y { life = life }) there

abbrev rest-of : List Object → List Object
rest-of [] = []
rest-of (x ∷ xs) = xs

pub same-objects : (xs ys : List Object) → DifferInValues xs ys → ((q : Place) → values_in xs q ≡ values_in ys q) → xs ≡ ys
same-objects [] [] e h = refl
same-objects [] (y ∷ ys) e h = absurd (cc e)
same-objects (x ∷ xs) [] e h = absurd (cc e)
same-objects (x ∷ xs) (y ∷ ys) e h =
    let first : valueless y ≡ valueless x = same_Some (valueless y) (valueless x) (ap (λ (zs : List Object). slice_get zs 0) e) in
    ap (λ (z : Object). z ∷ xs) (one-object x y first (λ k. h (property_of 0 k)))
    ∙ ap (λ (zs : List Object). y ∷ zs) (same-objects xs ys (ap rest-of e) (λ q. h (property_of (suc q.object) q.property)))
