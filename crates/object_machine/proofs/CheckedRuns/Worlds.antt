-- What changes of objects leave: their classes, their children and what stands.
use Rattle.std.{proofs.Common.{◌≡◌, inl, inr, ℕ, zero, suc, ◌||◌, eqb, cond, Bool, true, false, IsTrue, List, [], ◌∷◌, map, length, Option, Some, None, slice_get, refl, sym, ap, ◌∙◌, subst, arith}, specs.List.{AllByRecursion}, specs.Option.{option_map, option_and_then}, proofs.lemmas.Bool.{cases_eq, eq-eqb}, proofs.lemmas.List.{length-map}}
use Rattle.basic_types.specs.declared.value.Value.{Value}
use Rattle.meta_model.specs.Loaded.{Loaded}
use Rattle.object_tree.{specs.declared.life.Life.{Life}, specs.declared.object.Object.{Object}, specs.Children.{without}, specs.Family.{children_in, children_of, parent_of, leaves, left_by, dead, without_life}, specs.Objects.{class_of, life_of, change, change_life, with_life, scheduled}, proofs.Changing.{part-change, life-part, length-change, get-change_same, get-change_other}, proofs.Families.{leaves-part}}
use Rattle.prop_bindings.{specs.Changes.{DifferInValues, valueless}, proofs.Alive.{lives-alike}}
use Rattle.effect_scan.specs.declared.node.Node.{Node}
use Rattle.certificate_lang.specs.declared.certificate.Certificate.{Certificate}
use Rattle.machine_state.specs.State.{Step, Activation, Body, Emit, Update, Destroy}
use Rattle.machine_rules.{specs.Good.{has_body}, specs.code.Keeps.{StayThere}, specs.There.{IsDead}, proofs.Dying.{lives-not-dead}, proofs.Keeps.{lives-of-class, values-stay}}
use Rattle.object_machine.proofs.CheckedRuns.Invariant.{Level, BodyStands, Stands, Stacked, AreClasses, AreOwned, IsOwned}

-- ---- what a change of objects leaves

-- the living are of the classes that they were of, no number is lost, and children are those that were, or fewer
pub record Leaves (p : Loaded) (classes : ℕ → Option ℕ) (old new : List Object) : Type 0 where
  pub living : (o class : ℕ) → class_of new o ≡ Some class → class_of old o ≡ Some class
  pub count : length new ≡ length old
  pub children : AreOwned p classes old → AreOwned p classes new

pub classes-left : {p : Loaded} {classes : ℕ → Option ℕ} {old new : List Object} → Leaves p classes old new → AreClasses p classes old → AreClasses p classes new
classes-left left are = record {
  lives = λ o class is. are.lives o class (left.living o class is);
  each = λ o low. let count = left.count in are.each o (omega (arith, low, count));
  inside = λ o class is. let low = are.inside o class is in omega (arith, low, left.count);
}

-- ---- values alone differ

class-emptied : (there : Option Life) → option_map (λ (l : Life). l.class) (option_map (λ (l : Life). record l { values = [] }) there) ≡ option_map (λ (l : Life). l.class) there
class-emptied None = refl
class-emptied (Some l) = refl

get-map : {X Y : Type 0} (f : X → Y) (xs : List X) (k : ℕ) → slice_get (map f xs) k ≡ option_map f (slice_get xs k)
get-map f [] k = refl
get-map f (x ∷ xs) zero = refl
get-map f (x ∷ xs) (suc k) = get-map f xs k

children-valueless : (there : Option Object) → children_in (option_map valueless there) ≡ children_in there
children-valueless None = refl
children-valueless (Some x) = refl

pub differ-leaves : {p : Loaded} {classes : ℕ → Option ℕ} (old new : List Object) → DifferInValues old new → Leaves p classes old new
differ-leaves {p} {classes} old new differ = record {
  living = λ o class is. sym (class-emptied (life_of old o)) ∙ ap (option_map (λ (l : Life). l.class)) (sym (lives-alike old new differ o)) ∙ class-emptied (life_of new o) ∙ is;
  count = let same : length new ≡ length old = sym (length-map new valueless) ∙ ap (λ (xs : List Object). length xs) differ ∙ length-map old valueless in omega (arith, same);
  children = λ owned o. subst (λ (l : List ℕ). AllByRecursion (IsOwned p classes o) l) (sym (children-alike o)) (owned o);
}
  where
    children-alike : (o : ℕ) → children_of new o ≡ children_of old o
    children-alike o =
        sym (children-valueless (slice_get new o)) ∙ ap children_in (sym (get-map valueless new o) ∙ ap (λ (xs : List Object). slice_get xs o) differ ∙ get-map valueless old o) ∙ children-valueless (slice_get old o)

-- ---- one is scheduled

pub scheduled-leaves : {p : Loaded} {classes : ℕ → Option ℕ} (objects : List Object) (x : ℕ) → Leaves p classes objects (change_life x scheduled objects)
scheduled-leaves {p} {classes} objects x = record {
  living = λ o class is. sym (part-change (λ (there : Option Object). option_map (λ (l : Life). l.class) (option_and_then (λ (y : Object). y.life) there)) x o (with_life scheduled) objects
      (λ y. life-part (option_map (λ (l : Life). l.class)) scheduled (λ l. refl) y.life)) ∙ is;
  count = let same = length-change x (with_life scheduled) objects in omega (arith, same);
  children = λ owned o. subst (λ (l : List ℕ). AllByRecursion (IsOwned p classes o) l) (sym (part-change children_in x o (with_life scheduled) objects (λ y. refl))) (owned o);
}

-- ---- one dies

all-without : (P : ℕ → Type 0) (c : ℕ) (ks : List ℕ) → AllByRecursion P ks → AllByRecursion P (without c ks)
all-without P c [] all = tt
all-without P c (k ∷ ks) all = by_test (eqb k c) (all-without P c ks all.1)
  where
    by_test : (b : Bool) → AllByRecursion P (without c ks) → AllByRecursion P (cond b ks (k ∷ without c ks))
    by_test true rest = all.1
    by_test false rest = (all.0, rest)

-- children leave one by one
pub all-changed : (P : ℕ → Type 0) (n k : ℕ) (f : Object → Object) (xs : List Object) → ((x : Object) → AllByRecursion P x.children → AllByRecursion P (f x).children) → AllByRecursion P (children_of xs k) → AllByRecursion P (children_of (change n f xs) k)
all-changed P n k f [] h all = all
all-changed P zero zero f (x ∷ xs) h all = h x all
all-changed P zero (suc k) f (x ∷ xs) h all = all
all-changed P (suc n) zero f (x ∷ xs) h all = all
all-changed P (suc n) (suc k) f (x ∷ xs) h all = all-changed P n k f xs h all

pub all-left : (P : ℕ → Type 0) (from : Option ℕ) (child k : ℕ) (objects : List Object) → AllByRecursion P (children_of objects k) → AllByRecursion P (children_of (leaves from child objects) k)
all-left P None child k objects all = all
all-left P (Some parent) child k objects all = all-changed P parent k (left_by child) objects (λ x h. all-without P child x.children h) all

pub length-left : (from : Option ℕ) (child : ℕ) (objects : List Object) → length (leaves from child objects) ≡ length objects
length-left None child objects = refl
length-left (Some parent) child objects = length-change parent (left_by child) objects

class-dead : (there : Option Object) (class : ℕ) → option_map (λ (l : Life). l.class) (option_and_then (λ (y : Object). y.life) (option_map dead there)) ≡ Some class → ⊥
class-dead None class e = absurd (cc e)
class-dead (Some x) class e = absurd (cc e)

pub died-leaves : {p : Loaded} {classes : ℕ → Option ℕ} (objects : List Object) (x : ℕ) → Leaves p classes objects (without_life x objects)
died-leaves {p} {classes} objects x = record {
  living = λ o class is. elim (cases_eq o x) [
    | inl same ↦ absurd (class-dead (slice_get (leaves (parent_of objects x) x objects) x) class
        (ap (λ (there : Option Object). option_map (λ (l : Life). l.class) (option_and_then (λ (y : Object). y.life) there)) (sym (get-change_same x dead (leaves (parent_of objects x) x objects))) ∙ ap (λ (k : ℕ). class_of (without_life x objects) k) (sym same) ∙ is))
    | inr other ↦
        let part : Option Object → Option ℕ = λ there. option_map (λ (l : Life). l.class) (option_and_then (λ (y : Object). y.life) there) in
        sym (ap part (get-change_other x o dead (leaves (parent_of objects x) x objects) other) ∙ leaves-part part (parent_of objects x) x o objects (λ y. refl)) ∙ is
  ];
  count = let same = length-change x dead (leaves (parent_of objects x) x objects) in let left = length-left (parent_of objects x) x objects in omega (arith, same, left);
  children = λ owned o. all-changed (IsOwned p classes o) x o dead (leaves (parent_of objects x) x objects) (λ y h. h) (all-left (IsOwned p classes o) (parent_of objects x) x o objects (owned o));
}

-- ---- what stands stands still

-- no object has died that has a body among these
abbrev pub SparedIn : List Activation → List Object → List Object → Type 0
SparedIn stack old new = (o : ℕ) → IsTrue (has_body o stack) → IsDead new o → IsDead old o

body-still : {p : Loaded} {old new : List Object} {o m : ℕ} {arguments : List Value} {left : List Step} {x : Node} → StayThere old new → (IsDead new o → IsDead old o) → BodyStands p old o m arguments left x → BodyStands p new o m arguments left x
body-still {p} {old} {new} {o} {m} {arguments} stay spared b = record {
  class = b.class;
  lives = elim (stay.living o b.class b.lives) [
    | inl same ↦ same
    | inr gone ↦ absurd (lives-not-dead (lives-of-class old o b.class b.lives).2 (spared gone))
  ];
  at = b.at;
  method = b.method;
  is = b.is;
  bodied = b.bodied;
  typed = values-stay p stay arguments (b.method).types b.typed;
  steps = b.steps;
}

own-body : (o : ℕ) (other : Bool) → IsTrue (eqb o o || other)
own-body o other = by_test (eqb o o) (eq-eqb o o refl)
  where
    by_test : (b : Bool) → b ≡ true → IsTrue (b || other)
    by_test true e = refl
    by_test false e = absurd (cc e)

lower-body : (one other : Bool) → IsTrue other → IsTrue (one || other)
lower-body true other h = refl
lower-body false other h = h

spared-below : (old new : List Object) (a : Activation) (below : List Activation) → SparedIn (a ∷ below) old new → SparedIn below old new
spared-below old new (Body o m arguments left) below spared k body gone = spared k (lower-body (eqb o k) (has_body k below) body) gone
spared-below old new (Emit o g arguments used last) below spared k body gone = spared k body gone
spared-below old new (Update places) below spared k body gone = spared k body gone
spared-below old new (Destroy next torn) below spared k body gone = spared k body gone

module _ (p : Loaded) {certificate : Certificate} (classes : ℕ → Option ℕ) (old new : List Object) (stay : StayThere old new) where
  stands-still : (a : Activation) (below : List Activation) (level : Level certificate) → SparedIn (a ∷ below) old new → Stands p classes old a level → Stands p classes new a level
  stands-still (Body o m arguments left) below level spared st = record { node = st.node; is = st.is; stands = body-still stay (spared o (own-body o (has_body o below))) st.stands }
  stands-still (Emit o g arguments used last) below level spared st = st
  stands-still (Update places) below level spared st = st
  stands-still (Destroy next torn) below level spared st = st

  pub stacked-still : (stack : List Activation) (levels : List (Level certificate)) → SparedIn stack old new → Stacked p classes old stack levels → Stacked p classes new stack levels
  stacked-still [] [] spared st = tt
  stacked-still [] (r ∷ levels) spared st = absurd st
  stacked-still (a ∷ stack) [] spared st = absurd st
  stacked-still (a ∷ stack) (r ∷ levels) spared st = (stands-still a stack r spared st.0, st.1, stacked-still stack levels (spared-below old new a stack spared) st.2)
