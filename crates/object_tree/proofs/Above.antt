-- Who is above whom.
use Rattle.std.proofs.lemmas.Bool.{eqb-true, eq-eqb}
use Rattle.std.proofs.Common.{◌≡◌, ◌≢◌, ◌↔◌, ℕ, eqb, not, Bool, true, false, IsTrue, List, Option, None, Some, refl, sym, ap, ◌∙◌, subst}
use Rattle.std.specs.Prelude.{slice_get}
use Rattle.std.specs.Option.{option_and_then}
use Rattle.object_tree.specs.declared.life.Life.{Life}
use Rattle.object_tree.specs.declared.object.Object.{Object}
use Rattle.object_tree.specs.Family.{parent_of, IsChild, IsChildless, Above, itself, over_parent}

-- what shows of the parent in an object, and in a life
abbrev pub parent_in : Option Object → Option ℕ
parent_in there = option_and_then (λ (l : Life). l.parent) (option_and_then (λ (x : Object). x.life) there)

-- an object that has a parent lives
pub child-is : (objects : List Object) (o parent : ℕ) → parent_of objects o ≡ Some parent → IsChild objects parent o
child-is objects o parent found = by_object (slice_get objects o) refl found
  where
    by_life : (x : Object) → slice_get objects o ≡ Some x → (there : Option Life) → x.life ≡ there → option_and_then (λ (l : Life). l.parent) there ≡ Some parent → IsChild objects parent o
    by_life x is None lives e = absurd (cc e)
    by_life x is (Some l) lives e = record { object = x; life = l; lives = record { is = is; lives = lives }; under = e }

    by_object : (there : Option Object) → slice_get objects o ≡ there → parent_in there ≡ Some parent → IsChild objects parent o
    by_object None is e = absurd (cc e)
    by_object (Some x) is e = by_life x is x.life refl e

pub parent-is : (objects : List Object) (o parent : ℕ) → IsChild objects parent o → parent_of objects o ≡ Some parent
parent-is objects o parent child =
    ap parent_in child.lives.is ∙ ap (λ (there : Option Life). option_and_then (λ (l : Life). l.parent) there) child.lives.lives ∙ child.under

-- who is above another object is above its parent
above-down : (objects : List Object) (a o parent : ℕ) → Above objects a o → o ≢ a → parent_of objects o ≡ Some parent → Above objects a parent
above-down objects a o parent itself other found = absurd (other refl)
above-down objects a o parent (over_parent {parent = p} child above) other found =
    let same : Some p ≡ Some parent = sym child ∙ found in
    let is : p ≡ parent = cc same in
    subst (λ (q : ℕ). Above objects a q) is above

pub above-parent : {Before : Type 0} (objects : List Object) (a o parent : ℕ) → parent_of objects o ≡ Some parent → o ≢ a → Before ↔ Above objects a o → Before ↔ Above objects a parent
above-parent objects a o parent found other so_far =
    (λ b. above-down objects a o parent (so_far.0 b) other found, λ above. so_far.1 (over_parent found above))

pub here-above : {Before : Type 0} (objects : List Object) (a o : ℕ) → o ≡ a → Before ↔ Above objects a o → IsTrue true ↔ Before
here-above objects a o same so_far =
    (λ t. so_far.1 (subst (λ (q : ℕ). Above objects a q) (sym same) itself), λ b. refl)

-- who has no children is above nobody else
pub above-childless : (objects : List Object) (a o : ℕ) → IsChildless objects a → Above objects a o → a ≡ o
above-childless objects a o none itself = refl
above-childless objects a o none (over_parent {parent = p} child above) =
    let same : p ≡ a = sym (above-childless objects a p none above) in
    absurd (none o (subst (λ (q : ℕ). IsChild objects q o) same (child-is objects o p child)))

pub same-above : {r : Bool} (objects : List Object) (a o : ℕ) → IsChildless objects a → r ≡ eqb a o → IsTrue r ↔ Above objects a o
same-above objects a o none is =
    (λ t. subst (λ (q : ℕ). Above objects a q) (eqb-true a o (sym is ∙ t)) itself, λ above. is ∙ eq-eqb a o (above-childless objects a o none above))

-- ---- tests

pub false-not : {P : Type 0} {b : Bool} → IsTrue b ↔ P → b ≡ false → P → ⊥
false-not test fails p = let yes : true ≡ false = sym (test.1 p) ∙ fails in cc yes

pub true-so : {P : Type 0} {b : Bool} → IsTrue b ↔ P → b ≡ true → P
true-so test holds = test.0 holds

pub apart-of : {r : Bool} (a b : ℕ) → r ≡ not (eqb a b) → r ≡ true → a ≢ b
apart-of a b is holds same = let e : not (eqb a b) ≡ true = sym is ∙ holds in absurd (not-true (eqb a b) (eq-eqb a b same) e)
  where
    not-true : (t : Bool) → t ≡ true → not t ≡ true → ⊥
    not-true true e h = cc h
    not-true false e h = cc e

pub same-of : {r : Bool} (a b : ℕ) → r ≡ not (eqb a b) → r ≡ false → a ≡ b
same-of a b is fails = eqb-true a b (true-of (eqb a b) (sym is ∙ fails))
  where
    true-of : (t : Bool) → not t ≡ false → t ≡ true
    true-of true e = refl
    true-of false e = absurd (cc e)
