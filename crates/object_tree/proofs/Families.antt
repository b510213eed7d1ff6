-- What every tree keeps.
use Rattle.std.proofs.Common.{◌≡◌, ◌≢◌, ⊎_elim, ◌⊎◌, inl, inr, ℕ, ◌<◌, eqb, Bool, true, false, List, [], ◌∷◌, ◌++◌, length, Option, None, Some, refl, sym, ap, ◌∙◌, subst}
use Rattle.std.specs.Prelude.{slice_get, is_some}
use Rattle.std.specs.Option.{option_and_then, option_map}
use Rattle.std.proofs.lemmas.Bool.{cases_eq, eq-eqb, ne_eqb}
use Rattle.std.proofs.lemmas.Option.{slice_get_within, same_Some}
use Rattle.object_tree.specs.declared.life.Life.{Life}
use Rattle.object_tree.specs.declared.object.Object.{Object}
use Rattle.meta_model.specs.Among.{is_among}
use Rattle.object_tree.specs.Children.{without, are_distinct}
use Rattle.object_tree.specs.Objects.{Lives, change, change_life, with_life, home_of}
use Rattle.object_tree.specs.Family.{parent_of, children_in, children_of, IsChild, Above, itself, over_parent, joined_by, left_by, leaves, put_under, moved, dead, without_life}
use Rattle.object_tree.specs.Forest.{Forest, is_the}
use Rattle.object_tree.proofs.Lists.{among-without_other, among-without_same, among-join_other, among-join_same, distinct-without, distinct-join}
use Rattle.object_tree.proofs.Above.{parent_in, child-is, parent-is}
use Rattle.object_tree.proofs.Changing.{get-change_same, get-change_other, part-change, life-part}

-- ---- depths

-- an object with children is there
some_child : (there : Option Object) (c : ℕ) → is_among c (children_in there) ≡ true → (x : Object) × (there ≡ Some x)
some_child None c e = absurd (cc e)
some_child (Some x) c e = (x, refl)

is_the-same : (a : ℕ) (found : Option ℕ) → found ≡ Some a → is_the a found ≡ true
is_the-same a found e = rw e (eq-eqb a a refl)

pub parent-there : (objects : List Object) (parent child : ℕ) → is_among child (children_of objects parent) ≡ is_the parent (parent_of objects child) → parent_of objects child ≡ Some parent → parent < length objects
parent-there objects parent child listed found =
    let among : is_among child (children_of objects parent) ≡ true = listed ∙ is_the-same parent (parent_of objects child) found in
    let there : (x : Object) × (slice_get objects parent ≡ Some x) = some_child (slice_get objects parent) child among in
    slice_get_within objects parent there.0 there.1

-- ---- who is above whom

-- where each parent was the parent before, who is above whom was so before
pub above-through : {old new : List Object} → ((parent child : ℕ) → IsChild new parent child → IsChild old parent child) → {a o : ℕ} → Above new a o → Above old a o
above-through kept itself = itself
above-through {old} {new} kept (over_parent {o} {parent} child above) = over_parent (parent-is old o parent (kept parent o (child-is new o parent child))) (above-through kept above)

above-over : {objects : List Object} {a b o : ℕ} → Above objects a b → Above objects b o → Above objects a o
above-over above itself = above
above-over above (over_parent child next) = over_parent child (above-over above next)

-- ---- changes that leave the family alone

pub forest-same : (old new : List Object) → ((k : ℕ) → parent_of new k ≡ parent_of old k) → ((k : ℕ) → children_of new k ≡ children_of old k) → ((k : ℕ) → k < length old → home_of new k ≡ home_of old k) → Forest old → Forest new
forest-same old new parents children homes forest =
    let listed : (parent child : ℕ) → is_among child (children_of new parent) ≡ is_the parent (parent_of new child) =
    λ parent child. ap (is_among child) (children parent) ∙ forest.listed parent child ∙ ap (is_the parent) (sym (parents child)) in
    let kept : (parent child : ℕ) → IsChild new parent child → IsChild old parent child =
    λ parent child is. child-is old child parent (sym (parents child) ∙ parent-is new child parent is) in
    record {
      listed = listed;
      distinct = λ parent. ap are_distinct (children parent) ∙ forest.distinct parent;
      acyclic = λ parent child is above. forest.acyclic parent child (kept parent child is) (above-through kept above);
      one_loop = λ parent child home is at.
          let was : IsChild old parent child = kept parent child is in
          let above : parent < length old = parent-there old parent child (forest.listed parent child) (parent-is old child parent was) in
          homes child (slice_get_within old child was.object was.lives.is) ∙ forest.one_loop parent child home was (sym (homes parent above) ∙ at);
    }

-- the loop that shows in an object
abbrev home_in : Option Object → Option ℕ
home_in there = option_map (λ (l : Life). l.home) (option_and_then (λ (x : Object). x.life) there)

home-with_life : (f : Life → Life) → ((l : Life) → (f l).home ≡ l.home) → (x : Object) → home_in (Some (with_life f x)) ≡ home_in (Some x)
home-with_life f same x = life-part (λ (there : Option Life). option_map (λ (l : Life). l.home) there) f (λ l. ap Some (same l)) x.life

-- the parent that shows in an object whose life is changed
pub parent-with_life : (f : Life → Life) → ((l : Life) → (f l).parent ≡ l.parent) → (x : Object) → parent_in (Some (with_life f x)) ≡ parent_in (Some x)
parent-with_life f same x = life-part (λ (there : Option Life). option_and_then (λ (l : Life). l.parent) there) f same x.life

-- a change of other parts of one life
pub forest-change : (n : ℕ) (f : Life → Life) (objects : List Object) → ((l : Life) → (f l).parent ≡ l.parent) → ((l : Life) → (f l).home ≡ l.home) → Forest objects → Forest (change_life n f objects)
forest-change n f objects same homes forest =
    forest-same objects (change_life n f objects)
    (λ k. part-change parent_in n k (with_life f) objects (parent-with_life f same))
    (λ k. part-change children_in n k (with_life f) objects (λ x. refl))
    (λ k within. part-change home_in n k (with_life f) objects (home-with_life f homes))
    forest

-- ---- a child that leaves its parent's children

-- another part of every object stays
pub leaves-part : {X : Type 0} (part : Option Object → X) (from : Option ℕ) (child k : ℕ) (objects : List Object) → ((x : Object) → part (Some (left_by child x)) ≡ part (Some x)) → part (slice_get (leaves from child objects) k) ≡ part (slice_get objects k)
leaves-part part None child k objects h = refl
leaves-part part (Some parent) child k objects h = part-change part parent k (left_by child) objects h

-- the children of one object, some of whose are changed
children-change_same : (n : ℕ) (f : Object → Object) (g : List ℕ → List ℕ) (objects : List Object) → g [] ≡ [] → ((x : Object) → (f x).children ≡ g x.children) → children_of (change n f objects) n ≡ g (children_of objects n)
children-change_same n f g objects none h =
    ap children_in (get-change_same n f objects) ∙ by_object (slice_get objects n)
  where
    by_object : (there : Option Object) → children_in (option_map f there) ≡ g (children_in there)
    by_object None = sym none
    by_object (Some x) = h x

children-change_other : (n k : ℕ) (f : Object → Object) (objects : List Object) → k ≢ n → children_of (change n f objects) k ≡ children_of objects k
children-change_other n k f objects other = ap children_in (get-change_other n k f objects other)

-- .. another child stays where it was
leaves-other : (from : Option ℕ) (child d k : ℕ) (objects : List Object) → d ≢ child → is_among d (children_of (leaves from child objects) k) ≡ is_among d (children_of objects k)
leaves-other None child d k objects other = refl
leaves-other (Some parent) child d k objects other = ⊎_elim
    (λ (same : k ≡ parent). rw same (ap (is_among d) (children-change_same parent (left_by child) (without child) objects refl (λ x. refl)) ∙ among-without_other child d (children_of objects parent) other))
    (λ (apart : k ≢ parent). ap (is_among d) (children-change_other parent k (left_by child) objects apart))
    (cases_eq k parent)

-- .. an object that isn't its parent keeps its children
leaves-apart : (from : Option ℕ) (child k : ℕ) (objects : List Object) → from ≢ Some k → children_of (leaves from child objects) k ≡ children_of objects k
leaves-apart None child k objects apart = refl
leaves-apart (Some parent) child k objects apart = children-change_other parent k (left_by child) objects (λ e. apart (ap Some (sym e)))

-- .. the child is among no children where its parent had it last
leaves-gone : (from : Option ℕ) (child k : ℕ) (objects : List Object) → is_among child (children_of objects k) ≡ is_the k from → are_distinct (children_of objects k) ≡ true → is_among child (children_of (leaves from child objects) k) ≡ false
leaves-gone None child k objects listed distinct = listed
leaves-gone (Some parent) child k objects listed distinct = ⊎_elim
    (λ (same : k ≡ parent).
    let at : are_distinct (children_of objects parent) ≡ true = subst (λ (n : ℕ). are_distinct (children_of objects n) ≡ true) same distinct in
    rw same (ap (is_among child) (children-change_same parent (left_by child) (without child) objects refl (λ x. refl)) ∙ among-without_same child (children_of objects parent) at))
    (λ (apart : k ≢ parent). ap (is_among child) (children-change_other parent k (left_by child) objects apart) ∙ listed ∙ ne_eqb parent k (λ e. apart (sym e)))
    (cases_eq k parent)

-- .. and no child appears twice
leaves-distinct : (from : Option ℕ) (child k : ℕ) (objects : List Object) → are_distinct (children_of objects k) ≡ true → are_distinct (children_of (leaves from child objects) k) ≡ true
leaves-distinct None child k objects distinct = distinct
leaves-distinct (Some parent) child k objects distinct = ⊎_elim
    (λ (same : k ≡ parent).
    let at : are_distinct (children_of objects parent) ≡ true = subst (λ (n : ℕ). are_distinct (children_of objects n) ≡ true) same distinct in
    rw same (ap are_distinct (children-change_same parent (left_by child) (without child) objects refl (λ x. refl)) ∙ distinct-without child (children_of objects parent) at))
    (λ (apart : k ≢ parent). ap are_distinct (children-change_other parent k (left_by child) objects apart) ∙ distinct)
    (cases_eq k parent)

-- ---- an object that dies

-- another object keeps its parent
parent-change_other : (n k : ℕ) (f : Object → Object) (objects : List Object) → k ≢ n → parent_of (change n f objects) k ≡ parent_of objects k
parent-change_other n k f objects other = ap parent_in (get-change_other n k f objects other)

died-parent : (o k : ℕ) (objects : List Object) → parent_of (without_life o objects) o ≡ None
died-parent o k objects = ap parent_in (get-change_same o dead (leaves (parent_of objects o) o objects)) ∙ by_object (slice_get (leaves (parent_of objects o) o objects) o)
  where
    by_object : (there : Option Object) → parent_in (option_map dead there) ≡ None
    by_object None = refl
    by_object (Some x) = refl

died-other : (o k : ℕ) (objects : List Object) → k ≢ o → parent_of (without_life o objects) k ≡ parent_of objects k
died-other o k objects other =
    parent-change_other o k dead (leaves (parent_of objects o) o objects) other
    ∙ leaves-part parent_in (parent_of objects o) o k objects (λ x. refl)

died-children : (o k : ℕ) (objects : List Object) → children_of (without_life o objects) k ≡ children_of (leaves (parent_of objects o) o objects) k
died-children o k objects = part-change children_in o k dead (leaves (parent_of objects o) o objects) (λ x. refl)

died-home : (o : ℕ) (objects : List Object) → home_of (without_life o objects) o ≡ None
died-home o objects = ap home_in (get-change_same o dead (leaves (parent_of objects o) o objects)) ∙ by_object (slice_get (leaves (parent_of objects o) o objects) o)
  where
    by_object : (there : Option Object) → home_in (option_map dead there) ≡ None
    by_object None = refl
    by_object (Some x) = refl

died-home_other : (o k : ℕ) (objects : List Object) → k ≢ o → home_of (without_life o objects) k ≡ home_of objects k
died-home_other o k objects other =
    ap home_in (get-change_other o k dead (leaves (parent_of objects o) o objects) other)
    ∙ leaves-part home_in (parent_of objects o) o k objects (λ x. refl)

pub forest-died : (o : ℕ) (objects : List Object) → Forest objects → Forest (without_life o objects)
forest-died o objects forest =
    let new : List Object = without_life o objects in
    let listed : (parent child : ℕ) → is_among child (children_of new parent) ≡ is_the parent (parent_of new child) =
    λ parent child. ap (is_among child) (died-children o parent objects) ∙ ⊎_elim
    (λ (same : child ≡ o). rw same (leaves-gone (parent_of objects o) o parent objects (forest.listed parent o) (forest.distinct parent) ∙ ap (is_the parent) (sym (died-parent o o objects))))
    (λ (other : child ≢ o). leaves-other (parent_of objects o) o child parent objects other ∙ forest.listed parent child ∙ ap (is_the parent) (sym (died-other o child objects other)))
    (cases_eq child o) in
    let kept : (parent child : ℕ) → IsChild new parent child → IsChild objects parent child =
    λ parent child is. let e : parent_of new child ≡ Some parent = parent-is new child parent is in ⊎_elim
    (λ (same : child ≡ o). let none : parent_of new child ≡ None = rw same (died-parent o o objects) in absurd (cc (none, e)))
    (λ (other : child ≢ o). child-is objects child parent (sym (died-other o child objects other) ∙ e))
    (cases_eq child o) in
    record {
      listed = listed;
      distinct = λ parent. ap are_distinct (died-children o parent objects) ∙ leaves-distinct (parent_of objects o) o parent objects (forest.distinct parent);
      acyclic = λ parent child is above. forest.acyclic parent child (kept parent child is) (above-through kept above);
      one_loop = λ parent child home is at. ⊎_elim
          (λ (same : parent ≡ o). let none : home_of new parent ≡ None = rw same (died-home o objects) in absurd (cc (none, at)))
          (λ (apart : parent ≢ o). ⊎_elim
          (λ (same : child ≡ o).
          let none : parent_of new child ≡ None = rw same (died-parent o o objects) in
          let some : parent_of new child ≡ Some parent = parent-is new child parent is in
          absurd (cc (none, some)))
          (λ (other : child ≢ o). died-home_other o child objects other ∙ forest.one_loop parent child home (kept parent child is) (sym (died-home_other o parent objects apart) ∙ at))
          (cases_eq child o))
          (cases_eq parent o);
    }

-- ---- a child that gets another parent

is_the-other : (a : ℕ) (found : Option ℕ) → found ≢ Some a → is_the a found ≡ false
is_the-other a None other = refl
is_the-other a (Some b) other = ne_eqb b a (λ e. other (ap Some e))

-- what a move rests on
pub record Moves (objects : List Object) (a c : ℕ) : Type 0 where
  pub forest : Forest objects
  pub owner : Object
  pub there : slice_get objects a ≡ Some owner
  pub child : Object
  pub life : Life
  pub lives : Lives objects c child life
  pub elsewhere : parent_of objects c ≢ Some a
  pub no_cycle : ¬ Above objects c a
  pub one_loop : home_of objects a ≡ home_of objects c

-- the children of the new parent, and of others
joined-children : (objects : List Object) (a c : ℕ) (x : Object) → slice_get objects a ≡ Some x → children_of (change a (joined_by c) objects) a ≡ children_of objects a ++ c ∷ []
joined-children objects a c x is =
    ap children_in (get-change_same a (joined_by c) objects ∙ ap (option_map (joined_by c)) is) ∙ ap (λ (there : Option Object). children_in there ++ c ∷ []) (sym is)

joined-other : (objects : List Object) (a c d k : ℕ) (x : Object) → slice_get objects a ≡ Some x → d ≢ c → is_among d (children_of (change a (joined_by c) objects) k) ≡ is_among d (children_of objects k)
joined-other objects a c d k x is other = ⊎_elim
    (λ (same : k ≡ a). rw same (ap (is_among d) (joined-children objects a c x is) ∙ among-join_other c d (children_of objects a) other))
    (λ (apart : k ≢ a). ap (is_among d) (children-change_other a k (joined_by c) objects apart))
    (cases_eq k a)

moved-children : (objects : List Object) (a c k : ℕ) → children_of (moved a c objects) k ≡ children_of (leaves (parent_of objects c) c (change a (joined_by c) objects)) k
moved-children objects a c k = part-change children_in c k (with_life (put_under a)) (leaves (parent_of objects c) c (change a (joined_by c) objects)) (λ x. refl)

-- another part of every object stays
pub moved-part : {X : Type 0} (part : Option Object → X) (objects : List Object) (a c k : ℕ) → ((x : Object) (l : List ℕ) → part (Some (record x { children = l })) ≡ part (Some x)) → ((x : Object) → part (Some (with_life (put_under a) x)) ≡ part (Some x)) → part (slice_get (moved a c objects) k) ≡ part (slice_get objects k)
moved-part part objects a c k children parents =
    part-change part c k (with_life (put_under a)) (leaves (parent_of objects c) c (change a (joined_by c) objects)) parents
    ∙ leaves-part part (parent_of objects c) c k (change a (joined_by c) objects) (λ x. children x (without c x.children))
    ∙ part-change part a k (joined_by c) objects (λ x. children x (x.children ++ c ∷ []))

moved-parent_other : (objects : List Object) (a c k : ℕ) → k ≢ c → parent_of (moved a c objects) k ≡ parent_of objects k
moved-parent_other objects a c k other =
    parent-change_other c k (with_life (put_under a)) (leaves (parent_of objects c) c (change a (joined_by c) objects)) other
    ∙ leaves-part parent_in (parent_of objects c) c k (change a (joined_by c) objects) (λ x. refl)
    ∙ part-change parent_in a k (joined_by c) objects (λ x. refl)

abbrev alive_in : Option Object → Bool
alive_in there = is_some (option_and_then (λ (x : Object). x.life) there)

-- the new parent
moved-parent : (objects : List Object) (a c : ℕ) (y : Object) (l : Life) → Lives objects c y l → parent_of (moved a c objects) c ≡ Some a
moved-parent objects a c y l lives =
    ap parent_in (get-change_same c (with_life (put_under a)) (leaves (parent_of objects c) c (change a (joined_by c) objects)))
    ∙ by_object (slice_get (leaves (parent_of objects c) c (change a (joined_by c) objects)) c) (leaves-part alive_in (parent_of objects c) c c (change a (joined_by c) objects) (λ x. refl) ∙ part-change alive_in a c (joined_by c) objects (λ x. refl) ∙ ap alive_in lives.is ∙ ap is_some lives.lives)
  where
    by_life : (there : Option Life) → is_some there ≡ true → option_and_then (λ (m : Life). m.parent) (option_map (put_under a) there) ≡ Some a
    by_life None e = absurd (cc e)
    by_life (Some m) e = refl

    by_object : (there : Option Object) → alive_in there ≡ true → parent_in (option_map (with_life (put_under a)) there) ≡ Some a
    by_object None e = absurd (cc e)
    by_object (Some z) e = by_life z.life e

-- who is among whose children after the move
moved-listed : (objects : List Object) (a c : ℕ) → Moves objects a c → (parent child : ℕ) → is_among child (children_of (moved a c objects) parent) ≡ is_the parent (parent_of (moved a c objects) child)
moved-listed objects a c m parent child =
    ap (is_among child) (moved-children objects a c parent) ∙ ⊎_elim
    (λ (same : child ≡ c). rw same (itself_listed ∙ ap (is_the parent) (sym (moved-parent objects a c m.child m.life m.lives))))
    (λ (other : child ≢ c).
    leaves-other (parent_of objects c) c child parent (change a (joined_by c) objects) other
    ∙ joined-other objects a c child parent m.owner m.there other
    ∙ m.forest.listed parent child
    ∙ ap (is_the parent) (sym (moved-parent_other objects a c child other)))
    (cases_eq child c)
  where
    at_new : is_among c (children_of (leaves (parent_of objects c) c (change a (joined_by c) objects)) a) ≡ true
    at_new = ap (is_among c) (leaves-apart (parent_of objects c) c a (change a (joined_by c) objects) m.elsewhere ∙ joined-children objects a c m.owner m.there) ∙ among-join_same c (children_of objects a)

    at_other : parent ≢ a → is_among c (children_of (leaves (parent_of objects c) c (change a (joined_by c) objects)) parent) ≡ false
    at_other apart =
        let kept : children_of (change a (joined_by c) objects) parent ≡ children_of objects parent = children-change_other a parent (joined_by c) objects apart in
        leaves-gone (parent_of objects c) c parent (change a (joined_by c) objects) (ap (is_among c) kept ∙ m.forest.listed parent c) (ap are_distinct kept ∙ m.forest.distinct parent)

    itself_listed : is_among c (children_of (leaves (parent_of objects c) c (change a (joined_by c) objects)) parent) ≡ eqb a parent
    itself_listed = ⊎_elim
        (λ (same : parent ≡ a). rw same (at_new ∙ sym (eq-eqb a a refl)))
        (λ (apart : parent ≢ a). at_other apart ∙ sym (ne_eqb a parent (λ e. apart (sym e))))
        (cases_eq parent a)

moved-distinct : (objects : List Object) (a c : ℕ) → Moves objects a c → (parent : ℕ) → are_distinct (children_of (moved a c objects) parent) ≡ true
moved-distinct objects a c m parent =
    ap are_distinct (moved-children objects a c parent)
    ∙ leaves-distinct (parent_of objects c) c parent (change a (joined_by c) objects) (⊎_elim
    (λ (same : parent ≡ a). rw same (ap are_distinct (joined-children objects a c m.owner m.there)
    ∙ distinct-join c (children_of objects a) (m.forest.listed a c ∙ is_the-other a (parent_of objects c) m.elsewhere) (m.forest.distinct a)))
    (λ (apart : parent ≢ a). ap are_distinct (children-change_other a parent (joined_by c) objects apart) ∙ m.forest.distinct parent)
    (cases_eq parent a))

module _ (objects : List Object) (a c : ℕ) (m : Moves objects a c) where
  -- every parent but the moved child's was the parent before
  moved-child : (parent child : ℕ) → IsChild (moved a c objects) parent child → child ≢ c → IsChild objects parent child
  moved-child parent child is other = child-is objects child parent (sym (moved-parent_other objects a c child other) ∙ parent-is (moved a c objects) child parent is)

  moved-under : (parent : ℕ) → IsChild (moved a c objects) parent c → parent ≡ a
  moved-under parent is = same_Some _ _ (sym (parent-is (moved a c objects) c parent is) ∙ moved-parent objects a c m.child m.life m.lives)

  -- who is above an object that the child isn't above was so before
  above-apart : (x o : ℕ) → Above (moved a c objects) x o → (¬ Above objects c o) → Above objects x o
  above-apart x o itself apart = itself
  above-apart x o (over_parent {parent = p} is above) apart =
      let other : o ≢ c = λ e. apart (subst (λ (q : ℕ). Above objects c q) (sym e) itself) in
      let was = parent-is objects o p (moved-child p o (child-is (moved a c objects) o p is) other) in
      over_parent was (above-apart x p above (λ up. apart (over_parent was up)))

  -- who is above an object was so before, or is above the new parent, with the child between
  above-moved : (x o : ℕ) → Above (moved a c objects) x o → Above objects x o ⊎ (Above objects c o × Above (moved a c objects) x a)
  above-moved x o itself = inl itself
  above-moved x o (over_parent {parent = p} is above) = ⊎_elim
      (λ (same : o ≡ c).
      let Under : ℕ → Type 0 = λ q. IsChild (moved a c objects) p q in
      let new : p ≡ a = moved-under p (subst Under same (child-is (moved a c objects) o p is)) in
      inr (subst (λ (q : ℕ). Above objects c q) (sym same) itself, subst (λ (q : ℕ). Above (moved a c objects) x q) new above))
      (λ (other : o ≢ c).
      let was = parent-is objects o p (moved-child p o (child-is (moved a c objects) o p is) other) in
      by_side was (above-moved x p above))
      (cases_eq o c)
    where
      by_side : parent_of objects o ≡ Some p → Above objects x p ⊎ (Above objects c p × Above (moved a c objects) x a) → Above objects x o ⊎ (Above objects c o × Above (moved a c objects) x a)
      by_side was (inl up) = inl (over_parent was up)
      by_side was (inr up) = inr (over_parent was up.0, up.1)

  moved-acyclic : (parent child : ℕ) → IsChild (moved a c objects) parent child → ¬ Above (moved a c objects) child parent
  moved-acyclic parent child is above = ⊎_elim
      (λ (same : child ≡ c).
      let Under : ℕ → Type 0 = λ q. IsChild (moved a c objects) parent q in
      let new : parent ≡ a = moved-under parent (subst Under same is) in
      let Over : ℕ → ℕ → Type 0 = λ p q. Above (moved a c objects) q p in
      let over : Above (moved a c objects) c a = subst (Over a) same (subst (λ (p : ℕ). Over p child) new above) in
      m.no_cycle (above-apart c a over m.no_cycle))
      (λ (other : child ≢ c).
      let was : IsChild objects parent child = moved-child parent child is other in
      by_side was (above-moved child parent above))
      (cases_eq child c)
    where
      by_side : IsChild objects parent child → Above objects child parent ⊎ (Above objects c parent × Above (moved a c objects) child a) → ⊥
      by_side was (inl up) = m.forest.acyclic parent child was up
      by_side was (inr up) = m.no_cycle (above-over (over_parent (parent-is objects child parent was) up.0) (above-apart child a up.1 m.no_cycle))

moved-home : (objects : List Object) (a c k : ℕ) → home_of (moved a c objects) k ≡ home_of objects k
moved-home objects a c k = moved-part home_in objects a c k (λ x l. refl) (home-with_life (put_under a) (λ l. refl))

pub forest-moved : (objects : List Object) (a c : ℕ) → Moves objects a c → Forest (moved a c objects)
forest-moved objects a c m = record {
  listed = moved-listed objects a c m;
  distinct = moved-distinct objects a c m;
  acyclic = moved-acyclic objects a c m;
  one_loop = λ parent child home is at.
      let before : home_of objects parent ≡ Some home = sym (moved-home objects a c parent) ∙ at in
      moved-home objects a c child ∙ ⊎_elim
      (λ (same : child ≡ c).
      let Under : ℕ → Type 0 = λ q. IsChild (moved a c objects) parent q in
      let new : parent ≡ a = moved-under objects a c m parent (subst Under same is) in
      ap (home_of objects) same ∙ sym m.one_loop ∙ sym (ap (home_of objects) new) ∙ before)
      (λ (other : child ≢ c). m.forest.one_loop parent child home (moved-child objects a c m parent child is other) before)
      (cases_eq child c);
}
