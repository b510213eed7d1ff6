-- What objects that move to another loop leave as it was.
use Rattle.std.{proofs.Common.{◌≡◌, ◌≢◌, ℕ, suc, eqb, Bool, true, false, ◌||◌, cond, List, [], ◌∷◌, ◌++◌, length, Option, None, Some, refl, sym, ap, ◌∙◌, subst}, specs.Prelude.{slice_get, IsSome}, specs.Option.{option_map, option_and_then}, proofs.lemmas.Bool.{eqb-true, eq-eqb, false≢true}, proofs.lemmas.Option.{same_Some}}
use Rattle.meta_model.specs.{Loaded.{Loaded}, Among.{is_among}}
use Rattle.object_tree.{specs.declared.life.Life.{Life}, specs.declared.object.Object.{Object}, specs.Children.{are_distinct}, specs.Objects.{change_life, with_life, life_of, name_of, home_of}, specs.Family.{parent_of, children_in, children_of, IsChild, Above, itself, over_parent}, specs.Forest.{Forest, is_the}, specs.code.Kept.{Kept}, specs.Moving.{in_loop, all_in_loop, AreWhole, AreBelow}, specs.Typed.{AreTyped}, proofs.Above.{parent_in, child-is, parent-is}, proofs.Changing.{length-change, get-change_same, get-change_other, part-change, life-of-lives}, proofs.Families.{above-through, parent-with_life}, proofs.Keeping.{names-same}, proofs.TypedObjects.{typed-change}}

-- the loop that shows in an object
abbrev home_in : Option Object → Option ℕ
home_in there = option_map (λ (l : Life). l.home) (option_and_then (λ (x : Object). x.life) there)

-- lists that show the same at each place
same-shown : (xs ys : List Object) → ((k : ℕ) → slice_get xs k ≡ slice_get ys k) → xs ≡ ys
same-shown [] [] same = refl
same-shown [] (y ∷ ys) same = absurd (cc (same 0))
same-shown (x ∷ xs) [] same = absurd (cc (same 0))
same-shown (x ∷ xs) (y ∷ ys) same = ap (λ (z : Object). z ∷ xs) (same_Some x y (same 0)) ∙ ap (λ zs. y ∷ zs) (same-shown xs ys (λ k. same (suc k)))

module _ (home : ℕ) where
  -- an object in the loop, where there was one
  abbrev housed : Option Object → Option Object
  housed there = option_map (with_life (in_loop home)) there

  housed-twice : (there : Option Object) → housed (housed there) ≡ housed there
  housed-twice None = refl
  housed-twice (Some x) = ap (λ (life : Option Life). Some (record x { life = life })) (by_life x.life)
    where
      by_life : (life : Option Life) → option_map (in_loop home) (option_map (in_loop home) life) ≡ option_map (in_loop home) life
      by_life None = refl
      by_life (Some l) = refl

  -- one object
  get-one : (o k : ℕ) (objects : List Object) → slice_get (change_life o (in_loop home) objects) k ≡ cond (eqb o k) (housed (slice_get objects k)) (slice_get objects k)
  get-one o k objects = by_test (eqb o k) refl
    where
      by_test : (b : Bool) → eqb o k ≡ b → slice_get (change_life o (in_loop home) objects) k ≡ cond b (housed (slice_get objects k)) (slice_get objects k)
      by_test true e =
          let same : o ≡ k = eqb-true o k e in
          ap (λ (j : ℕ). slice_get (change_life j (in_loop home) objects) k) same ∙ get-change_same k (with_life (in_loop home)) objects
      by_test false e =
          let apart : k ≢ o = λ same. false≢true (sym e ∙ eq-eqb o k (sym same)) in
          get-change_other o k (with_life (in_loop home)) objects apart

  get-in_loop : (os : List ℕ) (k : ℕ) (objects : List Object) → slice_get (all_in_loop os home objects) k ≡ cond (is_among k os) (housed (slice_get objects k)) (slice_get objects k)
  get-in_loop [] k objects = refl
  get-in_loop (o ∷ os) k objects =
      get-in_loop os k (change_life o (in_loop home) objects)
      ∙ ap (λ (h : Option Object). cond (is_among k os) (housed h) h) (get-one o k objects)
      ∙ by_tests (eqb o k) (is_among k os)
    where
      by_tests : (a b : Bool) → cond b (housed (cond a (housed (slice_get objects k)) (slice_get objects k))) (cond a (housed (slice_get objects k)) (slice_get objects k)) ≡ cond (a || b) (housed (slice_get objects k)) (slice_get objects k)
      by_tests true true = housed-twice (slice_get objects k)
      by_tests true false = refl
      by_tests false true = refl
      by_tests false false = refl

  -- in whatever order the objects stand
  pub in_loop-alike : (os ps : List ℕ) (objects : List Object) → ((k : ℕ) → is_among k os ≡ is_among k ps) → all_in_loop os home objects ≡ all_in_loop ps home objects
  in_loop-alike os ps objects same =
      same-shown (all_in_loop os home objects) (all_in_loop ps home objects)
      (λ k. get-in_loop os k objects ∙ ap (λ (b : Bool). cond b (housed (slice_get objects k)) (slice_get objects k)) (same k) ∙ sym (get-in_loop ps k objects))

  pub length-in_loop : (os : List ℕ) (objects : List Object) → length (all_in_loop os home objects) ≡ length objects
  length-in_loop [] objects = refl
  length-in_loop (o ∷ os) objects = length-in_loop os (change_life o (in_loop home) objects) ∙ length-change o (with_life (in_loop home)) objects

  -- the life of one of them
  life-housed : (there : Option Object) → option_and_then (λ (x : Object). x.life) (housed there) ≡ option_map (in_loop home) (option_and_then (λ (x : Object). x.life) there)
  life-housed None = refl
  life-housed (Some x) = refl

  pub life-in_loop : (os : List ℕ) (k : ℕ) (objects : List Object) → life_of (all_in_loop os home objects) k ≡ cond (is_among k os) (option_map (in_loop home) (life_of objects k)) (life_of objects k)
  life-in_loop os k objects =
      ap (λ (there : Option Object). option_and_then (λ (x : Object). x.life) there) (get-in_loop os k objects) ∙ by_test (is_among k os)
    where
      by_test : (b : Bool) → option_and_then (λ (x : Object). x.life) (cond b (housed (slice_get objects k)) (slice_get objects k)) ≡ cond b (option_map (in_loop home) (life_of objects k)) (life_of objects k)
      by_test true = life-housed (slice_get objects k)
      by_test false = refl

  -- the loop where there was one
  abbrev moved : Option ℕ → Option ℕ
  moved there = option_map (λ (h : ℕ). home) there

  home-life : (life : Option Life) → option_map (λ (l : Life). l.home) (option_map (in_loop home) life) ≡ moved (option_map (λ (l : Life). l.home) life)
  home-life None = refl
  home-life (Some l) = refl

  pub home-in_loop : (os : List ℕ) (k : ℕ) (objects : List Object) → home_of (all_in_loop os home objects) k ≡ cond (is_among k os) (option_map (λ (h : ℕ). home) (home_of objects k)) (home_of objects k)
  home-in_loop os k objects = ap (option_map (λ (l : Life). l.home)) (life-in_loop os k objects) ∙ by_test (is_among k os)
    where
      by_test : (b : Bool) → option_map (λ (l : Life). l.home) (cond b (option_map (in_loop home) (life_of objects k)) (life_of objects k)) ≡ cond b (moved (home_of objects k)) (home_of objects k)
      by_test true = home-life (life_of objects k)
      by_test false = refl

  parent-in_loop : (os : List ℕ) (k : ℕ) (objects : List Object) → parent_of (all_in_loop os home objects) k ≡ parent_of objects k
  parent-in_loop [] k objects = refl
  parent-in_loop (o ∷ os) k objects =
      parent-in_loop os k (change_life o (in_loop home) objects)
      ∙ part-change parent_in o k (with_life (in_loop home)) objects (parent-with_life (in_loop home) (λ l. refl))

  pub children-in_loop : (os : List ℕ) (k : ℕ) (objects : List Object) → children_of (all_in_loop os home objects) k ≡ children_of objects k
  children-in_loop [] k objects = refl
  children-in_loop (o ∷ os) k objects =
      children-in_loop os k (change_life o (in_loop home) objects)
      ∙ part-change children_in o k (with_life (in_loop home)) objects (λ x. refl)

  name-in_loop : (os : List ℕ) (k : ℕ) (objects : List Object) → name_of (all_in_loop os home objects) k ≡ name_of objects k
  name-in_loop [] k objects = refl
  name-in_loop (o ∷ os) k objects =
      name-in_loop os k (change_life o (in_loop home) objects)
      ∙ part-change (option_map (λ (x : Object). x.name)) o k (with_life (in_loop home)) objects (λ x. refl)

  -- a child lives where its parent does, where both moved or neither did
  together : (b : Bool) (above below : Option ℕ) (h l : ℕ) → below ≡ Some l → ((g : ℕ) → above ≡ Some g → below ≡ Some g) → cond b (moved above) above ≡ Some h → cond b (moved below) below ≡ Some h
  together true None below h l lives alike e = absurd (cc e)
  together true (Some g) below h l lives alike e = ap moved lives ∙ e
  together false above below h l lives alike e = alike h e

  forest-in_loop : (os : List ℕ) (objects : List Object) → AreWhole os objects → Forest objects → Forest (all_in_loop os home objects)
  forest-in_loop os objects whole forest = record {
    listed = λ parent child. ap (is_among child) (children-in_loop os parent objects) ∙ forest.listed parent child ∙ ap (is_the parent) (sym (parent-in_loop os child objects));
    distinct = λ parent. ap are_distinct (children-in_loop os parent objects) ∙ forest.distinct parent;
    acyclic = λ parent child is above. forest.acyclic parent child (was parent child is) (above-through was above);
    one_loop = λ parent child h is at.
        let child_was : IsChild objects parent child = was parent child is in
        home-in_loop os child objects
        ∙ ap (λ (b : Bool). cond b (moved (home_of objects child)) (home_of objects child)) (sym (whole parent child child_was))
        ∙ together (is_among parent os) (home_of objects parent) (home_of objects child) h (child_was.life).home
        (ap (option_map (λ (l : Life). l.home)) (life-of-lives child_was.lives))
        (λ g above. forest.one_loop parent child g child_was above)
        (sym (home-in_loop os parent objects) ∙ at);
  }
    where
      was : (parent child : ℕ) → IsChild (all_in_loop os home objects) parent child → IsChild objects parent child
      was parent child is = child-is objects child parent (sym (parent-in_loop os child objects) ∙ parent-is (all_in_loop os home objects) child parent is)

  pub kept-in_loop : (names : List (List ℕ × ℕ)) (os : List ℕ) (objects : List Object) → AreWhole os objects → Kept names objects → Kept names (all_in_loop os home objects)
  kept-in_loop names os objects whole kept =
      names-same names objects (all_in_loop os home objects) (λ k. name-in_loop os k objects) (forest-in_loop os objects whole kept.forest) kept

  pub typed-in_loop : (p : Loaded) (os : List ℕ) (objects : List Object) → AreTyped p objects → AreTyped p (all_in_loop os home objects)
  typed-in_loop p [] objects all = all
  typed-in_loop p (o ∷ os) objects all =
      typed-in_loop p os (change_life o (in_loop home) objects) (typed-change p o (in_loop home) objects (λ l. refl) all)

  pub in_loop-append : (os ps : List ℕ) (objects : List Object) → all_in_loop (os ++ ps) home objects ≡ all_in_loop ps home (all_in_loop os home objects)
  in_loop-append [] ps objects = refl
  in_loop-append (o ∷ os) ps objects = in_loop-append os ps (change_life o (in_loop home) objects)

  pub lives-in_loop : (os : List ℕ) (k h : ℕ) (objects : List Object) → home_of objects k ≡ Some h → IsSome (life_of (all_in_loop os home objects) k)
  lives-in_loop os k h objects at =
      subst (λ (life : Option Life). IsSome life) (sym (life-in_loop os k objects)) (by_life (life_of objects k) at (is_among k os))
    where
      by_life : (life : Option Life) → option_map (λ (l : Life). l.home) life ≡ Some h → (b : Bool) → IsSome (cond b (option_map (in_loop home) life) life)
      by_life None e b = absurd (cc e)
      by_life (Some l) e true = refl
      by_life (Some l) e false = refl

  pub whole-in_loop : (os ps : List ℕ) (objects : List Object) → AreWhole os objects → AreWhole os (all_in_loop ps home objects)
  whole-in_loop os ps objects whole parent child is =
      whole parent child (child-is objects child parent (sym (parent-in_loop ps child objects) ∙ parent-is (all_in_loop ps home objects) child parent is))

-- ---- back to the loop in which they lived

restored : (from home : ℕ) (there : Option Object) → home_in there ≡ Some from → housed from (housed home there) ≡ there
restored from home None e = refl
restored from home (Some x) e = ap (λ (life : Option Life). Some (record x { life = life })) (by_life x.life e)
  where
    by_life : (life : Option Life) → option_map (λ (l : Life). l.home) life ≡ Some from → option_map (in_loop from) (option_map (in_loop home) life) ≡ life
    by_life None f = refl
    by_life (Some l) f = ap (λ (h : ℕ). Some (record l { home = h })) (sym (same_Some l.home from f))

pub back-in_loop : (from home : ℕ) (os : List ℕ) (objects : List Object) → ((k : ℕ) → is_among k os ≡ true → home_of objects k ≡ Some from) → all_in_loop os from (all_in_loop os home objects) ≡ objects
back-in_loop from home os objects at =
    same-shown (all_in_loop os from (all_in_loop os home objects)) objects
    (λ k. get-in_loop from os k (all_in_loop os home objects)
    ∙ ap (λ (there : Option Object). cond (is_among k os) (housed from there) there) (get-in_loop home os k objects)
    ∙ by_test k (is_among k os) (at k))
  where
    by_test : (k : ℕ) (b : Bool) → (b ≡ true → home_of objects k ≡ Some from) → cond b (housed from (cond b (housed home (slice_get objects k)) (slice_get objects k))) (cond b (housed home (slice_get objects k)) (slice_get objects k)) ≡ slice_get objects k
    by_test k true here = restored from home (slice_get objects k) (here refl)
    by_test k false here = refl

-- all that is below an object lives in its loop
pub home-below : (objects : List Object) (o h : ℕ) → Forest objects → home_of objects o ≡ Some h → {k : ℕ} → Above objects o k → home_of objects k ≡ Some h
home-below objects o h forest lives itself = lives
home-below objects o h forest lives (over_parent {o = child} {parent = parent} is above) =
    forest.one_loop parent child h (child-is objects child parent is) (home-below objects o h forest lives above)

pub life-home : (objects : List Object) (o h : ℕ) → home_of objects o ≡ Some h → IsSome (life_of objects o)
life-home objects o h at = lives-in_loop h [] o h objects at

-- ---- an object without a parent, and all below it
pub same_tests : (a b : Bool) → (a ≡ true → b ≡ true) → (b ≡ true → a ≡ true) → a ≡ b
same_tests true b forth back = sym (forth refl)
same_tests false true forth back = back refl
same_tests false false forth back = refl

module _ (objects : List Object) (o : ℕ) (root : parent_of objects o ≡ None) where
  under : {parent child : ℕ} → IsChild objects parent child → Above objects o child → Above objects o parent
  under {parent} {child} is itself = let up : parent_of objects o ≡ Some parent = parent-is objects o parent is in absurd (cc (sym root ∙ up))
  under {parent} {child} is (over_parent {parent = p} other above) =
      let same : p ≡ parent = same_Some p parent (sym other ∙ parent-is objects child parent is) in
      subst (λ (q : ℕ). Above objects o q) same above

  pub whole-below : (os : List ℕ) → AreBelow objects o os → AreWhole os objects
  whole-below os below parent child is =
      same_tests (is_among parent os) (is_among child os)
      (λ among. (below.all child).1 (over_parent (parent-is objects child parent is) ((below.all parent).0 among)))
      (λ among. (below.all parent).1 (under is ((below.all child).0 among)))
