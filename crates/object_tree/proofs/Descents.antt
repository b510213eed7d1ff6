-- A walk down from an object: the objects that it has passed, and those that it has found and not passed yet.
use Rattle.std.proofs.Common.{◌≡◌, ◌⊎◌, ⊎_elim, inl, inr, ℕ, zero, suc, ◌+◌, ◌<◌, ◌≤◌, eqb, Bool, true, false, ◌||◌, ◌&&◌, not, List, [], ◌∷◌, ◌++◌, length, take, drop, get_or, Option, None, Some, refl, sym, ap, ◌∙◌, subst, arith, append-nil}
use Rattle.std.specs.Prelude.{IsSome}
use Rattle.std.proofs.Math.ListN.{drop_of_length-le}
use Rattle.std.proofs.lemmas.Bool.{eqb-true, eq-eqb}
use Rattle.std.proofs.lemmas.List.{drop_more, take_more}
use Rattle.std.proofs.lemmas.Option.{slice_get_within, same_Some}
use Rattle.object_tree.specs.declared.life.Life.{Life}
use Rattle.object_tree.specs.declared.object.Object.{Object}
use Rattle.meta_model.specs.Among.{is_among}
use Rattle.object_tree.specs.Children.{are_distinct}
use Rattle.object_tree.specs.Objects.{Lives, life_of}
use Rattle.object_tree.specs.Family.{parent_of, children_of, Above, itself, over_parent}
use Rattle.object_tree.specs.Forest.{Forest, is_the}
use Rattle.object_tree.specs.Moving.{AreBelow}
use Rattle.object_tree.proofs.Above.{child-is}
use Rattle.object_tree.proofs.Changing.{lives-of-life}
use Rattle.object_tree.proofs.Keeping.{the-is}
use Rattle.object_tree.proofs.Walks.{few}

-- ---- lists one behind the other

either : (k : ℕ) (xs ys : List ℕ) → is_among k (xs ++ ys) ≡ true → (is_among k xs ≡ true) ⊎ (is_among k ys ≡ true)
either k [] ys e = inr e
either k (a ∷ xs) ys e = by_test (eqb a k) e (either k xs ys)
  where
    by_test : (b : Bool) → (b || is_among k (xs ++ ys)) ≡ true → (is_among k (xs ++ ys) ≡ true → (is_among k xs ≡ true) ⊎ (is_among k ys ≡ true)) → ((b || is_among k xs) ≡ true) ⊎ (is_among k ys ≡ true)
    by_test true h r = inl refl
    by_test false h r = r h

in_right : (k : ℕ) (xs ys : List ℕ) → is_among k ys ≡ true → is_among k (xs ++ ys) ≡ true
in_right k [] ys e = e
in_right k (a ∷ xs) ys e = by_test (eqb a k) (in_right k xs ys e)
  where
    by_test : (b : Bool) → is_among k (xs ++ ys) ≡ true → (b || is_among k (xs ++ ys)) ≡ true
    by_test true r = refl
    by_test false r = r

in_left : (k : ℕ) (xs ys : List ℕ) → is_among k xs ≡ true → is_among k (xs ++ ys) ≡ true
in_left k [] ys e = absurd (cc e)
in_left k (a ∷ xs) ys e = by_test (eqb a k) e (in_left k xs ys)
  where
    by_test : (b : Bool) → (b || is_among k xs) ≡ true → (is_among k xs ≡ true → is_among k (xs ++ ys) ≡ true) → (b || is_among k (xs ++ ys)) ≡ true
    by_test true h r = refl
    by_test false h r = r h

of_one : (k a : ℕ) → is_among k (a ∷ []) ≡ true → a ≡ k
of_one k a e = by_test (eqb a k) refl e
  where
    by_test : (b : Bool) → eqb a k ≡ b → (b || false) ≡ true → a ≡ k
    by_test true t h = eqb-true a k t
    by_test false t h = absurd (cc h)

the_one : (k : ℕ) → is_among k (k ∷ []) ≡ true
the_one k = rw (eq-eqb k k refl) refl

-- what a list of distinct numbers that begins with one says
record Begins (k : ℕ) (ks : List ℕ) : Type 0 where
  none : is_among k ks ≡ false
  rest : are_distinct ks ≡ true

begins : (k : ℕ) (ks : List ℕ) → are_distinct (k ∷ ks) ≡ true → Begins k ks
begins k ks e = by_test (is_among k ks) refl e
  where
    by_test : (b : Bool) → is_among k ks ≡ b → (not b && are_distinct ks) ≡ true → Begins k ks
    by_test true t h = absurd (cc h)
    by_test false t h = record { none = t; rest = h }

begun : (k : ℕ) (ks : List ℕ) → (is_among k ks ≡ true → ⊥) → are_distinct ks ≡ true → are_distinct (k ∷ ks) ≡ true
begun k ks n d = by_test (is_among k ks) refl
  where
    by_test : (b : Bool) → is_among k ks ≡ b → (not b && are_distinct ks) ≡ true
    by_test true t = absurd (n t)
    by_test false t = d

apart : (k : ℕ) (xs ys : List ℕ) → are_distinct (xs ++ ys) ≡ true → is_among k xs ≡ true → is_among k ys ≡ true → ⊥
apart k [] ys d e f = cc e
apart k (a ∷ xs) ys d e f = by_test (eqb a k) refl e (begins a (xs ++ ys) d) (λ rest left. apart k xs ys rest left f)
  where
    by_test : (b : Bool) → eqb a k ≡ b → (b || is_among k xs) ≡ true → Begins a (xs ++ ys) → (are_distinct (xs ++ ys) ≡ true → is_among k xs ≡ true → ⊥) → ⊥
    by_test true t h g r =
        let here : is_among a (xs ++ ys) ≡ true = subst (λ (j : ℕ). is_among j (xs ++ ys) ≡ true) (sym (eqb-true a k t)) (in_right k xs ys f) in
        let none : is_among a (xs ++ ys) ≡ false = g.none in
        cc (here, none)
    by_test false t h g r = r g.rest h

left-distinct : (xs ys : List ℕ) → are_distinct (xs ++ ys) ≡ true → are_distinct xs ≡ true
left-distinct [] ys d = refl
left-distinct (a ∷ xs) ys d =
    let g = begins a (xs ++ ys) d in
    begun a xs (λ e. let here : is_among a (xs ++ ys) ≡ true = in_left a xs ys e in let none : is_among a (xs ++ ys) ≡ false = g.none in cc (here, none)) (left-distinct xs ys g.rest)

right-distinct : (xs ys : List ℕ) → are_distinct (xs ++ ys) ≡ true → are_distinct ys ≡ true
right-distinct [] ys d = d
right-distinct (a ∷ xs) ys d = right-distinct xs ys (begins a (xs ++ ys) d).rest

both-distinct : (xs ys : List ℕ) → are_distinct xs ≡ true → are_distinct ys ≡ true → ((k : ℕ) → is_among k xs ≡ true → is_among k ys ≡ true → ⊥) → are_distinct (xs ++ ys) ≡ true
both-distinct [] ys d e n = e
both-distinct (a ∷ xs) ys d e n =
    let g = begins a xs d in
    begun a (xs ++ ys)
    (λ h. ⊎_elim
    (λ (left : is_among a xs ≡ true). let none : is_among a xs ≡ false = g.none in cc (left, none))
    (λ (right : is_among a ys ≡ true). n a (in_left a (a ∷ []) xs (the_one a)) right)
    (either a xs ys h))
    (both-distinct xs ys g.rest e (λ k i j. n k (in_right k (a ∷ []) xs i) j))

-- ---- the walk

pub record Walked (objects : List Object) (o : ℕ) (done todo : List ℕ) : Type 0 where
  pub distinct : are_distinct (done ++ todo) ≡ true
  pub sound : (k : ℕ) → is_among k (done ++ todo) ≡ true → Above objects o k
  pub root : is_among o (done ++ todo) ≡ true
  pub closed : (k c : ℕ) → is_among k done ≡ true → parent_of objects c ≡ Some k → is_among c (done ++ todo) ≡ true
  pub origin : (k : ℕ) → is_among k (done ++ todo) ≡ true → (k ≡ o) ⊎ ((p : ℕ) × (parent_of objects k ≡ Some p) × (is_among p done ≡ true))

module _ (objects : List Object) (o : ℕ) where
  walk-begins : Walked objects o [] (o ∷ [])
  walk-begins = record {
    distinct = refl;
    sound = λ k e. subst (λ (j : ℕ). Above objects o j) (of_one k o e) itself;
    root = the_one o;
    closed = λ k c e f. absurd (cc e);
    origin = λ k e. inl (sym (of_one k o e));
  }

  -- all are passed
  walk-ends : (done : List ℕ) → Walked objects o done [] → AreBelow objects o done
  walk-ends done w = record { distinct = left-distinct done [] w.distinct; all = λ k. (λ e. w.sound k (in_left k done [] e), λ above. complete above) }
    where
      whole : (k : ℕ) → is_among k (done ++ []) ≡ true → is_among k done ≡ true
      whole k e = subst (λ (ks : List ℕ). is_among k ks ≡ true) (append-nil done) e

      complete : {k : ℕ} → Above objects o k → is_among k done ≡ true
      complete itself = whole o w.root
      complete (over_parent {o = c} {parent = p} child above) = whole c (w.closed p c (complete above) child)

module _ (objects : List Object) (forest : Forest objects) where
  among-child : (x k : ℕ) → parent_of objects k ≡ Some x → is_among k (children_of objects x) ≡ true
  among-child x k e = forest.listed x k ∙ ap (is_the x) e ∙ eq-eqb x x refl

  child-among : (x k : ℕ) → is_among k (children_of objects x) ≡ true → parent_of objects k ≡ Some x
  child-among x k e = the-is x (parent_of objects k) (sym (forest.listed x k) ∙ e)

module _ (objects : List Object) (forest : Forest objects) (o : ℕ) (done rest : List ℕ) (x : ℕ) (w : Walked objects o done (rest ++ x ∷ [])) where
  here : is_among x (done ++ (rest ++ x ∷ [])) ≡ true
  here = in_right x done (rest ++ x ∷ []) (in_right x rest (x ∷ []) (the_one x))

  -- what was found still is
  still : (k : ℕ) → is_among k (done ++ (rest ++ x ∷ [])) ≡ true → is_among k ((done ++ x ∷ []) ++ (rest ++ children_of objects x)) ≡ true
  still k e = ⊎_elim
      (λ (d : is_among k done ≡ true). in_left k (done ++ x ∷ []) (rest ++ children_of objects x) (in_left k done (x ∷ []) d))
      (λ (t : is_among k (rest ++ x ∷ []) ≡ true). ⊎_elim
      (λ (r : is_among k rest ≡ true). in_right k (done ++ x ∷ []) (rest ++ children_of objects x) (in_left k rest (children_of objects x) r))
      (λ (n : is_among k (x ∷ []) ≡ true). in_left k (done ++ x ∷ []) (rest ++ children_of objects x) (in_right k done (x ∷ []) n))
      (either k rest (x ∷ []) t))
      (either k done (rest ++ x ∷ []) e)

  -- and else only the children are new
  was : (k : ℕ) → is_among k ((done ++ x ∷ []) ++ (rest ++ children_of objects x)) ≡ true → (is_among k (done ++ (rest ++ x ∷ [])) ≡ true) ⊎ (is_among k (children_of objects x) ≡ true)
  was k e = ⊎_elim
      (λ (d : is_among k (done ++ x ∷ []) ≡ true). inl (⊎_elim
      (λ (i : is_among k done ≡ true). in_left k done (rest ++ x ∷ []) i)
      (λ (n : is_among k (x ∷ []) ≡ true). in_right k done (rest ++ x ∷ []) (in_right k rest (x ∷ []) n))
      (either k done (x ∷ []) d)))
      (λ (t : is_among k (rest ++ children_of objects x) ≡ true). ⊎_elim
      (λ (r : is_among k rest ≡ true). inl (in_right k done (rest ++ x ∷ []) (in_left k rest (x ∷ []) r)))
      (λ (c : is_among k (children_of objects x) ≡ true). inr c)
      (either k rest (children_of objects x) t))
      (either k (done ++ x ∷ []) (rest ++ children_of objects x) e)

  -- no child was found before
  fresh : (k : ℕ) → is_among k (children_of objects x) ≡ true → is_among k (done ++ (rest ++ x ∷ [])) ≡ true → ⊥
  fresh k c e =
      let up : parent_of objects k ≡ Some x = child-among objects forest x k c in
      ⊎_elim
      (λ (root : k ≡ o). forest.acyclic x k (child-is objects k x up) (subst (λ (j : ℕ). Above objects j x) (sym root) (w.sound x here)))
      (λ (from : (p : ℕ) × (parent_of objects k ≡ Some p) × (is_among p done ≡ true)).
      let same : from.0 ≡ x = same_Some _ _ (sym from.1 ∙ up) in
      apart x done (rest ++ x ∷ []) w.distinct (subst (λ (j : ℕ). is_among j done ≡ true) same from.2) (in_right x rest (x ∷ []) (the_one x)))
      (w.origin k e)

  -- one more is passed, and its children are found
  walk-on : Walked objects o (done ++ x ∷ []) (rest ++ children_of objects x)
  walk-on = record {
    distinct = both-distinct (done ++ x ∷ []) (rest ++ children_of objects x)
        (both-distinct done (x ∷ []) (left-distinct done (rest ++ x ∷ []) w.distinct) refl (λ k d n. apart k done (rest ++ x ∷ []) w.distinct d (in_right k rest (x ∷ []) n)))
        (both-distinct rest (children_of objects x) (left-distinct rest (x ∷ []) (right-distinct done (rest ++ x ∷ []) w.distinct)) (forest.distinct x)
        (λ k r c. fresh k c (in_right k done (rest ++ x ∷ []) (in_left k rest (x ∷ []) r))))
        (λ k d t. ⊎_elim
        (λ (r : is_among k rest ≡ true). ⊎_elim
        (λ (i : is_among k done ≡ true). apart k done (rest ++ x ∷ []) w.distinct i (in_left k rest (x ∷ []) r))
        (λ (n : is_among k (x ∷ []) ≡ true). apart k rest (x ∷ []) (right-distinct done (rest ++ x ∷ []) w.distinct) r n)
        (either k done (x ∷ []) d))
        (λ (c : is_among k (children_of objects x) ≡ true). fresh k c (⊎_elim
        (λ (i : is_among k done ≡ true). in_left k done (rest ++ x ∷ []) i)
        (λ (n : is_among k (x ∷ []) ≡ true). in_right k done (rest ++ x ∷ []) (in_right k rest (x ∷ []) n))
        (either k done (x ∷ []) d)))
        (either k rest (children_of objects x) t));
    sound = λ k e. ⊎_elim
        (λ (old : is_among k (done ++ (rest ++ x ∷ [])) ≡ true). w.sound k old)
        (λ (c : is_among k (children_of objects x) ≡ true). over_parent (child-among objects forest x k c) (w.sound x here))
        (was k e);
    root = still o w.root;
    closed = λ k c e up. ⊎_elim
        (λ (d : is_among k done ≡ true). still c (w.closed k c d up))
        (λ (n : is_among k (x ∷ []) ≡ true).
        let same : x ≡ k = of_one k x n in
        in_right c (done ++ x ∷ []) (rest ++ children_of objects x) (in_right c rest (children_of objects x) (among-child objects forest x c (up ∙ ap Some (sym same)))))
        (either k done (x ∷ []) e);
    origin = λ k e. ⊎_elim
        (λ (old : is_among k (done ++ (rest ++ x ∷ [])) ≡ true). ⊎_elim
        (λ (root : k ≡ o). inl root)
        (λ (from : (p : ℕ) × (parent_of objects k ≡ Some p) × (is_among p done ≡ true)). inr (from.0, from.1, in_left from.0 done (x ∷ []) from.2))
        (w.origin k old))
        (λ (c : is_among k (children_of objects x) ≡ true). inr (x, child-among objects forest x k c, in_right x done (x ∷ []) (the_one x)))
        (was k e);
  }

-- ---- what is found stands in one list, of which so many are passed

take-over : (i : ℕ) (xs ys : List ℕ) → i ≤ length xs → take i (xs ++ ys) ≡ take i xs
take-over zero [] [] h = refl
take-over zero [] (y ∷ ys) h = refl
take-over zero (x ∷ xs) ys h = refl
take-over (suc i) [] ys h = absurd (omega (arith, h))
take-over (suc i) (x ∷ xs) ys h = ap (λ (ks : List ℕ). x ∷ ks) (take-over i xs ys (omega (arith, h)))

drop-over : (i : ℕ) (xs ys : List ℕ) → i ≤ length xs → drop i (xs ++ ys) ≡ drop i xs ++ ys
drop-over zero [] [] h = refl
drop-over zero [] (y ∷ ys) h = refl
drop-over zero (x ∷ xs) ys h = refl
drop-over (suc i) [] ys h = absurd (omega (arith, h))
drop-over (suc i) (x ∷ xs) ys h = drop-over i xs ys (omega (arith, h))

pub length-taken : (i : ℕ) (xs : List ℕ) → i ≤ length xs → length (take i xs) ≡ i
length-taken zero [] h = refl
length-taken zero (x ∷ xs) h = refl
length-taken (suc i) [] h = absurd (omega (arith, h))
length-taken (suc i) (x ∷ xs) h = ap suc (length-taken i xs (omega (arith, h)))

pub take-past : (i : ℕ) (xs : List ℕ) → length xs ≤ i → take i xs ≡ xs
take-past zero [] h = refl
take-past (suc i) [] h = refl
take-past zero (x ∷ xs) h = absurd (omega (arith, h))
take-past (suc i) (x ∷ xs) h = ap (λ (ks : List ℕ). x ∷ ks) (take-past i xs (omega (arith, h)))

abbrev pub WalkedUpto : List Object → ℕ → ℕ → List ℕ → Type 0
WalkedUpto objects o passed found = Walked objects o (take passed found) (drop passed found)

module _ (objects : List Object) (o : ℕ) where
  pub walk-starts : WalkedUpto objects o 0 (o ∷ [])
  walk-starts = walk-begins objects o

  pub walk-stops : (passed : ℕ) (found : List ℕ) → length found ≤ passed → WalkedUpto objects o passed found → AreBelow objects o found
  walk-stops passed found past w =
      walk-ends objects o found
      (subst (λ (ks : List ℕ). Walked objects o ks []) (take-past passed found past)
      (subst (λ (ks : List ℕ). Walked objects o (take passed found) ks) (drop_of_length-le found past) w))

module _ (objects : List Object) (o : ℕ) (done rest : List ℕ) (x : ℕ) where
  swap : (k : ℕ) → is_among k (x ∷ rest) ≡ true → is_among k (rest ++ x ∷ []) ≡ true
  swap k e = ⊎_elim
      (λ (n : is_among k (x ∷ []) ≡ true). in_right k rest (x ∷ []) n)
      (λ (r : is_among k rest ≡ true). in_left k rest (x ∷ []) r)
      (either k (x ∷ []) rest e)

  swap-back : (k : ℕ) → is_among k (rest ++ x ∷ []) ≡ true → is_among k (x ∷ rest) ≡ true
  swap-back k e = ⊎_elim
      (λ (r : is_among k rest ≡ true). in_right k (x ∷ []) rest r)
      (λ (n : is_among k (x ∷ []) ≡ true). in_left k (x ∷ []) rest n)
      (either k rest (x ∷ []) e)

  there-too : (k : ℕ) → is_among k (done ++ (x ∷ rest)) ≡ true → is_among k (done ++ (rest ++ x ∷ [])) ≡ true
  there-too k e = ⊎_elim
      (λ (d : is_among k done ≡ true). in_left k done (rest ++ x ∷ []) d)
      (λ (t : is_among k (x ∷ rest) ≡ true). in_right k done (rest ++ x ∷ []) (swap k t))
      (either k done (x ∷ rest) e)

  back-too : (k : ℕ) → is_among k (done ++ (rest ++ x ∷ [])) ≡ true → is_among k (done ++ (x ∷ rest)) ≡ true
  back-too k e = ⊎_elim
      (λ (d : is_among k done ≡ true). in_left k done (x ∷ rest) d)
      (λ (t : is_among k (rest ++ x ∷ []) ≡ true). in_right k done (x ∷ rest) (swap-back k t))
      (either k done (rest ++ x ∷ []) e)

  -- whichever is passed next
  turned : Walked objects o done (x ∷ rest) → Walked objects o done (rest ++ x ∷ [])
  turned w =
      let first = begins x rest (right-distinct done (x ∷ rest) w.distinct) in
      record {
        distinct = both-distinct done (rest ++ x ∷ []) (left-distinct done (x ∷ rest) w.distinct)
            (both-distinct rest (x ∷ []) first.rest refl (λ k r n.
            let none : is_among x rest ≡ false = first.none in
            let here : is_among x rest ≡ true = subst (λ (j : ℕ). is_among j rest ≡ true) (sym (of_one k x n)) r in
            cc (none, here)))
            (λ k d t. apart k done (x ∷ rest) w.distinct d (swap-back k t));
        sound = λ k e. w.sound k (back-too k e);
        root = there-too o w.root;
        closed = λ k c e up. there-too c (w.closed k c e up);
        origin = λ k e. w.origin k (back-too k e);
      }

pub take-next : (passed : ℕ) (found children : List ℕ) (x : ℕ) → passed < length found → x ≡ get_or found passed x → take (passed + 1) (found ++ children) ≡ take passed found ++ x ∷ []
take-next passed found children x below is =
    take-over (passed + 1) found children (omega (arith, below)) ∙ take_more found passed x below ∙ ap (λ (y : ℕ). take passed found ++ y ∷ []) (sym is)

-- what is passed, and what is passed next, is below
pub walk-passed : (objects : List Object) (o passed : ℕ) (found : List ℕ) → WalkedUpto objects o passed found → (k : ℕ) → is_among k (take passed found) ≡ true → Above objects o k
walk-passed objects o passed found w k e = w.sound k (in_left k (take passed found) (drop passed found) e)

pub walk-at : (objects : List Object) (o passed : ℕ) (found : List ℕ) (x : ℕ) → passed < length found → x ≡ get_or found passed x → WalkedUpto objects o passed found → Above objects o x
walk-at objects o passed found x below is w =
    let left : List ℕ = drop (passed + 1) found in
    let cut : drop passed found ≡ x ∷ left = drop_more found passed x below ∙ ap (λ (y : ℕ). y ∷ left) (sym is) in
    w.sound x (in_right x (take passed found) (drop passed found) (subst (λ (ks : List ℕ). is_among x ks ≡ true) (sym cut) (in_left x (x ∷ []) left (the_one x))))

-- one more is passed, and its children come behind all
pub walk-next : (objects : List Object) (forest : Forest objects) (o passed : ℕ) (found : List ℕ) (x : ℕ) → passed < length found → x ≡ get_or found passed x → WalkedUpto objects o passed found → WalkedUpto objects o (passed + 1) (found ++ children_of objects x)
walk-next objects forest o passed found x below is w =
    let done : List ℕ = take passed found in
    let left : List ℕ = drop (passed + 1) found in
    let children : List ℕ = children_of objects x in
    let fits : passed + 1 ≤ length found = omega (arith, below) in
    let cut : drop passed found ≡ x ∷ left = drop_more found passed x below ∙ ap (λ (y : ℕ). y ∷ left) (sym is) in
    let more : take (passed + 1) (found ++ children) ≡ done ++ x ∷ [] = take-next passed found children x below is in
    let next = walk-on objects forest o done left x (turned objects o done left x (subst (λ (ks : List ℕ). Walked objects o done ks) cut w)) in
    subst (λ (ks : List ℕ). Walked objects o ks (drop (passed + 1) (found ++ children))) (sym more)
    (subst (λ (ks : List ℕ). Walked objects o (done ++ x ∷ []) ks) (sym (drop-over (passed + 1) found children fits)) next)

module _ (objects : List Object) (o : ℕ) where
  -- no more are passed than were created
  within : (there : o < length objects) (k : ℕ) → Above objects o k → k < length objects
  within there k itself = there
  within there k (over_parent {parent = p} child above) = let is = child-is objects k p child in slice_get_within objects k is.object is.lives.is

  walk-bound : (l : Life) → life_of objects o ≡ Some l → (done todo : List ℕ) → Walked objects o done todo → length done ≤ length objects
  walk-bound l lives done todo w =
      let there : (x : Object) × Lives objects o x l = lives-of-life objects o l lives in
      few (length objects) done (left-distinct done todo w.distinct) (λ k among. within (slice_get_within objects o there.0 there.1.is) k (w.sound k (in_left k done todo among)))

  pub walk-within : IsSome (life_of objects o) → (done todo : List ℕ) → Walked objects o done todo → length done ≤ length objects
  walk-within lives done todo w = by_life (life_of objects o) refl lives
    where
      by_life : (there : Option Life) → life_of objects o ≡ there → IsSome there → length done ≤ length objects
      by_life None at is = absurd (cc is)
      by_life (Some l) at is = walk-bound l at done todo w
