-- Walks up to the parents: they end, and the number of objects that they meet falls with each step.
use Rattle.std.proofs.Common.{◌≡◌, ℕ, zero, suc, ◌<◌, ◌≤◌, eqb, Bool, true, false, ◌||◌, ◌&&◌, not, List, [], ◌∷◌, length, Option, None, Some, refl, sym, ap, ◌∙◌, subst, arith}
use Rattle.std.proofs.lemmas.Bool.{eqb-true, eq-eqb}
use Rattle.object_tree.specs.declared.object.Object.{Object}
use Rattle.meta_model.specs.Among.{is_among}
use Rattle.object_tree.specs.Children.{without, are_distinct}
use Rattle.object_tree.specs.Family.{parent_of, Above, itself, over_parent}
use Rattle.object_tree.specs.Forest.{Forest}
use Rattle.object_tree.proofs.Above.{child-is}
use Rattle.object_tree.proofs.Families.{parent-there}
use Rattle.object_tree.proofs.Lists.{among-without_sub, among-without_same, distinct-without, length-without}

-- what a walk meets from the parent on
abbrev pub rest : (ℕ → List ℕ) → Option ℕ → List ℕ
rest walked None = []
rest walked (Some parent) = walked parent

-- the objects that a walk up of at most so many steps meets, the first one too
abbrev pub path : (ℕ → Option ℕ) → ℕ → ℕ → List ℕ
path up zero o = o ∷ []
path up (suc k) o = o ∷ rest (path up k) (up o)

-- how many objects a walk up from this one meets
abbrev pub depth : List Object → ℕ → ℕ
depth objects o = length (path (parent_of objects) (suc (length objects)) o)

-- distinct numbers below n are at most n
pub few : (n : ℕ) (ks : List ℕ) → are_distinct ks ≡ true → ((k : ℕ) → is_among k ks ≡ true → k < n) → length ks ≤ n
few zero [] d h = omega arith
few zero (k ∷ ks) d h =
    let none : k < 0 = h k (rw (eq-eqb k k refl) refl) in
    absurd (omega (arith, none))
few (suc n) ks d h =
    let less : length (without n ks) ≤ n = few n (without n ks) (distinct-without n ks d) (λ k among.
    let within : k < suc n = h k (among-without_sub n k ks among) in
    let apart : k ≡ n → ⊥ = λ same.
    let gone : is_among n (without n ks) ≡ false = among-without_same n ks d in
    let here : is_among n (without n ks) ≡ true = subst (λ (j : ℕ). is_among j (without n ks) ≡ true) same among in
    cc (gone, here) in
    omega (arith, within, apart)) in
    omega (arith, less, length-without n ks)

module _ (objects : List Object) (forest : Forest objects) where
  -- what a walk meets is above where it began
  among-above : (k q o : ℕ) → is_among q (path (parent_of objects) k o) ≡ true → Above objects q o
  among-above zero q o e = by_test (eqb o q) refl e
    where
      by_test : (b : Bool) → eqb o q ≡ b → (b || false) ≡ true → Above objects q o
      by_test true t h = subst (λ (j : ℕ). Above objects q j) (sym (eqb-true o q t)) itself
      by_test false t h = absurd (cc h)
  among-above (suc k) q o e = by_test (eqb o q) refl (parent_of objects o) refl e (among-above k q)
    where
      by_test : (b : Bool) → eqb o q ≡ b → (found : Option ℕ) → parent_of objects o ≡ found → (b || is_among q (rest (path (parent_of objects) k) found)) ≡ true → ((p : ℕ) → is_among q (path (parent_of objects) k p) ≡ true → Above objects q p) → Above objects q o
      by_test true t found f h r = subst (λ (j : ℕ). Above objects q j) (sym (eqb-true o q t)) itself
      by_test false t None f h r = absurd (cc h)
      by_test false t (Some p) f h r = over_parent f (r p h)

  -- it meets no object twice
  distinct-path : (k o : ℕ) → are_distinct (path (parent_of objects) k o) ≡ true
  distinct-path zero o = refl
  distinct-path (suc k) o = by_parent (parent_of objects o) refl (distinct-path k)
    where
      by_among : (b : Bool) (p : ℕ) → parent_of objects o ≡ Some p → is_among o (path (parent_of objects) k p) ≡ b → are_distinct (path (parent_of objects) k p) ≡ true → (not b && are_distinct (path (parent_of objects) k p)) ≡ true
      by_among true p f e r = absurd (forest.acyclic p o (child-is objects o p f) (among-above k o p e))
      by_among false p f e r = r

      by_parent : (found : Option ℕ) → parent_of objects o ≡ found → ((p : ℕ) → are_distinct (path (parent_of objects) k p) ≡ true) → (not (is_among o (rest (path (parent_of objects) k) found)) && are_distinct (rest (path (parent_of objects) k) found)) ≡ true
      by_parent None f r = refl
      by_parent (Some p) f r = by_among (is_among o (path (parent_of objects) k p)) p f refl (r p)

  there : (parent child : ℕ) → parent_of objects child ≡ Some parent → parent < length objects
  there parent child f = parent-there objects parent child (forest.listed parent child) f

  -- .. nor one that isn't there
  path-there : (k q o : ℕ) → o < length objects → is_among q (path (parent_of objects) k o) ≡ true → q < length objects
  path-there zero q o l e = by_test (eqb o q) refl e
    where
      by_test : (b : Bool) → eqb o q ≡ b → (b || false) ≡ true → q < length objects
      by_test true t h = let same : o ≡ q = eqb-true o q t in omega (arith, same, l)
      by_test false t h = absurd (cc h)
  path-there (suc k) q o l e = by_test (eqb o q) refl (parent_of objects o) refl e (path-there k q)
    where
      by_test : (b : Bool) → eqb o q ≡ b → (found : Option ℕ) → parent_of objects o ≡ found → (b || is_among q (rest (path (parent_of objects) k) found)) ≡ true → ((p : ℕ) → p < length objects → is_among q (path (parent_of objects) k p) ≡ true → q < length objects) → q < length objects
      by_test true t found f h r = let same : o ≡ q = eqb-true o q t in omega (arith, same, l)
      by_test false t None f h r = absurd (cc h)
      by_test false t (Some p) f h r = r p (there p o f) h

  -- a walk that ends early ends with more steps too
  steady : (k o : ℕ) → length (path (parent_of objects) k o) ≤ k → path (parent_of objects) k o ≡ path (parent_of objects) (suc k) o
  steady zero o l = absurd (omega (arith, l))
  steady (suc k) o l = by_parent (parent_of objects o) l (steady k)
    where
      by_parent : (found : Option ℕ) → length (o ∷ rest (path (parent_of objects) k) found) ≤ suc k → ((p : ℕ) → length (path (parent_of objects) k p) ≤ k → path (parent_of objects) k p ≡ path (parent_of objects) (suc k) p) → o ∷ rest (path (parent_of objects) k) found ≡ o ∷ rest (path (parent_of objects) (suc k)) found
      by_parent None h r = refl
      by_parent (Some p) h r = ap (λ (ks : List ℕ). o ∷ ks) (r p (omega (arith, h)))

  -- an object meets one more than its parent
  pub deeper : (o parent : ℕ) → parent_of objects o ≡ Some parent → depth objects o ≡ suc (depth objects parent)
  deeper o parent f =
      let bound : length (path (parent_of objects) (length objects) parent) ≤ length objects =
      few (length objects) (path (parent_of objects) (length objects) parent) (distinct-path (length objects) parent) (λ q among. path-there (length objects) q parent (there parent o f) among) in
      ap (λ (found : Option ℕ). suc (length (rest (path (parent_of objects) (length objects)) found))) f
      ∙ ap (λ (ks : List ℕ). suc (length ks)) (steady (length objects) parent bound)
