-- What every tree keeps, with its index of names.
use Rattle.std.proofs.Common.{◌≡◌, ◌≢◌, ◌⊎◌, ⊎_elim, inl, inr, ℕ, zero, suc, ◌<◌, arith, true, false, List, [], ◌∷◌, ◌++◌, length, Option, None, Some, refl, sym, ap, ◌∙◌, subst}
use Rattle.std.specs.Prelude.{slice_get, is_some, MatchOption}
use Rattle.std.specs.Option.{option_map, option_and_then, unwrap_or}
use Rattle.std.proofs.lemmas.Bool.{cases_eq, eq-eqb, eqb-true}
use Rattle.std.proofs.lemmas.Option.{same_Some}
use Rattle.name_indexes.specs.NamePlaces.{place_in, Adds}
use Rattle.object_tree.specs.declared.life.Life.{Life}
use Rattle.object_tree.specs.declared.object.Object.{Object}
use Rattle.meta_model.specs.Among.{is_among}
use Rattle.object_tree.specs.Objects.{Lives, IsNamed, IsFree, change_life, with_life, name_of, home_of}
use Rattle.object_tree.specs.Family.{leaves, moved, dead, without_life, parent_of, children_of, IsChild, IsChildless}
use Rattle.object_tree.specs.Forest.{Forest, is_the}
use Rattle.object_tree.specs.code.Kept.{Kept}
use Rattle.meta_model.specs.Loaded.{Loaded}
use Rattle.object_tree.specs.Adopting.{MayAdopt, IsAdopted}
use Rattle.object_tree.proofs.Above.{parent_in, child-is, parent-is}
use Rattle.object_tree.proofs.Changing.{part-change, one-life, life-of-lives}
use Rattle.object_tree.proofs.Families.{Moves, moved-part, leaves-part, forest-same, forest-change, forest-died, forest-moved}

-- ---- names

-- what the index finds has the name, and nothing else has it
pub found-named : {names : List (List ℕ × ℕ)} (objects : List Object) (name : List ℕ) (o : ℕ) → Kept names objects → place_in names name ≡ Some o → IsNamed objects name o
found-named objects name o kept e = record {
  named = (kept.named name o).0 e;
  only = λ k n. same_Some _ _ (sym ((kept.named name k).1 n) ∙ e);
}

-- .. nothing has a name that it doesn't find
pub not_found-free : {names : List (List ℕ × ℕ)} (objects : List Object) (name : List ℕ) → Kept names objects → place_in names name ≡ None → IsFree objects name
not_found-free objects name kept e o n = let found = (kept.named name o).1 n in cc (e, found)

pub used-named : {names : List (List ℕ × ℕ)} (objects : List Object) (name : List ℕ) (found : Option ℕ) → Kept names objects → found ≡ place_in names name → is_some found ≡ true → (o : ℕ) × IsNamed objects name o
used-named objects name None kept e t = absurd (cc t)
used-named objects name (Some o) kept e t = (o, found-named objects name o kept (sym e))

pub unused-free : {names : List (List ℕ × ℕ)} (objects : List Object) (name : List ℕ) (found : Option ℕ) → Kept names objects → found ≡ place_in names name → is_some found ≡ false → IsFree objects name
unused-free objects name None kept e t = not_found-free objects name kept (sym e)
unused-free objects name (Some o) kept e t = absurd (cc t)

-- ---- changes

pub names-same : (names : List (List ℕ × ℕ)) (old new : List Object) → ((o : ℕ) → name_of new o ≡ name_of old o) → Forest new → Kept names old → Kept names new
names-same names old new same forest kept = record {
  named = λ name o. (λ e. same o ∙ (kept.named name o).0 e, λ e. (kept.named name o).1 (sym (same o) ∙ e));
  forest = forest;
}

pub kept-change : (names : List (List ℕ × ℕ)) (n : ℕ) (f : Life → Life) (objects : List Object) → ((l : Life) → (f l).parent ≡ l.parent) → ((l : Life) → (f l).home ≡ l.home) → Kept names objects → Kept names (change_life n f objects)
kept-change names n f objects parents homes kept =
    names-same names objects (change_life n f objects) (λ o. part-change (option_map (λ (x : Object). x.name)) n o (with_life f) objects (λ x. refl)) (forest-change n f objects parents homes kept.forest) kept

pub kept-died : (names : List (List ℕ × ℕ)) (o : ℕ) (objects : List Object) → Kept names objects → Kept names (without_life o objects)
kept-died names o objects kept =
    names-same names objects (without_life o objects) (λ k.
    part-change (option_map (λ (x : Object). x.name)) o k dead (leaves (parent_of objects o) o objects) (λ x. refl)
    ∙ leaves-part (option_map (λ (x : Object). x.name)) (parent_of objects o) o k objects (λ x. refl)) (forest-died o objects kept.forest) kept

pub kept-moved : (names : List (List ℕ × ℕ)) (a c : ℕ) (objects : List Object) → Moves objects a c → Kept names objects → Kept names (moved a c objects)
kept-moved names a c objects moves kept =
    names-same names objects (moved a c objects) (λ k. moved-part (option_map (λ (x : Object). x.name)) objects a c k (λ x l. refl) (λ x. refl)) (forest-moved objects a c moves) kept

-- ---- children

none-among : (o : ℕ) (ks : List ℕ) → slice_get ks 0 ≡ None → is_among o ks ≡ false
none-among o [] e = refl
none-among o (k ∷ ks) e = absurd (cc e)

first-among : (o : ℕ) (ks : List ℕ) → slice_get ks 0 ≡ Some o → is_among o ks ≡ true
first-among o [] e = absurd (cc e)
first-among o (k ∷ ks) e = rw (eq-eqb k o (same_Some _ _ e)) refl

pub the-is : (a : ℕ) (found : Option ℕ) → is_the a found ≡ true → found ≡ Some a
the-is a None e = absurd (cc e)
the-is a (Some b) e = ap Some (eqb-true b a e)

is-the : (a : ℕ) (found : Option ℕ) → found ≡ Some a → is_the a found ≡ true
is-the a found e = rw e (eq-eqb a a refl)

-- the first child of an object is a child
pub first-child : (objects : List Object) (a : ℕ) (found : Option ℕ) → Forest objects → found ≡ slice_get (children_of objects a) 0 → MatchOption found (IsChildless objects a) (IsChild objects a)
first-child objects a None forest e = λ o child.
    let none : is_among o (children_of objects a) ≡ false = none-among o (children_of objects a) (sym e) in
    let some : is_among o (children_of objects a) ≡ true = forest.listed a o ∙ is-the a (parent_of objects o) (parent-is objects o a child) in
    cc (none, some)
first-child objects a (Some o) forest e =
    let among : is_among o (children_of objects a) ≡ true = first-among o (children_of objects a) (sym e) in
    child-is objects o a (the-is a (parent_of objects o) (sym (forest.listed a o) ∙ among))

-- ---- an object that is created

list_cases : (a b : List ℕ) → (a ≡ b) ⊎ (a ≢ b)
list_cases [] [] = inl refl
list_cases [] (y ∷ b) = inr (λ e. cc e)
list_cases (x ∷ a) [] = inr (λ e. cc e)
list_cases (x ∷ a) (y ∷ b) = both (cases_eq x y) (list_cases a b)
  where
    both : ((x ≡ y) ⊎ (x ≢ y)) → ((a ≡ b) ⊎ (a ≢ b)) → (x ∷ a ≡ y ∷ b) ⊎ (x ∷ a ≢ y ∷ b)
    both (inl d) (inl e) = inl (cc (d, e))
    both (inl d) (inr e) = inr (λ f. e (cc f))
    both (inr d) other = inr (λ f. d (cc f))

name-front : (xs : List Object) (z : Object) (o : ℕ) (name : List ℕ) → name_of xs o ≡ Some name → name_of (xs ++ z ∷ []) o ≡ Some name
name-front [] z o name e = absurd (cc e)
name-front (x ∷ xs) z zero name e = e
name-front (x ∷ xs) z (suc o) name e = name-front xs z o name e

name-last : (xs : List Object) (z : Object) → name_of (xs ++ z ∷ []) (length xs) ≡ Some z.name
name-last [] z = refl
name-last (x ∷ xs) z = name-last xs z

name-appended : (xs : List Object) (z : Object) (o : ℕ) (name : List ℕ) → name_of (xs ++ z ∷ []) o ≡ Some name → (name_of xs o ≡ Some name) ⊎ ((o ≡ length xs) × (z.name ≡ name))
name-appended [] z zero name e = inr (refl, same_Some _ _ e)
name-appended [] z (suc o) name e = absurd (cc e)
name-appended (x ∷ xs) z zero name e = inl e
name-appended (x ∷ xs) z (suc o) name e = ⊎_elim
    (λ (old : name_of xs o ≡ Some name). inl old)
    (λ (last : (o ≡ length xs) × (z.name ≡ name)). inr (ap suc last.0, last.1))
    (name-appended xs z o name e)

parent-created : (xs : List Object) (z : Object) (o : ℕ) → parent_in (Some z) ≡ None → parent_of (xs ++ z ∷ []) o ≡ parent_of xs o
parent-created [] z zero none = none
parent-created [] z (suc o) none = refl
parent-created (x ∷ xs) z zero none = refl
parent-created (x ∷ xs) z (suc o) none = parent-created xs z o none

children-created : (xs : List Object) (z : Object) (o : ℕ) → z.children ≡ [] → children_of (xs ++ z ∷ []) o ≡ children_of xs o
children-created [] z zero none = none
children-created [] z (suc o) none = refl
children-created (x ∷ xs) z zero none = refl
children-created (x ∷ xs) z (suc o) none = children-created xs z o none

home-front : (xs : List Object) (z : Object) (o : ℕ) → o < length xs → home_of (xs ++ z ∷ []) o ≡ home_of xs o
home-front [] z o l = absurd (omega (arith, l))
home-front (x ∷ xs) z zero l = refl
home-front (x ∷ xs) z (suc o) l = home-front xs z o (omega (arith, l))

pub kept-created : (old new : List (List ℕ × ℕ)) (objects : List Object) (z : Object) → parent_in (Some z) ≡ None → z.children ≡ [] → IsFree objects z.name → Adds z.name (length objects) old new → Kept old objects → Kept new (objects ++ z ∷ [])
kept-created old new objects z orphan childless free adds kept = record {
  named = λ name o. (to name o (list_cases name z.name), from name o);
  forest = forest-same objects (objects ++ z ∷ []) (λ k. parent-created objects z k orphan) (λ k. children-created objects z k childless) (λ k within. home-front objects z k within) kept.forest;
}
  where
    unfound : place_in old z.name ≡ None
    unfound = by_place (place_in old z.name) refl
      where
        by_place : (found : Option ℕ) → place_in old z.name ≡ found → place_in old z.name ≡ None
        by_place None e = e
        by_place (Some k) e = absurd (free k ((kept.named z.name k).0 e))

    placed : place_in new z.name ≡ Some (length objects)
    placed = adds.named ∙ ap (λ (found : Option ℕ). Some (unwrap_or found (length objects))) unfound

    to : (name : List ℕ) (o : ℕ) → ((name ≡ z.name) ⊎ (name ≢ z.name)) → place_in new name ≡ Some o → name_of (objects ++ z ∷ []) o ≡ Some name
    to name o (inl same) e =
        let at : place_in new z.name ≡ Some o = subst (λ (n : List ℕ). place_in new n ≡ Some o) same e in
        let is : length objects ≡ o = same_Some _ _ (sym placed ∙ at) in
        subst (λ (k : ℕ). name_of (objects ++ z ∷ []) k ≡ Some name) is (name-last objects z ∙ ap Some (sym same))
    to name o (inr other) e = name-front objects z o name ((kept.named name o).0 (sym (adds.others name other) ∙ e))

    from : (name : List ℕ) (o : ℕ) → name_of (objects ++ z ∷ []) o ≡ Some name → place_in new name ≡ Some o
    from name o e = ⊎_elim
        (λ (was : name_of objects o ≡ Some name).
        let apart : name ≢ z.name = λ same. free o (was ∙ ap Some same) in
        adds.others name apart ∙ (kept.named name o).1 was)
        (λ (last : (o ≡ length objects) × (z.name ≡ name)). subst (λ (n : List ℕ). place_in new n ≡ Some o) last.1 (placed ∙ ap Some (sym last.0)))
        (name-appended objects z o name e)

-- ---- an object that gets another parent

pub moves-by : (objects : List Object) (p : Loaded) (a c : ℕ) (u v : Object) (x y : Life) → Forest objects → Lives objects a u x → Lives objects c v y → MayAdopt p objects a c x y → y.parent ≢ Some a → Moves objects a c
moves-by objects p a c u v x y forest owner child may elsewhere = record {
  forest = forest;
  owner = u;
  there = owner.is;
  child = v;
  life = y;
  lives = child;
  elsewhere = λ e. elsewhere (sym (ap parent_in child.is ∙ ap (λ (there : Option Life). option_and_then (λ (l : Life). l.parent) there) child.lives) ∙ e);
  no_cycle = may.no_cycle;
  one_loop = ap (option_map (λ (l : Life). l.home)) (life-of-lives owner) ∙ ap Some may.one_loop ∙ sym (ap (option_map (λ (l : Life). l.home)) (life-of-lives child));
}

pub adopts-moved : (p : Loaded) (objects new : List Object) (a c : ℕ) (s t u v : Object) (x y k l : Life) → Lives objects a s x → Lives objects c t y → Lives objects a u k → Lives objects c v l → MayAdopt p objects a c k l → l.parent ≢ Some a → new ≡ moved a c objects → MayAdopt p objects a c x y × IsAdopted a c y objects new
adopts-moved p objects new a c s t u v x y k l lx ly lu lv may elsewhere is =
    let same_owner : k ≡ x = one-life objects a u s k x lu lx in
    let same_child : l ≡ y = one-life objects c v t l y lv ly in
    let with_owner : MayAdopt p objects a c x l = subst (λ (w : Life). MayAdopt p objects a c w l) same_owner may in (
      subst (λ (w : Life). MayAdopt p objects a c x w) same_child with_owner,
      record { same = λ e. absurd (elsewhere (ap (λ (w : Life). w.parent) same_child ∙ e)); other = λ e. is },
    )
