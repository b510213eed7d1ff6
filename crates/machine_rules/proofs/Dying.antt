-- Objects that die.
use Rattle.std.proofs.Common.{◌≡◌, ◌≢◌, ⊎_elim, ◌⊎◌, inl, inr, ℕ, zero, suc, ◌<◌, ◌≤◌, Bool, true, false, List, [], ◌∷◌, length, Option, None, Some, slice_get, refl, sym, ap, ◌∙◌, subst, arith}
use Rattle.std.specs.Prelude.{is_some}
use Rattle.std.specs.Option.{option_map, option_and_then, option_copied}
use denote.Bor.{Bor}
use Rattle.std.proofs.lemmas.Bool.{cases_eq}
use Rattle.std.proofs.lemmas.Option.{slice_get_within}
use Rattle.object_tree.specs.declared.life.Life.{Life}
use Rattle.object_tree.specs.declared.object.Object.{Object}
use Rattle.object_tree.specs.Objects.{Lives, life_of, class_of, name_of, change_life, with_life, scheduled}
use Rattle.object_tree.specs.Family.{parent_of, leaves, left_by, dead, without_life}
use Rattle.object_tree.specs.Seen.{seen_object, seen_reference}
use Rattle.object_tree.proofs.Changing.{get-change_same, get-change_other, length-change, part-change, life-part, life-of-lives}
use Rattle.object_tree.proofs.Families.{leaves-part}
use Rattle.machine_state.specs.Connections.{is_living}
use Rattle.machine_rules.specs.There.{IsDead}
use Rattle.machine_rules.specs.code.Keeps.{StayThere}

-- ---- the living and the dead

-- what lives isn't dead
pub living-not-dead : (objects : List Object) (o : ℕ) {l : Life} → life_of objects o ≡ Some l → ¬ IsDead objects o
living-not-dead objects o is gone = by_object (slice_get objects o) is gone
  where
    by_life : (there : Option Life) → {l : Life} → there ≡ Some l → option_map (λ (m : Life). o) there ≡ None → ⊥
    by_life None e f = absurd (cc e)
    by_life (Some m) e f = absurd (cc f)

    by_object : (there : Option Object) → {l : Life} → option_and_then (λ (x : Object). x.life) there ≡ Some l → seen_object there o ≡ None → ⊥
    by_object None e f = absurd (cc e)
    by_object (Some x) e f = by_life x.life e f

pub lives-not-dead : {objects : List Object} {o : ℕ} {x : Object} {l : Life} → Lives objects o x l → ¬ IsDead objects o
lives-not-dead {objects} {o} lives = living-not-dead objects o (life-of-lives lives)

-- what is dead lives no life
pub dead-no-life : (objects : List Object) (o : ℕ) → IsDead objects o → life_of objects o ≡ None
dead-no-life objects o gone = by_life (life_of objects o) refl
  where
    by_life : (there : Option Life) → life_of objects o ≡ there → there ≡ None
    by_life None is = refl
    by_life (Some l) is = absurd (living-not-dead objects o is gone)

-- what was created lives or is dead
pub lives-or-dead : (objects : List Object) (o : ℕ) → o < length objects → ((x : Object) × (l : Life) × Lives objects o x l) ⊎ IsDead objects o
lives-or-dead objects o created = by_object (slice_get objects o) refl
  where
    past : (xs : List Object) (k : ℕ) → slice_get xs k ≡ None → length xs ≤ k
    past [] k e = omega arith
    past (y ∷ xs) zero e = absurd (cc e)
    past (y ∷ xs) (suc k) e = let more = past xs k e in omega (arith, more)

    by_life : (x : Object) → slice_get objects o ≡ Some x → (there : Option Life) → x.life ≡ there → ((y : Object) × (l : Life) × Lives objects o y l) ⊎ IsDead objects o
    by_life x is None none = inr (ap (λ (t : Option Object). seen_object t o) is ∙ ap (option_map (λ (l : Life). o)) none)
    by_life x is (Some l) some = inl (x, l, record { is = is; lives = some })

    by_object : (there : Option Object) → slice_get objects o ≡ there → ((y : Object) × (l : Life) × Lives objects o y l) ⊎ IsDead objects o
    by_object None is = absurd (omega (arith, created, past objects o is))
    by_object (Some x) is = by_life x is x.life refl

-- what is dead was created
pub dead-created : (objects : List Object) (o : ℕ) → IsDead objects o → o < length objects
dead-created objects o gone = by_object (slice_get objects o) refl gone
  where
    by_object : (there : Option Object) → slice_get objects o ≡ there → seen_object there o ≡ None → o < length objects
    by_object None is f = absurd (cc f)
    by_object (Some x) is f = slice_get_within objects o x is

-- .. and so was what lives
pub lives-created : {objects : List Object} {o : ℕ} {x : Object} {l : Life} → Lives objects o x l → o < length objects
lives-created {objects} {o} {x} lives = slice_get_within objects o x lives.is

-- what isn't found is none, behind a test
pub copied-none : {X : Type 0} (found : Option (Bor X)) (b : Bool) → b ≡ is_some found → b ≡ false → None ≡ option_copied found
copied-none None b e f = refl
copied-none (Some x) b e f = let no : true ≡ false = sym e ∙ f in absurd (cc no)

pub copied-living : (objects : List Object) (o : ℕ) (found : Option (Bor Life)) (b : Bool) → b ≡ is_some found → b ≡ true → option_copied found ≡ life_of objects o → is_living objects o ≡ true
copied-living objects o None b e f is = let no : false ≡ true = sym e ∙ f in absurd (cc no)
copied-living objects o (Some x) b e f is = ap (λ (life : Option Life). is_some life) (sym is)

-- ---- one dies

module _ (objects : List Object) (x : ℕ) where
  -- another one shows the same
  other-shows : {X : Type 0} (part : Option Object → X) (k : ℕ) → ((y : Object) → part (Some (left_by x y)) ≡ part (Some y)) → k ≢ x → part (slice_get (without_life x objects) k) ≡ part (slice_get objects k)
  other-shows part k same other =
      ap part (get-change_other x k dead (leaves (parent_of objects x) x objects) other)
      ∙ leaves-part part (parent_of objects x) x k objects same

  other-class : (k : ℕ) → k ≢ x → class_of (without_life x objects) k ≡ class_of objects k
  other-class k other = other-shows (λ (there : Option Object). option_map (λ (l : Life). l.class) (option_and_then (λ (y : Object). y.life) there)) k (λ y. refl) other

  other-home : (k : ℕ) → k ≢ x → option_map (λ (l : Life). l.home) (life_of (without_life x objects) k) ≡ option_map (λ (l : Life). l.home) (life_of objects k)
  other-home k other = other-shows (λ (there : Option Object). option_map (λ (l : Life). l.home) (option_and_then (λ (y : Object). y.life) there)) k (λ y. refl) other

  pub other-seen : (k : ℕ) → k ≢ x → seen_reference (without_life x objects) (Some k) ≡ seen_reference objects (Some k)
  other-seen k other = other-shows (λ (there : Option Object). seen_object there k) k (λ y. refl) other

  -- it is dead
  pub died-dead : {name : List ℕ} → name_of objects x ≡ Some name → IsDead (without_life x objects) x
  died-dead {name} named =
      let left = leaves (parent_of objects x) x objects in
      let still : option_map (λ (y : Object). y.name) (slice_get left x) ≡ Some name =
      leaves-part (option_map (λ (y : Object). y.name)) (parent_of objects x) x x objects (λ y. refl) ∙ named in
      ap (λ (there : Option Object). seen_object there x) (get-change_same x dead left) ∙ by_object (slice_get left x) still
    where
      by_object : (there : Option Object) → option_map (λ (y : Object). y.name) there ≡ Some name → seen_object (option_map dead there) x ≡ None
      by_object None e = absurd (cc e)
      by_object (Some y) e = refl

  length-died : length (without_life x objects) ≡ length objects
  length-died = length-change x dead (leaves (parent_of objects x) x objects) ∙ by_parent (parent_of objects x)
    where
      by_parent : (from : Option ℕ) → length (leaves from x objects) ≡ length objects
      by_parent None = refl
      by_parent (Some parent) = length-change parent (left_by x) objects

  -- all others stay as they are
  pub died-stay : {name : List ℕ} → name_of objects x ≡ Some name → StayThere objects (without_life x objects)
  died-stay named = record {
    living = λ o class is. ⊎_elim
        (λ (same : o ≡ x). inr (subst (λ (j : ℕ). IsDead (without_life x objects) j) (sym same) (died-dead named)))
        (λ (other : o ≢ x). inl (other-class o other ∙ is))
        (cases_eq o x);
    dead = λ o is. ⊎_elim
        (λ (same : o ≡ x). subst (λ (j : ℕ). IsDead (without_life x objects) j) (sym same) (died-dead named))
        (λ (other : o ≢ x). other-seen o other ∙ is)
        (cases_eq o x);
    created = omega (arith, length-died);
  }

  -- and live where they lived
  pub died-home : {name : List ℕ} (o home : ℕ) → name_of objects x ≡ Some name → option_map (λ (l : Life). l.home) (life_of (without_life x objects) o) ≡ Some home → option_map (λ (l : Life). l.home) (life_of objects o) ≡ Some home
  died-home o home named is = ⊎_elim
      (λ (same : o ≡ x).
      let gone : life_of (without_life x objects) o ≡ None = ap (λ (j : ℕ). life_of (without_life x objects) j) same ∙ dead-no-life (without_life x objects) x (died-dead named) in
      let no : None ≡ Some home = ap (option_map (λ (l : Life). l.home)) (sym gone) ∙ is in
      absurd (cc no))
      (λ (other : o ≢ x). sym (other-home o other) ∙ is)
      (cases_eq o x)

-- ---- one is scheduled

module _ (objects : List Object) (x : ℕ) where
  scheduled-class : (o : ℕ) → class_of (change_life x scheduled objects) o ≡ class_of objects o
  scheduled-class o = part-change (λ (there : Option Object). option_map (λ (l : Life). l.class) (option_and_then (λ (y : Object). y.life) there)) x o (with_life scheduled) objects
      (λ y. life-part (option_map (λ (l : Life). l.class)) scheduled (λ l. refl) y.life)

  pub scheduled-seen : (o : ℕ) → seen_reference (change_life x scheduled objects) (Some o) ≡ seen_reference objects (Some o)
  scheduled-seen o = part-change (λ (there : Option Object). seen_object there o) x o (with_life scheduled) objects
      (λ y. life-part (option_map (λ (l : Life). o)) scheduled (λ l. refl) y.life)

  pub scheduled-stay : StayThere objects (change_life x scheduled objects)
  scheduled-stay = record {
    living = λ o class is. inl (scheduled-class o ∙ is);
    dead = λ o is. scheduled-seen o ∙ is;
    created = omega (arith, length-change x (with_life scheduled) objects);
  }
