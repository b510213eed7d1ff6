-- Objects whose properties have values of their types, after a change.
use Rattle.std.{proofs.Common.{◌≡◌, ◌≢◌, ⊎_elim, ◌⊎◌, inl, inr, ℕ, zero, suc, List, [], ◌∷◌, ◌++◌, length, map, All, Option, None, Some, refl, sym, ap, ◌∙◌, subst, arith}, specs.Prelude.{slice_get, slice_set}, specs.List.{AllByRecursion}, proofs.lemmas.List.Elements.{All-from_recursion}, specs.Option.{option_map, option_and_then}, proofs.lemmas.Bool.{cases_eq}, proofs.lemmas.Option.{same_Some}}
use Rattle.basic_types.specs.{declared.value.Value.{Value}, Values.{number_has, truth_has, text_has, null_has, object_has}}
use Rattle.basic_types.specs.declared.value.Value.TheVariants as value
use Rattle.meta_model.specs.{declared.object.MetaObject.{MetaObject}, declared.object.MetaProperty.{MetaProperty}, declared.object.ValueType.{ValueType}, Loaded.{Loaded}, Members.{IsClass}, Values.{Has}}
use Rattle.object_tree.{specs.declared.life.Life.{Life}, specs.declared.object.Object.{Object}, specs.Objects.{Lives, change_life, with_life, written, class_of, class_with}, specs.Seen.{seen, seen_object, seen_reference}, specs.Family.{leaves, moved, put_under, dead, without_life, parent_of}, specs.Typed.{ReadsAs, ReadAs, IsTyped, AreTyped, FitsProperty}, specs.Creating.{BeginsAs, BeginsWell, initials, initial_values, begun, fresh}, proofs.Changing.{get-change_same, get-change_other, part-change, life-part, one-life}, proofs.Families.{moved-part, leaves-part}}

-- ---- what reads as a type goes on to

-- a reference to this number reads as null
abbrev pub Reads-null : List Object → ℕ → Type 0
Reads-null objects o = seen_object (slice_get objects o) o ≡ None

-- From old objects to new ones: a living object keeps its class or dies, and a dead one stays dead.
pub record Follow (old new : List Object) : Type 0 where
  pub stays : (o c : ℕ) → class_of old o ≡ Some c → (class_of new o ≡ Some c) ⊎ Reads-null new o
  pub rests : (o : ℕ) → Reads-null old o → Reads-null new o

-- a living object reads as itself
pub seen-living : (objects : List Object) (o c : ℕ) → class_of objects o ≡ Some c → seen_object (slice_get objects o) o ≡ Some o
seen-living objects o c e = by_object (slice_get objects o) e
  where
    by_life : (there : Option Life) → option_map (λ (l : Life). l.class) there ≡ Some c → option_map (λ (l : Life). o) there ≡ Some o
    by_life None f = absurd (cc f)
    by_life (Some l) f = refl

    by_object : (there : Option Object) → option_map (λ (l : Life). l.class) (option_and_then (λ (x : Object). x.life) there) ≡ Some c → seen_object there o ≡ Some o
    by_object None f = absurd (cc f)
    by_object (Some x) f = by_life x.life f

-- a reference that reads as one is to that object
seen-itself : (there : Option Object) (o k : ℕ) → seen_object there o ≡ Some k → o ≡ k
seen-itself None o k e = same_Some _ _ e
seen-itself (Some x) o k e = by_life x.life e
  where
    by_life : (there : Option Life) → option_map (λ (l : Life). o) there ≡ Some k → o ≡ k
    by_life None f = absurd (cc f)
    by_life (Some l) f = same_Some _ _ f

-- what has a type reads as that type
pub has-reads : (p : Loaded) (objects : List Object) (v : Value) (k : ValueType) → Has p (class_of objects) v k → ReadsAs p objects v k
has-reads p objects v k number_has = number_has
has-reads p objects v k truth_has = truth_has
has-reads p objects v k text_has = text_has
has-reads p objects v k null_has = null_has
has-reads p objects v k (object_has {o = o} {d = d} is below) =
    subst (λ (r : Option ℕ). Has p (class_of objects) (value.Ref r) k) (sym (seen-living objects o d is)) (object_has is below)

module _ (p : Loaded) (old new : List Object) (follow : Follow old new) where
  -- what a reference reads as, where it was null
  null-still : (r : Option ℕ) → seen_reference old r ≡ None → seen_reference new r ≡ None
  null-still None e = refl
  null-still (Some o) e = follow.rests o e

  pub reads-still : (v : Value) (k : ValueType) → ReadsAs p old v k → ReadsAs p new v k
  reads-still (value.Int n) k number_has = number_has
  reads-still (value.Bool b) k truth_has = truth_has
  reads-still (value.Text t) k text_has = text_has
  reads-still (value.Ref r) k has = by_reading k r (seen_reference old r) refl has
    where
      by_reading : (k : ValueType) (r : Option ℕ) (read : Option ℕ) → seen_reference old r ≡ read → Has p (class_of old) (value.Ref read) k → Has p (class_of new) (value.Ref (seen_reference new r)) k
      by_reading k r None e null_has = subst (λ (q : Option ℕ). Has p (class_of new) (value.Ref q) k) (sym (null-still r e)) null_has
      by_reading k None (Some o) e h = absurd (cc e)
      by_reading k (Some j) (Some o) e (object_has {d = d} is below) =
          let same : j ≡ o = seen-itself (slice_get old j) j o e in
          ⊎_elim
          (λ (kept : class_of new o ≡ Some d). subst (λ (q : Option ℕ). Has p (class_of new) (value.Ref q) k) (sym (ap (λ (i : ℕ). seen_object (slice_get new i) i) same ∙ seen-living new o d kept)) (object_has kept below))
          (λ (gone : Reads-null new o). subst (λ (q : Option ℕ). Has p (class_of new) (value.Ref q) k) (sym (ap (λ (i : ℕ). seen_object (slice_get new i) i) same ∙ gone)) null_has)
          (follow.stays o d is)

  pub read-still : (vs : List Value) (ks : List ValueType) → ReadAs p old vs ks → ReadAs p new vs ks
  read-still [] [] h = tt
  read-still [] (k ∷ ks) h = absurd h
  read-still (v ∷ vs) [] h = absurd h
  read-still (v ∷ vs) (k ∷ ks) h = (reads-still v k h.0, read-still vs ks h.1)

-- .. whatever gives the classes
has-same : (p : Loaded) (before after : ℕ → Option ℕ) → ((o : ℕ) → after o ≡ before o) → (v : Value) (k : ValueType) → Has p before v k → Has p after v k
has-same p before after same v k number_has = number_has
has-same p before after same v k truth_has = truth_has
has-same p before after same v k text_has = text_has
has-same p before after same v k null_has = null_has
has-same p before after same v k (object_has {o = o} {d = d} is below) = object_has (same o ∙ is) below

-- ---- values of lists of types

read-set : (p : Loaded) (objects : List Object) (vs : List Value) (ks : List ValueType) (q : ℕ) (v : Value) (k : ValueType) → ReadAs p objects vs ks → slice_get ks q ≡ Some k → ReadsAs p objects v k → ReadAs p objects (slice_set vs q v) ks
read-set p objects [] [] q v k h e reads = tt
read-set p objects [] (j ∷ ks) q v k h e reads = absurd h
read-set p objects (u ∷ vs) [] q v k h e reads = absurd h
read-set p objects (u ∷ vs) (j ∷ ks) zero v k h e reads =
    let same : j ≡ k = cc e in
    (subst (λ (t : ValueType). ReadsAs p objects v t) (sym same) reads, h.1)
read-set p objects (u ∷ vs) (j ∷ ks) (suc q) v k h e reads = (h.0, read-set p objects vs ks q v k h.1 e reads)

-- ---- lives

-- the parts of a life that matter here
pub record Shape : Type 0 where
  pub class : ℕ
  pub values : List Value

abbrev pub life_shape : Life → Shape
life_shape l = record { class = l.class; values = l.values }

-- .. whether there is an object, and whether it lives
abbrev pub shape_in : Option Object → Option (Option Shape)
shape_in there = option_map (λ (x : Object). option_map life_shape x.life) there

-- the class that shows in an object
abbrev class_shown : Option Object → Option ℕ
class_shown there = option_map (λ (l : Life). l.class) (option_and_then (λ (x : Object). x.life) there)

-- what shows in a shape
class-in : (there : Option Object) → class_shown there ≡ option_and_then (λ (m : Option Shape). option_map (λ (z : Shape). z.class) m) (shape_in there)
class-in None = refl
class-in (Some x) = by_life x.life
  where
    by_life : (m : Option Life) → option_map (λ (l : Life). l.class) m ≡ option_map (λ (z : Shape). z.class) (option_map life_shape m)
    by_life None = refl
    by_life (Some l) = refl

abbrev seen_in : ℕ → Option (Option Shape) → Option ℕ
seen_in o None = Some o
seen_in o (Some m) = option_map (λ (z : Shape). o) m

seen-in : (o : ℕ) (there : Option Object) → seen_object there o ≡ seen_in o (shape_in there)
seen-in o None = refl
seen-in o (Some x) = by_life x.life
  where
    by_life : (m : Option Life) → option_map (λ (l : Life). o) m ≡ option_map (λ (z : Shape). o) (option_map life_shape m)
    by_life None = refl
    by_life (Some l) = refl

module _ (old new : List Object) (k : ℕ) (same : shape_in (slice_get new k) ≡ shape_in (slice_get old k)) where
  pub class-same : class_of new k ≡ class_of old k
  class-same = class-in (slice_get new k) ∙ ap (λ (there : Option (Option Shape)). option_and_then (λ (m : Option Shape). option_map (λ (z : Shape). z.class) m) there) same ∙ sym (class-in (slice_get old k))

  pub seen-same : seen_object (slice_get new k) k ≡ seen_object (slice_get old k) k
  seen-same = seen-in k (slice_get new k) ∙ ap (λ (there : Option (Option Shape)). seen_in k there) same ∙ sym (seen-in k (slice_get old k))

-- where no shape changes
follow-same : (old new : List Object) → ((k : ℕ) → shape_in (slice_get new k) ≡ shape_in (slice_get old k)) → Follow old new
follow-same old new same = record {
  stays = λ o c e. inl (class-same old new o (same o) ∙ e);
  rests = λ o e. seen-same old new o (same o) ∙ e;
}

-- a life with the same class and values stays typed
typed-still : (p : Loaded) (old new : List Object) (k l : Life) → Follow old new → life_shape l ≡ life_shape k → IsTyped p old k → IsTyped p new l
typed-still p old new k l follow same t =
    let class : l.class ≡ k.class = ap (λ (z : Shape). z.class) same in
    let values : l.values ≡ k.values = ap (λ (z : Shape). z.values) same in
    record {
      class = t.class;
      is_class = subst (λ (c : ℕ). IsClass p c t.class) (sym class) t.is_class;
      typed = subst (λ (vs : List Value). ReadAs p new vs (map (λ (q : MetaProperty). q.kind) t.class.properties)) (sym values) (read-still p old new follow k.values (map (λ (q : MetaProperty). q.kind) t.class.properties) t.typed);
    }

-- .. wherever the object shows the same
typed-at : (p : Loaded) (old new : List Object) (o : ℕ) (x : Object) (l : Life) → Follow old new → shape_in (slice_get new o) ≡ shape_in (slice_get old o) → Lives new o x l → AreTyped p old → IsTyped p new l
typed-at p old new o x l follow same lives all = by_object (slice_get old o) refl (sym (ap shape_in lives.is ∙ ap (λ (m : Option Life). Some (option_map life_shape m)) lives.lives) ∙ same)
  where
    by_life : (y : Object) → slice_get old o ≡ Some y → (m : Option Life) → y.life ≡ m → Some (life_shape l) ≡ option_map life_shape m → IsTyped p new l
    by_life y is None e f = absurd (cc f)
    by_life y is (Some k) e f = typed-still p old new k l follow (same_Some _ _ f) (all o y k (record { is = is; lives = e }))

    by_object : (there : Option Object) → slice_get old o ≡ there → Some (Some (life_shape l)) ≡ shape_in there → IsTyped p new l
    by_object None is e = absurd (cc e)
    by_object (Some y) is e = by_life y is y.life refl (same_Some _ _ e)

-- .. where no object changes in these parts
typed-same : (p : Loaded) (old new : List Object) → ((o : ℕ) → shape_in (slice_get new o) ≡ shape_in (slice_get old o)) → AreTyped p old → AreTyped p new
typed-same p old new same all o x l lives = typed-at p old new o x l (follow-same old new same) (same o) lives all

-- a changed life that shows the same
shape-with_life : (f : Life → Life) → ((l : Life) → life_shape (f l) ≡ life_shape l) → (x : Object) → shape_in (Some (with_life f x)) ≡ shape_in (Some x)
shape-with_life f h x = ap Some (life-part (λ (m : Option Life). option_map life_shape m) f (λ l. ap Some (h l)) x.life)

pub shape-change : (n : ℕ) (f : Life → Life) (objects : List Object) → ((l : Life) → life_shape (f l) ≡ life_shape l) → (o : ℕ) → shape_in (slice_get (change_life n f objects) o) ≡ shape_in (slice_get objects o)
shape-change n f objects h o = part-change shape_in n o (with_life f) objects (shape-with_life f h)

pub shape-moved : (a c : ℕ) (objects : List Object) (o : ℕ) → shape_in (slice_get (moved a c objects) o) ≡ shape_in (slice_get objects o)
shape-moved a c objects o = moved-part shape_in objects a c o (λ x l. refl) (shape-with_life (put_under a) (λ l. refl))

pub typed-change : (p : Loaded) (n : ℕ) (f : Life → Life) (objects : List Object) → ((l : Life) → life_shape (f l) ≡ life_shape l) → AreTyped p objects → AreTyped p (change_life n f objects)
typed-change p n f objects h all = typed-same p objects (change_life n f objects) (shape-change n f objects h) all

pub typed-moved : (p : Loaded) (a c : ℕ) (objects : List Object) → AreTyped p objects → AreTyped p (moved a c objects)
typed-moved p a c objects all = typed-same p objects (moved a c objects) (shape-moved a c objects) all

-- .. where one dies
module _ (objects : List Object) (o : ℕ) where
  -- another one shows the same
  died-other : (k : ℕ) → k ≢ o → shape_in (slice_get (without_life o objects) k) ≡ shape_in (slice_get objects k)
  died-other k other = ap shape_in (get-change_other o k dead (leaves (parent_of objects o) o objects) other) ∙ leaves-part shape_in (parent_of objects o) o k objects (λ z. refl)

  -- it shows no life
  died-here : shape_in (slice_get (without_life o objects) o) ≡ option_map (λ (m : Option Shape). None) (shape_in (slice_get objects o))
  died-here =
      ap shape_in (get-change_same o dead (leaves (parent_of objects o) o objects))
      ∙ by_object (slice_get (leaves (parent_of objects o) o objects) o)
      ∙ ap (option_map (λ (m : Option Shape). None)) (leaves-part shape_in (parent_of objects o) o o objects (λ z. refl))
    where
      by_object : (there : Option Object) → shape_in (option_map dead there) ≡ option_map (λ (m : Option Shape). None) (shape_in there)
      by_object None = refl
      by_object (Some x) = refl

  follow-died : Follow objects (without_life o objects)
  follow-died = record {
    stays = λ k c e. ⊎_elim
        (λ (same : k ≡ o). inr (subst (λ (j : ℕ). Reads-null (without_life o objects) j) (sym same) (gone-there (shape_in (slice_get objects o)) c (sym (class-in (slice_get objects o)) ∙ ap (class_of objects) (sym same) ∙ e) died-here)))
        (λ (other : k ≢ o). inl (class-same objects (without_life o objects) k (died-other k other) ∙ e))
        (cases_eq k o);
    rests = λ k e. ⊎_elim
        (λ (same : k ≡ o). subst (λ (j : ℕ). Reads-null (without_life o objects) j) (sym same) (dead-still (shape_in (slice_get objects o)) (sym (seen-in o (slice_get objects o)) ∙ ap (λ (j : ℕ). seen_object (slice_get objects j) j) (sym same) ∙ e) died-here))
        (λ (other : k ≢ o). seen-same objects (without_life o objects) k (died-other k other) ∙ e)
        (cases_eq k o);
  }
    where
      gone-there : (shown : Option (Option Shape)) (c : ℕ) → option_and_then (λ (m : Option Shape). option_map (λ (z : Shape). z.class) m) shown ≡ Some c → shape_in (slice_get (without_life o objects) o) ≡ option_map (λ (m : Option Shape). None) shown → Reads-null (without_life o objects) o
      gone-there None c e f = absurd (cc e)
      gone-there (Some m) c e f = seen-in o (slice_get (without_life o objects) o) ∙ ap (λ (there : Option (Option Shape)). seen_in o there) f

      dead-still : (shown : Option (Option Shape)) → seen_in o shown ≡ None → shape_in (slice_get (without_life o objects) o) ≡ option_map (λ (m : Option Shape). None) shown → Reads-null (without_life o objects) o
      dead-still None e f = absurd (cc e)
      dead-still (Some m) e f = seen-in o (slice_get (without_life o objects) o) ∙ ap (λ (there : Option (Option Shape)). seen_in o there) f

pub typed-died : (p : Loaded) (o : ℕ) (objects : List Object) → AreTyped p objects → AreTyped p (without_life o objects)
typed-died p o objects all k x l lives = ⊎_elim
    (λ (same : k ≡ o).
    let shown : shape_in (slice_get (without_life o objects) o) ≡ Some (Some (life_shape l)) = ap (λ (j : ℕ). shape_in (slice_get (without_life o objects) j)) (sym same) ∙ ap shape_in lives.is ∙ ap (λ (m : Option Life). Some (option_map life_shape m)) lives.lives in
    absurd (no-life (shape_in (slice_get objects o)) (sym (died-here objects o) ∙ shown)))
    (λ (other : k ≢ o). typed-at p objects (without_life o objects) k x l (follow-died objects o) (died-other objects o k other) lives all)
    (cases_eq k o)
  where
    no-life : (there : Option (Option Shape)) → option_map (λ (m : Option Shape). None) there ≡ Some (Some (life_shape l)) → ⊥
    no-life None e = cc e
    no-life (Some m) e = cc (same_Some _ _ e)

-- ---- a property that is written

written-typed : (p : Loaded) (objects : List Object) (o q : ℕ) (v : Value) (y : Object) (l : Life) → Lives objects o y l → FitsProperty objects o q v p → IsTyped p objects l → IsTyped p objects (written q v l)
written-typed p objects o q v y l lives fits t =
    let same : fits.life ≡ l = one-life objects o fits.object y fits.life l fits.lives lives in
    let class_is : slice_get p.classes l.class ≡ Some fits.is_property.class = ap (λ (w : Life). slice_get p.classes w.class) (sym same) ∙ fits.is_property.is_class.is in
    let one : t.class ≡ fits.is_property.class = same_Some _ _ (sym t.is_class.is ∙ class_is) in
    let property_is : slice_get t.class.properties q ≡ Some fits.property = ap (λ (k : MetaObject). slice_get k.properties q) one ∙ fits.is_property.is in
    record {
      class = t.class;
      is_class = t.is_class;
      typed = read-set p objects l.values (map (λ (w : MetaProperty). w.kind) t.class.properties) q v fits.property.kind t.typed (kind-at t.class.properties q fits.property property_is) fits.reads;
    }
  where
    kind-at : (ps : List MetaProperty) (n : ℕ) (w : MetaProperty) → slice_get ps n ≡ Some w → slice_get (map (λ (z : MetaProperty). z.kind) ps) n ≡ Some w.kind
    kind-at [] n w e = absurd (cc e)
    kind-at (z ∷ ps) zero w e = ap (λ (u : MetaProperty). Some u.kind) (same_Some _ _ e)
    kind-at (z ∷ ps) (suc n) w e = kind-at ps n w e

-- objects of which one is written are of the classes that they were, and read alike
pub class-written : (n q : ℕ) (v : Value) (objects : List Object) (o : ℕ) → class_of (change_life n (written q v) objects) o ≡ class_of objects o
class-written n q v objects o = part-change class_shown n o (with_life (written q v)) objects (λ x. life-part (option_map (λ (l : Life). l.class)) (written q v) (λ l. refl) x.life)

pub seen-written : (n q : ℕ) (v : Value) (objects : List Object) (o : ℕ) → seen_object (slice_get (change_life n (written q v) objects) o) o ≡ seen_object (slice_get objects o) o
seen-written n q v objects o = part-change (λ (there : Option Object). seen_object there o) n o (with_life (written q v)) objects (λ x. life-part (option_map (λ (l : Life). o)) (written q v) (λ l. refl) x.life)

follow-written : (n q : ℕ) (v : Value) (objects : List Object) → Follow objects (change_life n (written q v) objects)
follow-written n q v objects = record { stays = λ o c e. inl (class-written n q v objects o ∙ e); rests = λ o e. seen-written n q v objects o ∙ e }

-- .. as they did before
pub follow-unwritten : (n q : ℕ) (v : Value) (objects : List Object) → Follow (change_life n (written q v) objects) objects
follow-unwritten n q v objects = record { stays = λ o c e. inl (sym (class-written n q v objects o) ∙ e); rests = λ o e. sym (seen-written n q v objects o) ∙ e }

pub typed-written : (p : Loaded) (objects : List Object) (o q : ℕ) (v : Value) → FitsProperty objects o q v p → AreTyped p objects → AreTyped p (change_life o (written q v) objects)
typed-written p objects o q v fits all k x l lives = ⊎_elim
    (λ (same : k ≡ o).
    let found : option_map (with_life (written q v)) (slice_get objects o) ≡ Some x = sym (get-change_same o (with_life (written q v)) objects) ∙ ap (slice_get (change_life o (written q v) objects)) (sym same) ∙ lives.is in
    by_object (slice_get objects o) refl found)
    (λ (other : k ≢ o). typed-at p objects (change_life o (written q v) objects) k x l (follow-written o q v objects) (ap shape_in (get-change_other o k (with_life (written q v)) objects other)) lives all)
    (cases_eq k o)
  where
    by_life : (y : Object) → slice_get objects o ≡ Some y → (there : Option Life) → y.life ≡ there → option_map (written q v) there ≡ Some l → IsTyped p (change_life o (written q v) objects) l
    by_life y is None e f = absurd (cc f)
    by_life y is (Some m) e f =
        let same : written q v m ≡ l = same_Some _ _ f in
        let here : IsTyped p objects (written q v m) = written-typed p objects o q v y m (record { is = is; lives = e }) fits (all o y m (record { is = is; lives = e })) in
        subst (λ (w : Life). IsTyped p (change_life o (written q v) objects) w) same (typed-still p objects (change_life o (written q v) objects) (written q v m) (written q v m) (follow-written o q v objects) refl here)

    by_object : (there : Option Object) → slice_get objects o ≡ there → option_map (with_life (written q v)) there ≡ Some x → IsTyped p (change_life o (written q v) objects) l
    by_object None is e = absurd (cc e)
    by_object (Some y) is e = by_life y is y.life refl (ap (λ (w : Object). w.life) (same_Some _ _ e) ∙ lives.lives)

-- ---- an object that is created

pub get-last : (xs : List Object) (z : Object) → slice_get (xs ++ z ∷ []) (length xs) ≡ Some z
get-last [] z = refl
get-last (y ∷ xs) z = get-last xs z

pub get-appended : (xs : List Object) (z x : Object) (o : ℕ) → slice_get (xs ++ z ∷ []) o ≡ Some x → (slice_get xs o ≡ Some x) ⊎ ((o ≡ length xs) × (z ≡ x))
get-appended [] z x zero e = inr (refl, same_Some _ _ e)
get-appended [] z x (suc o) e = absurd (cc e)
get-appended (y ∷ xs) z x zero e = inl e
get-appended (y ∷ xs) z x (suc o) e = ⊎_elim
    (λ (old : slice_get xs o ≡ Some x). inl old)
    (λ (last : (o ≡ length xs) × (z ≡ x)). inr (ap suc last.0, last.1))
    (get-appended xs z x o e)

-- .. with its class, whatever its other parts are
class-appended : (xs : List Object) (z : Object) (l : Life) (o : ℕ) → z.life ≡ Some l → class_of (xs ++ z ∷ []) o ≡ class_with xs l.class o
class-appended [] z l zero e = ap (option_map (λ (m : Life). m.class)) e
class-appended [] z l (suc o) e = refl
class-appended (x ∷ xs) z l zero e = refl
class-appended (x ∷ xs) z l (suc o) e = class-appended xs z l o e

-- .. and every reference reads as before
pub seen-appended : (xs : List Object) (z : Object) (l : Life) (o k : ℕ) → z.life ≡ Some l → seen_object (slice_get (xs ++ z ∷ []) o) k ≡ seen_object (slice_get xs o) k
seen-appended [] z l zero k e = ap (option_map (λ (m : Life). k)) e
seen-appended [] z l (suc o) k e = refl
seen-appended (x ∷ xs) z l zero k e = refl
seen-appended (x ∷ xs) z l (suc o) k e = seen-appended xs z l o k e

-- .. and a living object has its class
pub class-more : (xs : List Object) (z : Object) (o c : ℕ) → class_of xs o ≡ Some c → class_of (xs ++ z ∷ []) o ≡ Some c
class-more [] z o c e = absurd (cc e)
class-more (x ∷ xs) z zero c e = e
class-more (x ∷ xs) z (suc o) c e = class-more xs z o c e

module _ (p : Loaded) (objects : List Object) (name : List ℕ) (number home : ℕ) (class : MetaObject) where
  -- the new object
  abbrev pub made : Object
  made = fresh name number home (initial_values class)

  -- .. and its life
  abbrev pub life_made : Life
  life_made = begun number home (initial_values class)

  abbrev with_made : List Object
  with_made = objects ++ made ∷ []

  value-appended : (v : Value) → seen with_made v ≡ seen objects v
  value-appended (value.Int n) = refl
  value-appended (value.Bool b) = refl
  value-appended (value.Text t) = refl
  value-appended (value.Ref None) = refl
  value-appended (value.Ref (Some o)) = ap (λ (r : Option ℕ). value.Ref r) (seen-appended objects made life_made o o refl)

  -- its property begins as it is typed, and so do all
  begins-typed : (q : MetaProperty) → BeginsAs p objects number q → ReadsAs p with_made q.initial q.kind
  begins-typed q begins = subst (λ (v : Value). Has p (class_of with_made) v q.kind) (sym (value-appended q.initial)) (has-same p (class_with objects number) (class_of with_made) (λ j. class-appended objects made life_made j refl) (seen objects q.initial) q.kind begins)

  typed-begins : (q : MetaProperty) → ReadsAs p with_made q.initial q.kind → BeginsAs p objects number q
  typed-begins q reads = has-same p (class_of with_made) (class_with objects number) (λ j. sym (class-appended objects made life_made j refl)) (seen objects q.initial) q.kind (subst (λ (v : Value). Has p (class_of with_made) v q.kind) (value-appended q.initial) reads)

  all-typed : (qs : List MetaProperty) → All (BeginsAs p objects number) qs → ReadAs p with_made (initials qs) (map (λ (q : MetaProperty). q.kind) qs)
  all-typed [] h = tt
  all-typed (q ∷ qs) h = (begins-typed q (h 0 q (omega arith)), all-typed qs (λ k d l. h (suc k) d (omega (arith, l))))

  all-begin : (qs : List MetaProperty) → ReadAs p with_made (initials qs) (map (λ (q : MetaProperty). q.kind) qs) → All (BeginsAs p objects number) qs
  all-begin qs h = All-from_recursion (BeginsAs p objects number) qs (each qs h)
    where
      each : (rs : List MetaProperty) → ReadAs p with_made (initials rs) (map (λ (q : MetaProperty). q.kind) rs) → AllByRecursion (BeginsAs p objects number) rs
      each [] g = tt
      each (r ∷ rs) g = (typed-begins r g.0, each rs g.1)

  -- it is typed exactly where it begins well
  pub fresh-typed : IsClass p number class → BeginsWell p objects number class → IsTyped p with_made life_made
  fresh-typed is begins = record { class = class; is_class = is; typed = all-typed class.properties begins }

  pub typed-fresh : IsClass p number class → IsTyped p with_made life_made → BeginsWell p objects number class
  typed-fresh is typed =
      let same : typed.class ≡ class = same_Some _ _ (sym typed.is_class.is ∙ is.is) in
      let Kinds : MetaObject → Type 0 = λ k. ReadAs p with_made (initial_values class) (map (λ (q : MetaProperty). q.kind) k.properties) in
      all-begin class.properties (subst Kinds same typed.typed)

  follow-made : Follow objects with_made
  follow-made = record {
    stays = λ o c e. inl (class-more objects made o c e);
    rests = λ o e. seen-appended objects made life_made o o refl ∙ e;
  }

  pub typed-created : IsClass p number class → BeginsWell p objects number class → AreTyped p objects → AreTyped p with_made
  typed-created is begins all o x l lives = ⊎_elim
      (λ (old : slice_get objects o ≡ Some x). typed-still p objects with_made l l follow-made refl (all o x l (record { is = old; lives = lives.lives })))
      (λ (last : (o ≡ length objects) × (made ≡ x)).
      let one : life_made ≡ l = same_Some _ _ (ap (λ (w : Object). w.life) last.1 ∙ lives.lives) in
      subst (λ (w : Life). IsTyped p with_made w) one (fresh-typed is begins))
      (get-appended objects made x o lives.is)
