-- A new object in a slot, slots that stay as they were, and what the objects in slots have.
use Rattle.std.{proofs.Common.{◌≡◌, ◌≢◌, ⊎_elim, ℕ, zero, suc, ◌+◌, Bool, true, false, ◌||◌, not, nat_lt, cond, List, [], ◌∷◌, ◌++◌, length, Option, None, Some, is_some, option_map, count_by, refl, sym, ap, subst, ◌∙◌, arith}, specs.Prelude.{slice_get, IsSome, IfSome}, specs.Option.{option_and_then}, proofs.lemmas.Bool.{cases_eq, eq-eqb, ne_eqb, false≢true}, proofs.lemmas.Option.{same_Some}, proofs.lemmas.List.Sums.{sum_by_push}}
use Rattle.slab.specs.Slab.{Slab, get, slab_len, Updates}
use Rattle.name_indexes.specs.NamePlaces.{Adds}
use Rattle.object_tree.{specs.declared.life.Life.{Life}, specs.declared.object.Object.{Object}, specs.declared.slot.Slot.{Slot}, specs.declared.slot.ObjectRecord.{ObjectRecord}, specs.Held.{are_any, is_held, held_in, is_dead}, specs.Seen.{seen_object}, specs.Objects.{with_life, life_of, class_of, change}, specs.Family.{children_in, children_of, parent_of, joined_by}, specs.Children.{are_distinct}, specs.Forest.{Forest, HasDistinct}, specs.code.Slots.{object_in, or_gone, object_at, shown_from, new_slot, key_at, name_at, as_number, KeepsSlots, AreDistinctIn, AreHoused}, proofs.Changing.{get-change_other}, proofs.Slots.{get-none, get-some, shown-same, entry-of, no_entry}}

-- ---- a new object

name-front : (es : List ObjectRecord) (e : ObjectRecord) (n : ℕ) (name : List ℕ) → name_at es n ≡ Some name → name_at (es ++ e ∷ []) n ≡ Some name
name-front [] e n name h = absurd (cc h)
name-front (d ∷ es) e zero name h = h
name-front (d ∷ es) e (suc n) name h = name-front es e n name h

name-last : (es : List ObjectRecord) (e : ObjectRecord) → name_at (es ++ e ∷ []) (length es) ≡ Some e.name
name-last [] e = refl
name-last (d ∷ es) e = name-last es e

module _ (old new : Slab Slot) (key : ℕ) (slot : Slot) (vacant : get old key ≡ None) (u : Updates old new key (Some slot)) where
  at-older : (m : ℕ) (d : ObjectRecord) → m ≢ slot.serial → object_at new m d ≡ object_at old m d
  at-older m d other = ⊎_elim
      (λ (same : d.key ≡ key).
      ap (λ (x : Option Slot). or_gone d.name (object_in m x)) (ap (get new) same ∙ u.changed)
      ∙ ap (λ (b : Bool). or_gone d.name (cond b (Some slot.object) None)) (ne_eqb slot.serial m (λ e. other (sym e)))
      ∙ sym (ap (λ (x : Option Slot). or_gone d.name (object_in m x)) (ap (get old) same ∙ vacant)))
      (λ (differ : d.key ≢ key). ap (λ (x : Option Slot). or_gone d.name (object_in m x)) (u.others d.key differ))
      (cases_eq d.key key)

  shown-from : (n : ℕ) (es : List ObjectRecord) (e : ObjectRecord) → e.key ≡ key → n + length es ≡ slot.serial → shown_from new n (es ++ e ∷ []) ≡ shown_from old n es ++ slot.object ∷ []
  shown-from n [] e k s =
      let at : slot.serial ≡ n = omega (arith, s) in
      ap (λ (x : Option Slot). or_gone e.name (object_in n x) ∷ []) (ap (get new) k ∙ u.changed)
      ∙ ap (λ (b : Bool). or_gone e.name (cond b (Some slot.object) None) ∷ []) (eq-eqb slot.serial n at)
  shown-from n (d ∷ es) e k s =
      ap (λ (o : Object). o ∷ shown_from new (suc n) (es ++ e ∷ [])) (at-older n d (λ i. absurd (omega (arith, i, s))))
      ∙ ap (λ (os : List Object). object_at old n d ∷ os) (shown-from (suc n) es e k (omega (arith, s)))

  pub shown-added : (es : List ObjectRecord) (e : ObjectRecord) → e.key ≡ key → slot.serial ≡ length es → shown_from new 0 (es ++ e ∷ []) ≡ shown_from old 0 es ++ slot.object ∷ []
  shown-added es e k s = shown-from 0 es e k (omega (arith, s))

  pub housed-added : (es : List ObjectRecord) (e : ObjectRecord) → e.key ≡ key → slot.serial ≡ length es → e.name ≡ slot.object.name → is_held slot.object ≡ true → slab_len new ≡ slab_len old + 1 → AreHoused old es → AreHoused new (es ++ e ∷ [])
  housed-added es e k s name held len h = record {
    named = λ j x at. ⊎_elim
        (λ (same : j ≡ key).
        let is : slot ≡ x = same_Some _ _ (sym u.changed ∙ sym (ap (get new) same) ∙ at) in
        ap (name_at (es ++ e ∷ [])) (sym (ap (λ (t : Slot). t.serial) is) ∙ s) ∙ name-last es e ∙ ap Some (name ∙ ap (λ (t : Slot). t.object.name) is))
        (λ (other : j ≢ key). name-front es e x.serial x.object.name (h.named j x (sym (u.others j other) ∙ at)))
        (cases_eq j key);
    held = λ j x at. ⊎_elim
        (λ (same : j ≡ key).
        let is : slot ≡ x = same_Some _ _ (sym u.changed ∙ sym (ap (get new) same) ∙ at) in
        sym (ap (λ (t : Slot). is_held t.object) is) ∙ held)
        (λ (other : j ≢ key). h.held j x (sym (u.others j other) ∙ at))
        (cases_eq j key);
    count =
        let all : count_by is_held (shown_from new 0 (es ++ e ∷ [])) ≡ count_by is_held (shown_from old 0 es ++ slot.object ∷ []) = ap (count_by is_held) (shown-added es e k s) in
        let more : count_by is_held (shown_from old 0 es ++ slot.object ∷ []) ≡ count_by is_held (shown_from old 0 es) + as_number (is_held slot.object) = sum_by_push (λ (z : Object). as_number (is_held z)) (shown_from old 0 es) slot.object in
        let one : as_number (is_held slot.object) ≡ 1 = ap as_number held in
        omega (arith, all, more, one, len, h.count);
  }

-- ---- slots that are the same

module _ (old new : Slab Slot) (entries : List ObjectRecord) (same : KeepsSlots old new) where
  pub shown-kept : shown_from new 0 entries ≡ shown_from old 0 entries
  shown-kept = shown-same old new 0 entries (λ m k d s at. ap (λ (x : Option Slot). or_gone d.name (object_in m x)) (same.slots d.key))

  pub housed-kept : AreHoused old entries → AreHoused new entries
  housed-kept h = record {
    named = λ k slot at. h.named k slot (sym (same.slots k) ∙ at);
    held = λ k slot at. h.held k slot (sym (same.slots k) ∙ at);
    count = same.len ∙ h.count ∙ sym (ap (count_by is_held) shown-kept);
  }

-- a slab with more room has the same slots
pub same-reserved : (old new : Slab Slot) → new ≡ record old { capacity = new.capacity } → KeepsSlots old new
same-reserved old new e = record {
  slots = λ k. ap (λ (s : Slab Slot). get s k) e;
  len = ap (λ (s : Slab Slot). slab_len s) e;
}

-- an object that was put into a slot, after room was made for it
pub record PutIn (old new : Slab Slot) (es es' : List ObjectRecord) (object : Object) : Type 0 where
  pub shown : shown_from new 0 es' ≡ shown_from old 0 es ++ object ∷ []
  pub housed : AreHoused new es'

pub put-in : (old mid new : Slab Slot) (es ds es' : List ObjectRecord) (key : ℕ) (name : List ℕ) (object : Object) → mid ≡ record old { capacity = mid.capacity } → ds ≡ es → get mid key ≡ None → Updates mid new key (Some (new_slot (length ds) object)) → slab_len new ≡ slab_len mid + 1 → es' ≡ ds ++ record { name = name; key = key } ∷ [] → name ≡ object.name → is_held object ≡ true → AreHoused old es → PutIn old new es es' object
put-in old mid new es ds es' key name object rest same vacant updates len entries named held h =
    let kept : KeepsSlots old mid = same-reserved old mid rest in
    let e : ObjectRecord = record { name = name; key = key } in
    let before : AreHoused mid ds = subst (λ (xs : List ObjectRecord). AreHoused mid xs) (sym same) (housed-kept old mid es kept h) in
    let shown : shown_from mid 0 ds ≡ shown_from old 0 es = ap (λ (xs : List ObjectRecord). shown_from mid 0 xs) same ∙ shown-kept old mid es kept in
    record {
      shown =
          ap (λ (xs : List ObjectRecord). shown_from new 0 xs) entries
          ∙ shown-added mid new key (new_slot (length ds) object) vacant updates ds e refl refl
          ∙ ap (λ (os : List Object). os ++ object ∷ []) shown;
      housed = subst (λ (xs : List ObjectRecord). AreHoused new xs) (sym entries) (housed-added mid new key (new_slot (length ds) object) vacant updates ds e refl refl named held len before);
    }

-- ---- what objects in slots have

-- a living object has its slot
pub living-there : (slots : Slab Slot) (entries : List ObjectRecord) (n key : ℕ) → key_at entries n ≡ Some key → IsSome (life_of (shown_from slots 0 entries) n) → (o : Object) × (object_in n (get slots key) ≡ Some o)
living-there slots entries n key k lives =
    let (e, is, at) = entry-of entries n key k in
    let shown : life_of (shown_from slots 0 entries) n ≡ (or_gone e.name (object_in n (get slots key))).life =
    ap (option_and_then (λ (x : Object). x.life)) (get-some slots 0 n n entries e (omega arith) is) ∙ ap (λ (j : ℕ). (or_gone e.name (object_in n (get slots j))).life) at in
    by_object e.name (object_in n (get slots key)) refl (rw shown at lives)
  where
    by_object : (name : List ℕ) (x : Option Object) → object_in n (get slots key) ≡ x → IsSome (or_gone name x).life → (o : Object) × (object_in n (get slots key) ≡ Some o)
    by_object name None there l = absurd (cc l)
    by_object name (Some o) there l = (o, there)

-- no child appears twice among those of an object in its slot
pub distinct-in : (slots : Slab Slot) (entries : List ObjectRecord) (n key : ℕ) → key_at entries n ≡ Some key → are_distinct (children_of (shown_from slots 0 entries) n) ≡ true → AreDistinctIn (object_in n (get slots key))
distinct-in slots entries n key k distinct =
    let (e, is, at) = entry-of entries n key k in
    let shown : children_of (shown_from slots 0 entries) n ≡ (or_gone e.name (object_in n (get slots key))).children =
    ap children_in (get-some slots 0 n n entries e (omega arith) is) ∙ ap (λ (j : ℕ). (or_gone e.name (object_in n (get slots j))).children) at in
    by_object e.name (object_in n (get slots key)) (sym (ap are_distinct shown) ∙ distinct)
  where
    by_object : (name : List ℕ) (x : Option Object) → are_distinct (or_gone name x).children ≡ true → AreDistinctIn x
    by_object name None d = tt
    by_object name (Some o) d = d

-- the children of an object are those that its slot has
pub children-there : (slots : Slab Slot) (entries : List ObjectRecord) (n key : ℕ) → key_at entries n ≡ Some key → children_in (object_in n (get slots key)) ≡ children_of (shown_from slots 0 entries) n
children-there slots entries n key k =
    let (e, is, at) = entry-of entries n key k in
    by_object e.name (object_in n (get slots key))
    ∙ sym (ap children_in (get-some slots 0 n n entries e (omega arith) is) ∙ ap (λ (j : ℕ). (or_gone e.name (object_in n (get slots j))).children) at)
  where
    by_object : (name : List ℕ) (x : Option Object) → children_in x ≡ (or_gone name x).children
    by_object name None = refl
    by_object name (Some o) = refl

-- .. and so it has an entry
pub living-entry : (slots : Slab Slot) (entries : List ObjectRecord) (n : ℕ) → key_at entries n ≡ None → IsSome (life_of (shown_from slots 0 entries) n) → ⊥
living-entry slots entries n k lives =
    let none : life_of (shown_from slots 0 entries) n ≡ None = ap (option_and_then (λ (x : Object). x.life)) (get-none slots 0 n entries (no_entry entries n k)) in
    cc (rw none at lives)

-- where no memory is held for an object, it has neither a life nor children
pub life-held : (x : Option Object) → option_and_then (λ (o : Object). o.life) (held_in x) ≡ option_and_then (λ (o : Object). o.life) x
life-held None = refl
life-held (Some o) = by_life o.life refl
  where
    by_life : (l : Option Life) → o.life ≡ l → option_and_then (λ (o : Object). o.life) (cond (is_some l || are_any o.children) (Some o) None) ≡ o.life
    by_life (Some l) e = refl
    by_life None e = by_any (are_any o.children)
      where
        by_any : (b : Bool) → option_and_then (λ (o : Object). o.life) (cond b (Some o) None) ≡ o.life
        by_any true = refl
        by_any false = sym e

pub children-held : (x : Option Object) → children_in (held_in x) ≡ children_in x
children-held None = refl
children-held (Some o) = by_life (is_some o.life) o.children refl
  where
    by_life : (b : Bool) (ks : List ℕ) → o.children ≡ ks → children_in (cond (b || are_any ks) (Some o) None) ≡ o.children
    by_life true ks e = refl
    by_life false [] e = sym e
    by_life false (k ∷ ks) e = refl

-- a changed life is one
pub held-with_life : (f : Life → Life) (x : Object) → is_held (with_life f x) ≡ is_held x
held-with_life f x = by_life x.life
  where
    by_life : (l : Option Life) → (is_some (option_map f l) || are_any x.children) ≡ (is_some l || are_any x.children)
    by_life None = refl
    by_life (Some l) = refl

-- an object with one child more has a child
pub held-joined : (child : ℕ) (x : Object) → is_held (joined_by child x) ≡ true
held-joined child x = by_children x.children (is_some x.life)
  where
    by_children : (ks : List ℕ) (b : Bool) → (b || are_any (ks ++ child ∷ [])) ≡ true
    by_children ks true = refl
    by_children [] false = refl
    by_children (k ∷ ks) false = refl

-- the old parent's children stay as they are where the child joins another's
pub may-leave : (objects joined : List Object) (parent child : ℕ) (from : Option ℕ) → Forest objects → joined ≡ change parent (joined_by child) objects → from ≡ parent_of objects child → parent_of objects child ≢ Some parent → IfSome from (HasDistinct joined)
may-leave objects joined parent child None forest j f other = tt
may-leave objects joined parent child (Some p) forest j f other =
    ap (λ (xs : List Object). are_distinct (children_of xs p)) j
    ∙ ap (λ (x : Option Object). are_distinct (children_in x)) (get-change_other parent p (joined_by child) objects (λ e. other (sym f ∙ ap Some e)))
    ∙ forest.distinct p

-- a name that is the same gets a place that is the same
pub adds-as : (name name' : List ℕ) (n n' : ℕ) (old new : List (List ℕ × ℕ)) → name ≡ name' → n ≡ n' → Adds name n old new → Adds name' n' old new
adds-as name name' n n' old new e f adds =
    subst (λ (xs : List ℕ). Adds xs n' old new) e (subst (λ (k : ℕ). Adds name k old new) f adds)

-- ---- the dead

pub living-dead : (xs : List Object) (o : ℕ) (r : Option ℕ) → r ≡ class_of xs o → is_some r ≡ true → false ≡ is_dead (slice_get xs o)
living-dead xs o r c e = by_object (slice_get xs o) (sym (ap is_some c) ∙ e)
  where
    by_life : (l : Option Life) → is_some (option_map (λ (m : Life). m.class) l) ≡ true → false ≡ not (is_some l)
    by_life None f = absurd (false≢true f)
    by_life (Some l) f = refl

    by_object : (x : Option Object) → is_some (option_map (λ (l : Life). l.class) (option_and_then (λ (y : Object). y.life) x)) ≡ true → false ≡ is_dead x
    by_object None f = refl
    by_object (Some y) f = by_life y.life f

dead-class : (l : Option Life) → is_some (option_map (λ (m : Life). m.class) l) ≡ false → not (is_some l) ≡ true
dead-class None f = refl
dead-class (Some l) f = absurd (false≢true (sym f))

lifeless-from : (xs : List Object) (o : ℕ) → is_some (class_of xs o) ≡ false → nat_lt o (length xs) ≡ is_dead (slice_get xs o)
lifeless-from [] o e = grind arith
lifeless-from (x ∷ xs) zero e =
    let dead : not (is_some x.life) ≡ true = dead-class x.life e in
    grind (arith, dead)
lifeless-from (x ∷ xs) (suc o) e =
    let less : nat_lt (suc o) (suc (length xs)) ≡ nat_lt o (length xs) = grind arith in
    less ∙ lifeless-from xs o e

pub lifeless-dead : (xs : List Object) (o : ℕ) (r : Option ℕ) → r ≡ class_of xs o → is_some r ≡ false → nat_lt o (length xs) ≡ is_dead (slice_get xs o)
lifeless-dead xs o r c e = lifeless-from xs o (sym (ap is_some c) ∙ e)

-- what a reference to an object refers to
pub seen-is : (x : Option Object) (o : ℕ) (b : Bool) → is_dead x ≡ b → cond b None (Some o) ≡ seen_object x o
seen-is None o true e = absurd (false≢true e)
seen-is None o false e = refl
seen-is (Some x) o b e = by_life x.life refl b e
  where
    by_life : (l : Option Life) → x.life ≡ l → (b : Bool) → not (is_some l) ≡ b → cond b None (Some o) ≡ option_map (λ (m : Life). o) l
    by_life None f true g = refl
    by_life None f false g = absurd (false≢true (sym g))
    by_life (Some m) f true g = absurd (false≢true g)
    by_life (Some m) f false g = refl
