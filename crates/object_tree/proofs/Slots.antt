-- What slots show, and the change of one of them.
use Rattle.std.proofs.Common.{◌≡◌, ◌≢◌, ◌⊎◌, ⊎_elim, inl, inr, ℕ, zero, suc, ◌+◌, eqb, Bool, true, false, ◌||◌, cond, List, [], ◌∷◌, length, Option, None, Some, is_some, option_map, count_by, refl, sym, ap, ◌∙◌, arith}
use Rattle.std.specs.Prelude.{slice_get}
use Rattle.std.proofs.lemmas.Bool.{eqb-true, eq-eqb, false≢true}
use Rattle.std.proofs.lemmas.Option.{same_Some}
use Rattle.std.proofs.lemmas.List.Sums.{sum_by-cons}
use Rattle.slab.specs.Slab.{Slab, get, slab_len}
use Rattle.object_tree.specs.declared.life.Life.{Life}
use Rattle.object_tree.specs.declared.object.Object.{Object}
use Rattle.object_tree.specs.declared.slot.Slot.{Slot}
use Rattle.object_tree.specs.declared.slot.ObjectRecord.{ObjectRecord}
use Rattle.object_tree.specs.Held.{are_any, is_held, held_in}
use Rattle.object_tree.specs.Objects.{change}
use Rattle.object_tree.specs.code.Slots.{gone, object_in, or_gone, object_at, shown_from, key_at, name_at, as_number, changed_in, Changes, AreHoused}

-- ---- one slot

-- what it shows of the object that is changed, and of another
in-changed : (n : ℕ) (a : ℕ → ℕ) (f : Object → Object) (x : Option Slot) → object_in n (option_map (changed_in n a f) x) ≡ option_map f (object_in n x)
in-changed n a f None = refl
in-changed n a f (Some slot) = by_serial (eqb slot.serial n)
  where
    by_serial : (b : Bool) → cond b (Some (cond b (f slot.object) slot.object)) None ≡ option_map f (cond b (Some slot.object) None)
    by_serial true = refl
    by_serial false = refl

in-other : (m n : ℕ) (a : ℕ → ℕ) (f : Object → Object) (x : Option Slot) → m ≢ n → object_in m (option_map (changed_in n a f) x) ≡ object_in m x
in-other m n a f None o = refl
in-other m n a f (Some slot) o = by_serials (eqb slot.serial m) (eqb slot.serial n) refl refl
  where
    by_serials : (c b : Bool) → eqb slot.serial m ≡ c → eqb slot.serial n ≡ b → cond c (Some (cond b (f slot.object) slot.object)) None ≡ cond c (Some slot.object) None
    by_serials true true d e = absurd (o (sym (eqb-true _ _ d) ∙ eqb-true _ _ e))
    by_serials true false d e = refl
    by_serials false b d e = refl

-- an object for which no memory is held is gone
pub not_held : (x : Object) → is_held x ≡ false → x ≡ gone x.name
not_held x h = by_parts x.life x.children refl refl h
  where
    by_parts : (l : Option Life) (ks : List ℕ) → x.life ≡ l → x.children ≡ ks → (is_some l || are_any ks) ≡ false → x ≡ gone x.name
    by_parts None [] d e h =
        ap (λ (l : Option Life). record x { life = l }) d ∙ ap (λ (ks : List ℕ). record { name = x.name; children = ks; life = None }) e
    by_parts None (k ∷ ks) d e h = absurd (false≢true (sym h))
    by_parts (Some l) ks d e h = absurd (false≢true (sym h))

-- ---- the list of objects

module _ (slots : Slab Slot) where
  pub get-none : (n k : ℕ) (es : List ObjectRecord) → slice_get es k ≡ None → slice_get (shown_from slots n es) k ≡ None
  get-none n k [] g = refl
  get-none n zero (e ∷ es) g = absurd (cc g)
  get-none n (suc k) (e ∷ es) g = get-none (suc n) k es g

  pub get-some : (n k m : ℕ) (es : List ObjectRecord) (e : ObjectRecord) → n + k ≡ m → slice_get es k ≡ Some e → slice_get (shown_from slots n es) k ≡ Some (object_at slots m e)
  get-some n k m [] e s g = absurd (cc g)
  get-some n zero m (d ∷ es) e s g =
      let here : d ≡ e = same_Some _ _ g in
      let at : n ≡ m = omega (arith, s) in
      ap (λ (c : ObjectRecord). Some (object_at slots n c)) here ∙ ap (λ (j : ℕ). Some (object_at slots j e)) at
  get-some n (suc k) m (d ∷ es) e s g = get-some (suc n) k m es e (omega (arith, s)) g

  pub length-shown : (n : ℕ) (es : List ObjectRecord) → length (shown_from slots n es) ≡ length es
  length-shown n [] = refl
  length-shown n (e ∷ es) = ap suc (length-shown (suc n) es)

module _ (old new : Slab Slot) where
  pub shown-same : (n : ℕ) (es : List ObjectRecord) → ((m k : ℕ) (e : ObjectRecord) → n + k ≡ m → slice_get es k ≡ Some e → object_at new m e ≡ object_at old m e) → shown_from new n es ≡ shown_from old n es
  shown-same n [] h = refl
  shown-same n (e ∷ es) h =
      ap (λ (o : Object). o ∷ shown_from new (suc n) es) (h n zero e (omega arith) refl)
      ∙ ap (λ (os : List Object). object_at old n e ∷ os) (shown-same (suc n) es (λ m k d s g. h m (suc k) d (omega (arith, s)) g))

  pub shown-changed : (f : Object → Object) (n k id : ℕ) (es : List ObjectRecord) (e : ObjectRecord) → n + k ≡ id → slice_get es k ≡ Some e → object_at new id e ≡ f (object_at old id e) → ((m : ℕ) (d : ObjectRecord) → m ≢ id → object_at new m d ≡ object_at old m d) → shown_from new n es ≡ change k f (shown_from old n es)
  shown-changed f n k id [] e s g here others = absurd (cc g)
  shown-changed f n zero id (d ∷ es) e s g here others =
      let same : d ≡ e = same_Some _ _ g in
      let at : n ≡ id = omega (arith, s) in
      let now : object_at new n d ≡ f (object_at old n d) =
      ap (λ (c : ObjectRecord). object_at new n c) same ∙ ap (λ (j : ℕ). object_at new j e) at ∙ here ∙ sym (ap (λ (c : ObjectRecord). f (object_at old n c)) same ∙ ap (λ (j : ℕ). f (object_at old j e)) at) in
      ap (λ (o : Object). o ∷ shown_from new (suc n) es) now
      ∙ ap (λ (os : List Object). f (object_at old n d) ∷ os) (shown-same (suc n) es (λ m j c t h. others m c (λ i. absurd (omega (arith, i, t, at)))))
  shown-changed f n (suc k) id (d ∷ es) e s g here others =
      ap (λ (o : Object). o ∷ shown_from new (suc n) es) (others n d (λ i. absurd (omega (arith, i, s))))
      ∙ ap (λ (os : List Object). object_at old n d ∷ os) (shown-changed f (suc n) k id es e (omega (arith, s)) g here others)

pub change-none : (k : ℕ) (f : Object → Object) (xs : List Object) → slice_get xs k ≡ None → change k f xs ≡ xs
change-none k f [] g = refl
change-none zero f (x ∷ xs) g = absurd (cc g)
change-none (suc k) f (x ∷ xs) g = ap (λ (ys : List Object). x ∷ ys) (change-none k f xs g)

pub count-change : (k : ℕ) (f : Object → Object) (xs : List Object) (x : Object) → slice_get xs k ≡ Some x → count_by is_held (change k f xs) + as_number (is_held x) ≡ count_by is_held xs + as_number (is_held (f x))
count-change k f [] x g = absurd (cc g)
count-change zero f (y ∷ ys) x g =
    let same : y ≡ x = same_Some _ _ g in
    let one : as_number (is_held y) ≡ as_number (is_held x) = ap (λ (z : Object). as_number (is_held z)) same in
    let two : as_number (is_held (f y)) ≡ as_number (is_held (f x)) = ap (λ (z : Object). as_number (is_held (f z))) same in
    omega (arith, one, two, sum_by-cons (λ (z : Object). as_number (is_held z)) y ys, sum_by-cons (λ (z : Object). as_number (is_held z)) (f y) ys)
count-change (suc k) f (y ∷ ys) x g =
    omega (arith, count-change k f ys x g, sum_by-cons (λ (z : Object). as_number (is_held z)) y ys, sum_by-cons (λ (z : Object). as_number (is_held z)) y (change k f ys))

-- ---- entries

pub entry-of : (es : List ObjectRecord) (n key : ℕ) → key_at es n ≡ Some key → (e : ObjectRecord) × (slice_get es n ≡ Some e) × (e.key ≡ key)
entry-of es n key h = by_entry (slice_get es n) refl h
  where
    by_entry : (there : Option ObjectRecord) → slice_get es n ≡ there → option_map (λ (e : ObjectRecord). e.key) there ≡ Some key → (e : ObjectRecord) × (slice_get es n ≡ Some e) × (e.key ≡ key)
    by_entry None is g = absurd (cc g)
    by_entry (Some e) is g = (e, is, same_Some _ _ g)

pub no_entry : (es : List ObjectRecord) (n : ℕ) → key_at es n ≡ None → slice_get es n ≡ None
no_entry es n h = by_entry (slice_get es n) h
  where
    by_entry : (there : Option ObjectRecord) → option_map (λ (e : ObjectRecord). e.key) there ≡ None → there ≡ None
    by_entry None g = refl
    by_entry (Some e) g = absurd (cc g)

-- ---- what is found

module _ (slots : Slab Slot) (entries : List ObjectRecord) (h : AreHoused slots entries) where
  pub held-at : (n key : ℕ) (o : Object) → object_in n (get slots key) ≡ Some o → is_held o ≡ true
  held-at n key o there = by_slot (get slots key) refl there
    where
      by_serial : (slot : Slot) (b : Bool) → get slots key ≡ Some slot → cond b (Some slot.object) None ≡ Some o → is_held o ≡ true
      by_serial slot true at e = sym (ap is_held (same_Some _ _ e)) ∙ h.held key slot at
      by_serial slot false at e = absurd (cc e)

      by_slot : (x : Option Slot) → get slots key ≡ x → object_in n x ≡ Some o → is_held o ≡ true
      by_slot None at e = absurd (cc e)
      by_slot (Some slot) at e = by_serial slot (eqb slot.serial n) at e

  name-in : (n key : ℕ) (o : Object) → object_in n (get slots key) ≡ Some o → name_at entries n ≡ Some o.name
  name-in n key o there = by_slot (get slots key) refl there
    where
      by_serial : (slot : Slot) (b : Bool) → eqb slot.serial n ≡ b → get slots key ≡ Some slot → cond b (Some slot.object) None ≡ Some o → name_at entries n ≡ Some o.name
      by_serial slot true s at e = ap (name_at entries) (sym (eqb-true _ _ s)) ∙ h.named key slot at ∙ ap (λ (x : Object). Some x.name) (same_Some _ _ e)
      by_serial slot false s at e = absurd (cc e)

      by_slot : (x : Option Slot) → get slots key ≡ x → object_in n x ≡ Some o → name_at entries n ≡ Some o.name
      by_slot None at e = absurd (cc e)
      by_slot (Some slot) at e = by_serial slot (eqb slot.serial n) refl at e

  -- the object in a slot is the one of the number, if memory is held for it
  pub found-held : (n key : ℕ) → key_at entries n ≡ Some key → object_in n (get slots key) ≡ held_in (slice_get (shown_from slots 0 entries) n)
  found-held n key k =
      let (e, is, at) = entry-of entries n key k in
      ap (λ (j : ℕ). object_in n (get slots j)) (sym at)
      ∙ by_object e.name (object_in n (get slots e.key)) (λ o there. held-at n e.key o there)
      ∙ sym (ap held_in (get-some slots 0 n n entries e (omega arith) is))
    where
      by_held : (o : Object) (b : Bool) → is_held o ≡ b → b ≡ true → Some o ≡ cond b (Some o) None
      by_held o true d e = refl
      by_held o false d e = absurd (false≢true e)

      by_object : (name : List ℕ) (x : Option Object) → ((o : Object) → x ≡ Some o → is_held o ≡ true) → x ≡ held_in (Some (or_gone name x))
      by_object name None g = refl
      by_object name (Some o) g = by_held o (is_held o) refl (g o refl)

  pub none-held : (n : ℕ) → key_at entries n ≡ None → None ≡ held_in (slice_get (shown_from slots 0 entries) n)
  none-held n k = sym (ap held_in (get-none slots 0 n entries (no_entry entries n k)))

  -- the names are those of the entries
  pub names-shown : (n : ℕ) → name_at entries n ≡ option_map (λ (x : Object). x.name) (slice_get (shown_from slots 0 entries) n)
  names-shown n = by_entry (slice_get entries n) refl
    where
      by_object : (e : ObjectRecord) (x : Option Object) → slice_get entries n ≡ Some e → ((o : Object) → x ≡ Some o → name_at entries n ≡ Some o.name) → e.name ≡ (or_gone e.name x).name
      by_object e None is g = refl
      by_object e (Some o) is g = same_Some _ _ (sym (ap (option_map (λ (d : ObjectRecord). d.name)) is) ∙ g o refl)

      by_entry : (there : Option ObjectRecord) → slice_get entries n ≡ there → name_at entries n ≡ option_map (λ (x : Object). x.name) (slice_get (shown_from slots 0 entries) n)
      by_entry None is = ap (option_map (λ (d : ObjectRecord). d.name)) is ∙ sym (ap (option_map (λ (x : Object). x.name)) (get-none slots 0 n entries is))
      by_entry (Some e) is =
          ap (option_map (λ (d : ObjectRecord). d.name)) is
          ∙ ap Some (by_object e (object_in n (get slots e.key)) is (λ o there. name-in n e.key o there))
          ∙ sym (ap (option_map (λ (x : Object). x.name)) (get-some slots 0 n n entries e (omega arith) is))

-- ---- a change of one object

-- the objects after it, and what the slots keep
pub record Outcome (old new : Slab Slot) (entries : List ObjectRecord) (n : ℕ) (f : Object → Object) : Type 0 where
  pub shown : shown_from new 0 entries ≡ change n f (shown_from old 0 entries)
  pub housed : AreHoused new entries

module _ (old new : Slab Slot) (entries : List ObjectRecord) (key n : ℕ) (a : ℕ → ℕ) (f : Object → Object) (w : Changes key n a f old new) where
  at-own : (e : ObjectRecord) → e.key ≡ key → object_in n (get new e.key) ≡ option_map f (object_in n (get old e.key))
  at-own e k =
      ap (λ (j : ℕ). object_in n (get new j)) k
      ∙ ap (object_in n) (w.slots key ∙ ap (λ b. cond b (option_map (changed_in n a f) (get old key)) (get old key)) (eq-eqb key key refl))
      ∙ in-changed n a f (get old key)
      ∙ sym (ap (λ (j : ℕ). option_map f (object_in n (get old j))) k)

  pub at-other : (m : ℕ) (d : ObjectRecord) → m ≢ n → object_at new m d ≡ object_at old m d
  at-other m d o = ap (λ (x : Option Slot). or_gone d.name (object_in m x)) (w.slots d.key) ∙ by_key (eqb d.key key)
    where
      by_key : (b : Bool) → or_gone d.name (object_in m (cond b (option_map (changed_in n a f) (get old d.key)) (get old d.key))) ≡ or_gone d.name (object_in m (get old d.key))
      by_key true = ap (or_gone d.name) (in-other m n a f (get old d.key) o)
      by_key false = refl

  pub own-total : ((name : List ℕ) → f (gone name) ≡ gone name) → (e : ObjectRecord) → e.key ≡ key → object_at new n e ≡ f (object_at old n e)
  own-total total e k = ap (or_gone e.name) (at-own e k) ∙ by_object (object_in n (get old e.key))
    where
      by_object : (x : Option Object) → or_gone e.name (option_map f x) ≡ f (or_gone e.name x)
      by_object None = sym (total e.name)
      by_object (Some o) = refl

  own-there : (e : ObjectRecord) (o : Object) → e.key ≡ key → object_in n (get old e.key) ≡ Some o → object_at new n e ≡ f (object_at old n e)
  own-there e o k there =
      ap (or_gone e.name) (at-own e k ∙ ap (option_map f) there) ∙ sym (ap (λ (x : Option Object). f (or_gone e.name x)) there)

  pub shown-written : (e : ObjectRecord) → slice_get entries n ≡ Some e → object_at new n e ≡ f (object_at old n e) → shown_from new 0 entries ≡ change n f (shown_from old 0 entries)
  shown-written e is here = shown-changed old new f 0 n n entries e (omega arith) is here at-other

  -- what a slot was
  pub record Was (x : Option Slot) (slot : Slot) : Type 0 where
    pub slot_was : Slot
    pub is : x ≡ Some slot_was
    pub serial : slot.serial ≡ slot_was.serial
    pub object : slot.object ≡ cond (eqb slot_was.serial n) (f slot_was.object) slot_was.object

  pub slot-was : (k : ℕ) (slot : Slot) → get new k ≡ Some slot → (eqb k key ≡ true × Was (get old k) slot) ⊎ (get old k ≡ Some slot)
  slot-was k slot at = by_key (eqb k key) refl (sym (w.slots k) ∙ at)
    where
      by_slot : (x : Option Slot) → option_map (changed_in n a f) x ≡ Some slot → Was x slot
      by_slot None e = absurd (cc e)
      by_slot (Some s) e =
          let same : changed_in n a f s ≡ slot = same_Some _ _ e in
          record { slot_was = s; is = refl; serial = sym (ap (λ (t : Slot). t.serial) same); object = sym (ap (λ (t : Slot). t.object) same) }

      by_key : (b : Bool) → eqb k key ≡ b → cond b (option_map (changed_in n a f) (get old k)) (get old k) ≡ Some slot → (eqb k key ≡ true × Was (get old k) slot) ⊎ (get old k ≡ Some slot)
      by_key true d e = inl (d, by_slot (get old k) e)
      by_key false d e = inr e

  pub named-written : ((x : Object) → (f x).name ≡ x.name) → AreHoused old entries → (k : ℕ) (slot : Slot) → get new k ≡ Some slot → name_at entries slot.serial ≡ Some slot.object.name
  named-written names h k slot at = ⊎_elim
      (λ (own : eqb k key ≡ true × Was (get old k) slot).
      let was = own.1 in
      ap (name_at entries) was.serial ∙ h.named k was.slot_was was.is ∙ sym (ap (λ (x : Object). Some x.name) was.object ∙ ap Some (by_serial was.slot_was.object (eqb was.slot_was.serial n))))
      (λ (other : get old k ≡ Some slot). h.named k slot other)
      (slot-was k slot at)
    where
      by_serial : (x : Object) (b : Bool) → (cond b (f x) x).name ≡ x.name
      by_serial x true = names x
      by_serial x false = refl

  held-written : ((x : Object) → is_held x ≡ true → is_held (f x) ≡ true) → AreHoused old entries → (k : ℕ) (slot : Slot) → get new k ≡ Some slot → is_held slot.object ≡ true
  held-written grow h k slot at = ⊎_elim
      (λ (own : eqb k key ≡ true × Was (get old k) slot).
      let was = own.1 in
      ap is_held was.object ∙ by_serial was.slot_was.object (eqb was.slot_was.serial n) (h.held k was.slot_was was.is))
      (λ (other : get old k ≡ Some slot). h.held k slot other)
      (slot-was k slot at)
    where
      by_serial : (x : Object) (b : Bool) → is_held x ≡ true → is_held (cond b (f x) x) ≡ true
      by_serial x true g = grow x g
      by_serial x false g = g

  count-written : (e : ObjectRecord) → slice_get entries n ≡ Some e → object_at new n e ≡ f (object_at old n e) → is_held (f (object_at old n e)) ≡ is_held (object_at old n e) → AreHoused old entries → slab_len new ≡ count_by is_held (shown_from new 0 entries)
  count-written e is here same h =
      let all : count_by is_held (shown_from new 0 entries) ≡ count_by is_held (change n f (shown_from old 0 entries)) = ap (count_by is_held) (shown-written e is here) in
      let more = count-change n f (shown_from old 0 entries) (object_at old n e) (get-some old 0 n n entries e (omega arith) is) in
      let one : as_number (is_held (f (object_at old n e))) ≡ as_number (is_held (object_at old n e)) = ap as_number same in
      omega (arith, w.len, h.count, all, more, one)

  -- an object that is changed in such a way that it stays held, or stays not
  pub outcome-kept : key_at entries n ≡ Some key → ((x : Object) → (f x).name ≡ x.name) → ((x : Object) → is_held (f x) ≡ is_held x) → ((name : List ℕ) → f (gone name) ≡ gone name) → AreHoused old entries → Outcome old new entries n f
  outcome-kept k names same total h =
      let (e, is, at) = entry-of entries n key k in
      let here = own-total total e at in
      record {
        shown = shown-written e is here;
        housed = record {
          named = named-written names h;
          held = held-written (λ x g. same x ∙ g) h;
          count = count-written e is here (same (object_at old n e)) h;
        };
      }

  -- a living object that is changed and stays held
  pub outcome-living : key_at entries n ≡ Some key → ((x : Object) → (f x).name ≡ x.name) → ((x : Object) → is_held (f x) ≡ true) → (o : Object) → object_in n (get old key) ≡ Some o → AreHoused old entries → Outcome old new entries n f
  outcome-living k names grow o there h =
      let (e, is, at) = entry-of entries n key k in
      let there' : object_in n (get old e.key) ≡ Some o = ap (λ (j : ℕ). object_in n (get old j)) at ∙ there in
      let here = own-there e o at there' in
      let held : is_held (object_at old n e) ≡ true = ap (λ (x : Option Object). is_held (or_gone e.name x)) there' ∙ held-at old entries h n key o there in
      record {
        shown = shown-written e is here;
        housed = record {
          named = named-written names h;
          held = held-written (λ x g. grow x) h;
          count = count-written e is here (grow (object_at old n e) ∙ sym held) h;
        };
      }

-- the key that was found is that of the entries
pub key-found : (es found : List ObjectRecord) (n : ℕ) (r key : Option ℕ) → found ≡ es → r ≡ key_at found n → r ≡ key → key_at es n ≡ key
key-found es found n r key same e k = sym (ap (λ (ds : List ObjectRecord). key_at ds n) same) ∙ sym e ∙ k
