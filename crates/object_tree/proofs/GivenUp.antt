-- A slot that is given up where its object is dead and has no living child.
use Rattle.std.proofs.Common.{◌≡◌, ℕ, ◌+◌, eqb, Bool, true, false, not, cond, List, Option, None, Some, option_map, count_by, refl, sym, ap, ◌∙◌, arith}
use Rattle.std.specs.Prelude.{slice_get}
use Rattle.std.proofs.lemmas.Bool.{eqb-true, eq-eqb, false≢true}
use Rattle.std.proofs.lemmas.Option.{same_Some}
use Rattle.slab.specs.Slab.{Slab, get}
use Rattle.object_tree.specs.declared.object.Object.{Object}
use Rattle.object_tree.specs.declared.slot.Slot.{Slot}
use Rattle.object_tree.specs.declared.slot.ObjectRecord.{ObjectRecord}
use Rattle.object_tree.specs.Held.{is_held}
use Rattle.object_tree.specs.Objects.{change}
use Rattle.object_tree.specs.code.Slots.{gone, object_in, or_gone, object_at, shown_from, key_at, name_at, is_idle, as_number, changed_in, Changes, GivesUp, AreHoused}
use Rattle.object_tree.proofs.Slots.{not_held, get-some, shown-same, count-change, entry-of, Outcome, own-total, shown-written, named-written}

not-true : (b : Bool) → not b ≡ true → b ≡ false
not-true true e = absurd (false≢true e)
not-true false e = refl

not-false : (b : Bool) → not b ≡ false → b ≡ true
not-false true e = refl
not-false false e = absurd (false≢true (sym e))

given-was : (b i : Bool) (x : Option Slot) (slot : Slot) → cond b (cond i None x) x ≡ Some slot → x ≡ Some slot
given-was true true x slot e = absurd (cc e)
given-was true false x slot e = e
given-was false i x slot e = e

-- an idle slot shows what no slot shows
idle-gone : (m : ℕ) (name : List ℕ) (x : Option Slot) → is_idle x ≡ true → ((slot : Slot) → x ≡ Some slot → slot.serial ≡ m → slot.object.name ≡ name) → gone name ≡ or_gone name (object_in m x)
idle-gone m name None i h = refl
idle-gone m name (Some slot) i h = by_serial (eqb slot.serial m) refl
  where
    by_serial : (b : Bool) → eqb slot.serial m ≡ b → gone name ≡ or_gone name (cond b (Some slot.object) None)
    by_serial true s = sym (not_held slot.object (not-true _ i) ∙ ap gone (h slot refl (eqb-true _ _ s)))
    by_serial false s = refl

-- what becomes of the slot and of the object that it shows
idle-law : (n : ℕ) (a : ℕ → ℕ) (f : Object → Object) (name : List ℕ) (x : Option Slot) → ((slot : Slot) → x ≡ Some slot → is_held slot.object ≡ true) → f (gone name) ≡ gone name → as_number (is_idle (option_map (changed_in n a f) x)) + as_number (is_held (f (or_gone name (object_in n x)))) ≡ as_number (is_held (or_gone name (object_in n x)))
idle-law n a f name None h total =
    let none : as_number (is_held (f (gone name))) ≡ 0 = ap (λ (o : Object). as_number (is_held o)) total in
    omega (arith, none)
idle-law n a f name (Some slot) h total = by_serial (eqb slot.serial n)
  where
    either : (c : Bool) → as_number (not c) + as_number c ≡ 1
    either true = refl
    either false = refl

    held : is_held slot.object ≡ true
    held = h slot refl

    by_serial : (b : Bool) → as_number (not (is_held (cond b (f slot.object) slot.object))) + as_number (is_held (f (or_gone name (cond b (Some slot.object) None)))) ≡ as_number (is_held (or_gone name (cond b (Some slot.object) None)))
    by_serial true =
        let one : as_number (is_held slot.object) ≡ 1 = ap as_number held in
        omega (arith, one, either (is_held (f slot.object)))
    by_serial false =
        let one : as_number (not (is_held slot.object)) ≡ 0 = ap (λ (c : Bool). as_number (not c)) held in
        let none : as_number (is_held (f (gone name))) ≡ 0 = ap (λ (o : Object). as_number (is_held o)) total in
        omega (arith, one, none)

module _ (old mid new : Slab Slot) (entries : List ObjectRecord) (key n : ℕ) (a : ℕ → ℕ) (f : Object → Object) (w : Changes key n a f old mid) (g : GivesUp key mid new) where
  shown-given : ((k : ℕ) (slot : Slot) → get mid k ≡ Some slot → name_at entries slot.serial ≡ Some slot.object.name) → shown_from new 0 entries ≡ shown_from mid 0 entries
  shown-given named = shown-same mid new 0 entries (λ m k d s at.
      ap (λ (x : Option Slot). or_gone d.name (object_in m x)) (g.slots d.key)
      ∙ by_tests m d (omega (arith, s)) at (eqb d.key key) (is_idle (get mid d.key)) refl)
    where
      name-of : (m k : ℕ) (d : ObjectRecord) → k ≡ m → slice_get entries k ≡ Some d → (slot : Slot) → get mid d.key ≡ Some slot → slot.serial ≡ m → slot.object.name ≡ d.name
      name-of m k d s at slot is serial =
          let there : name_at entries slot.serial ≡ Some slot.object.name = named d.key slot is in
          let here : name_at entries m ≡ Some d.name = ap (name_at entries) (sym s) ∙ ap (option_map (λ (e : ObjectRecord). e.name)) at in
          same_Some _ _ (sym there ∙ ap (name_at entries) serial ∙ here)

      by_tests : (m : ℕ) (d : ObjectRecord) → {k : ℕ} → k ≡ m → slice_get entries k ≡ Some d → (b i : Bool) → is_idle (get mid d.key) ≡ i → or_gone d.name (object_in m (cond b (cond i None (get mid d.key)) (get mid d.key))) ≡ or_gone d.name (object_in m (get mid d.key))
      by_tests m d {k} s at true true idle = idle-gone m d.name (get mid d.key) idle (λ slot is serial. name-of m k d s at slot is serial)
      by_tests m d s at true false idle = refl
      by_tests m d s at false i idle = refl

  held-given : AreHoused old entries → (k : ℕ) (slot : Slot) → get new k ≡ Some slot → is_held slot.object ≡ true
  held-given h k slot at = by_key (eqb k key) refl (is_idle (get mid k)) refl (sym (g.slots k) ∙ at)
    where
      before : eqb k key ≡ false → get mid k ≡ get old k
      before e = w.slots k ∙ ap (λ b. cond b (option_map (changed_in n a f) (get old k)) (get old k)) e

      by_key : (b : Bool) → eqb k key ≡ b → (i : Bool) → is_idle (get mid k) ≡ i → cond b (cond i None (get mid k)) (get mid k) ≡ Some slot → is_held slot.object ≡ true
      by_key true d true i e = absurd (cc e)
      by_key true d false i e = not-false _ (sym (ap is_idle e) ∙ i)
      by_key false d idle i e = h.held k slot (sym (before d) ∙ e)

  -- the object is changed, and its slot is given up if it has no use any more
  pub outcome-given : key_at entries n ≡ Some key → ((x : Object) → (f x).name ≡ x.name) → ((name : List ℕ) → f (gone name) ≡ gone name) → AreHoused old entries → Outcome old new entries n f
  outcome-given k names total h =
      let (e, is, at) = entry-of entries n key k in
      let here = own-total old mid entries key n a f w total e at in
      let named = named-written old mid entries key n a f w names h in
      let shown : shown_from new 0 entries ≡ change n f (shown_from old 0 entries) = shown-given named ∙ shown-written old mid entries key n a f w e is here in
      let law : as_number (is_idle (get mid key)) + as_number (is_held (f (object_at old n e))) ≡ as_number (is_held (object_at old n e)) =
      ap (λ (x : Option Slot). as_number (is_idle x) + as_number (is_held (f (object_at old n e)))) (w.slots key ∙ ap (λ b. cond b (option_map (changed_in n a f) (get old key)) (get old key)) (eq-eqb key key refl))
      ∙ at_key e at (λ slot there. h.held key slot there) (total e.name) in
      let all : count_by is_held (shown_from new 0 entries) ≡ count_by is_held (change n f (shown_from old 0 entries)) = ap (count_by is_held) shown in
      let more = count-change n f (shown_from old 0 entries) (object_at old n e) (get-some old 0 n n entries e (omega arith) is) in
      record {
        shown = shown;
        housed = record {
          named = λ j slot there. named j slot (given-was (eqb j key) (is_idle (get mid j)) (get mid j) slot (sym (g.slots j) ∙ there));
          held = held-given h;
          count = omega (arith, w.len, g.len, h.count, all, more, law);
        };
      }
    where
      at_key : (e : ObjectRecord) → e.key ≡ key → ((slot : Slot) → get old key ≡ Some slot → is_held slot.object ≡ true) → f (gone e.name) ≡ gone e.name → as_number (is_idle (option_map (changed_in n a f) (get old key))) + as_number (is_held (f (object_at old n e))) ≡ as_number (is_held (object_at old n e))
      at_key e at held total =
          let now : object_at old n e ≡ or_gone e.name (object_in n (get old key)) = ap (λ (j : ℕ). or_gone e.name (object_in n (get old j))) at in
          ap (λ (o : Object). as_number (is_idle (option_map (changed_in n a f) (get old key))) + as_number (is_held (f o))) now
          ∙ idle-law n a f e.name (get old key) held total
          ∙ sym (ap (λ (o : Object). as_number (is_held o)) now)
