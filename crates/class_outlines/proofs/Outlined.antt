-- What each class of an outlined program is: `QObject`, or a declared class with its base's members and its own.
use Rattle.std.proofs.Common.{◌≡◌, ◌≢◌, ℕ, zero, suc, ◌+◌, ◌<◌, ◌≤◌, List, [], ◌∷◌, ◌++◌, map, length, slice_get, Some, ◌⊎◌, inl, inr, refl, sym, ap, ◌∙◌, subst, arith}
use Rattle.std.specs.Prelude.{codes}
use Rattle.std.proofs.lemmas.Option.{slice_get_within, none-some, same_Some}
use Rattle.syntax_trees.specs.declared.program.Signal.{Signal}
use Rattle.syntax_trees.specs.declared.program.Slot.{Slot}
use Rattle.syntax_trees.specs.declared.program.Class.{Class}
use Rattle.syntax_trees.specs.declared.program.Program.{Program}
use Rattle.class_outlines.specs.declared.outline.Heading.{Heading}
use Rattle.class_outlines.specs.declared.outline.Outline.{Outline}
use Rattle.class_outlines.specs.declared.outline.Sort.TheVariants as sort
use Rattle.meta_model.specs.QObject.{sig_of}
use Rattle.class_outlines.specs.Outlines.{types_of, base_name, signal_heading, slot_headings, own_methods, qobject, Outlines}
use Rattle.class_outlines.specs.Clashes.{DuplicateClass, IsTaken}
use Rattle.name_indexes.proofs.Prefixes.{get_take, inside}
use Rattle.name_indexes.proofs.Zips.{any_of}
use Rattle.name_indexes.proofs.Once.{once, get_split_at}

-- class c is declared
pub record Declared (classes : List Class) (all : List Outline) (c : ℕ) (o : Outline) : Type 0 where
  pub i : ℕ
  pub number : c ≡ suc i
  pub class : Class
  pub is : slice_get classes i ≡ Some class
  pub base_number : ℕ
  pub smaller : base_number < c
  pub base : Outline
  pub is_base : slice_get all base_number ≡ Some base
  pub base_named : base.name ≡ base_name class.base
  pub shape : o ≡ record { name = class.name; base = Some base_number; methods = base.methods ++ own_methods i class; properties = base.properties ++ class.properties }

-- ---- own methods
abbrev heading_by : ℕ → Slot → ℕ → Heading
heading_by i slot j = record { sig = sig_of slot.name (types_of slot.parameters); sort = sort.Slot i j }

module _ (i : ℕ) where
  -- an own method with a body is a slot
  record IsSlotHeading (slots : List Slot) (from k : ℕ) (h : Heading) : Type 0 where
    pub slot : Slot
    pub is : slice_get slots k ≡ Some slot
    pub shape : h ≡ record { sig = sig_of slot.name (types_of slot.parameters); sort = sort.Slot i (from + k) }

  slot_at : (slots : List Slot) (from k : ℕ) (h : Heading) → slice_get (slot_headings i from slots) k ≡ Some h → IsSlotHeading slots from k h
  slot_at [] from k h e = absurd (none-some h e)
  slot_at (slot ∷ slots) from zero h e = record {
    slot = slot;
    is = refl;
    shape = sym (same_Some _ _ e) ∙ ap (λ j. heading_by i slot j) (omega arith);
  }
  slot_at (slot ∷ slots) from (suc k) h e =
      let rest = slot_at slots (suc from) k h e in
      record { slot = rest.slot; is = rest.is; shape = rest.shape ∙ ap (λ j. heading_by i rest.slot j) (omega arith) }

  signal_at : (signals : List Signal) (k : ℕ) (h : Heading) → slice_get (map signal_heading signals) k ≡ Some h → h.sort ≡ sort.Signal
  signal_at [] k h e = absurd (none-some h e)
  signal_at (signal ∷ signals) zero h e = ap (λ (x : Heading). x.sort) (sym (same_Some _ _ e))
  signal_at (signal ∷ signals) (suc k) h e = signal_at signals k h e

qobject_sort : (m : ℕ) (h : Heading) → slice_get qobject.methods m ≡ Some h → (i j : ℕ) → h.sort ≢ sort.Slot i j
qobject_sort zero h e i j f = let s = ap (λ (x : Heading). x.sort) (same_Some _ _ e) in absurd (cc)
qobject_sort (suc zero) h e i j f = let s = ap (λ (x : Heading). x.sort) (same_Some _ _ e) in absurd (cc)
qobject_sort (suc (suc zero)) h e i j f = let s = ap (λ (x : Heading). x.sort) (same_Some _ _ e) in absurd (cc)
qobject_sort (suc (suc (suc zero))) h e i j f = let s = ap (λ (x : Heading). x.sort) (same_Some _ _ e) in absurd (cc)
qobject_sort (suc (suc (suc (suc m)))) h e i j f = absurd (none-some h e)

-- a heading of slot j of class i, which is the class or above it
pub data Reaches (all : List Outline) : ℕ → ℕ → Type 0 where
  here : {c : ℕ} → Reaches all c c
  up : {c b d : ℕ} (o : Outline) → slice_get all c ≡ Some o → o.base ≡ Some b → Reaches all b d → Reaches all c d

-- .. as method m of class c; class i declares it, and its base doesn't have it
pub record HasSlot (classes : List Class) (all : List Outline) (c i j m : ℕ) (h : Heading) : Type 0 where
  pub class : Class
  pub is_class : slice_get classes i ≡ Some class
  pub slot : Slot
  pub is_slot : slice_get class.slots j ≡ Some slot
  pub signed : h.sig ≡ sig_of slot.name (types_of slot.parameters)
  pub reaches : Reaches all c (suc i)
  pub outline : Outline
  pub is_outline : slice_get all (suc i) ≡ Some outline
  pub named : outline.name ≡ class.name
  pub base_number : ℕ
  pub based : outline.base ≡ Some base_number
  pub base : Outline
  pub is_base : slice_get all base_number ≡ Some base
  pub after : length base.methods ≤ m
  pub within : m < length outline.methods

module _ (classes : List Class) (all : List Outline) (are : Outlines classes all) where
  pub outline_of : (c : ℕ) (o : Outline) → slice_get all c ≡ Some o → ((c ≡ 0) × (o ≡ qobject)) ⊎ Declared classes all c o
  outline_of zero o e = inl (refl, sym (same_Some _ _ (sym are.root ∙ e)))
  outline_of (suc i) o e =
      let within : suc i < length all = slice_get_within all (suc i) o e in
      let class = inside classes i (omega (arith, within, are.counted)) in
      let has = are.classes i class.0 class.1 in
      let base = get_take (suc i) all has.outlined.number has.outlined.based.at.item has.outlined.based.at.is in
      inr (record {
        i = i;
        number = refl;
        class = class.0;
        is = class.1;
        base_number = has.outlined.number;
        smaller = base.1;
        base = has.outlined.based.at.item;
        is_base = base.0;
        base_named = has.outlined.based.at.has;
        shape = sym (same_Some _ _ (sym has.is ∙ e)) ∙ has.outlined.is;
      })

  own_slot : (c : ℕ) (o : Outline) → slice_get all c ≡ Some o → (d : Declared classes all c o) (k : ℕ) (h : Heading) → slice_get (own_methods d.i d.class) k ≡ Some h → (i j m : ℕ) → h.sort ≡ sort.Slot i j → m ≡ length d.base.methods + k → m < length o.methods → HasSlot classes all c i j m h
  own_slot c o e d k h at i j m is after within =
      elim (get_split_at (map signal_heading d.class.signals) (slot_headings d.i 0 d.class.slots) k h at) [
        | inl f ↦ let s = signal_at d.i d.class.signals k h f in absurd (cc)
        | inr r ↦
            let found = slot_at d.i d.class.slots 0 r.0 h r.2 in
            let s : sort.Slot d.i (0 + r.0) ≡ sort.Slot i j = sym (ap (λ (x : Heading). x.sort) found.shape) ∙ is in
            let same_i : d.i ≡ i = cc in
            let same_j : 0 + r.0 ≡ j = cc in
            let place : r.0 ≡ j = omega (arith, same_j) in
            let number : suc i ≡ c = omega (arith, same_i, d.number) in
            record {
              class = d.class;
              is_class = subst (λ n. slice_get classes n ≡ Some d.class) same_i d.is;
              slot = found.slot;
              is_slot = subst (λ n. slice_get d.class.slots n ≡ Some found.slot) place found.is;
              signed = ap (λ (x : Heading). x.sig) found.shape;
              reaches = subst (λ n. Reaches all c n) (sym number) here;
              outline = o;
              is_outline = subst (λ n. slice_get all n ≡ Some o) (sym number) e;
              named = ap (λ (x : Outline). x.name) d.shape;
              base_number = d.base_number;
              based = ap (λ (x : Outline). x.base) d.shape;
              base = d.base;
              is_base = d.is_base;
              after = omega (arith, after);
              within = within;
            }
      ]

  inherited_slot : (c b : ℕ) (o : Outline) → slice_get all c ≡ Some o → o.base ≡ Some b → (i j m : ℕ) (h : Heading) → HasSlot classes all b i j m h → HasSlot classes all c i j m h
  inherited_slot c b o e based i j m h r = record {
    class = r.class;
    is_class = r.is_class;
    slot = r.slot;
    is_slot = r.is_slot;
    signed = r.signed;
    reaches = up o e based r.reaches;
    outline = r.outline;
    is_outline = r.is_outline;
    named = r.named;
    base_number = r.base_number;
    based = r.based;
    base = r.base;
    is_base = r.is_base;
    after = r.after;
    within = r.within;
  }

  has_slot : (n c : ℕ) → c < n → (o : Outline) → slice_get all c ≡ Some o → (m : ℕ) (h : Heading) → slice_get o.methods m ≡ Some h → (i j : ℕ) → h.sort ≡ sort.Slot i j → HasSlot classes all c i j m h
  has_slot zero c below o e m h at i j is = absurd (omega arith)
  has_slot (suc n) c below o e m h at i j is =
      elim (outline_of c o e) [
        | inl q ↦ absurd (qobject_sort m h (subst (λ (x : Outline). slice_get x.methods m ≡ Some h) q.1 at) i j is)
        | inr d ↦ elim (get_split_at d.base.methods (own_methods d.i d.class) m h (subst (λ (x : Outline). slice_get x.methods m ≡ Some h) d.shape at)) [
          | inl f ↦
              inherited_slot c d.base_number o e (ap (λ (x : Outline). x.base) d.shape) i j m h
              (has_slot n d.base_number (omega (arith, d.smaller)) d.base d.is_base m h f i j is)
          | inr r ↦ own_slot c o e d r.0 h r.2 i j m is r.1 (slice_get_within o.methods m h at)
        ]
      ]

  pub outlines_count : length all ≡ suc (length classes)
  outlines_count = are.counted

  -- `QObject` is the first class, and every class is below it
  pub root_at : slice_get all 0 ≡ Some qobject
  root_at = are.root

  pub reaches_root : (n c : ℕ) → c < n → (o : Outline) → slice_get all c ≡ Some o → Reaches all c 0
  reaches_root zero c below o e = absurd (omega arith)
  reaches_root (suc n) c below o e =
      elim (outline_of c o e) [
        | inl q ↦ subst (λ x. Reaches all x 0) (sym q.0) here
        | inr d ↦ up o e (ap (λ (x : Outline). x.base) d.shape) (reaches_root n d.base_number (omega (arith, d.smaller)) d.base d.is_base)
      ]

  -- `deleteLater()` stands among `QObject`'s methods
  pub delete_later_in_root : (n c : ℕ) → c < n → (o : Outline) → slice_get all c ≡ Some o → (m : ℕ) (h : Heading) → slice_get o.methods m ≡ Some h → h.sort ≡ sort.DeleteLater → m < 4
  delete_later_in_root zero c below o e m h at is = absurd (omega arith)
  delete_later_in_root (suc n) c below o e m h at is =
      elim (outline_of c o e) [
        | inl q ↦ slice_get_within qobject.methods m h (subst (λ (x : Outline). slice_get x.methods m ≡ Some h) q.1 at)
        | inr d ↦ elim (get_split_at d.base.methods (own_methods d.i d.class) m h (subst (λ (x : Outline). slice_get x.methods m ≡ Some h) d.shape at)) [
          | inl f ↦ delete_later_in_root n d.base_number (omega (arith, d.smaller)) d.base d.is_base m h f is
          | inr r ↦ elim (get_split_at (map signal_heading d.class.signals) (slot_headings d.i 0 d.class.slots) r.0 h r.2) [
            | inl g ↦ let s = signal_at d.i d.class.signals r.0 h g in absurd (cc)
            | inr k ↦
                let found = slot_at d.i d.class.slots 0 k.0 h k.2 in
                let s : sort.Slot d.i (0 + k.0) ≡ sort.DeleteLater = sym (ap (λ (x : Heading). x.sort) found.shape) ∙ is in
                absurd (cc)
          ]
        ]
      ]

  -- where a heading's body stands
  pub slot_of : (c : ℕ) (o : Outline) → slice_get all c ≡ Some o → (m : ℕ) (h : Heading) → slice_get o.methods m ≡ Some h → (i j : ℕ) → h.sort ≡ sort.Slot i j → HasSlot classes all c i j m h
  slot_of c o e m h at i j is = has_slot (suc c) c (omega arith) o e m h at i j is

-- no two classes have one name
module _ (program : Program) (all : List Outline) (are : Outlines program.classes all) (distinct : ¬ DuplicateClass program) where
  not_root : (c : ℕ) (o : Outline) → Declared program.classes all c o → ¬ (o.name ≡ codes "QObject")
  not_root c o d named =
      distinct (inr (any_of (λ (class : Class). IsTaken class.name) program.classes d.i
      (record { item = d.class; is = d.is; has = inl (sym (ap (λ (x : Outline). x.name) d.shape) ∙ named) })))

  pub distinct_outlines : (i j : ℕ) (a b : Outline) → slice_get all i ≡ Some a → slice_get all j ≡ Some b → a.name ≡ b.name → i ≡ j
  distinct_outlines i j a b ea eb named =
      elim (outline_of program.classes all are i a ea) [
        | inl q ↦ elim (outline_of program.classes all are j b eb) [
          | inl r ↦ q.0 ∙ sym r.0
          | inr d ↦ absurd (not_root j b d (sym named ∙ ap (λ (x : Outline). x.name) q.1))
        ]
        | inr c ↦ elim (outline_of program.classes all are j b eb) [
          | inl r ↦ absurd (not_root i a c (named ∙ ap (λ (x : Outline). x.name) r.1))
          | inr d ↦
              let same : c.class.name ≡ d.class.name = sym (ap (λ (x : Outline). x.name) c.shape) ∙ named ∙ ap (λ (x : Outline). x.name) d.shape in
              let place = once (λ (x y : Class). x.name ≡ y.name) program.classes (λ t. distinct (inl t)) c.i d.i c.class d.class c.is d.is same (sym same) in
              omega (arith, c.number, d.number, place)
        ]
      ]
