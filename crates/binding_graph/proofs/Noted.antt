-- The slots of the installed bindings, as they are noted under the targets.
use Rattle.std.proofs.Common.{◌≡◌, ◌∙◌, ℕ, ◌+◌, ◌<◌, ◌≤◌, Bool, true, false, cond, [], ◌∷◌, ◌++◌, filter, inl, inr, is_some, length, set, Option, None, Some, refl, ap, sym, subst, arith}
use Rattle.std.proofs.lemmas.Bool.{false≢true}
use Rattle.std.proofs.lemmas.Option.{same_Some}
use Rattle.std.specs.Map.{lookup}
use Rattle.binding_graph.specs.declared.place.Place.{Place}
use Rattle.binding_graph.specs.declared.binding.Binding.{Binding}
use Rattle.binding_graph.specs.declared.installed.Installed.{Installed}
use Rattle.binding_graph.specs.Places.{property_of, same_place}
use Rattle.binding_graph.specs.Bindings.{binding_at, AreApart}
use Rattle.binding_graph.specs.code.Graph.{AreKeyed, bindings_in, slot_of}
use Rattle.binding_graph.specs.code.Keys.{key_of, same_key}
use Rattle.binding_graph.specs.code.Slots.{filled, in_slot}
use Rattle.binding_graph.proofs.Compacting.{Entries, last-or-before}
use Rattle.binding_graph.proofs.Keyed.{key-refl}
use Rattle.binding_graph.proofs.Numbers.{IsOneToOne}
use Rattle.binding_graph.proofs.Places.{decide_place, same_place-refl}
use Rattle.binding_graph.proofs.Slots.{Slots, AreOnce, apart-once, emptied-here, emptied-other, filled-none, filled-some, found-filled, in-filled, once-apart, packed-from, packed-to, pushed-last, pushed-old, pushed-or, slot-within, unfilled}

-- ---- looked up
pub keyed-once : (x : Installed) → AreKeyed x → AreOnce x.slots.items
keyed-once x keyed i j b c at to same = same_Some i j (sym (keyed.found b i at) ∙ ap (slot_of x) same ∙ keyed.found c j to)

pub keyed-apart : (x : Installed) → AreKeyed x → AreApart (bindings_in x)
keyed-apart x keyed = apart-once x.slots.items (keyed-once x keyed)

pub reader-there : (x : Installed) → AreKeyed x → (p : Place) (i : ℕ) → slot_of x p ≡ Some i → in_slot x.slots.items i ≡ binding_at (bindings_in x) p
reader-there x keyed p i is =
    let held = keyed.placed p i is in
    held.1 ∙ sym (subst (λ (q : Place). binding_at (bindings_in x) q ≡ Some held.0) held.2 (found-filled x.slots.items i held.0 (keyed-apart x keyed) held.1))

pub reader-none : (x : Installed) → AreKeyed x → (p : Place) → slot_of x p ≡ None → binding_at (bindings_in x) p ≡ None
reader-none x keyed p none = unfilled x.slots.items p (λ i b at to. (let is : slot_of x p ≡ Some i = ap (slot_of x) (sym to) ∙ keyed.found b i at in cc (none, is)))

pub slots-apart : (x : Installed) → AreKeyed x → IsOneToOne (slot_of x)
slots-apart x keyed p q i is to =
    let here = keyed.placed p i is in
    let there = keyed.placed q i to in
    let same : here.0 ≡ there.0 = same_Some here.0 there.0 (sym here.1 ∙ there.1) in
    sym here.2 ∙ ap (λ (z : Binding). z.target) same ∙ there.2

pub same-keyed : (x n : Installed) → AreKeyed x → n.slots.items ≡ x.slots.items → ((q : Place) → slot_of n q ≡ slot_of x q) → AreKeyed n
same-keyed x n keyed slots same = record {
  placed = λ p i is. (let held = keyed.placed p i (sym (same p) ∙ is) in (held.0, ap (λ (os : Slots). in_slot os i) slots ∙ held.1, held.2));
  found = λ b i at. same b.target ∙ keyed.found b i (sym (ap (λ (os : Slots). in_slot os i) slots) ∙ at);
}

-- ---- none
pub none-kept : (x : Installed) → AreKeyed x → length x.by_target.entries ≡ 0 → length (bindings_in x) ≡ 0
none-kept x keyed none = filled-none x.slots.items (λ i b at. by-entries x.by_target.entries b i none (keyed.found b i at))
  where
    by-entries : (es : Entries) (b : Binding) (i : ℕ) → length es ≡ 0 → lookup (same_key (key_of b.target)) es ≡ Some i → ⊥
    by-entries [] b i z is = cc is
    by-entries (e ∷ es) b i z is = omega (arith, z)

pub none-noted : (x : Installed) → AreKeyed x → length (bindings_in x) ≡ 0 → length x.by_target.entries ≡ 0
none-noted x keyed none = by-entries x.by_target.entries (λ p i is. (let held = keyed.placed p i is in filled-some x.slots.items i held.0 held.1 none))
  where
    by-entries : (es : Entries) → ((p : Place) (i : ℕ) → lookup (same_key (key_of p)) es ≡ Some i → ⊥) → length es ≡ 0
    by-entries [] away = refl
    by-entries (e ∷ es) away = absurd (away (property_of e.0.0 e.0.1) e.1 (ap (λ (y : Bool). cond y (Some e.1) (lookup (same_key e.0) es)) (key-refl e.0)))

-- ---- one is removed
pub emptied-keyed : (x n : Installed) (p : Place) (i : ℕ) → AreKeyed x → slot_of x p ≡ Some i → n.slots.items ≡ set x.slots.items i None → slot_of n p ≡ None → ((q : Place) → same_place p q ≡ false → slot_of n q ≡ slot_of x q) → AreKeyed n
emptied-keyed x n p i keyed is slots gone others = record {
  placed = λ q j to. elim (decide_place p q) [
    | inl e ↦ (let none : slot_of n q ≡ None = subst (λ (r : Place). slot_of n r ≡ None) e gone in absurd (cc (none, to)))
    | inr f ↦ still q j f (keyed.placed q j (sym (others q f) ∙ to))
  ];
  found = λ b j at. by-slot b j (sym (ap (λ (os : Slots). in_slot os j) slots) ∙ at);
}
  where
    -- another's slot isn't the one that was emptied
    still : (q : Place) (j : ℕ) → same_place p q ≡ false → ((b : Binding) × (in_slot x.slots.items j ≡ Some b) × (b.target ≡ q)) → (b : Binding) × (in_slot n.slots.items j ≡ Some b) × (b.target ≡ q)
    still q j f old =
        let here = keyed.placed p i is in
        let away : i ≡ j → ⊥ = λ e. (
        let same : here.0 ≡ old.0 = same_Some here.0 old.0 (sym here.1 ∙ ap (in_slot x.slots.items) e ∙ old.1) in
        false≢true (sym f ∙ subst (λ (r : Place). same_place p r ≡ true) (sym here.2 ∙ ap (λ (z : Binding). z.target) same ∙ old.2) (same_place-refl p))) in
        (old.0, ap (λ (os : Slots). in_slot os j) slots ∙ emptied-other x.slots.items i j away ∙ old.1, old.2)

    by-slot : (b : Binding) (j : ℕ) → in_slot (set x.slots.items i None) j ≡ Some b → slot_of n b.target ≡ Some j
    by-slot b j at =
        let away : i ≡ j → ⊥ = λ e. (
        let none : in_slot (set x.slots.items i None) j ≡ None = subst (λ (k : ℕ). in_slot (set x.slots.items i None) k ≡ None) e (emptied-here x.slots.items i) in
        cc (none, at)) in
        let old : slot_of x b.target ≡ Some j = keyed.found b j (sym (emptied-other x.slots.items i j away) ∙ at) in
        elim (decide_place p b.target) [
          | inl e ↦ absurd (away (same_Some i j (sym is ∙ ap (slot_of x) e ∙ old)))
          | inr f ↦ others b.target f ∙ old
        ]

-- ---- one more is installed
pub pushed-keyed : (x n : Installed) (b : Binding) → AreKeyed x → binding_at (bindings_in x) b.target ≡ None → n.slots.items ≡ x.slots.items ++ Some b ∷ [] → slot_of n b.target ≡ Some (length x.slots.items) → ((q : Place) → same_place b.target q ≡ false → slot_of n q ≡ slot_of x q) → AreKeyed n
pushed-keyed x n b keyed none slots is others = record {
  placed = λ q j to. elim (decide_place b.target q) [
    | inl e ↦
        let last : length x.slots.items ≡ j = same_Some (length x.slots.items) j (sym is ∙ ap (slot_of n) e ∙ to) in
        (b, ap (λ (os : Slots). in_slot os j) slots ∙ subst (λ (k : ℕ). in_slot (x.slots.items ++ Some b ∷ []) k ≡ Some b) last (pushed-last x.slots.items b), e)
    | inr f ↦
        let old = keyed.placed q j (sym (others q f) ∙ to) in
        (old.0, ap (λ (os : Slots). in_slot os j) slots ∙ pushed-old x.slots.items b old.0 j old.1, old.2)
  ];
  found = λ c j at. elim (pushed-or x.slots.items b c j (sym (ap (λ (os : Slots). in_slot os j) slots) ∙ at)) [
    | inl old ↦ elim (decide_place b.target c.target) [
      | inl e ↦ absurd (in-filled x.slots.items j c old (subst (λ (q : Place). binding_at (bindings_in x) q ≡ None) e none))
      | inr f ↦ others c.target f ∙ keyed.found c j old
    ]
    | inr last ↦ ap (λ (z : Binding). slot_of n z.target) (sym last.0) ∙ is ∙ ap (λ (k : ℕ). Some k) last.1
  ];
}

-- ---- the slots are noted anew, one after the other
-- N notes the slots of the first ones, and of each other one something; it notes nothing else
pub record AreNoted (slots : Slots) (done : ℕ) (N : Place → Option ℕ) : Type 0 where
  pub first : (b : Binding) (k : ℕ) → in_slot slots k ≡ Some b → k < done → N b.target ≡ Some k
  pub all : (b : Binding) (k : ℕ) → in_slot slots k ≡ Some b → (j : ℕ) × (N b.target ≡ Some j)
  pub only : (p : Place) (j : ℕ) → N p ≡ Some j → (b : Binding) × (k : ℕ) × (in_slot slots k ≡ Some b) × (b.target ≡ p)

pub noted-packed : (x : Installed) → AreKeyed x → AreNoted (filter is_some x.slots.items) 0 (slot_of x)
noted-packed x keyed = record {
  first = λ b k at below. absurd (omega (arith, below));
  all = λ b k at. (let old = packed-from x.slots.items k b at in (old.0, keyed.found b old.0 old.1));
  only = λ p j is. (let held = keyed.placed p j is in let new = packed-to x.slots.items j held.0 held.1 in (held.0, new.0, new.1, held.2));
}

pub noted-none : (slots : Slots) (done : ℕ) (N : Place → Option ℕ) → in_slot slots done ≡ None → AreNoted slots done N → AreNoted slots (done + 1) N
noted-none slots done N none noted = record {
  first = λ b k at below. elim (last-or-before k done below) [
    | inl less ↦ noted.first b k at less
    | inr last ↦ (let there : in_slot slots done ≡ Some b = ap (in_slot slots) (sym last) ∙ at in absurd (cc (none, there)))
  ];
  all = noted.all;
  only = noted.only;
}

pub noted-next : (slots : Slots) (done : ℕ) (N M : Place → Option ℕ) (b : Binding) → AreApart (filled slots) → in_slot slots done ≡ Some b → M b.target ≡ Some done → ((q : Place) → same_place b.target q ≡ false → M q ≡ N q) → AreNoted slots done N → AreNoted slots (done + 1) M
noted-next slots done N M b apart here is others noted = record {
  first = λ c k at below. elim (last-or-before k done below) [
    | inl less ↦ elim (decide_place b.target c.target) [
      | inl e ↦ (let same : done ≡ k = once-apart slots apart done k b c here at e in absurd (omega (arith, same, less)))
      | inr f ↦ others c.target f ∙ noted.first c k at less
    ]
    | inr last ↦ (
        let same : b ≡ c = same_Some b c (sym here ∙ ap (in_slot slots) (sym last) ∙ at) in
        ap (λ (z : Binding). M z.target) (sym same) ∙ is ∙ ap (λ (n : ℕ). Some n) (sym last))
  ];
  all = λ c k at. elim (decide_place b.target c.target) [
    | inl e ↦ (done, ap M (sym e) ∙ is)
    | inr f ↦ (let old = noted.all c k at in (old.0, others c.target f ∙ old.1))
  ];
  only = λ p j to. elim (decide_place b.target p) [
    | inl e ↦ (b, done, here, e)
    | inr f ↦ noted.only p j (sym (others p f) ∙ to)
  ];
}

pub noted-keyed : (x : Installed) (done : ℕ) → length x.slots.items ≤ done → AreNoted x.slots.items done (slot_of x) → AreKeyed x
noted-keyed x done all noted = record {
  placed = λ p j to. (
      let held = noted.only p j to in
      let within : held.1 < length x.slots.items = slot-within x.slots.items held.1 held.0 held.2 in
      let first : slot_of x held.0.target ≡ Some held.1 = noted.first held.0 held.1 held.2 (omega (arith, within, all)) in
      let same : held.1 ≡ j = same_Some held.1 j (sym first ∙ ap (slot_of x) held.3 ∙ to) in
      (held.0, subst (λ (k : ℕ). in_slot x.slots.items k ≡ Some held.0) same held.2, held.3));
  found = λ b k at. (let within : k < length x.slots.items = slot-within x.slots.items k b at in noted.first b k at (omega (arith, within, all)));
}
