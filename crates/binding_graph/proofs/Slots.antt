-- Bindings in slots: which they are where one slot is emptied or one more is filled, and where the empty ones go.
use Rattle.std.proofs.Common.{◌≡◌, ◌∙◌, ℕ, zero, suc, ◌+◌, ◌<◌, ◌⊎◌, ◌||◌, Bool, true, false, not, cond, List, [], ◌∷◌, ◌++◌, drop, filter, inl, inr, is_some, length, set, MatchOption, Option, None, Some, refl, ap, sym, subst, arith}
use Rattle.std.specs.List.{list_any}
use Rattle.std.proofs.lemmas.Bool.{cases_Bool, false≢true}
use Rattle.std.proofs.lemmas.Option.{same_Some}
use Rattle.binding_graph.specs.declared.place.Place.{Place}
use Rattle.binding_graph.specs.declared.binding.Binding.{Binding}
use Rattle.binding_graph.specs.Places.{same_place}
use Rattle.binding_graph.specs.Bindings.{binding_at, AreApart, without}
use Rattle.binding_graph.specs.code.Slots.{filled, in_slot}
use Rattle.binding_graph.proofs.Keyed.{without-none}
use Rattle.binding_graph.proofs.Places.{decide_place, same_place-refl}

abbrev pub Slots : Type 0
Slots = List (Option Binding)

-- ---- one slot
pub slot-within : (slots : Slots) (i : ℕ) (b : Binding) → in_slot slots i ≡ Some b → i < length slots
slot-within [] i b at = absurd (cc at)
slot-within (o ∷ slots) zero b at = omega arith
slot-within (o ∷ slots) (suc i) b at = let less : i < length slots = slot-within slots i b at in omega (arith, less)

pub emptied-here : (slots : Slots) (i : ℕ) → in_slot (set slots i None) i ≡ None
emptied-here [] i = refl
emptied-here (o ∷ slots) zero = refl
emptied-here (o ∷ slots) (suc i) = emptied-here slots i

pub emptied-other : (slots : Slots) (i j : ℕ) → (i ≡ j → ⊥) → in_slot (set slots i None) j ≡ in_slot slots j
emptied-other [] i j away = refl
emptied-other (o ∷ slots) zero zero away = absurd (away refl)
emptied-other (o ∷ slots) zero (suc j) away = refl
emptied-other (o ∷ slots) (suc i) zero away = refl
emptied-other (o ∷ slots) (suc i) (suc j) away = emptied-other slots i j (λ e. (let more : suc i ≡ suc j = omega (arith, e) in away more))

-- ---- the bindings in them
pub in-filled : (slots : Slots) (i : ℕ) (b : Binding) → in_slot slots i ≡ Some b → binding_at (filled slots) b.target ≡ None → ⊥
in-filled [] i b at none = cc at
in-filled (None ∷ slots) zero b at none = cc at
in-filled (Some c ∷ slots) zero b at none =
    let same : c ≡ b = same_Some c b at in
    let hit : same_place c.target b.target ≡ true = subst (λ (z : Binding). same_place c.target z.target ≡ true) same (same_place-refl c.target) in
    let some : binding_at (c ∷ filled slots) b.target ≡ Some c = ap (λ (y : Bool). cond y (Some c) (binding_at (filled slots) b.target)) hit in
    cc (some, none)
in-filled (None ∷ slots) (suc i) b at none = in-filled slots i b at none
in-filled (Some c ∷ slots) (suc i) b at none = elim (cases_Bool (same_place c.target b.target)) [
  | inl t ↦ let some : binding_at (c ∷ filled slots) b.target ≡ Some c = ap (λ (y : Bool). cond y (Some c) (binding_at (filled slots) b.target)) t in cc (some, none)
  | inr f ↦ in-filled slots i b at (sym (ap (λ (y : Bool). cond y (Some c) (binding_at (filled slots) b.target)) f) ∙ none)
]

pub unfilled : (slots : Slots) (p : Place) → ((i : ℕ) (b : Binding) → in_slot slots i ≡ Some b → b.target ≡ p → ⊥) → binding_at (filled slots) p ≡ None
unfilled [] p away = refl
unfilled (None ∷ slots) p away = unfilled slots p (λ i b at to. away (suc i) b at to)
unfilled (Some c ∷ slots) p away = elim (decide_place c.target p) [
  | inl e ↦ absurd (away 0 c refl e)
  | inr f ↦ ap (λ (y : Bool). cond y (Some c) (binding_at (filled slots) p)) f ∙ unfilled slots p (λ i b at to. away (suc i) b at to)
]

pub found-filled : (slots : Slots) (i : ℕ) (b : Binding) → AreApart (filled slots) → in_slot slots i ≡ Some b → binding_at (filled slots) b.target ≡ Some b
found-filled [] i b apart at = absurd (cc at)
found-filled (None ∷ slots) zero b apart at = absurd (cc at)
found-filled (Some c ∷ slots) zero b apart at =
    let same : c ≡ b = same_Some c b at in
    let hit : same_place c.target b.target ≡ true = subst (λ (z : Binding). same_place c.target z.target ≡ true) same (same_place-refl c.target) in
    ap (λ (y : Bool). cond y (Some c) (binding_at (filled slots) b.target)) hit ∙ at
found-filled (None ∷ slots) (suc i) b apart at = found-filled slots i b apart at
found-filled (Some c ∷ slots) (suc i) b apart at = elim (decide_place c.target b.target) [
  | inl e ↦ absurd (in-filled slots i b at (subst (λ (q : Place). binding_at (filled slots) q ≡ None) e apart.0))
  | inr f ↦ ap (λ (y : Bool). cond y (Some c) (binding_at (filled slots) b.target)) f ∙ found-filled slots i b apart.1 at
]

pub filled-none : (slots : Slots) → ((i : ℕ) (b : Binding) → in_slot slots i ≡ Some b → ⊥) → length (filled slots) ≡ 0
filled-none [] away = refl
filled-none (None ∷ slots) away = filled-none slots (λ i b at. away (suc i) b at)
filled-none (Some c ∷ slots) away = absurd (away 0 c refl)

pub filled-some : (slots : Slots) (i : ℕ) (b : Binding) → in_slot slots i ≡ Some b → length (filled slots) ≡ 0 → ⊥
filled-some [] i b at none = cc at
filled-some (None ∷ slots) zero b at none = cc at
filled-some (None ∷ slots) (suc i) b at none = filled-some slots i b at none
filled-some (Some c ∷ slots) i b at none = omega (arith, none)

-- ---- each of another property
abbrev pub AreOnce : Slots → Type 0
AreOnce slots = (i j : ℕ) (b c : Binding) → in_slot slots i ≡ Some b → in_slot slots j ≡ Some c → b.target ≡ c.target → i ≡ j

pub once-apart : (slots : Slots) → AreApart (filled slots) → AreOnce slots
once-apart [] apart i j b c at to same = absurd (cc at)
once-apart (None ∷ slots) apart zero j b c at to same = absurd (cc at)
once-apart (None ∷ slots) apart (suc i) zero b c at to same = absurd (cc to)
once-apart (None ∷ slots) apart (suc i) (suc j) b c at to same = let less : i ≡ j = once-apart slots apart i j b c at to same in omega (arith, less)
once-apart (Some x ∷ slots) apart zero zero b c at to same = refl
once-apart (Some x ∷ slots) apart zero (suc j) b c at to same =
    let first : x ≡ b = same_Some x b at in
    absurd (in-filled slots j c to (subst (λ (q : Place). binding_at (filled slots) q ≡ None) (ap (λ (z : Binding). z.target) first ∙ same) apart.0))
once-apart (Some x ∷ slots) apart (suc i) zero b c at to same =
    let first : x ≡ c = same_Some x c to in
    absurd (in-filled slots i b at (subst (λ (q : Place). binding_at (filled slots) q ≡ None) (ap (λ (z : Binding). z.target) first ∙ sym same) apart.0))
once-apart (Some x ∷ slots) apart (suc i) (suc j) b c at to same = let less : i ≡ j = once-apart slots apart.1 i j b c at to same in omega (arith, less)

pub apart-once : (slots : Slots) → AreOnce slots → AreApart (filled slots)
apart-once [] once = tt
apart-once (None ∷ slots) once = apart-once slots (λ i j b c at to same. (let more : suc i ≡ suc j = once (suc i) (suc j) b c at to same in omega (arith, more)))
apart-once (Some x ∷ slots) once = (
  unfilled slots x.target (λ i b at to. (let more : 0 ≡ suc i = once 0 (suc i) x b refl at (sym to) in omega (arith, more))),
  apart-once slots (λ i j b c at to same. (let more : suc i ≡ suc j = once (suc i) (suc j) b c at to same in omega (arith, more))),
)

-- ---- one slot is emptied
pub filled-emptied : (slots : Slots) (i : ℕ) (b : Binding) → AreApart (filled slots) → in_slot slots i ≡ Some b → filled (set slots i None) ≡ without b.target (filled slots)
filled-emptied [] i b apart at = absurd (cc at)
filled-emptied (None ∷ slots) zero b apart at = absurd (cc at)
filled-emptied (Some c ∷ slots) zero b apart at =
    let same : c ≡ b = same_Some c b at in
    let none : binding_at (filled slots) b.target ≡ None = subst (λ (z : Binding). binding_at (filled slots) z.target ≡ None) same apart.0 in
    let hit : same_place c.target b.target ≡ true = subst (λ (z : Binding). same_place c.target z.target ≡ true) same (same_place-refl c.target) in
    sym (without-none (filled slots) b.target none)
    ∙ sym (ap (λ (y : Bool). cond (not y) (c ∷ without b.target (filled slots)) (without b.target (filled slots))) hit)
filled-emptied (None ∷ slots) (suc i) b apart at = filled-emptied slots i b apart at
filled-emptied (Some c ∷ slots) (suc i) b apart at = elim (decide_place c.target b.target) [
  | inl e ↦ absurd (in-filled slots i b at (subst (λ (q : Place). binding_at (filled slots) q ≡ None) e apart.0))
  | inr f ↦ ap (λ (xs : List Binding). c ∷ xs) (filled-emptied slots i b apart.1 at)
      ∙ sym (ap (λ (y : Bool). cond (not y) (c ∷ without b.target (filled slots)) (without b.target (filled slots))) f)
]

-- ---- one more slot is filled
pub filled-push : (slots : Slots) (b : Binding) → filled (slots ++ Some b ∷ []) ≡ filled slots ++ b ∷ []
filled-push [] b = refl
filled-push (None ∷ slots) b = filled-push slots b
filled-push (Some c ∷ slots) b = ap (λ (xs : List Binding). c ∷ xs) (filled-push slots b)

pub pushed-last : (slots : Slots) (b : Binding) → in_slot (slots ++ Some b ∷ []) (length slots) ≡ Some b
pushed-last [] b = refl
pushed-last (o ∷ slots) b = pushed-last slots b

pub pushed-old : (slots : Slots) (b c : Binding) (i : ℕ) → in_slot slots i ≡ Some c → in_slot (slots ++ Some b ∷ []) i ≡ Some c
pushed-old [] b c i at = absurd (cc at)
pushed-old (o ∷ slots) b c zero at = at
pushed-old (o ∷ slots) b c (suc i) at = pushed-old slots b c i at

pub pushed-or : (slots : Slots) (b c : Binding) (i : ℕ) → in_slot (slots ++ Some b ∷ []) i ≡ Some c → (in_slot slots i ≡ Some c) ⊎ ((b ≡ c) × (length slots ≡ i))
pushed-or [] b c zero at = inr (same_Some b c at, refl)
pushed-or [] b c (suc i) at = absurd (cc at)
pushed-or (o ∷ slots) b c zero at = inl at
pushed-or (o ∷ slots) b c (suc i) at = elim (pushed-or slots b c i at) [
  | inl old ↦ inl old
  | inr last ↦ (let more : length (o ∷ slots) ≡ suc i = omega (arith, last.1) in inr (last.0, more))
]

-- ---- the empty ones go
pub filled-packed : (slots : Slots) → filled (filter is_some slots) ≡ filled slots
filled-packed [] = refl
filled-packed (None ∷ slots) = filled-packed slots
filled-packed (Some b ∷ slots) = ap (λ (xs : List Binding). b ∷ xs) (filled-packed slots)

pub packed-from : (slots : Slots) (i : ℕ) (b : Binding) → in_slot (filter is_some slots) i ≡ Some b → (j : ℕ) × (in_slot slots j ≡ Some b)
packed-from [] i b at = absurd (cc at)
packed-from (None ∷ slots) i b at = let more = packed-from slots i b at in (suc more.0, more.1)
packed-from (Some c ∷ slots) zero b at = (0, at)
packed-from (Some c ∷ slots) (suc i) b at = let more = packed-from slots i b at in (suc more.0, more.1)

pub packed-to : (slots : Slots) (j : ℕ) (b : Binding) → in_slot slots j ≡ Some b → (i : ℕ) × (in_slot (filter is_some slots) i ≡ Some b)
packed-to [] j b at = absurd (cc at)
packed-to (None ∷ slots) zero b at = absurd (cc at)
packed-to (None ∷ slots) (suc j) b at = packed-to slots j b at
packed-to (Some c ∷ slots) zero b at = (0, at)
packed-to (Some c ∷ slots) (suc j) b at = let more = packed-to slots j b at in (suc more.0, more.1)

-- ---- slot after slot
past : (slots : Slots) (i : ℕ) → in_slot slots i ≡ None → filled (drop (suc i) slots) ≡ filled (drop i slots)
past [] zero at = refl
past [] (suc i) at = refl
past (None ∷ slots) zero at = refl
past (Some c ∷ slots) zero at = absurd (cc at)
past (o ∷ slots) (suc i) at = past slots i at

pub filled-past : (slots : Slots) (i : ℕ) → in_slot slots i ≡ None → filled (drop (i + 1) slots) ≡ filled (drop i slots)
filled-past slots i at = let on : i + 1 ≡ suc i = omega arith in ap (λ (n : ℕ). filled (drop n slots)) on ∙ past slots i at

next : (slots : Slots) (i : ℕ) (b : Binding) → in_slot slots i ≡ Some b → filled (drop i slots) ≡ b ∷ filled (drop (suc i) slots)
next [] i b at = absurd (cc at)
next (None ∷ slots) zero b at = absurd (cc at)
next (Some c ∷ slots) zero b at = ap (λ (x : Binding). x ∷ filled slots) (same_Some c b at)
next (o ∷ slots) (suc i) b at = next slots i b at

pub filled-next : (slots : Slots) (i : ℕ) (b : Binding) → in_slot slots i ≡ Some b → filled (drop i slots) ≡ b ∷ filled (drop (i + 1) slots)
filled-next slots i b at = let on : suc i ≡ i + 1 = omega arith in next slots i b at ∙ ap (λ (n : ℕ). b ∷ filled (drop n slots)) on

module _ (test : Binding → Bool) where
  pub hit-at : (slots : Slots) (k : ℕ) (r : Bool) → MatchOption (in_slot slots k) (r ≡ false) (λ b. r ≡ test b) → r ≡ true → list_any test (filled slots) ≡ true
  hit-at [] k r told hit = absurd (false≢true (sym told ∙ hit))
  hit-at (None ∷ slots) zero r told hit = absurd (false≢true (sym told ∙ hit))
  hit-at (Some b ∷ slots) zero r told hit = ap (λ (y : Bool). y || list_any test (filled slots)) (sym told ∙ hit)
  hit-at (None ∷ slots) (suc k) r told hit = hit-at slots k r told hit
  hit-at (Some b ∷ slots) (suc k) r told hit = by_test (test b) (hit-at slots k r told hit)
    where
      by_test : (y : Bool) → list_any test (filled slots) ≡ true → (y || list_any test (filled slots)) ≡ true
      by_test true rest = refl
      by_test false rest = rest

  passed : (slots : Slots) (k : ℕ) (r : Bool) → MatchOption (in_slot slots k) (r ≡ false) (λ b. r ≡ test b) → r ≡ false → list_any test (filled (drop (suc k) slots)) ≡ list_any test (filled (drop k slots))
  passed [] zero r told away = refl
  passed [] (suc k) r told away = refl
  passed (None ∷ slots) zero r told away = refl
  passed (Some b ∷ slots) zero r told away = sym (ap (λ (y : Bool). y || list_any test (filled slots)) (sym told ∙ away))
  passed (o ∷ slots) (suc k) r told away = passed slots k r told away

  pub passed-at : (slots : Slots) (k : ℕ) (r : Bool) → MatchOption (in_slot slots k) (r ≡ false) (λ b. r ≡ test b) → r ≡ false → list_any test (filled (drop (k + 1) slots)) ≡ list_any test (filled (drop k slots))
  passed-at slots k r told away =
      let on : k + 1 ≡ suc k = omega arith in ap (λ (n : ℕ). list_any test (filled (drop n slots))) on ∙ passed slots k r told away
