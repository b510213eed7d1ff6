-- Numbers of bound properties stay such where they become lower in their order.
use Rattle.std.proofs.Common.{◌≡◌, ℕ, zero, suc, ◌+◌, ◌<◌, ◌≤◌, ◌⊎◌, List, [], ◌∷◌, length, get_or, inl, inr, Option, Some, refl, ap, sym, ◌∙◌, subst, arith}
use Rattle.std.specs.Prelude.{slice_get}
use Rattle.std.specs.Cmp.{IsEquivalence}
use Rattle.std.specs.List.{IsDistinct}
use Rattle.std.specs.List.Sorted.{IsNonDecreasingBy}
use Rattle.std.specs.Map.{keys_of, values_of, lookup}
use Rattle.std.proofs.lemmas.Map.Entries.{place_from_lookup, lookup_from_place}
use Rattle.std.proofs.lemmas.Option.{same_Some}
use Rattle.indexmap.specs.Layout.{set_value_at}
use Rattle.binding_graph.specs.declared.place.Place.{Place}
use Rattle.binding_graph.specs.declared.binding.Binding.{Binding}
use Rattle.binding_graph.specs.Places.{property_of}
use Rattle.binding_graph.specs.code.Keys.{key_of, same_key}
use Rattle.binding_graph.specs.code.BindingRanks.{AreRanked}
use Rattle.binding_graph.proofs.Keyed.{key-places, key-refl, key-same, same_place-sym}
use Rattle.binding_graph.proofs.Ranking.{numbered-at}

abbrev pub Entries : Type 0
Entries = List ((ℕ × ℕ) × ℕ)

-- the number of a property
abbrev pub number_in : Entries → Place → Option ℕ
number_in es p = lookup (same_key (key_of p)) es

same_key-laws : IsEquivalence same_key
same_key-laws = record {
  refl = key-refl;
  symm = λ a b. same_place-sym (property_of a.0 a.1) (property_of b.0 b.1);
  congr = λ a b c e. ap (λ (k : ℕ × ℕ). same_key k c) (key-same a b e);
}

-- ---- entries at their places
at-value : (es : Entries) (i : ℕ) (e : (ℕ × ℕ) × ℕ) → slice_get es i ≡ Some e → slice_get (values_of es) i ≡ Some e.1
at-value [] i e at = absurd (cc at)
at-value (x ∷ es) zero e at = ap (λ (y : (ℕ × ℕ) × ℕ). Some y.1) (same_Some x e at)
at-value (x ∷ es) (suc i) e at = at-value es i e at

at-key : (es : Entries) (i : ℕ) (e : (ℕ × ℕ) × ℕ) → slice_get es i ≡ Some e → slice_get (keys_of es) i ≡ Some e.0
at-key [] i e at = absurd (cc at)
at-key (x ∷ es) zero e at = ap (λ (y : (ℕ × ℕ) × ℕ). Some y.0) (same_Some x e at)
at-key (x ∷ es) (suc i) e at = at-key es i e at

key-at : (es : Entries) (i : ℕ) (k : ℕ × ℕ) → slice_get (keys_of es) i ≡ Some k → (v : ℕ) × (slice_get es i ≡ Some (k, v))
key-at [] i k at = absurd (cc at)
key-at (x ∷ es) zero k at = (x.1, ap (λ (j : ℕ × ℕ). Some (j, x.1)) (same_Some x.0 k at))
key-at (x ∷ es) (suc i) k at = key-at es i k at

at-within : (es : Entries) (i : ℕ) (e : (ℕ × ℕ) × ℕ) → slice_get es i ≡ Some e → i < length es
at-within [] i e at = absurd (cc at)
at-within (x ∷ es) zero e at = omega arith
at-within (x ∷ es) (suc i) e at = let less : i < length es = at-within es i e at in omega (arith, less)

at-or : (es : Entries) (i : ℕ) (e d : (ℕ × ℕ) × ℕ) → slice_get es i ≡ Some e → get_or es i d ≡ e
at-or [] i e d at = absurd (cc at)
at-or (x ∷ es) zero e d at = same_Some x e at
at-or (x ∷ es) (suc i) e d at = at-or es i e d at

pub last-or-before : (k i : ℕ) → k < i + 1 → (k < i) ⊎ (k ≡ i)
last-or-before k i below = grind (arith, below)

before-or-past : (a b : ℕ) → (a < b) ⊎ (b ≤ a)
before-or-past a b = grind arith

-- ---- one value written
pub written-here : (es : Entries) (i w : ℕ) → i < length es → slice_get (values_of (set_value_at es i w)) i ≡ Some w
written-here [] i w below = absurd (omega (arith, below))
written-here (x ∷ es) zero w below = refl
written-here (x ∷ es) (suc i) w below = written-here es i w (omega (arith, below))

pub written-before : (es : Entries) (i w k : ℕ) → k < i → slice_get (values_of (set_value_at es i w)) k ≡ slice_get (values_of es) k
written-before [] i w k less = refl
written-before (x ∷ es) zero w k less = absurd (omega (arith, less))
written-before (x ∷ es) (suc i) w zero less = refl
written-before (x ∷ es) (suc i) w (suc k) less = written-before es i w k (omega (arith, less))

-- ---- each has its place as its number now, where all were in the order of their numbers
module _ (es fs : Entries) (distinct : IsDistinct same_key (keys_of es)) (sorted : IsNonDecreasingBy (λ (e : (ℕ × ℕ) × ℕ). e.1) es)
    (keys : keys_of fs ≡ keys_of es) (counted : (k : ℕ) → k < length fs → slice_get (values_of fs) k ≡ Some k) where
  -- it stood there with its old number
  stood : (p : Place) (i : ℕ) → number_in fs p ≡ Some i → (j : ℕ) × (slice_get es i ≡ Some (key_of p, j)) × (i < length fs)
  stood p i is =
      let found = place_from_lookup (same_key (key_of p)) fs i is in
      let same : found.0 ≡ i = same_Some found.0 i (sym (counted found.0 (at-within fs found.0 (found.1, i) found.2)) ∙ at-value fs found.0 (found.1, i) found.2) in
      let at : slice_get fs i ≡ Some (key_of p, i) = subst (λ (k : ℕ × ℕ). slice_get fs i ≡ Some (k, i)) (sym (key-same (key_of p) found.1 found.3)) (subst (λ (n : ℕ). slice_get fs n ≡ Some (found.1, i)) same found.2) in
      let before = key-at es i (key_of p) (ap (λ (ks : List (ℕ × ℕ)). slice_get ks i) (sym keys) ∙ at-key fs i (key_of p, i) at) in
      (before.0, before.1, at-within fs i (key_of p, i) at)

  had : (p : Place) (i j : ℕ) → slice_get es i ≡ Some (key_of p, j) → number_in es p ≡ Some j
  had p i j at = lookup_from_place same_key-laws es i (key_of p) j distinct at

  has : (p : Place) (j : ℕ) → number_in es p ≡ Some j → (i : ℕ) × (number_in fs p ≡ Some i)
  has p j is =
      let found = place_from_lookup (same_key (key_of p)) es j is in
      let at : slice_get (keys_of fs) found.0 ≡ Some (key_of p) = ap (λ (ks : List (ℕ × ℕ)). slice_get ks found.0) keys ∙ at-key es found.0 (found.1, j) found.2 ∙ ap (λ (k : ℕ × ℕ). Some k) (sym (key-same (key_of p) found.1 found.3)) in
      let now = key-at fs found.0 (key_of p) at in
      (now.0, lookup_from_place same_key-laws fs found.0 (key_of p) now.0 (subst (λ (ks : List (ℕ × ℕ)). IsDistinct same_key ks) (sym keys) distinct) now.1)

  in-order : (p q : Place) (a b i j : ℕ) → slice_get es a ≡ Some (key_of p, i) → slice_get es b ≡ Some (key_of q, j) → i < j → a < b
  in-order p q a b i j at to less = elim (before-or-past a b) [
    | inl before ↦ before
    | inr past ↦
        let d : (ℕ × ℕ) × ℕ = (key_of p, i) in
        let rises : (get_or es b d).1 ≤ (get_or es a d).1 = sorted b a d past (at-within es a d at) in
        let low : (get_or es a d).1 ≡ i = ap (λ (e : (ℕ × ℕ) × ℕ). e.1) (at-or es a d d at) in
        let high : (get_or es b d).1 ≡ j = ap (λ (e : (ℕ × ℕ) × ℕ). e.1) (at-or es b (key_of q, j) d to) in
        absurd (omega (arith, rises, low, high, less))
  ]

  pub ranked-compacted : (F : Place → Option Binding) (n : ℕ) → AreRanked F [] (number_in es) n → AreRanked F [] (number_in fs) (length fs)
  ranked-compacted F n h = record {
    covers = λ p b f. let found = numbered-at F (number_in es) n h p b f in inr (has p found.0 found.1);
    rises = λ q m b i j f out r x y.
        let low = stood m i x in
        let high = stood q j y in
        in-order m q i j low.0 high.0 low.1 high.1 (h.rises q m b low.0 high.0 f out r (had m i low.0 low.1) (had q j high.0 high.1));
    free = λ q m b f out r i. absurd i;
    apart = λ p q i x y.
        let one = stood p i x in
        let other = stood q i y in
        key-places p q (ap (λ (e : (ℕ × ℕ) × ℕ). e.0) (same_Some (key_of p, one.0) (key_of q, other.0) (sym one.1 ∙ other.1)));
    below = λ p i x. (stood p i x).2;
    ordered = tt;
  }
