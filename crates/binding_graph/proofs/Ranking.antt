-- Numbers of bound properties: they stay such where bindings go, and where a binding moves what follows from its target.
use Rattle.std.proofs.Common.{◌≡◌, ℕ, ◌+◌, ◌<◌, false, List, [], ◌∷◌, inl, inr, Option, None, Some, ap, sym, ◌∙◌, arith}
use Rattle.std.proofs.lemmas.Bool.{false≢true}
use Rattle.std.proofs.lemmas.Option.{same_Some}
use Rattle.binding_graph.specs.declared.place.Place.{Place}
use Rattle.binding_graph.specs.declared.binding.Binding.{Binding}
use Rattle.binding_graph.specs.Places.{In, same_place}
use Rattle.binding_graph.specs.Bindings.{Chain, direct, further, Loop}
use Rattle.binding_graph.specs.code.Orders.{IsLater}
use Rattle.binding_graph.specs.code.BindingRanks.{AreRanked}
use Rattle.binding_graph.proofs.Loops.{chain-ends}
use Rattle.binding_graph.proofs.Places.{decide_place, decide_in, same_place-refl}

pub numbered-at : (F : Place → Option Binding) (N : Place → Option ℕ) (n : ℕ) → AreRanked F [] N n → (p : Place) (b : Binding) → F p ≡ Some b → (i : ℕ) × (N p ≡ Some i)
numbered-at F N n h p b f = elim (h.covers p b f) [ inl i ↦ absurd i | inr found ↦ found ]

pub ranked-none : (F : Place → Option Binding) (N : Place → Option ℕ) (n : ℕ) → ((p : Place) (b : Binding) → F p ≡ Some b → ⊥) → ((p : Place) → N p ≡ None) → AreRanked F [] N n
ranked-none F N n none bare = record {
  covers = λ p b f. absurd (none p b f);
  rises = λ q m b i j f out r x y. absurd (none q b f);
  free = λ q m b f out r i. absurd i;
  apart = λ p q i x y. absurd (cc (bare p, x));
  below = λ p i x. absurd (cc (bare p, x));
  ordered = tt;
}

-- fewer bindings, of which none loses its number
pub ranked-fewer : (F G : Place → Option Binding) (N M : Place → Option ℕ) (n : ℕ) → ((p : Place) (b : Binding) → G p ≡ Some b → F p ≡ Some b) → ((p : Place) (i : ℕ) → M p ≡ Some i → N p ≡ Some i) → ((p : Place) (b : Binding) → G p ≡ Some b → M p ≡ N p) → AreRanked F [] N n → AreRanked G [] M n
ranked-fewer F G N M n fewer old kept h = record {
  covers = λ p b g. let found = numbered-at F N n h p b (fewer p b g) in inr (found.0, kept p b g ∙ found.1);
  rises = λ q m b i j g out r x y. h.rises q m b i j (fewer q b g) out r (old m i x) (old q j y);
  free = λ q m b g out r i. absurd i;
  apart = λ p q i x y. h.apart p q i (old p i x) (old q i y);
  below = λ p i x. h.below p i (old p i x);
  ordered = tt;
}

-- one binding more: its target's turn and that of what follows from it is to come
pub ranked-later : (F G : Place → Option Binding) (t : Place) (later : List Place) (N : Place → Option ℕ) (n : ℕ) → IsLater F G t later → AreRanked F [] N n → AreRanked G later N n
ranked-later F G t later N n l h = record {
  covers = λ p b g. elim (decide_in p later) [
    | inl i ↦ inl i
    | inr out ↦ inr (numbered-at F N n h p b (l.others p b g out).0)
  ];
  rises = λ q m b i j g out r x y. h.rises q m b i j (l.others q b g out).0 (λ k. k) r x y;
  free = λ q m b g out r i. (l.others q b g out).1 m i r;
  apart = h.apart;
  below = h.below;
  ordered = l.ordered;
}

-- the first of them takes the next number
pub ranked-next : (F : Place → Option Binding) (p : Place) (rest : List Place) (N M : Place → Option ℕ) (n : ℕ) → AreRanked F (p ∷ rest) N n → M p ≡ Some n → ((q : Place) → same_place p q ≡ false → M q ≡ N q) → AreRanked F rest M (n + 1)
ranked-next F p rest N M n h here others = record {
  covers = λ q b f. elim (decide_place p q) [
    | inl e ↦ inr (n, ap M (sym e) ∙ here)
    | inr apart ↦ elim (h.covers q b f) [
      | inl i ↦ elim i [ inl e ↦ inr (n, ap M (sym e) ∙ here) | inr j ↦ inl j ]
      | inr found ↦ inr (found.0, others q apart ∙ found.1)
    ]
  ];
  rises = λ q m b i j f out r x y. elim (decide_place p q) [
    | inl e ↦
        let of-p : F p ≡ Some b = ap F e ∙ f in
        let last : n ≡ j = same_Some n j (sym here ∙ ap M e ∙ y) in
        let less : i < n = h.below m i (kept m i (λ d. h.ordered.0 b of-p m (inl d) r) x) in
        omega (arith, last, less)
    | inr apart ↦
        let away : In q (p ∷ rest) → ⊥ = λ k. elim k [ inl d ↦ differ q apart d | inr k2 ↦ out k2 ] in
        h.rises q m b i j f away r (kept m i (λ d. h.free q m b f away r (inl d)) x) (kept q j (differ q apart) y)
  ];
  free = λ q m b f out r i. elim (decide_place p q) [
    | inl e ↦ h.ordered.0 b (ap F e ∙ f) m (inr i) r
    | inr apart ↦ h.free q m b f (λ k. elim k [ inl d ↦ differ q apart d | inr k2 ↦ out k2 ]) r (inr i)
  ];
  apart = λ q m i x y. elim (decide_place p q) [
    | inl e ↦ elim (decide_place p m) [
      | inl d ↦ sym e ∙ d
      | inr f ↦ absurd (above m i (same_Some n i (sym here ∙ ap M e ∙ x)) (kept m i (differ m f) y))
    ]
    | inr g ↦ elim (decide_place p m) [
      | inl d ↦ absurd (above q i (same_Some n i (sym here ∙ ap M d ∙ y)) (kept q i (differ q g) x))
      | inr f ↦ h.apart q m i (kept q i (differ q g) x) (kept m i (differ m f) y)
    ]
  ];
  below = λ q i x. elim (decide_place p q) [
    | inl e ↦ let last : n ≡ i = same_Some n i (sym here ∙ ap M e ∙ x) in omega (arith, last)
    | inr f ↦ let less : i < n = h.below q i (kept q i (differ q f) x) in omega (arith, less)
  ];
  ordered = h.ordered.1;
}
  where
    differ : (q : Place) → same_place p q ≡ false → p ≡ q → ⊥
    differ q f e = false≢true (sym f ∙ ap (same_place p) (sym e) ∙ same_place-refl p)

    kept : (q : Place) (i : ℕ) → (p ≡ q → ⊥) → M q ≡ Some i → N q ≡ Some i
    kept q i apart x = elim (decide_place p q) [ inl e ↦ absurd (apart e) | inr f ↦ sym (others q f) ∙ x ]

    above : (q : Place) (i : ℕ) → n ≡ i → N q ≡ Some i → ⊥
    above q i is x = let less : i < n = h.below q i x in absurd (omega (arith, is, less))

-- ---- no chain leads back to its beginning
chain-rises : (F : Place → Option Binding) (N : Place → Option ℕ) (n : ℕ) → AreRanked F [] N n → {p q : Place} → Chain F p q → (i j : ℕ) → N p ≡ Some i → N q ≡ Some j → i < j
chain-rises F N n h (direct {p = p} {q = q} b f r) i j x y = h.rises q p b i j f (λ k. k) r x y
chain-rises F N n h (further {m = m} {q = q} b chain f r) i j x y =
    let e = chain-ends F chain in
    let mid = numbered-at F N n h m e.0 e.1 in
    let less : i < mid.0 = chain-rises F N n h chain i mid.0 x mid.1 in
    let more : mid.0 < j = h.rises q m b mid.0 j f (λ k. k) r mid.1 y in
    omega (arith, less, more)

pub ranked-acyclic : (F : Place → Option Binding) (N : Place → Option ℕ) (n : ℕ) → AreRanked F [] N n → Loop F → ⊥
ranked-acyclic F N n h loop =
    let e = chain-ends F loop.1 in
    let found = numbered-at F N n h loop.0 e.0 e.1 in
    let less : found.0 < found.0 = chain-rises F N n h loop.1 found.0 found.0 found.1 found.1 in
    absurd (omega (arith, less))
