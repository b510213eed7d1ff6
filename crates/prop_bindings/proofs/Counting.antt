-- Which evaluations are counted: those of what chains lead to.
use Rattle.std.proofs.Common.{◌≡◌, ℕ, suc, ◌⊎◌, List, [], ◌∷◌, length, inl, inr, Option, refl, sym, subst}
use Rattle.object_tree.specs.declared.object.Object.{Object}
use Rattle.binding_graph.specs.declared.place.Place.{Place}
use Rattle.binding_graph.specs.declared.binding.Binding.{Binding}
use Rattle.binding_graph.specs.Places.{In}
use Rattle.binding_graph.specs.Bindings.{Chain, direct, further, Loop}
use Rattle.prop_bindings.specs.Changes.{ReadsAlike, AreChanged, none_changed, one_changed, one_stayed}
use Rattle.prop_bindings.specs.Counts.{CountsReached, CountsFrom}
use Rattle.binding_graph.specs.code.Orders.{IsAffected, IsLater}
use Rattle.binding_graph.proofs.Loops.{chain-of-one}
use Rattle.binding_graph.proofs.Places.{decide_in}

-- what changed doesn't read as it did
pub changed-apart : (old new : List Object) (ps cs : List Place) (q : Place) → AreChanged old new ps cs → In q cs → ReadsAlike old new q → ⊥
changed-apart old new ps cs q none_changed i alike = i
changed-apart old new ps cs q (one_changed {changed = ds} apart h) i alike = elim i [
  | inl e ↦ apart (subst (λ (r : Place). ReadsAlike old new r) (sym e) alike)
  | inr j ↦ changed-apart old new _ ds q h j alike
]
changed-apart old new ps cs q (one_stayed same h) i alike = changed-apart old new _ cs q h i alike

pub changed-among : (old new : List Object) (ps cs from reached : List Place) → AreChanged old new ps cs → ((q : Place) → (In q from → ⊥) → (In q reached → ⊥) → ReadsAlike old new q) → (q : Place) → In q cs → In q from ⊎ In q reached
changed-among old new ps cs from reached h alike q i = elim (decide_in q from) [
  | inl j ↦ inl j
  | inr away ↦ elim (decide_in q reached) [
    | inl j ↦ inr j
    | inr out ↦ absurd (changed-apart old new ps cs q h i (alike q away out))
  ]
]

-- ---- a write
affected-all : (F : Place → Option Binding) (from reached : List Place) → IsAffected F from reached → {p q : Place} → Chain F p q → In p from → In q reached
affected-all F from reached a (direct {p = p} {q = q} b f r) i = a.closed q p b f r (inl i)
affected-all F from reached a (further {m = m} {q = q} b chain f r) i = a.closed q m b f r (inr (affected-all F from reached a chain i))

pub counts-affected : (F : Place → Option Binding) (from reached changed : List Place) (n : ℕ) → IsAffected F from reached → ((q : Place) → In q changed → In q from ⊎ In q reached) → n ≡ length reached → CountsReached F from changed n
counts-affected F from reached changed n a among count = record {
  reached = reached;
  distinct = a.distinct;
  sound = a.reached;
  complete = λ q some. affected-all F from reached a some.2 some.1;
  changes = among;
  count = sym count;
}

-- .. by other lists with the same members
pub counts-same : (F : Place → Option Binding) (from others changed : List Place) (n : ℕ) → ((q : Place) → In q from → In q others) → ((q : Place) → In q others → In q from) → CountsReached F from changed n → CountsReached F others changed n
counts-same F from others changed n to back h = record {
  reached = h.reached;
  distinct = h.distinct;
  sound = λ q i. let some = h.sound q i in (some.0, to some.0 some.1, some.2);
  complete = λ q some. h.complete q (some.0, back some.0 some.1, some.2);
  changes = λ q i. elim (h.changes q i) [ inl j ↦ inl (to q j) | inr j ↦ inr j ];
  count = h.count;
}

-- ---- a bind
later-all : (F G : Place → Option Binding) (t : Place) (reached : List Place) → IsLater F G t (t ∷ reached) → (Loop G → ⊥) → {q : Place} → Chain G t q → In q reached
later-all F G t reached l acyclic (direct {q = q} b f r) = elim (decide_in q (t ∷ reached)) [
  | inl i ↦ elim i [ inl e ↦ absurd (acyclic (t, subst (λ (x : Place). Chain G t x) (sym e) (direct b f r))) | inr j ↦ j ]
  | inr out ↦ absurd ((l.others q b f out).1 t (inl refl) r)
]
later-all F G t reached l acyclic (further {m = m} {q = q} b chain f r) = elim (decide_in q (t ∷ reached)) [
  | inl i ↦ elim i [ inl e ↦ absurd (acyclic (t, subst (λ (x : Place). Chain G t x) (sym e) (further b chain f r))) | inr j ↦ j ]
  | inr out ↦ absurd ((l.others q b f out).1 m (inr (later-all F G t reached l acyclic chain)) r)
]

pub counts-later : (F G : Place → Option Binding) (t : Place) (reached changed : List Place) (n : ℕ) → IsLater F G t (t ∷ reached) → (Loop G → ⊥) → ((q : Place) → In q changed → In q (t ∷ []) ⊎ In q reached) → n ≡ suc (length reached) → CountsFrom G t changed n
counts-later F G t reached changed n l acyclic among count = record {
  others = length reached;
  one_more = count;
  counts = record {
    reached = reached;
    distinct = l.distinct.1;
    sound = λ q i. elim (l.reached q (inr i)) [
      | inl e ↦ absurd (l.distinct.0 (subst (λ (x : Place). In x reached) (sym e) i))
      | inr chain ↦ (t, inl refl, chain)
    ];
    complete = λ q some. later-all F G t reached l acyclic (chain-of-one G t q some);
    changes = among;
    count = refl;
  };
}
