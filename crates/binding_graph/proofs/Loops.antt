-- What has an order of evaluation has no loop.
use Rattle.std.proofs.Common.{◌≡◌, List, [], ◌∷◌, inl, inr, Option, Some, refl, ap, sym, ◌∙◌, subst}
use Rattle.binding_graph.specs.declared.place.Place.{Place}
use Rattle.binding_graph.specs.declared.binding.Binding.{Binding}
use Rattle.binding_graph.specs.Places.{In}
use Rattle.binding_graph.specs.Bindings.{Reads, Chain, ChainFrom, direct, further, Loop}
use Rattle.binding_graph.specs.code.Orders.{Free, Ordered, ListsBound, IsLater}
use Rattle.binding_graph.proofs.Places.{decide_in}

-- a reader of a member is a member
abbrev Closed : (Place → Option Binding) → List Place → Type 0
Closed F xs = (q m : Place) (b : Binding) → F q ≡ Some b → Reads b m → In m xs → In q xs

closed-tail : (F : Place → Option Binding) (x : Place) (xs : List Place) → Free F x (x ∷ xs) → Closed F (x ∷ xs) → Closed F xs
closed-tail F x xs free closed q m b f r i = elim (closed q m b f r (inr i)) [
  | inl h ↦ absurd (free b (ap F h ∙ f) m (inr i) r)
  | inr j ↦ j
]

chain-stays : (F : Place → Option Binding) (xs : List Place) → Closed F xs → {p q : Place} → Chain F p q → In p xs → In q xs
chain-stays F xs closed (direct {p = p} {q = q} b f r) i = closed q p b f r i
chain-stays F xs closed (further {m = m} {q = q} b chain f r) i = closed q m b f r (chain-stays F xs closed chain i)

-- no chain from a member leads to a place that is free of all members
no_chain : (F : Place → Option Binding) (xs : List Place) → Closed F xs → {p q : Place} → Chain F p q → In p xs → Free F q xs → ⊥
no_chain F xs closed (direct {p = p} {q = q} b f r) i free = free b f p i r
no_chain F xs closed (further {m = m} {q = q} b chain f r) i free = free b f m (chain-stays F xs closed chain i) r

no_loop_along : (F : Place → Option Binding) (xs : List Place) → Ordered F xs → Closed F xs → (p : Place) → Chain F p p → In p xs → ⊥
no_loop_along F [] o closed p chain i = i
no_loop_along F (x ∷ xs) o closed p chain i = elim i [
  | inl h ↦ subst (λ (y : Place). Chain F y y → ⊥) h (λ c. no_chain F (x ∷ xs) closed c (inl refl) o.0) chain
  | inr j ↦ no_loop_along F xs o.1 (closed-tail F x xs o.0 closed) p chain j
]

pub chain-ends : (F : Place → Option Binding) {p q : Place} → Chain F p q → (b : Binding) × (F q ≡ Some b)
chain-ends F (direct b f r) = (b, f)
chain-ends F (further b chain f r) = (b, f)

-- a chain from the only one
pub chain-of-one : (F : Place → Option Binding) (p q : Place) → ChainFrom F (p ∷ []) q → Chain F p q
chain-of-one F p q some = elim some.1 [
  | inl e ↦ subst (λ (r : Place). Chain F r q) (sym e) some.2
  | inr out ↦ absurd out
]

pub no_loop : (F : Place → Option Binding) (xs : List Place) → Ordered F xs → ListsBound F xs → Loop F → ⊥
no_loop F xs o c loop = no_loop_along F xs o (λ q m b f r i. c q b f) loop.0 loop.1 (let e = chain-ends F loop.1 in c loop.0 e.0 e.1)

-- where what a binding moves has an order, and no other reads of it, no new loop comes
outside : (F G : Place → Option Binding) (t : Place) (later : List Place) → IsLater F G t later → {p q : Place} → Chain G p q → (In q later → ⊥) → Chain F p q
outside F G t later l (direct {p = p} {q = q} b g r) out = direct b (l.others q b g out).0 r
outside F G t later l (further {m = m} {q = q} b chain g r) out =
    let o = l.others q b g out in
    further b (outside F G t later l chain (λ i. o.1 m i r)) o.0 r

pub later-acyclic : (F G : Place → Option Binding) (t : Place) (later : List Place) → IsLater F G t later → (Loop F → ⊥) → Loop G → ⊥
later-acyclic F G t later l acyclic loop = elim (decide_in loop.0 later) [
  | inl i ↦ no_loop_along G later l.ordered closed loop.0 loop.1 i
  | inr out ↦ acyclic (loop.0, outside F G t later l loop.1 out)
]
  where
    closed : Closed G later
    closed q m b g r i = elim (decide_in q later) [ inl j ↦ j | inr out ↦ absurd ((l.others q b g out).1 m i r) ]
