-- Bindings of which no chain leads back to its beginning have an order of evaluation.
use Rattle.std.proofs.Common.{◌≡◌, List, [], ◌∷◌, ◌++◌, inl, inr, Option, Some, None, ◌∙◌, subst}
use Rattle.std.proofs.lemmas.Bool.{cases_Bool}
use Rattle.binding_graph.specs.declared.place.Place.{Place}
use Rattle.binding_graph.specs.declared.binding.Binding.{Binding}
use Rattle.binding_graph.specs.Bindings.{binding_at, AreApart, reads_any, Chain, direct, further, Loop}
use Rattle.binding_graph.specs.Laws.{AcyclicDetermine}
use Rattle.binding_graph.specs.code.Orders.{IsOrder, bound}
use Rattle.binding_graph.proofs.Places.{decide_place}
use Rattle.binding_graph.proofs.Passes.{determines}
use Rattle.binding_graph.proofs.Walks.{Halved, reached_by, halved-none, halved-skip, halved-reached, halved-sooner, halved-loop, halved-ordered, halved-covers, bound-same, bound-other}

-- a whole walk
record Halves (F : Place → Option Binding) (t : Place) (b : Binding) (order : List Place) : Type 0 where
  reached : List Place
  sooner : List Place
  halved : Halved F (bound F t b) t order reached sooner []

halve : (F : Place → Option Binding) (t : Place) (b : Binding) (order reached sooner rest : List Place) → Halved F (bound F t b) t order reached sooner rest → Halves F t b order
halve F t b order reached sooner [] h = record { reached = reached; sooner = sooner; halved = h }
halve F t b order reached sooner (q ∷ rest) h = elim (decide_place t q) [
  | inl e ↦ halve F t b order reached sooner rest (halved-skip F (bound F t b) t order reached sooner q rest h e)
  | inr f ↦ elim (cases_Bool (reached_by (F q) (t ∷ reached))) [
    | inl found ↦ halve F t b order (reached ++ q ∷ []) sooner rest (halved-reached F (bound F t b) t order reached sooner q rest h (bound-other F t b q f) found)
    | inr not ↦ halve F t b order reached (sooner ++ q ∷ []) rest (halved-sooner F (bound F t b) t order reached sooner q rest h (bound-other F t b q f) not)
  ]
]

-- one more binding, which closes no chain, has its place in an order
order-more : (F : Place → Option Binding) (t : Place) (b : Binding) (order : List Place) → IsOrder F order → (Loop (bound F t b) → ⊥) → (all : List Place) × IsOrder (bound F t b) all
order-more F t b order o apart =
    let w = halve F t b order [] [] order (halved-none F (bound F t b) t order o.ordered) in
    elim (cases_Bool (reads_any b (t ∷ w.reached))) [
      | inl closes ↦ absurd (apart (halved-loop F (bound F t b) t order w.reached w.sooner [] b w.halved (bound-same F t b) closes))
      | inr free ↦ (
        w.sooner ++ t ∷ w.reached,
        record {
          ordered = halved-ordered F (bound F t b) t order w.reached w.sooner [] b w.halved (bound-same F t b) free;
          covers = halved-covers F t b order w.reached w.sooner w.halved o.covers;
        },
      )
    ]

-- fewer bindings have fewer chains
pub chain-more : (F G : Place → Option Binding) → ((q : Place) (b : Binding) → F q ≡ Some b → G q ≡ Some b) → {p q : Place} → Chain F p q → Chain G p q
chain-more F G more (direct {p = p} {q = q} b f r) = direct b (more q b f) r
chain-more F G more (further {m = m} {q = q} b chain f r) = further b (chain-more F G more chain) (more q b f) r

more-bound : (F : Place → Option Binding) (t : Place) (b : Binding) → F t ≡ None → (q : Place) (z : Binding) → F q ≡ Some z → bound F t b q ≡ Some z
more-bound F t b none q z is = elim (decide_place t q) [
  | inl e ↦ let gone : F q ≡ None = subst (λ (y : Place). F y ≡ None) e none in absurd (cc)
  | inr f ↦ bound-other F t b q f ∙ is
]

pub order-of : (bs : List Binding) → AreApart bs → (Loop (binding_at bs) → ⊥) → (order : List Place) × IsOrder (binding_at bs) order
order-of [] apart acyclic = ([], record { ordered = tt; covers = λ p b f. absurd (cc) })
order-of (b ∷ bs) apart acyclic =
    let F = binding_at bs in
    let rest = order-of bs apart.1 (λ l. acyclic (l.0, chain-more F (binding_at (b ∷ bs)) (more-bound F b.target b apart.0) l.1)) in
    order-more F b.target b rest.0 rest.1 acyclic

pub acyclic_determine : AcyclicDetermine
acyclic_determine bs apart acyclic = let o = order-of bs apart acyclic in determines (binding_at bs) o.0 o.1
