-- What is evaluated in an order is settled, and there is one list of settled values.
use Rattle.std.proofs.Common.{◌≡◌, true, List, [], ◌∷◌, ◌⊎◌, inl, inr, Option, Some, None, refl, ap, sym, ◌∙◌, subst}
use Rattle.std.proofs.lemmas.Bool.{false≢true}
use Rattle.std.proofs.Math.Path.{fun_ext}
use Rattle.basic_types.specs.declared.value.Value.{Value}
use Rattle.binding_graph.specs.declared.place.Place.{Place}
use Rattle.binding_graph.specs.declared.binding.Binding.{Binding}
use Rattle.binding_graph.specs.Places.{same_place, In}
use Rattle.binding_graph.specs.Bindings.{value_of, Settled}
use Rattle.binding_graph.specs.Laws.{Determines}
use Rattle.binding_graph.specs.code.Orders.{Free, Ordered, ListsBound, IsOrder, given, evaluated, pass, IsAffected, IsLater}
use Rattle.binding_graph.proofs.Naming.{value-agree}
use Rattle.binding_graph.proofs.Places.{decide_place, decide_in, same_place-refl, update-same, update-other}

given-other : (o : Option Binding) (x : Place) (e : Place → Option Value) (q : Place) → (x ≡ q → ⊥) → given o x e q ≡ e q
given-other None x e q apart = refl
given-other (Some b) x e q apart = update-other e x (value_of b e) q apart

pub evaluated-other : (F : Place → Option Binding) (x : Place) (e : Place → Option Value) (q : Place) → (x ≡ q → ⊥) → evaluated F x e q ≡ e q
evaluated-other F x e q apart = given-other (F x) x e q apart

pub evaluated-same : (F : Place → Option Binding) (x : Place) (e : Place → Option Value) (b : Binding) → F x ≡ Some b → evaluated F x e x ≡ value_of b e
evaluated-same F x e b f = ap (λ (o : Option Binding). given o x e x) f ∙ update-same e x (value_of b e)

pub evaluated-none : (F : Place → Option Binding) (x : Place) (e : Place → Option Value) → F x ≡ None → evaluated F x e ≡ e
evaluated-none F x e f = ap (λ (o : Option Binding). given o x e) f

pub pass-other : (F : Place → Option Binding) (xs : List Place) (e : Place → Option Value) (q : Place) → (In q xs → ⊥) → pass F xs e q ≡ e q
pass-other F [] e q out = refl
pass-other F (x ∷ xs) e q out = pass-other F xs (evaluated F x e) q (λ i. out (inr i)) ∙ evaluated-other F x e q (λ h. out (inl h))

-- what is unbound stays
pub pass-unbound : (F : Place → Option Binding) (xs : List Place) (e : Place → Option Value) (q : Place) → F q ≡ None → pass F xs e q ≡ e q
pass-unbound F [] e q f = refl
pass-unbound F (x ∷ xs) e q f =
    pass-unbound F xs (evaluated F x e) q f ∙ elim (decide_place x q) [
      | inl h ↦ subst (λ (y : Place). F y ≡ None → evaluated F y e q ≡ e q) (sym h) (λ g. ap (λ (d : Place → Option Value). d q) (evaluated-none F q e g)) (subst (λ (y : Place). F y ≡ None) (sym h) f)
      | inr g ↦ evaluated-other F x e q (λ h. false≢true (sym g ∙ subst (λ (y : Place). same_place x y ≡ true) h (same_place-refl x)))
    ]

pass-head : (F : Place → Option Binding) (x : Place) (xs : List Place) (e : Place → Option Value) → Free F x (x ∷ xs) → (b : Binding) → F x ≡ Some b → (In x xs → ⊥) → pass F (x ∷ xs) e x ≡ value_of b (pass F (x ∷ xs) e)
pass-head F x xs e free b f out =
    pass-other F xs (evaluated F x e) x out ∙ evaluated-same F x e b f
    ∙ value-agree b e (pass F (x ∷ xs) e) (λ q r. sym (pass-other F (x ∷ xs) e q (λ i. free b f q i r)))

pub pass-settles : (F : Place → Option Binding) (xs : List Place) (e : Place → Option Value) → Ordered F xs → (p : Place) (b : Binding) → F p ≡ Some b → In p xs → pass F xs e p ≡ value_of b (pass F xs e)
pass-settles F [] e o p b f i = absurd i
pass-settles F (x ∷ xs) e o p b f i = elim (decide_in p xs) [
  | inl j ↦ pass-settles F xs (evaluated F x e) o.1 p b f j
  | inr out ↦ elim i [
    | inl h ↦ subst (λ (y : Place). F y ≡ Some b → (In y xs → ⊥) → pass F (x ∷ xs) e y ≡ value_of b (pass F (x ∷ xs) e)) h (pass-head F x xs e o.0 b) f out
    | inr j ↦ absurd (out j)
  ]
]

-- in an order that covers all bindings, what a pass leaves is settled
pub settled_by_pass : (F : Place → Option Binding) (xs : List Place) (e : Place → Option Value) → Ordered F xs → ListsBound F xs → Settled F (pass F xs e)
settled_by_pass F xs e o c p b f = pass-settles F xs e o p b f (c p b f)

head-agrees : (F : Place → Option Binding) (x : Place) (xs : List Place) (e f : Place → Option Value) → Free F x (x ∷ xs) → Settled F e → Settled F f → (F x ≡ None → e x ≡ f x) → ((p : Place) → (In p (x ∷ xs) → ⊥) → e p ≡ f p) → (o : Option Binding) → F x ≡ o → e x ≡ f x
head-agrees F x xs e f free se sf unbound h None g = unbound g
head-agrees F x xs e f free se sf unbound h (Some b) g = se x b g ∙ value-agree b e f (λ q r. h q (λ i. free b g q i r)) ∙ sym (sf x b g)

pub agree_along : (F : Place → Option Binding) (xs : List Place) (e f : Place → Option Value) → Ordered F xs → Settled F e → Settled F f → ((p : Place) → F p ≡ None → e p ≡ f p) → ((p : Place) → (In p xs → ⊥) → e p ≡ f p) → (p : Place) → e p ≡ f p
agree_along F [] e f o se sf unbound h p = h p (λ i. i)
agree_along F (x ∷ xs) e f o se sf unbound h p =
    agree_along F xs e f o.1 se sf unbound (λ q out. elim (decide_in q (x ∷ xs)) [
      | inl i ↦ elim i [
        | inl same ↦ subst (λ (y : Place). e y ≡ f y) same (head-agrees F x xs e f o.0 se sf (unbound x) h (F x) refl)
        | inr j ↦ absurd (out j)
      ]
      | inr away ↦ h q away
    ]) p

pub none_or_some : (o : Option Binding) → (o ≡ None) ⊎ ((b : Binding) × (o ≡ Some b))
none_or_some None = inl refl
none_or_some (Some b) = inr (b, refl)

pub settled_once : (F : Place → Option Binding) (xs : List Place) (e f : Place → Option Value) → Ordered F xs → ListsBound F xs → Settled F e → Settled F f → ((p : Place) → F p ≡ None → e p ≡ f p) → (p : Place) → e p ≡ f p
settled_once F xs e f o c se sf unbound = agree_along F xs e f o se sf unbound (λ p out. elim (none_or_some (F p)) [ inl g ↦ unbound p g | inr s ↦ absurd (out (c p s.0 s.1)) ])

-- what reads neither a written place nor an affected one keeps its value
pub settled_by_affected : (F : Place → Option Binding) (ps xs : List Place) (e d : Place → Option Value) → IsAffected F ps xs → Settled F e → ((q : Place) → In q ps → F q ≡ None) → ((q : Place) → (In q ps → ⊥) → d q ≡ e q) → Settled F (pass F xs d)
settled_by_affected F ps xs e d a s none same q b f = elim (decide_in q xs) [
  | inl i ↦ pass-settles F xs d a.ordered q b f i
  | inr out ↦
      let apart : In q ps → ⊥ = λ j. let gone : F q ≡ None = none q j in cc in
      pass-other F xs d q out ∙ same q apart ∙ s q b f
      ∙ value-agree b e (pass F xs d) (λ m r. sym (pass-other F xs d m (λ i. out (a.closed q m b f r (inr i))) ∙ same m (λ j. out (a.closed q m b f r (inl j)))))
]

pub settled_by_later : (F G : Place → Option Binding) (t : Place) (later : List Place) (e : Place → Option Value) → IsLater F G t later → Settled F e → Settled G (pass G later e)
settled_by_later F G t later e h s q b g = elim (decide_in q later) [
  | inl i ↦ pass-settles G later e h.ordered q b g i
  | inr out ↦
      let o = h.others q b g out in
      pass-other G later e q out ∙ s q b o.0 ∙ value-agree b e (pass G later e) (λ m r. sym (pass-other G later e m (λ i. o.1 m i r)))
]

pub pass-step : (F : Place → Option Binding) (p : Place) (rest whole : List Place) (e d : Place → Option Value) → whole ≡ p ∷ rest → ((q : Place) → d q ≡ evaluated F p e q) → (q : Place) → pass F rest d q ≡ pass F whole e q
pass-step F p rest whole e d cut same q = ap (λ (g : Place → Option Value). pass F rest g q) (fun_ext same) ∙ sym (ap (λ (xs : List Place). pass F xs e q) cut)

-- bindings with an order of evaluation have exactly one list of settled values over given other values
pub determines : (F : Place → Option Binding) (order : List Place) → IsOrder F order → Determines F
determines F order o = record {
  some = λ e. (pass F order e, settled_by_pass F order e o.ordered o.covers, pass-unbound F order e);
  once = λ e f se sf same. settled_once F order f e o.ordered o.covers sf se same;
}
