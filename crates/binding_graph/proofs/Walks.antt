-- An order of evaluation, from which what chains lead to from a property is sorted out: one more binding goes between it
-- and the rest.
use Rattle.std.proofs.Common.{◌≡◌, ◌⊎◌, Bool, true, false, cond, List, [], ◌∷◌, ◌++◌, inl, inr, Option, Some, None, refl, ap, sym, ◌∙◌, subst}
use Rattle.std.proofs.lemmas.Bool.{false≢true}
use Rattle.binding_graph.specs.declared.place.Place.{Place}
use Rattle.binding_graph.specs.declared.binding.Binding.{Binding}
use Rattle.binding_graph.specs.Places.{same_place, In}
use Rattle.binding_graph.specs.Bindings.{Reads, reads_any, Chain, direct, further, Loop}
use Rattle.binding_graph.specs.code.Orders.{Free, Ordered, ListsBound, bound}
use Rattle.binding_graph.proofs.Naming.{reads_any-true, reads_any-false}
use Rattle.binding_graph.proofs.Places.{decide_place, same_place-refl, In-left, In-right, In-cases}

-- one of these is read
abbrev pub reached_by : Option Binding → List Place → Bool
reached_by None ps = false
reached_by (Some b) ps = reads_any b ps

-- of what came before the rest, what chains lead to from t is in `reached`, and the others that are bound in `sooner`
pub record Halved (F G : Place → Option Binding) (t : Place) (order reached sooner rest : List Place) : Type 0 where
  pub rest_ordered : Ordered F rest
  pub reached_ordered : Ordered G reached
  pub sooner_ordered : Ordered G sooner
  pub reached_rest : (p : Place) → In p reached → Free G p rest
  pub sooner_rest : (p : Place) → In p sooner → Free G p rest
  pub sooner_later : (p : Place) → In p sooner → Free G p (t ∷ reached)
  pub chains : (p : Place) → In p reached → Chain G t p
  pub total : (p : Place) (b : Binding) → F p ≡ Some b → In p order → (t ≡ p) ⊎ (In p reached ⊎ (In p sooner ⊎ In p rest))

pub ordered-fewer : (F G : Place → Option Binding) → ((p : Place) (b : Binding) → G p ≡ Some b → F p ≡ Some b) → (xs : List Place) → Ordered F xs → Ordered G xs
ordered-fewer F G h [] o = tt
ordered-fewer F G h (x ∷ xs) o = ((λ b g. o.0 b (h x b g)), ordered-fewer F G h xs o.1)

free-append : (F : Place → Option Binding) (p : Place) (xs ys : List Place) → Free F p xs → Free F p ys → Free F p (xs ++ ys)
free-append F p xs ys a b z f q i r = elim (In-cases q xs ys i) [ inl j ↦ a z f q j r | inr j ↦ b z f q j r ]

pub ordered-append : (F : Place → Option Binding) (xs ys : List Place) → Ordered F xs → Ordered F ys → ((p : Place) → In p xs → Free F p ys) → Ordered F (xs ++ ys)
ordered-append F [] ys a b h = b
ordered-append F (x ∷ xs) ys a b h = (free-append F x (x ∷ xs) ys a.0 (h x (inl refl)), ordered-append F xs ys a.1 b (λ p i. h p (inr i)))

pub bound-same : (F : Place → Option Binding) (t : Place) (z : Binding) → bound F t z t ≡ Some z
bound-same F t z = ap (λ (b : Bool). cond b (Some z) (F t)) (same_place-refl t)

pub bound-other : (F : Place → Option Binding) (t : Place) (z : Binding) (p : Place) → same_place t p ≡ false → bound F t z p ≡ F p
bound-other F t z p h = ap (λ (b : Bool). cond b (Some z) (F p)) h

free-same : (F G : Place → Option Binding) (p : Place) (qs : List Place) → G p ≡ F p → Free F p qs → Free G p qs
free-same F G p qs e free b g = free b (sym e ∙ g)

free-one : (F : Place → Option Binding) (p q : Place) (qs : List Place) → Free F p (q ∷ qs) → Free F p (q ∷ [])
free-one F p q qs free b f r (inl e) = free b f r (inl e)
free-one F p q qs free b f r (inr i) = absurd i

free-rest : (F : Place → Option Binding) (p q : Place) (qs : List Place) → Free F p (q ∷ qs) → Free F p qs
free-rest F p q qs free b f r i = free b f r (inr i)

ordered-push : (F : Place → Option Binding) (xs : List Place) (q : Place) → Ordered F xs → ((p : Place) → In p xs → Free F p (q ∷ [])) → Free F q (q ∷ []) → Ordered F (xs ++ q ∷ [])
ordered-push F xs q o h free = ordered-append F xs (q ∷ []) o (free, tt) h

-- what holds of members and of one more
pushed : (P : Place → Type 0) (xs : List Place) (q : Place) → ((p : Place) → In p xs → P p) → P q → (p : Place) → In p (xs ++ q ∷ []) → P p
pushed P xs q h here p i = elim (In-cases p xs (q ∷ []) i) [
  | inl j ↦ h p j
  | inr j ↦ elim j [ inl e ↦ subst P e here | inr k ↦ absurd k ]
]

pub halved-none : (F G : Place → Option Binding) (t : Place) (order : List Place) → Ordered F order → Halved F G t order [] [] order
halved-none F G t order o = record {
  rest_ordered = o;
  reached_ordered = tt;
  sooner_ordered = tt;
  reached_rest = λ p i. absurd i;
  sooner_rest = λ p i. absurd i;
  sooner_later = λ p i. absurd i;
  chains = λ p i. absurd i;
  total = λ p z f i. inr (inr (inr i));
}

pub halved-skip : (F G : Place → Option Binding) (t : Place) (order reached sooner : List Place) (q : Place) (rest : List Place) → Halved F G t order reached sooner (q ∷ rest) → t ≡ q → Halved F G t order reached sooner rest
halved-skip F G t order reached sooner q rest h e = record {
  rest_ordered = h.rest_ordered.1;
  reached_ordered = h.reached_ordered;
  sooner_ordered = h.sooner_ordered;
  reached_rest = λ p i. free-rest G p q rest (h.reached_rest p i);
  sooner_rest = λ p i. free-rest G p q rest (h.sooner_rest p i);
  sooner_later = h.sooner_later;
  chains = h.chains;
  total = λ p z f i. elim (h.total p z f i) [
    | inl a ↦ inl a
    | inr b ↦ elim b [
      | inl a ↦ inr (inl a)
      | inr b2 ↦ elim b2 [
        | inl a ↦ inr (inr (inl a))
        | inr b3 ↦ elim b3 [ inl a ↦ inl (e ∙ a) | inr a ↦ inr (inr (inr a)) ]
      ]
    ]
  ];
}

pub chain-on : (G : Place → Option Binding) (t : Place) (reached : List Place) → ((p : Place) → In p reached → Chain G t p) → (m q : Place) (b : Binding) → In m (t ∷ reached) → G q ≡ Some b → Reads b m → Chain G t q
chain-on G t reached chains m q b (inl e) g r = direct b g (subst (λ (y : Place). Reads b y) (sym e) r)
chain-on G t reached chains m q b (inr i) g r = further b (chains m i) g r

pub halved-reached : (F G : Place → Option Binding) (t : Place) (order reached sooner : List Place) (q : Place) (rest : List Place) → Halved F G t order reached sooner (q ∷ rest) → G q ≡ F q → reached_by (F q) (t ∷ reached) ≡ true → Halved F G t order (reached ++ q ∷ []) sooner rest
halved-reached F G t order reached sooner q rest h e found = record {
  rest_ordered = h.rest_ordered.1;
  reached_ordered = ordered-push G reached q h.reached_ordered (λ p i. free-one G p q rest (h.reached_rest p i)) (free-one G q q rest (free-same F G q (q ∷ rest) e h.rest_ordered.0));
  sooner_ordered = h.sooner_ordered;
  reached_rest = pushed (λ (p : Place). Free G p rest) reached q (λ p i. free-rest G p q rest (h.reached_rest p i)) (free-rest G q q rest (free-same F G q (q ∷ rest) e h.rest_ordered.0));
  sooner_rest = λ p i. free-rest G p q rest (h.sooner_rest p i);
  sooner_later = λ p i. free-append G p (t ∷ reached) (q ∷ []) (h.sooner_later p i) (free-one G p q rest (h.sooner_rest p i));
  chains = pushed (λ (p : Place). Chain G t p) reached q h.chains (reaches (F q) refl found);
  total = λ p z f i. elim (h.total p z f i) [
    | inl a ↦ inl a
    | inr b ↦ elim b [
      | inl a ↦ inr (inl (In-left p reached (q ∷ []) a))
      | inr b2 ↦ elim b2 [
        | inl a ↦ inr (inr (inl a))
        | inr b3 ↦ elim b3 [ inl a ↦ inr (inl (In-right p reached (q ∷ []) (inl a))) | inr a ↦ inr (inr (inr a)) ]
      ]
    ]
  ];
}
  where
    reaches : (o : Option Binding) → F q ≡ o → reached_by o (t ∷ reached) ≡ true → Chain G t q
    reaches None f so = absurd (false≢true so)
    reaches (Some z) f so = let r = reads_any-true z (t ∷ reached) so in chain-on G t reached h.chains r.0 q z r.1 (e ∙ f) r.2

pub not-reached : (G : Place → Option Binding) (q : Place) (xs : List Place) (o : Option Binding) → G q ≡ o → reached_by o xs ≡ false → Free G q xs
not-reached G q xs None g so b f r i rd = cc
not-reached G q xs (Some us) g so b f r i rd = let same : us ≡ b = cc in reads_any-false us xs so r i (subst (λ (vs : Binding). Reads vs r) (sym same) rd)

pub halved-sooner : (F G : Place → Option Binding) (t : Place) (order reached sooner : List Place) (q : Place) (rest : List Place) → Halved F G t order reached sooner (q ∷ rest) → G q ≡ F q → reached_by (F q) (t ∷ reached) ≡ false → Halved F G t order reached (sooner ++ q ∷ []) rest
halved-sooner F G t order reached sooner q rest h e found = record {
  rest_ordered = h.rest_ordered.1;
  reached_ordered = h.reached_ordered;
  sooner_ordered = ordered-push G sooner q h.sooner_ordered (λ p i. free-one G p q rest (h.sooner_rest p i)) (free-one G q q rest (free-same F G q (q ∷ rest) e h.rest_ordered.0));
  reached_rest = λ p i. free-rest G p q rest (h.reached_rest p i);
  sooner_rest = pushed (λ (p : Place). Free G p rest) sooner q (λ p i. free-rest G p q rest (h.sooner_rest p i)) (free-rest G q q rest (free-same F G q (q ∷ rest) e h.rest_ordered.0));
  sooner_later = pushed (λ (p : Place). Free G p (t ∷ reached)) sooner q h.sooner_later (not-reached G q (t ∷ reached) (F q) e found);
  chains = h.chains;
  total = λ p z f i. elim (h.total p z f i) [
    | inl a ↦ inl a
    | inr b ↦ elim b [
      | inl a ↦ inr (inl a)
      | inr b2 ↦ elim b2 [
        | inl a ↦ inr (inr (inl (In-left p sooner (q ∷ []) a)))
        | inr b3 ↦ elim b3 [ inl a ↦ inr (inr (inl (In-right p sooner (q ∷ []) (inl a)))) | inr a ↦ inr (inr (inr a)) ]
      ]
    ]
  ];
}

pub halved-loop : (F G : Place → Option Binding) (t : Place) (order reached sooner rest : List Place) (b : Binding) → Halved F G t order reached sooner rest → G t ≡ Some b → reads_any b (t ∷ reached) ≡ true → Loop G
halved-loop F G t order reached sooner rest b h g found = let r = reads_any-true b (t ∷ reached) found in (t, chain-on G t reached h.chains r.0 t b r.1 g r.2)

pub halved-ordered : (F G : Place → Option Binding) (t : Place) (order reached sooner rest : List Place) (b : Binding) → Halved F G t order reached sooner rest → G t ≡ Some b → reads_any b (t ∷ reached) ≡ false → Ordered G (sooner ++ t ∷ reached)
halved-ordered F G t order reached sooner rest b h g found = ordered-append G sooner (t ∷ reached) h.sooner_ordered (not-reached G t (t ∷ reached) (Some b) g found, h.reached_ordered) h.sooner_later

pub halved-covers : (F : Place → Option Binding) (t : Place) (z : Binding) (order reached sooner : List Place) → Halved F (bound F t z) t order reached sooner [] → ListsBound F order → ListsBound (bound F t z) (sooner ++ t ∷ reached)
halved-covers F t z order reached sooner h c p us g = elim (decide_place t p) [
  | inl e ↦ In-right p sooner (t ∷ reached) (inl e)
  | inr f ↦ elim (h.total p us (sym (bound-other F t z p f) ∙ g) (c p us (sym (bound-other F t z p f) ∙ g))) [
    | inl a ↦ In-right p sooner (t ∷ reached) (inl a)
    | inr b ↦ elim b [
      | inl a ↦ In-right p sooner (t ∷ reached) (inr a)
      | inr b2 ↦ elim b2 [ inl a ↦ In-left p sooner (t ∷ reached) a | inr a ↦ absurd a ]
    ]
  ]
]
