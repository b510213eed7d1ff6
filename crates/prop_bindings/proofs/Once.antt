-- A write and a bind have one outcome.
use Rattle.std.proofs.Common.{◌≡◌, Bool, cond, List, [], ◌∷◌, inl, inr, None, Some, ap, sym, ◌∙◌, subst}
use Rattle.std.specs.List.{AllByRecursion}
use Rattle.std.proofs.lemmas.Bool.{cases_Bool}
use Rattle.object_tree.specs.declared.object.Object.{Object}
use Rattle.binding_graph.specs.declared.place.Place.{Place}
use Rattle.prop_bindings.specs.declared.plans.assignment.Assignment.{Assignment}
use Rattle.binding_graph.specs.declared.binding.Binding.{Binding}
use Rattle.prop_bindings.specs.Values.{Env, values_in}
use Rattle.binding_graph.specs.Places.{In, is_in}
use Rattle.binding_graph.specs.Bindings.{binding_at, AreApart, without_all, replaced, Settled, Loop}
use Rattle.prop_bindings.specs.Changes.{DifferInValues, AreChanged, in_order, lasting, places_in}
use Rattle.prop_bindings.specs.Laws.{WrittenOnce, InstalledOnce}
use Rattle.binding_graph.proofs.Places.{decide_in, is_in-true}
use Rattle.binding_graph.proofs.Acyclic.{acyclic_determine}
use Rattle.binding_graph.proofs.Apart.{apart-all, apart-replaced, acyclic-all}
use Rattle.prop_bindings.proofs.Values.{same-objects}
use Rattle.prop_bindings.proofs.Changed.{changed-once}

-- objects that were the same but for values, and whose values are settled and agree on what isn't bound, are the same
pub objects-once : (bs : List Binding) (old new other : List Object) → AreApart bs → (¬ Loop (binding_at bs)) → DifferInValues old new → DifferInValues old other → Settled (binding_at bs) (values_in new) → Settled (binding_at bs) (values_in other) → ((q : Place) → binding_at bs q ≡ None → values_in other q ≡ values_in new q) → new ≡ other
objects-once bs old new other apart acyclic d e s t same =
    same-objects new other (e ∙ sym d) (λ q. sym ((acyclic_determine bs apart acyclic).once (values_in new) (values_in other) s t same q))

-- ---- after several writes
abbrev pub Have : Env → List Assignment → Type 0
Have e writes = AllByRecursion (λ (a : Assignment). e a.place ≡ Some a.value) (lasting writes)

pub given-once : (e f : Env) (writes : List Assignment) → Have e writes → Have f writes → (q : Place) → In q (places_in writes) → f q ≡ e q
given-once e f [] he hf q i = absurd i
given-once e f (a ∷ rest) he hf q i = elim (cases_Bool (is_in (places_in rest) a.place)) [
  | inl t ↦
      let he2 : Have e rest = subst (λ (b : Bool). AllByRecursion (λ (z : Assignment). e z.place ≡ Some z.value) (cond b (lasting rest) (a ∷ lasting rest))) t he in
      let hf2 : Have f rest = subst (λ (b : Bool). AllByRecursion (λ (z : Assignment). f z.place ≡ Some z.value) (cond b (lasting rest) (a ∷ lasting rest))) t hf in
      given-once e f rest he2 hf2 q (elim i [ inl same ↦ subst (λ (r : Place). In r (places_in rest)) same (is_in-true (places_in rest) a.place t) | inr j ↦ j ])
  | inr n ↦
      let he2 = subst (λ (b : Bool). AllByRecursion (λ (z : Assignment). e z.place ≡ Some z.value) (cond b (lasting rest) (a ∷ lasting rest))) n he in
      let hf2 = subst (λ (b : Bool). AllByRecursion (λ (z : Assignment). f z.place ≡ Some z.value) (cond b (lasting rest) (a ∷ lasting rest))) n hf in
      elim i [
        | inl same ↦ subst (λ (r : Place). f r ≡ e r) same (hf2.0 ∙ sym he2.0)
        | inr j ↦ given-once e f rest he2.1 hf2.1 q j
      ]
]

pub written_once : WrittenOnce
written_once p bs old writes a cs ds new other changed others w u =
    let ps : List Place = places_in writes in
    let now = subst (λ (xs : List Binding). Settled (binding_at xs) (values_in new)) w.bindings w.settled in
    let then = subst (λ (xs : List Binding). Settled (binding_at xs) (values_in other)) u.bindings u.settled in
    let one : new ≡ other = objects-once (without_all ps bs) old new other (apart-all ps bs a.apart) (acyclic-all ps bs a.apart a.acyclic) w.objects u.objects now then (λ q none. elim (decide_in q ps) [
      | inl i ↦ given-once (values_in new) (values_in other) writes w.written u.written q i
      | inr out ↦
          u.kept q (ap (λ (xs : List Binding). binding_at xs q) u.bindings ∙ none) out
          ∙ sym (w.kept q (ap (λ (xs : List Binding). binding_at xs q) w.bindings ∙ none) out)
    ]) in
    (w.bindings ∙ sym u.bindings, one, changed-once old new (in_order ps bs) changed others w.changes (subst (λ (xs : List Object). AreChanged old xs (in_order ps bs) others) (sym one) u.changes))

pub installed_once : InstalledOnce
installed_once p bs old b a acyclic cs ds new other changed others w u =
    let now = subst (λ (xs : List Binding). Settled (binding_at xs) (values_in new)) w.bindings w.settled in
    let then = subst (λ (xs : List Binding). Settled (binding_at xs) (values_in other)) u.bindings u.settled in
    let one : new ≡ other = objects-once (replaced bs b) old new other (apart-replaced bs b a.apart) acyclic w.objects u.objects now then (λ q none.
    u.kept q (ap (λ (xs : List Binding). binding_at xs q) u.bindings ∙ none)
    ∙ sym (w.kept q (ap (λ (xs : List Binding). binding_at xs q) w.bindings ∙ none))) in
    (w.bindings ∙ sym u.bindings, one, changed-once old new (in_order (b.target ∷ []) bs) changed others w.changes (subst (λ (xs : List Object). AreChanged old xs (in_order (b.target ∷ []) bs) others) (sym one) u.changes))
