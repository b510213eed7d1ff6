-- What stands of the binding of a property, where it stands of each; and that properties that fit have values.
use Rattle.std.{proofs.Common.{◌≡◌, ℕ, zero, suc, Bool, true, cond, List, [], ◌∷◌, map, All, inl, inr, Option, Some, refl, ap, sym, ◌∙◌, subst}, specs.Prelude.{slice_get}, specs.Option.{option_map, option_and_then}, proofs.lemmas.List.Elements.{All-head, All-tail}, proofs.lemmas.Option.{same_Some}}
use Rattle.basic_types.specs.declared.value.Value.{Value}
use Rattle.meta_model.specs.{declared.object.MetaObject.{MetaObject}, declared.object.MetaProperty.{MetaProperty}, declared.object.ValueType.{ValueType}, Loaded.{Loaded}}
use Rattle.object_tree.{specs.declared.life.Life.{Life}, specs.declared.object.Object.{Object}, specs.Typed.{AreTyped, IsTyped, ReadAs}, proofs.Changing.{life-of-lives}}
use Rattle.binding_graph.{specs.declared.place.Place.{Place}, specs.declared.binding.Binding.{Binding}, specs.Places.{same_place}, specs.Bindings.{binding_at}, proofs.Places.{decide_place, same_place-refl}}
use Rattle.prop_bindings.specs.{Values.{values_in}, Fits.{FitsAt}}

-- ---- a list of bindings
-- the binding of a property is one of the list, and the property is its target
pub bound-has : (P : Binding → Type 0) (bs : List Binding) → All P bs → (p : Place) (b : Binding) → binding_at bs p ≡ Some b → P b × (b.target ≡ p)
bound-has P [] h p b some = absurd (cc some)
bound-has P (x ∷ xs) h p b some = elim (decide_place x.target p) [
  | inl e ↦
      let here : same_place x.target p ≡ true = subst (λ (q : Place). same_place x.target q ≡ true) e (same_place-refl x.target) in
      let same : x ≡ b = same_Some x b (sym (ap (λ (y : Bool). cond y (Some x) (binding_at xs p)) here) ∙ some) in
      (subst P same (All-head P x xs h), ap (λ (z : Binding). z.target) (sym same) ∙ e)
  | inr f ↦ bound-has P xs (All-tail P x xs h) p b (sym (ap (λ (y : Bool). cond y (Some x) (binding_at xs p)) f) ∙ some)
]

-- ---- values that are there
get-map : {X Y : Type 0} (f : X → Y) (xs : List X) (k : ℕ) → slice_get (map f xs) k ≡ option_map f (slice_get xs k)
get-map f [] k = refl
get-map f (x ∷ xs) zero = refl
get-map f (x ∷ xs) (suc k) = get-map f xs k

-- where there is a type there is a value
read-at : (p : Loaded) (objects : List Object) (vs : List Value) (types : List ValueType) (q : ℕ) (kind : ValueType) → ReadAs p objects vs types → slice_get types q ≡ Some kind → (w : Value) × (slice_get vs q ≡ Some w)
read-at p objects [] [] q kind h is = absurd (cc is)
read-at p objects [] (k ∷ types) q kind h is = absurd h
read-at p objects (v ∷ vs) [] q kind h is = absurd h
read-at p objects (v ∷ vs) (k ∷ types) zero kind h is = (v, refl)
read-at p objects (v ∷ vs) (k ∷ types) (suc q) kind h is = read-at p objects vs types q kind h.1 is

-- a property that some value fits has a value
pub has-value : (p : Loaded) (objects : List Object) → AreTyped p objects → (at : Place) (v : Value) → FitsAt p objects at v → (w : Value) × (values_in objects at ≡ Some w)
has-value p objects typed at v f =
    let t : IsTyped p objects f.life = typed at.object f.object f.life f.lives in
    let class : t.class ≡ f.is_property.class = same_Some t.class f.is_property.class (sym t.is_class.is ∙ f.is_property.is_class.is) in
    let kind : slice_get (map (λ (q : MetaProperty). q.kind) t.class.properties) at.property ≡ Some f.property.kind =
    get-map (λ (q : MetaProperty). q.kind) t.class.properties at.property
    ∙ ap (option_map (λ (q : MetaProperty). q.kind)) (ap (λ (c : MetaObject). slice_get c.properties at.property) class ∙ f.is_property.is) in
    let found = read-at p objects f.life.values (map (λ (q : MetaProperty). q.kind) t.class.properties) at.property f.property.kind t.typed kind in
    (found.0, ap (λ (there : Option Life). option_and_then (λ (l : Life). slice_get l.values at.property) there) (life-of-lives f.lives) ∙ found.1)
