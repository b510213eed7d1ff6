-- What an evaluation, and a write with those of its followers, make of objects and sound bindings.
use Rattle.std.{proofs.Common.{◌≡◌, List, Option, None, Some, ap, sym, ◌∙◌, subst, refl}, specs.Option.{option_map}, proofs.lemmas.Option.{same_Some}}
use Rattle.object_tree.{specs.Seen.{seen}, specs.declared.object.Object.{Object}, specs.Objects.{change_life, written}, specs.Typed.{AreTyped}, proofs.TypedObjects.{typed-written}}
use Rattle.basic_types.specs.declared.value.Value.{Value}
use Rattle.meta_model.specs.Loaded.{Loaded}
use Rattle.binding_graph.{specs.declared.place.Place.{Place}, specs.declared.binding.Binding.{Binding}, specs.Places.{In}, specs.Bindings.{binding_at, value_of}, specs.code.Orders.{given, evaluated, pass, update}, proofs.Passes.{pass-other}}
use Rattle.prop_bindings.{specs.Values.{values_in}, specs.Changes.{DifferInValues, ReadsAlike}, specs.Fits.{FitsAt, IsFit}, specs.code.Parts.{AreSound, IsSoundBySome, StaySound}, proofs.Staying.{reads-alike}, proofs.Values.{written-differs, values-updated}, proofs.Fitting.{all-stay}, proofs.There.{bound-has, has-value}}

-- ---- a value of its type is written
pub given-sound : (p : Loaded) (objects : List Object) (bs : List Binding) (at : Place) (v : Value) → AreSound p objects bs → FitsAt p objects at v → AreSound p (change_life at.object (written at.property v) objects) bs
given-sound p objects bs at v sound fits =
    let now = typed-written p objects at.object at.property v fits sound.0 in
    (now, all-stay p objects (change_life at.object (written at.property v) objects) sound.0 now (written-differs at.object at.property v objects) bs sound.1)

pub given-values : (p : Loaded) (objects : List Object) (at : Place) (v : Value) → AreTyped p objects → FitsAt p objects at v → (q : Place) → values_in (change_life at.object (written at.property v) objects) q ≡ update (values_in objects) at (Some v) q
given-values p objects at v typed fits q =
    let found = has-value p objects typed at v fits in
    values-updated objects at v found.0 found.1 q

-- ---- an evaluation
module _ (objects : List Object) (bs : List Binding) (at : Place) (b : Binding) (some : binding_at bs at ≡ Some b) where
  -- a sound binding has a value
  pub evaluated-there : IsSoundBySome objects bs → value_of b (values_in objects) ≡ None → ⊥
  evaluated-there s none =
      let f = bound-has (IsFit s.0 objects) bs s.1.1 at b some in
      let is : value_of b (values_in objects) ≡ Some f.0.value = f.0.is in
      cc (none, is)

  module _ (v : Value) (is : value_of b (values_in objects) ≡ Some v) where
    abbrev after : List Object
    after = change_life at.object (written at.property v) objects

    evaluated-fits : (p : Loaded) → AreSound p objects bs → FitsAt p objects at v
    evaluated-fits p sound =
        let f = bound-has (IsFit p objects) bs sound.1 at b some in
        let same : f.0.value ≡ v = same_Some f.0.value v (sym f.0.is ∙ is) in
        subst (λ (r : Place). FitsAt p objects r v) f.1 (subst (λ (w : Value). FitsAt p objects b.target w) same f.0.typed)

    pub evaluated-values : IsSoundBySome objects bs → (q : Place) → values_in after q ≡ evaluated (binding_at bs) at (values_in objects) q
    evaluated-values s q =
        let found = has-value s.0 objects s.1.0 at v (evaluated-fits s.0 s.1) in
        values-updated objects at v found.0 found.1 q
        ∙ sym (ap (λ (o : Option Binding). given o at (values_in objects) q) some ∙ ap (λ (w : Option Value). update (values_in objects) at w q) is)

    pub evaluated-sound : StaySound objects after bs
    evaluated-sound p sound = given-sound p objects bs at v sound (evaluated-fits p sound)

-- ---- writes and what follows
module _ (old mid new : List Object) (bs : List Binding) (ts followers : List Place)
    (other : (q : Place) → (In q ts → ⊥) → values_in mid q ≡ values_in old q)
    (is : (q : Place) → values_in new q ≡ pass (binding_at bs) followers (values_in mid) q) where
  -- what neither is written nor follows reads as it did
  pub rest-alike : DifferInValues old new → (q : Place) → (In q ts → ⊥) → (In q followers → ⊥) → ReadsAlike old new q
  rest-alike differ q away out =
      let same : values_in new q ≡ values_in old q = is q ∙ pass-other (binding_at bs) followers (values_in mid) q out ∙ other q away in
      reads-alike old new differ q (values_in old q) refl (ap (option_map (seen new)) same)
