-- Objects ahead of what is planned.
use Rattle.std.proofs.Common.{◌≡◌, ℕ, Bool, true, false, cond, List, [], ◌∷◌, ◌++◌, Option, None, Some, refl, ap, sym, ◌∙◌}
use Rattle.std.specs.Option.{option_map, unwrap_or}
use Rattle.std.specs.Map.{lookup}
use Rattle.std.proofs.Math.Path.{fun_ext}
use Rattle.indexmap.specs.IndexMap.{IndexMap, get}
use Rattle.basic_types.specs.declared.value.Value.{Value}
use Rattle.object_tree.specs.declared.object.Object.{Object}
use Rattle.object_tree.specs.Objects.{change_life, written}
use Rattle.binding_graph.specs.declared.place.Place.{Place}
use Rattle.binding_graph.specs.Places.{property_of, same_place}
use Rattle.prop_bindings.specs.Values.{values_in}
use Rattle.prop_bindings.specs.Changes.{DifferInValues}
use Rattle.prop_bindings.specs.Plans.{assigned}
use Rattle.binding_graph.specs.code.Keys.{key_of, same_key}
use Rattle.prop_bindings.specs.code.Parts.{ahead, value_ahead}
use Rattle.binding_graph.proofs.Keyed.{same_place-sym}
use Rattle.prop_bindings.proofs.AssignedValues.{assigned-differs, assigned-values, in-turn}
use Rattle.prop_bindings.proofs.Values.{written-differs, value-changed, same-objects}

module _ {S : Type 0} (values : IndexMap (ℕ × ℕ) Value S) (objects : List Object) where
  pub ahead-values : (q : Place) → values_in (ahead values objects) q ≡ value_ahead values objects q
  ahead-values q = assigned-values values.entries objects q

  pub ahead-env : value_ahead values objects ≡ values_in (ahead values objects)
  ahead-env = fun_ext (λ q. sym (ahead-values q))

  -- none is to have another value
  pub ahead-none : values.entries ≡ [] → ahead values objects ≡ objects
  ahead-none none = ap (λ (es : List ((ℕ × ℕ) × Value)). assigned es objects) none

  pub ahead-present : values.entries ≡ [] → value_ahead values objects ≡ values_in objects
  ahead-present none = ahead-env ∙ ap values_in (ahead-none none)

-- a property that has a value, and is to have one or isn't
module _ {S : Type 0} (values : IndexMap (ℕ × ℕ) Value S) (objects : List Object) (q : Place) (own : Value) (has : Some own ≡ values_in objects q) where
  pub given-ahead : (v : Value) → Some v ≡ get same_key values (key_of q) → Some v ≡ value_ahead values objects q
  given-ahead v given = ap (λ (o : Option Value). Some (unwrap_or o own)) given ∙ ap (option_map (unwrap_or (get same_key values (key_of q)))) has

  pub own-ahead : None ≡ get same_key values (key_of q) → Some own ≡ value_ahead values objects q
  own-ahead none = ap (λ (o : Option Value). Some (unwrap_or o own)) none ∙ ap (option_map (unwrap_or (get same_key values (key_of q)))) has

-- one more is to have another value
pub ahead-more : {S : Type 0} (old new : IndexMap (ℕ × ℕ) Value S) (objects : List Object) (at : Place) (v : Value) (key : ℕ × ℕ) → key ≡ key_of at → ((k : ℕ × ℕ) → get same_key new k ≡ cond (same_key key k) (Some v) (get same_key old k)) → ahead new objects ≡ change_life at.object (written at.property v) (ahead old objects)
ahead-more old new objects at v key is given = same-objects (ahead new objects) (change_life at.object (written at.property v) (ahead old objects))
    (written-differs at.object at.property v (ahead old objects) ∙ assigned-differs old.entries objects ∙ sym (assigned-differs new.entries objects))
    (λ q. ahead-values new objects q
    ∙ ap (λ (o : Option Value). option_map (unwrap_or o) (values_in objects q)) (given (key_of q) ∙ ap (λ (k : ℕ × ℕ). cond (same_key k (key_of q)) (Some v) (get same_key old (key_of q))) is)
    ∙ sym (value-changed (ahead old objects) at v q
    ∙ ap (λ (o : Option Value). option_map (λ (own : Value). cond (same_place at q) v own) o) (ahead-values old objects q)
    ∙ in-turn (same_place at q) v (get same_key old (key_of q)) (values_in objects q)))
