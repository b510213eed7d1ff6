-- Objects once some properties have other values.
use Rattle.std.proofs.Common.{◌≡◌, ℕ, Bool, true, false, cond, List, [], ◌∷◌, ◌++◌, Option, None, Some, refl, ap, sym, ◌∙◌}
use Rattle.std.specs.Option.{option_map, unwrap_or}
use Rattle.std.specs.Map.{lookup}
use Rattle.std.proofs.Math.Path.{fun_ext}
use Rattle.indexmap.specs.IndexMap.{IndexMap, get}
use Rattle.basic_types.specs.declared.value.Value.{Value}
use Rattle.object_tree.specs.declared.object.Object.{Object}
use Rattle.object_tree.specs.Objects.{change_life, written}
use Rattle.binding_graph.specs.declared.place.Place.{Place}
use Rattle.binding_graph.specs.Places.{property_of, same_place}
use Rattle.prop_bindings.specs.Values.{values_in}
use Rattle.prop_bindings.specs.Changes.{DifferInValues}
use Rattle.prop_bindings.specs.Plans.{assigned}
use Rattle.binding_graph.specs.code.Keys.{key_of, same_key}
use Rattle.binding_graph.proofs.Keyed.{same_place-sym}
use Rattle.prop_bindings.proofs.Values.{written-differs, value-changed, same-objects}

-- nothing else differs
pub assigned-differs : (es : List ((ℕ × ℕ) × Value)) (objects : List Object) → DifferInValues objects (assigned es objects)
assigned-differs [] objects = refl
assigned-differs (e ∷ es) objects = written-differs e.0.0 e.0.1 e.1 (assigned es objects) ∙ assigned-differs es objects

-- one more at the end, which is given first
pub assigned-last : (es : List ((ℕ × ℕ) × Value)) (k : ℕ × ℕ) (v : Value) (objects : List Object) → assigned (es ++ (k, v) ∷ []) objects ≡ assigned es (change_life k.0 (written k.1 v) objects)
assigned-last [] k v objects = refl
assigned-last (e ∷ es) k v objects = ap (change_life e.0.0 (written e.0.1 e.1)) (assigned-last es k v objects)

-- ---- the values then
own-kept : (o : Option Value) → option_map (unwrap_or None) o ≡ o
own-kept None = refl
own-kept (Some w) = refl

pub in-turn : (b : Bool) (v : Value) (given o : Option Value) → option_map (λ (own : Value). cond b v own) (option_map (unwrap_or given) o) ≡ option_map (unwrap_or (cond b (Some v) given)) o
in-turn b v given None = refl
in-turn true v given (Some w) = refl
in-turn false v given (Some w) = refl

pub assigned-values : (es : List ((ℕ × ℕ) × Value)) (objects : List Object) (q : Place) → values_in (assigned es objects) q ≡ option_map (unwrap_or (lookup (same_key (key_of q)) es)) (values_in objects q)
assigned-values [] objects q = sym (own-kept (values_in objects q))
assigned-values (e ∷ es) objects q =
    let at : Place = property_of e.0.0 e.0.1 in
    let given : Option Value = lookup (same_key (key_of q)) es in
    value-changed (assigned es objects) at e.1 q
    ∙ ap (λ (o : Option Value). option_map (λ (own : Value). cond (same_place at q) e.1 own) o) (assigned-values es objects q)
    ∙ in-turn (same_place at q) e.1 given (values_in objects q)
    ∙ ap (λ (b : Bool). option_map (unwrap_or (cond b (Some e.1) given)) (values_in objects q)) (same_place-sym at q)
