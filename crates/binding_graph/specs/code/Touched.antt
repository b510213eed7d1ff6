-- The bindings that touch some objects.
use Rattle.std.specs.Prelude.{◌≡◌, ℕ, ◌&&◌, ◌⊎◌, eqb, not, Bool, true, false, length, List, Option, None, Some}
use Rattle.std.specs.List.{list_any}
use Rattle.indexmap.specs.IndexSet.{IndexSet, contains}
use Rattle.meta_model.specs.Among.{is_among}
use Rattle.binding_graph.specs.declared.place.Place.{Place}
use Rattle.binding_graph.specs.declared.binding.Binding.{Binding}
use Rattle.binding_graph.specs.declared.graph.Graph.{Graph}
use Rattle.binding_graph.specs.Bindings.{binding_at, joined_by, touches}
use Rattle.binding_graph.specs.code.Graph.{bindings_of, target_keys}
use Rattle.binding_graph.specs.code.Lists.{is_key_in, place_at}
use Rattle.binding_graph.specs.code.Keys.{key_of}

abbrev pub has_any : List (ℕ × ℕ) → Bool
has_any ks = not (eqb (length ks) 0)

-- those of some objects under which something is named
abbrev pub AreTouchedAmong : {S : Type 0} → Graph → List ℕ → IndexSet ℕ S → Type 0
AreTouchedAmong g objects touched = (o : ℕ) → contains eqb touched o ≡ (is_among o objects && has_any (target_keys g.touching o))

-- one of the binding's objects passes the test, and another doesn't
abbrev pub leads_out_by : (ℕ → Bool) → Binding → Bool
leads_out_by test b = list_any test (joined_by b) && list_any (λ o. not (test o)) (joined_by b)

abbrev pub leads_out_of : (ℕ → Bool) → Option Binding → Bool
leads_out_of test None = false
leads_out_of test (Some b) = leads_out_by test b

-- .. of one of the bindings that are named under an object, and under one of these
abbrev pub leads_out_at : Graph → (ℕ → Bool) → ℕ → Bool
leads_out_at g test o = list_any (λ k. leads_out_of test (binding_at (bindings_of g) (place_at k))) (target_keys g.touching o)

abbrev pub lead_out_touched : Graph → (ℕ → Bool) → List ℕ → Bool
lead_out_touched g test objects = list_any (leads_out_at g test) objects

-- the bindings that touch the object are of properties with these numbers
abbrev pub ListsTouching : ℕ → List (ℕ × ℕ) → Graph → Type 0
ListsTouching object targets g =
    (q : Place) (b : Binding) → binding_at (bindings_of g) q ≡ Some b → touches object b ≡ true → is_key_in (key_of q) targets ≡ true

-- there is no binding more, and none of this property that touches the object
abbrev pub LeavesTouching : ℕ → Place → Graph → Graph → Type 0
LeavesTouching object place old new =
    (q : Place) (b : Binding) → binding_at (bindings_of new) q ≡ Some b → touches object b ≡ true → (binding_at (bindings_of old) q ≡ Some b) × (place ≡ q → ⊥)
