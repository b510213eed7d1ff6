-- When a value may be a property's, and what stands of objects and bindings (docs/machine.md, "Bindings").
use Rattle.std.specs.Prelude.{◌≡◌, ℕ, List, All, Some}
use Rattle.basic_types.specs.declared.value.Value.{Value}
use Rattle.meta_model.specs.Loaded.{Loaded}
use Rattle.meta_model.specs.Sound.{IsPlain}
use Rattle.object_tree.specs.declared.object.Object.{Object}
use Rattle.object_tree.specs.Objects.{home_of}
use Rattle.object_tree.specs.Typed.{AreTyped, FitsProperty}
use Rattle.binding_graph.specs.declared.place.Place.{Place}
use Rattle.binding_graph.specs.declared.binding.Binding.{Binding}
use Rattle.prop_bindings.specs.Values.{values_in}
use Rattle.binding_graph.specs.Bindings.{value_of, binding_at, AreApart, Settled, Loop}

-- the value is of the type of a living object's property
abbrev pub FitsAt : Loaded → List Object → Place → Value → Type 0
FitsAt p objects at v = FitsProperty objects at.object at.property v p

-- Over the present values the expression has a value, of the type of the target, which is a value type. As each property
-- has a value of its type at any time, this is a matter of types alone: it stands whatever is written.
pub record IsFit (p : Loaded) (objects : List Object) (b : Binding) : Type 0 where
  pub value : Value
  pub is : value_of b (values_in objects) ≡ Some value
  pub typed : FitsAt p objects b.target value
  pub plain : IsPlain typed.property.kind

-- the sources live in the target's event loop
abbrev pub InOneLoop : List Object → ℕ → List ℕ → Type 0
InOneLoop objects target sources = All (λ (o : ℕ). home_of objects o ≡ home_of objects target) sources

-- the sources of a binding live in its target's event loop
abbrev pub IsInOneLoop : List Object → Binding → Type 0
IsInOneLoop objects b = InOneLoop objects b.target.object b.sources

-- What stands of objects and bindings between any two calls: each property has a value of its type and at most one
-- binding, each binding's expression has a value for its target, its objects live in one event loop, no chain of bindings
-- leads from a property back to itself, and the values are settled.
pub record Agree (p : Loaded) (objects : List Object) (bs : List Binding) : Type 0 where
  pub typed : AreTyped p objects
  pub fit : All (IsFit p objects) bs
  pub one_loop : All (IsInOneLoop objects) bs
  pub apart : AreApart bs
  pub acyclic : ¬ Loop (binding_at bs)
  pub settled : Settled (binding_at bs) (values_in objects)
