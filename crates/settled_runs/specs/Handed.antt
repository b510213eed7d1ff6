-- What is done with the value that a slot was called with (docs/settling.md, "Handing on").
use Rattle.std.specs.Prelude.{◌≡◌, ℕ, List, [], ◌∷◌, Some, slice_get}
use Rattle.basic_types.specs.declared.value.Value.{Value}
use Rattle.meta_model.specs.declared.object.Statement.{Statement}
use Rattle.meta_model.specs.declared.object.Statement.TheViews.{out-Statement}
use Rattle.object_tree.specs.declared.object.Object.{Object}
use Rattle.object_tree.specs.Seen.{seen}
use Rattle.binding_graph.specs.declared.place.Place.{Place}
use Rattle.machine_state.specs.Telling.{Alone}
use Rattle.machine_rules.specs.Operations.{Operation, Write, Begin, Nothing, operation}
use Rattle.settling.specs.Hands.{HandsValue}

-- a property is set to the value, or a method begins with it alone; nothing is done where a path leads to null
pub data IsDoneWith (v : Value) : Operation → Type 0 where
  sets : {place : Place} → IsDoneWith v (Write (Alone place v))
  begins : {o m : ℕ} → IsDoneWith v (Begin o m (v ∷ []))
  nothing : IsDoneWith v Nothing

-- a statement that hands its value on does what it does with that which the first argument reads as
abbrev pub ValueIsHanded : Type 0
ValueIsHanded =
    (objects : List Object) (o : ℕ) (arguments : List Value) (first : Value) (s : Statement) (done : Operation) →
    slice_get arguments 0 ≡ Some first → HandsValue (out-Statement s) → operation objects o arguments (out-Statement s) ≡ Some done →
    IsDoneWith (seen objects first) done
