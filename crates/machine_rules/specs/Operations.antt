-- What the steps of a body do: the statements of a slot, and what a native does (docs/machine.md, "Rules").
use Rattle.std.specs.{Prelude.{ℕ, if◌then◌else◌, List, [], ◌∷◌, Option, None, Some, slice_get, slice_set}, Option.{option_and_then, option_map, option_map_or}}
use Rattle.basic_types.specs.declared.value.Value.{Value}
use Rattle.basic_types.specs.declared.value.Value.TheVariants as value
use Rattle.syntax_trees.specs.{declared.connection.ConnectionType.{ConnectionType}, declared.syntax.Expr.{Expr}}
use Rattle.meta_model.specs.{declared.object.Statement.{Statement}, declared.object.Statement.TheViews.{out-Statement}, declared.object.MetaEndpoints.{MetaEndpoints}, declared.object.MetaPath.{MetaPath}, declared.effects.MetaEffects.{MetaEffects}}
use Rattle.meta_model.specs.declared.object.Statement.TheOpen as layer
use Rattle.object_tree.specs.{declared.object.Object.{Object}, declared.life.Life.{Life}, Objects.{change_life}}
use Rattle.prop_bindings.specs.declared.plans.assignment.Assignment.{Assignment}
use Rattle.binding_graph.specs.Places.{property_of}
use Rattle.machine_state.specs.{declared.endpoints.Endpoints.{Endpoints}, State.{Step, Run, Ask, Act}, Telling.{Assigning, Alone, Grouped}}
use Rattle.native_slots.specs.declared.action.Action.{Action}
use Rattle.native_slots.specs.declared.action.Action.TheVariants as action
use Rattle.machine_rules.specs.Paths.{path_value, value_of, values_of}

-- what one step does
pub data Operation : Type 0 where
  -- a property of an object is written, or those of a group
  Write : (what : Assigning) → Operation
  -- a method of an object begins
  Begin : (object method : ℕ) (arguments : List Value) → Operation
  -- these statements come next
  Choose : (block : List Statement) → Operation
  -- a signal is connected to a method, in this way; `destroyed()` has its own number
  Connect : (ends : Endpoints) (how : ConnectionType) → Operation
  -- the connections between a signal and a method are removed
  Disconnect : (ends : Endpoints) → Operation
  -- an object is deleted
  Delete : (object : ℕ) → Operation
  -- an object is deleted when control returns to the event loop in which it lives
  Schedule : (object : ℕ) → Operation
  -- a native's answer is taken
  TakeAnswer : (effects : MetaEffects) → Operation
  -- nothing, since a path leads to null
  Nothing : Operation

-- what comes of the object that a path leads to, or of null, on which no expression is evaluated; a value that is no
-- reference leads to nothing
abbrev pub led_to : {X : Type 0} → X → (ℕ → Option X) → Option Value → Option X
led_to null act (Some (value.Ref None)) = Some null
led_to null act (Some (value.Ref (Some x))) = act x
led_to null act _ = None

-- what is done with the objects that the two paths of a connection lead to
abbrev pub on_ends : (Endpoints → Operation) → MetaEndpoints → Option Value → Option Value → Option Operation
on_ends act ends sender receiver =
    led_to Nothing (λ x. led_to Nothing (λ y. Some (act (record { sender = x; signal = ends.signal; receiver = y; method = ends.method }))) receiver) sender

-- the block that a condition chooses
abbrev pub chosen_by : List Statement → List Statement → Option Value → Option Operation
chosen_by block other (Some (value.Bool holds)) = Some (Choose (if holds then block else other))
chosen_by block other _ = None

-- ---- sets, alone and in groups

-- what a `set` writes, for the object o and the arguments of a call; nothing where its path leads to null
abbrev pub set_in : List Object → ℕ → List Value → layer.Statement-F Statement → Option (Option Assignment)
set_in objects o arguments (layer.Set path q e) =
    led_to None (λ x. option_map (λ new. Some (record { place = property_of x q; value = new })) (value_of objects o arguments e))
    (path_value objects o arguments path)
set_in objects o arguments _ = None

-- the objects once a set of a group is done, before anything follows from it
abbrev pub after_set : Option Assignment → List Object → List Object
after_set None objects = objects
after_set (Some a) objects = change_life a.place.object (λ (l : Life). record l { values = slice_set l.values a.place.property a.value }) objects

-- What the sets of a group write, in their order: each reads what those before it wrote, and all else, bound properties
-- too, as before the group.
abbrev pub sets_in : List Object → ℕ → List Value → List Statement → Option (List (Option Assignment))
sets_in objects o arguments [] = Some []
sets_in objects o arguments (s ∷ sets) =
    option_and_then (λ first. option_map (λ more. first ∷ more) (sets_in (after_set first objects) o arguments sets))
    (set_in objects o arguments (out-Statement s))

-- a set alone
abbrev pub operation_of_set : Option Assignment → Operation
operation_of_set set = option_map_or (λ (a : Assignment). Write (Alone a.place a.value)) set Nothing

-- ---- statements

-- What a statement of a body of object o does. `None`: it lacks a value that it needs, or its path leads to no object,
-- or its condition is no truth value.
abbrev pub operation : List Object → ℕ → List Value → layer.Statement-F Statement → Option Operation
operation objects o arguments (layer.Set path q e) =
    option_map operation_of_set (set_in objects o arguments (layer.Set path q e))
operation objects o arguments (layer.Group sets) = option_map (λ found. Write (Grouped found)) (sets_in objects o arguments sets)
operation objects o arguments (layer.Emit g es) = option_map (λ given. Begin o g given) (values_of objects o arguments es)
operation objects o arguments (layer.Call path n es) =
    led_to Nothing (λ x. option_map (λ given. Begin x n given) (values_of objects o arguments es)) (path_value objects o arguments path)
operation objects o arguments (layer.If e block other) = chosen_by block other (value_of objects o arguments e)
operation objects o arguments (layer.Connect ends how) =
    on_ends (λ between. Connect between how) ends (path_value objects o arguments ends.sender) (path_value objects o arguments ends.receiver)
operation objects o arguments (layer.Disconnect ends) =
    on_ends Disconnect ends (path_value objects o arguments ends.sender) (path_value objects o arguments ends.receiver)
operation objects o arguments (layer.Delete path) = led_to Nothing (λ x. Some (Delete x)) (path_value objects o arguments path)
operation objects o arguments (layer.Later path) = led_to Nothing (λ x. Some (Schedule x)) (path_value objects o arguments path)

-- an action of a native of object o: what is in this place of the lists of its effects is set or emitted
abbrev pub operation_of_action : ℕ → MetaEffects → Action → Option Operation
operation_of_action o effects (action.Set k value) = option_map (λ q. Write (Alone (property_of o q) value)) (slice_get effects.sets k)
operation_of_action o effects (action.Emit k given) = option_map (λ g. Begin o g given) (slice_get effects.emits k)

-- what a step of a body of object o does
abbrev pub operation_of_step : List Object → ℕ → List Value → Step → Option Operation
operation_of_step objects o arguments (Run statement) = operation objects o arguments (out-Statement statement)
operation_of_step objects o arguments (Ask effects) = Some (TakeAnswer effects)
operation_of_step objects o arguments (Act effects action) = operation_of_action o effects action

-- ---- parts of these, for proofs

-- a `set` of a property that its path leads to
abbrev pub set_at : List Object → ℕ → List Value → MetaPath → ℕ → Expr MetaPath → Option (Option Assignment)
set_at objects o arguments path q e = set_in objects o arguments (layer.Set path q e)

-- what is done with the object that a path leads to; on null nothing is done
abbrev pub on_object : (ℕ → Option Operation) → Option Value → Option Operation
on_object act found = led_to Nothing act found
