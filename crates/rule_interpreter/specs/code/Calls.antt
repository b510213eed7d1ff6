-- What calls of the machine's functions do in the interpreter of a run, over what is active below (docs/machine.md, "Runs").
-- Each call comes to what it says, or stops on the way.
use Rattle.std.specs.Prelude.{◌≡◌, ℕ, List, [], ◌∷◌, ◌++◌, map, Option, Some, Result}
use Rattle.basic_types.specs.declared.value.Value.{Value}
use Rattle.meta_model.specs.declared.object.Statement.{Statement}
use Rattle.meta_model.specs.declared.object.Statement.TheOpen as layer
use Rattle.meta_model.specs.declared.object.Statement.TheViews.{out-Statement}
use Rattle.connections.specs.declared.connection.Connection.{Connection}
use Rattle.trace_entries.specs.declared.fault.Fault.{Fault}
use Rattle.machine_state.specs.declared.world.World.{World}
use Rattle.machine_state.specs.Connections.{next_used}
use Rattle.machine_state.specs.code.Changing.{having_used}
use Rattle.meta_model.specs.declared.effects.MetaEffects.{MetaEffects}
use Rattle.native_slots.specs.declared.action.Action.{Action}
use Rattle.machine_state.specs.State.{Step, Run, Act, Activation, Body, Emit, Update, Destroy}
use Rattle.machine_state.specs.Telling.{Assigning}
use Rattle.machine_rules.specs.Reaches.{RunsTo, Advances, CallsIn, Calls, OnlyCalls, Sets, Deletes, Kills}
use Rattle.run_context.specs.declared.method_call.MethodCall.{MethodCall}
use Rattle.binding_graph.specs.declared.place.Place.{Place}
use Rattle.machine_rules.specs.Natives.{NativeAnswers}
use Rattle.meta_model.specs.Loaded.{Loaded}
use Rattle.machine_rules.specs.Good.{shows}

-- one activation on top of the stack leads to another
abbrev pub TurnsInto : Loaded → NativeAnswers → ℕ → List (Option ℕ) → Activation → Activation → World → World → Result (Unit {0}) Fault → Type 0
TurnsInto p natives depth active a b w v result = RunsTo p natives depth active w (a ∷ []) v (b ∷ []) result

-- the first of the properties that an update holds is notified, whatever comes after it
abbrev pub NotifiesFirst : Loaded → NativeAnswers → ℕ → List (Option ℕ) → Place → World → World → Result (Unit {0}) Fault → Type 0
NotifiesFirst p natives depth active place w v result = (rest : List Place) → TurnsInto p natives depth active (Update (place ∷ rest)) (Update rest) w v result

-- an activation on top of the stack is carried out to its end
abbrev pub Finishes : Loaded → NativeAnswers → ℕ → List (Option ℕ) → Activation → World → World → Result (Unit {0}) Fault → Type 0
Finishes p natives depth active a w v result = RunsTo p natives depth active w (a ∷ []) v [] result

-- a connection is used, in every emission of which it is the next
abbrev pub UsesNext : Loaded → NativeAnswers → ℕ → List (Option ℕ) → Connection → List Value → World → World → Result (Unit {0}) Fault → Type 0
UsesNext p natives depth active c arguments w v result =
    (o g used last : ℕ) → next_used w.store.tree w.store.connections.connections o g used last ≡ Some c →
    TurnsInto p natives depth active (Emit o g arguments used last) (Emit o g arguments c.number last) w v result

-- a statement is carried out, in every body of this call in which it comes next and the statements `rest` follow; the
-- statements `left` are left of the body then
abbrev pub CarriesOut :
    Loaded → NativeAnswers → ℕ → List (Option ℕ) → MethodCall → layer.Statement-F Statement → List Statement → List Statement →
    World → World → Result (Unit {0}) Fault → Type 0
CarriesOut p natives depth active call statement rest left w v result =
    (x : Statement) → out-Statement x ≡ statement →
    Advances p natives depth active w (Body call.object call.method call.arguments.now (Run x ∷ map Run rest) ∷ [])
    v (Body call.object call.method call.arguments.now (map Run left) ∷ []) result

-- .. whatever follows it, all of which is left then
abbrev pub CarriesOutAlone :
    Loaded → NativeAnswers → ℕ → List (Option ℕ) → MethodCall → layer.Statement-F Statement → World → World → Result (Unit {0}) Fault → Type 0
CarriesOutAlone p natives depth active call statement w v result =
    (rest : List Statement) → CarriesOut p natives depth active call statement rest rest w v result

-- an action of a native is carried out, in every body of the object in which it comes next
abbrev pub CarriesOutAction :
    Loaded → NativeAnswers → ℕ → List (Option ℕ) → ℕ → MetaEffects → Action → World → World → Result (Unit {0}) Fault → Type 0
CarriesOutAction p natives depth active o effects action w v result =
    (m : ℕ) (arguments : List Value) (rest : List Step) →
    Advances p natives depth active w (Body o m arguments (Act effects action ∷ rest) ∷ []) v (Body o m arguments rest ∷ []) result

-- this is written, and what that notifies is carried out: from every top of the stack whose next rule is this write, to
-- what is left of it
abbrev pub RunsWrite : Loaded → NativeAnswers → ℕ → List (Option ℕ) → Assigning → World → World → Result (Unit {0}) Fault → Type 0
RunsWrite p natives depth active what w v result =
    (from to : List Activation) (shown : List (Option ℕ)) → active ≡ shows to ++ shown →
    Sets p natives w from to what → RunsTo p natives depth shown w from v to result

-- a method begins and is carried out: from every top of the stack from which it may, to what is left of it
abbrev pub RunsCall : Loaded → NativeAnswers → ℕ → List (Option ℕ) → MethodCall → World → World → Result (Unit {0}) Fault → Type 0
RunsCall p natives depth active call w v result =
    (from to : List Activation) (shown : List (Option ℕ)) → active ≡ shows to ++ shown →
    Calls p natives w from to call.object call.method call.arguments.now → RunsTo p natives depth shown w from v to result

-- a method begins and is carried out, from every top of the stack from which nothing else may
abbrev pub RunsOnlyCall : Loaded → NativeAnswers → ℕ → List (Option ℕ) → MethodCall → World → World → Result (Unit {0}) Fault → Type 0
RunsOnlyCall p natives depth active call w v result =
    (from to : List Activation) (shown : List (Option ℕ)) → active ≡ shows to ++ shown →
    Calls p natives w from to call.object call.method call.arguments.now →
    OnlyCalls p natives w from to call.object call.method call.arguments.now →
    RunsTo p natives depth shown w from v to result

-- a connection is used, and a method begins and is carried out: from every top of the stack from which it may, once the
-- connection is used
abbrev pub RunsUse : Loaded → NativeAnswers → ℕ → List (Option ℕ) → Connection → MethodCall → World → World → Result (Unit {0}) Fault → Type 0
RunsUse p natives depth active c call w v result =
    (from to : List Activation) (shown : List (Option ℕ)) → active ≡ shows to ++ shown →
    CallsIn p natives w (having_used w c) from to call.object call.method call.arguments.now →
    RunsTo p natives depth shown w from v to result

-- an object is deleted, and then its children: from every top of the stack whose next rule begins that, to what is left of it
abbrev pub RunsDeletion : Loaded → NativeAnswers → ℕ → List (Option ℕ) → ℕ → World → World → Result (Unit {0}) Fault → Type 0
RunsDeletion p natives depth active x w v result =
    (from to : List Activation) (shown : List (Option ℕ)) → active ≡ shows to ++ shown →
    Deletes p natives w from to x → RunsTo p natives depth shown w from v to result

-- an object dies, and its `destroyed` is carried out: over every deletion by whose next rule it may die
abbrev pub RunsDeath : Loaded → NativeAnswers → ℕ → List (Option ℕ) → ℕ → World → World → Result (Unit {0}) Fault → Type 0
RunsDeath p natives depth active x w v result =
    (next : Option ℕ) (before torn : List ℕ) → Kills p natives w next before torn x →
    TurnsInto p natives depth active (Destroy next before) (Destroy (Some x) torn) w v result
