-- What the code does by a statement that connects, disconnects or schedules a deletion (docs/machine.md, "Rules").
use Rattle.std.specs.Prelude.{◌≡◌, ℕ, ◌-◌, ◌⊎◌, List, length, Result, MatchResult}
use Rattle.syntax_trees.specs.declared.connection.ConnectionType.{ConnectionType}
use Rattle.syntax_trees.specs.declared.connection.Endpoints.{Endpoints as Named}
use Rattle.meta_model.specs.Loaded.{Loaded}
use Rattle.object_tree.specs.declared.object.Object.{Object}
use Rattle.object_tree.specs.Objects.{life_of}
use Rattle.prop_bindings.specs.Fits.{Agree}
use Rattle.trace_entries.specs.declared.fault.Fault.{Fault}
use Rattle.trace_entries.specs.declared.fault.Fault.TheVariants.{BadType, Memory}
use Rattle.trace_entries.specs.declared.refusal.Refusal.{Refusal}
use Rattle.machine_state.specs.declared.endpoints.Endpoints.{Endpoints}
use Rattle.machine_state.specs.declared.world.World.{World}
use Rattle.machine_state.specs.State.{State, Activation}
use Rattle.machine_state.specs.Worlds.{at}
use Rattle.machine_rules.specs.Connecting.{AreThere, may_connect, found_ends, names_of}
use Rattle.machine_rules.specs.Destroying.{Schedules}
use Rattle.machine_rules.specs.Rules.{Connects, Disconnects}
use Rattle.machine_rules.specs.There.{NoneDied}

-- an object or its method isn't there
abbrev pub LacksEnds : Loaded → List Object → Endpoints → Type 0
LacksEnds p objects ends = ¬ AreThere p objects ends

-- this is the answer to a statement that connects
pub record IsJudged (p : Loaded) (w : World) (ends : Endpoints) (how : ConnectionType) (answer : Result (Unit {0}) Refusal) : Type 0 where
  pub spelled : AreThere p w.store.tree ends
  pub is : may_connect p w.store.connections (found_ends spelled) spelled.signal.sig spelled.method.sig how answer

-- these are the names at two ends
pub record NamesEnds (p : Loaded) (objects : List Object) (ends : Endpoints) (names : Named (List ℕ)) : Type 0 where
  pub there : AreThere p objects ends
  pub is : names ≡ names_of there

-- why there are none
abbrev pub LacksNames : Loaded → List Object → Endpoints → Fault → Type 0
LacksNames p objects ends fault = LacksEnds p objects ends × (fault ≡ BadType) ⊎ (fault ≡ Memory)

-- a rule that pushes nothing was carried out, as this relation tells, where so many activations are on the stack
pub record Went (What : State → List Activation → State → Type 0) (w : World) (depth : ℕ) (v : World) : Type 0 where
  pub tells : (old stack : List Activation) → length stack ≡ depth → What (at w old) stack (at v stack)
  pub agree : (p : Loaded) → Agree p w.store.tree w.store.bindings → Agree p v.store.tree v.store.bindings
  pub spared : NoneDied w.store.tree v.store.tree
  pub left : v.left ≡ w.left - 1

-- there is no rule of which this relation tells, or memory was refused; then nothing changed
pub record Stalls (What : State → List Activation → State → Type 0) (w : World) (v : World) (fault : Fault) : Type 0 where
  pub same : v ≡ w
  pub why : ((old stack : List Activation) (t : State) → ¬ What (at w old) stack t) × (fault ≡ BadType) ⊎ (fault ≡ Memory)

abbrev pub ConnectsIn : Loaded → World → ℕ → Endpoints → ConnectionType → World → Result (Unit {0}) Fault → Type 0
ConnectsIn p w depth ends how v result =
    let What : State → List Activation → State → Type 0 = λ s stack t. Connects p s stack ends how t in
    MatchResult result (λ _. Went What w depth v) (Stalls What w v)

abbrev pub DisconnectsIn : Loaded → World → ℕ → Endpoints → World → Result (Unit {0}) Fault → Type 0
DisconnectsIn p w depth ends v result =
    let What : State → List Activation → State → Type 0 = λ s stack t. Disconnects p s stack ends t in
    MatchResult result (λ _. Went What w depth v) (Stalls What w v)

abbrev pub SchedulesIn : World → ℕ → ℕ → World → Result (Unit {0}) Fault → Type 0
SchedulesIn w depth x v result =
    let What : State → List Activation → State → Type 0 = λ s stack t. Schedules s stack x t (life_of s.objects x) in
    MatchResult result (λ _. Went What w depth v) (Stalls What w v)
