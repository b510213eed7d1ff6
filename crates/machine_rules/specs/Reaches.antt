-- What a call of the machine's code does, whatever activations are below (docs/machine.md, "Runs").
use Rattle.std.specs.Prelude.{◌≡◌, ℕ, ◌<◌, ◌≤◌, ◌⊎◌, List, [], ◌∷◌, ◌++◌, length, Result, Ok, Err, MatchResult, Option, Some}
use Rattle.meta_model.specs.{Loaded.{Loaded}, declared.object.MetaMethod.{MetaMethod}, declared.object.Work.{Work}}
use Rattle.basic_types.specs.declared.value.Value.{Value}
use Rattle.object_tree.specs.declared.object.Object.{Object}
use Rattle.trace_entries.specs.{declared.fault.Fault.{Fault}, declared.fault.Fault.TheVariants.{Steps, Memory}}
use Rattle.machine_state.specs.{declared.world.World.{World}, State.{State, Activation, Destroy, IsIdle}, Telling.{Assigning}, Worlds.{at}, code.Changing.{ending}}
use Rattle.machine_rules.specs.{Good.{shows}, Natives.{NativeAnswers}, Operations.{Operation, Begin}, Rules.{Rule, Begins}, Settling.{Writes}, Destroying.{deleting, Dies}, There.{IsMember}, Next.{DoesNext, WritesNext}, code.Going.{GoodRules, RulesStop}}

-- ---- what calls of the machine's functions do

-- over any stack that shows this, the machine goes from one world and top of the stack to another
pub record Reaches (p : Loaded) (natives : NativeAnswers) (depth : ℕ) (shown : List (Option ℕ))
    (w : World) (from : List Activation) (v : World) (to : List Activation) : Type 0 where
  pub runs :
      (below : List Activation) → shows below ≡ shown →
      GoodRules p natives depth (at w (from ++ below)) w.left (at v (to ++ below)) v.left

-- over any stack that shows this, the machine goes by rules to this world, where it stops
pub record StopsIn (p : Loaded) (natives : NativeAnswers) (depth : ℕ) (shown : List (Option ℕ))
    (w : World) (from : List Activation) (v : World) (fault : Fault) : Type 0 where
  pub stops :
      (below : List Activation) → shows below ≡ shown →
      (stack : List Activation) ×
      GoodRules p natives depth (at w (from ++ below)) w.left (at v stack) v.left × RulesStop p natives depth (at v stack) v.left fault

-- a call went from one top of the stack to another, or stopped on the way
pub record RunsTo (p : Loaded) (natives : NativeAnswers) (depth : ℕ) (shown : List (Option ℕ))
    (w : World) (from : List Activation) (v : World) (to : List Activation) (result : Result (Unit {0}) Fault) : Type 0 where
  pub cases : MatchResult result (λ _. Reaches p natives depth shown w from v to) (StopsIn p natives depth shown w from v)

-- a call carried out one rule or more, or stopped on the way
pub record Advances (p : Loaded) (natives : NativeAnswers) (depth : ℕ) (shown : List (Option ℕ))
    (w : World) (from : List Activation) (v : World) (to : List Activation) (result : Result (Unit {0}) Fault) : Type 0 where
  pub cases : MatchResult result (λ _. Reaches p natives depth shown w from v to × (v.left < w.left)) (StopsIn p natives depth shown w from v)

-- ---- what begins and what is written, from any top of the stack, over what is left of it

-- by the next rule of a world a method of an object may begin, in what the rule makes of the world before that
pub record CallsIn (p : Loaded) (natives : NativeAnswers) (w u : World) (from to : List Activation) (o m : ℕ) (arguments : List Value) : Type 0 where
  pub no_lower : length from ≤ length to
  pub objects : u.store.tree ≡ w.store.tree
  pub goes_on : (below : List Activation) → ¬ IsIdle (at w (from ++ below))
  pub gives :
      (below : List Activation) (t : State) →
      Begins p (at u (from ++ below)) (to ++ below) o m arguments t → Rule p natives (at w (from ++ below)) t

-- by the next rule of a world a method of an object may begin, in the world as it is
abbrev pub Calls : Loaded → NativeAnswers → World → List Activation → List Activation → ℕ → ℕ → List Value → Type 0
Calls p natives w from to o m arguments = CallsIn p natives w w from to o m arguments

-- by the next rule of a world nothing else than this method of this object may begin
pub record OnlyCalls (p : Loaded) (natives : NativeAnswers) (w : World) (from to : List Activation) (o m : ℕ) (arguments : List Value) : Type 0 where
  pub next : (below : List Activation) (what : Operation) → DoesNext (at w (from ++ below)) what → what ≡ Begin o m arguments
  pub begins :
      (below : List Activation) (t : State) →
      Rule p natives (at w (from ++ below)) t → Begins p (at w (from ++ below)) (to ++ below) o m arguments t

-- the next rule is that this is written, by a statement or an action of a native
pub record Sets (p : Loaded) (natives : NativeAnswers) (w : World) (from to : List Activation) (what : Assigning) : Type 0 where
  pub as_high : length from ≡ length to
  pub goes_on : (below : List Activation) → ¬ IsIdle (at w (from ++ below))
  pub next : (below : List Activation) → WritesNext (at w (from ++ below)) what
  pub gives :
      (below : List Activation) (t : State) →
      Writes p (at w (from ++ below)) (to ++ below) what t → Rule p natives (at w (from ++ below)) t
  pub only :
      (below : List Activation) (t : State) →
      Rule p natives (at w (from ++ below)) t → Writes p (at w (from ++ below)) (to ++ below) what t

-- by the next rule the deletion of an object begins
pub record Deletes (p : Loaded) (natives : NativeAnswers) (w : World) (from to : List Activation) (x : ℕ) : Type 0 where
  pub gives : (below : List Activation) → Rule p natives (at w (from ++ below)) (deleting (at w (from ++ below)) (to ++ below) x)

-- by the next rule of a deletion an object may die, and is then the one whose `destroyed` goes on
pub record Kills (p : Loaded) (natives : NativeAnswers) (w : World) (next : Option ℕ) (before torn : List ℕ) (x : ℕ) : Type 0 where
  pub gives :
      (below : List Activation) (t : State) →
      Dies (at w (Destroy next before ∷ below)) (Destroy (Some x) torn ∷ below) x t → Rule p natives (at w (Destroy next before ∷ below)) t

-- a living object's method does this
pub record DoesWork (p : Loaded) (objects : List Object) (o m : ℕ) (work : Work) : Type 0 where
  pub object : Object
  pub method : MetaMethod
  pub is : IsMember p objects o m object method
  pub is_work : work ≡ method.work

-- an object was forgotten, which comes last among those that are torn down then; or no rule was left, or memory was
-- refused
abbrev pub Forgets : World → List ℕ → ℕ → World → List ℕ → Result (Unit {0}) Fault → Type 0
Forgets w torn x v after (Ok went) = (0 < w.left) × (v ≡ ending w x) × (after ≡ torn ++ x ∷ [])
Forgets w torn x v after (Err fault) = (v ≡ w) × ((w.left ≡ 0) × (fault ≡ Steps) ⊎ (0 < w.left) × (fault ≡ Memory))
