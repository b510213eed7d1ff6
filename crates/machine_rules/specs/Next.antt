-- What comes next, and whether it lacks a value or writes one of a wrong type (docs/machine.md, "Faults").
use Rattle.std.specs.Prelude.{◌≡◌, List, ◌∷◌, Option, Some, None}
use Rattle.std.specs.List.{Contains}
use Rattle.meta_model.specs.declared.object.Statement.TheViews.{out-Statement}
use Rattle.meta_model.specs.Loaded.{Loaded}
use Rattle.object_tree.specs.declared.object.Object.{Object}
use Rattle.object_tree.specs.Typed.{ReadsAs}
use Rattle.prop_bindings.specs.declared.plans.assignment.Assignment.{Assignment}
use Rattle.machine_state.specs.State.{Run, State, Activation, Body}
use Rattle.machine_state.specs.Telling.{Assigning, writes_of}
use Rattle.machine_rules.specs.Operations.{Operation, Write, operation, operation_of_step}
use Rattle.machine_rules.specs.There.{HasField}

-- what the next step does, where what is on top of the stack is a body that has one, and the step lacks no value
abbrev pub next_operation : List Object → List Activation → Option Operation
next_operation objects (Body o m arguments (step ∷ rest) ∷ below) = operation_of_step objects o arguments step
next_operation objects _ = None

-- the next step writes a value for an object's property that is not of its type. What follows from the property need
-- have no values then, so this is said of the step, and not of what it makes.
pub record WritesIll (p : Loaded) (s : State) : Type 0 where
  pub what : Assigning
  pub next : next_operation s.objects s.stack ≡ Some (Write what)
  pub set : Assignment
  pub among : Contains (writes_of what) set
  pub there : HasField p s.objects set.place
  pub ill : ¬ ReadsAs p s.objects set.value there.property.kind

-- What is going on is a body whose next statement lacks a value: an expression has none, a condition is no truth value, or
-- a path leads to no object.
abbrev pub LacksAt : List Object → List Activation → Type 0
LacksAt objects (Body o m arguments (Run statement ∷ rest) ∷ below) = operation objects o arguments (out-Statement statement) ≡ None
LacksAt objects _ = ⊥

-- ---- parts of these, for faults and proofs

abbrev pub LacksValue : State → Type 0
LacksValue s = LacksAt s.objects s.stack

-- what is going on is a body whose next step does this
abbrev pub DoesNext : State → Operation → Type 0
DoesNext s what = next_operation s.objects s.stack ≡ Some what

-- what is going on is a body whose next step writes this
abbrev pub WritesNext : State → Assigning → Type 0
WritesNext s what = DoesNext s (Write what)
