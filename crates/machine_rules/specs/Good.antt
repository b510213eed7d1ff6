-- The bad moments that a rule, or the taking of an event, may bring (docs/machine.md, "Faults"). None of them is forbidden.
use Rattle.std.specs.Prelude.{◌≡◌, ℕ, eqb, ◌||◌, ◌<◌, ◌≤◌, Bool, false, IsTrue, List, [], ◌∷◌, length, Option, None, Some}
use Rattle.basic_types.specs.declared.value.Value.{Value}
use Rattle.meta_model.specs.declared.object.MetaMethod.{MetaMethod}
use Rattle.meta_model.specs.declared.object.ValueType.{ValueType}
use Rattle.meta_model.specs.declared.object.ValueType.TheVariants as type
use Rattle.meta_model.specs.declared.qobject.TheConstants.{QOBJECT, DESTROYED}
use Rattle.meta_model.specs.Loaded.{Loaded}
use Rattle.object_tree.specs.declared.object.Object.{Object}
use Rattle.object_tree.specs.Typed.{ReadAs, AreTyped}
use Rattle.binding_graph.specs.Bindings.{binding_at, Loop, Settled}
use Rattle.prop_bindings.specs.Values.{values_in}
use Rattle.machine_rules.specs.There.{IsMember, IsDead}
use Rattle.machine_rules.specs.Next.{LacksAt, WritesIll}
use Rattle.machine_state.specs.State.{State, Activation, Body, Emit}

-- ---- arguments

-- the arguments are as many as the living object's method declares, each, as it reads, of its type
pub record ArgumentsFit (p : Loaded) (objects : List Object) (o m : ℕ) (arguments : List Value) : Type 0 where
  pub object : Object
  pub method : MetaMethod
  pub is : IsMember p objects o m object method
  pub typed : ReadAs p objects arguments method.types

-- an emission has the arguments that the object's signal declares; of a dead object only `destroyed(QObject*)` is emitted
pub data EmissionFits (p : Loaded) (objects : List Object) (o g : ℕ) (arguments : List Value) : Type 0 where
  of_living : ArgumentsFit p objects o g arguments → EmissionFits p objects o g arguments
  of_dead : IsDead objects o → g ≡ DESTROYED → ReadAs p objects arguments (type.Reference QOBJECT false ∷ []) → EmissionFits p objects o g arguments

-- the activation on top of the stack has arguments that fit; an update and a deletion have none
abbrev pub TopFits : Loaded → List Object → List Activation → Type 0
TopFits p objects (Body o m arguments left ∷ below) = ArgumentsFit p objects o m arguments
TopFits p objects (Emit o g arguments used last ∷ below) = EmissionFits p objects o g arguments
TopFits p objects _ = Unit {0}

-- the types that `destroyed(QObject*)` declares, in every class
abbrev pub destroyed_types : List ValueType
destroyed_types = type.Reference QOBJECT false ∷ []

-- ---- active bodies

-- a body of the object is active
abbrev pub has_body : ℕ → List Activation → Bool
has_body o [] = false
has_body o (Body x m arguments left ∷ below) = eqb x o || has_body o below
has_body o (_ ∷ below) = has_body o below

-- ---- from a state s to the next, t

-- what was pushed has the arguments that its method declares
abbrev pub HasArguments : Loaded → State → State → Type 0
HasArguments p s t = length s.stack < length t.stack → TopFits p t.objects t.stack

-- what was pushed has its arguments, and every property of a living object has a value of its type
pub record IsWell (p : Loaded) (s t : State) : Type 0 where
  pub arguments : HasArguments p s t
  pub values : AreTyped p t.objects

-- no object dies while a body of it is active
abbrev pub Spares : State → State → Type 0
Spares s t = (o : ℕ) → IsTrue (has_body o s.stack) → IsDead t.objects o → IsDead s.objects o

-- no chain of bindings leads from a property back to itself
abbrev pub IsAcyclic : State → Type 0
IsAcyclic t = ¬ Loop (binding_at t.bindings)

-- from s to t is no bad moment: activations nest no deeper than the depth, either, and what is written next in s are
-- values of their properties' types. The last is asked of s, since in a group a later write may hide the value from t.
pub record IsGood (p : Loaded) (depth : ℕ) (s t : State) : Type 0 where
  pub well : IsWell p s t
  pub spared : Spares s t
  pub acyclic : IsAcyclic t
  pub shallow : length t.stack ≤ depth
  pub fits : ¬ WritesIll p s

-- ---- what is no bad moment: it follows where there is none

-- all values are settled: each bound property has the value of its binding's expression
abbrev pub AreSettled : State → Type 0
AreSettled t = Settled (binding_at t.bindings) (values_in t.objects)

-- every property of a living object has a value of its type, the statement that is next has the values that it needs, and
-- what it writes are values of their properties' types, also one that a later write of the same group hides
pub record IsTyped (p : Loaded) (t : State) : Type 0 where
  pub values : AreTyped p t.objects
  pub has_values : ¬ LacksAt t.objects t.stack
  pub fits : ¬ WritesIll p t

-- ---- parts of these, for proofs

-- the object whose body an activation is
abbrev pub whose : Activation → Option ℕ
whose (Body o m arguments left) = Some o
whose _ = None

-- for each activation of a stack the object whose body it is
abbrev pub shows : List Activation → List (Option ℕ)
shows [] = []
shows (a ∷ below) = whose a ∷ shows below
