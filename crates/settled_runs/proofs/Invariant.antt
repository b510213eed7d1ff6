-- What a run keeps of a program with a valid settling certificate (docs/settling-proof.md, "The invariant").
use Rattle.std.specs.Prelude.{◌≡◌, ◌⊎◌, ℕ, List, [], ◌∷◌, Option, None, Some, slice_get}
use Rattle.std.specs.List.{AllByRecursion}
use Rattle.basic_types.specs.declared.value.Value.{Value}
use Rattle.meta_model.specs.Loaded.{Loaded}
use Rattle.object_tree.specs.declared.object.Object.{Object}
use Rattle.effect_scan.specs.declared.node.Node.{Node}
use Rattle.binding_graph.specs.declared.place.Place.{Place}
use Rattle.machine_state.specs.State.{State, Activation, Body, Emit, Update, Destroy}
use Rattle.settling.specs.{declared.certificate.SettlingLine.{SettlingLine}, declared.certificate.SettlingCertificate.{SettlingCertificate}, Sets.{IsIn}, Valid.{IsLineOf}}
use Rattle.object_machine.proofs.CheckedRuns.Invariant.{BodyStands, EmitStands, DestroyStands, IsCovered}
use Rattle.settled_runs.{specs.Writes.{IsAtNode, IsNoHigher}, specs.Levels.{Carried, Level, Leaves, FallsTo, IsPlaceIn, IsWell}, specs.Written.{HaveWritten}, proofs.Pushing.{StandsIn, CarriesFirst}}

-- ---- where activations are. `classes` are the classes of all objects that were ever created.

-- a method that is called is at the level of a node of which this stands, in the node's set, if it is in one, with its first argument
pub record MethodStands (p : Loaded) (objects : List Object) (arguments : List Value) {certificate : SettlingCertificate} (level : Level certificate) (P : Node → Type 0) : Type 0 where
  pub node : Node
  pub is : IsLineOf p certificate node level.line
  pub stands : P node
  pub is_inside : StandsIn p node level
  pub is_strict : (a : Value) → slice_get arguments 0 ≡ Some a → (k : ℕ) → IsIn p certificate k node → (carried : Carried) × (level.within ≡ Some carried)
  pub carries : (carried : Carried) → level.within ≡ Some carried → CarriesFirst objects carried arguments
  pub alone : level.wrote ≡ None

-- a deletion is at the level of a node, and in no set
pub record DeletionStands (p : Loaded) {certificate : SettlingCertificate} (level : Level certificate) (P : Node → Type 0) : Type 0 where
  pub node : Node
  pub is : IsLineOf p certificate node level.line
  pub stands : P node
  pub free : level.within ≡ None
  pub alone : level.wrote ≡ None

-- a property that is still to be notified is no higher than a line; and has left the set, if the level is in one
pub record IsFollower (p : Loaded) (cost : ℕ → ℕ) (classes : ℕ → Option ℕ) {certificate : SettlingCertificate} (level : Level certificate) (place : Place) : Type 0 where
  pub node : Node
  pub at : IsAtNode classes place node
  pub low : (upper : SettlingLine) → IsLineOf p certificate node upper → IsNoHigher p level.line upper
  pub leaves : (upper : SettlingLine) → IsLineOf p certificate node upper → Leaves cost level.within level.line upper

-- the property of a set that was written, at its line
pub record IsWrittenIn (p : Loaded) (classes : ℕ → Option ℕ) {certificate : SettlingCertificate} (level : Level certificate) (carried : Carried) (place : Place) : Type 0 where
  pub there : IsPlaceIn p certificate classes carried.set place
  pub is : IsLineOf p certificate there.node level.line

-- an update after a write that left the set, or was in none; or after a write of a property of the set, from within it, which may
-- be all that changed
pub data UpdateStands (p : Loaded) (cost : ℕ → ℕ) (classes : ℕ → Option ℕ) {certificate : SettlingCertificate} (places : List Place) (level : Level certificate) : Type 0 where
  outside : level.wrote ≡ None → AllByRecursion (λ q. IsFollower p cost classes level q) places → UpdateStands p cost classes places level
  wrote : {carried : Carried} {written : Place} → level.within ≡ Some carried → level.wrote ≡ Some written → IsWrittenIn p classes level carried written
      → AllByRecursion (λ q. (q ≡ written) ⊎ IsFollower p cost classes level q) places → UpdateStands p cost classes places level

abbrev pub Stands : (p : Loaded) (cost : ℕ → ℕ) → (ℕ → Option ℕ) → List Object → {certificate : SettlingCertificate} → Activation → Level certificate → Type 0
Stands p cost classes objects (Body o m arguments left) level = MethodStands p objects arguments level (BodyStands p objects o m arguments left)
Stands p cost classes objects (Emit o g arguments used last) level = MethodStands p objects arguments level (EmitStands classes o g)
Stands p cost classes objects (Update places) level = UpdateStands p cost classes places level
Stands p cost classes objects (Destroy next torn) level = DeletionStands p level (DestroyStands p classes next torn)

-- the activations of a stack are at these levels, each of which stands on those below it
abbrev pub Stacked : (p : Loaded) (cost : ℕ → ℕ) → (ℕ → Option ℕ) → List Object → {certificate : SettlingCertificate} → List Activation → List (Level certificate) → Type 0
Stacked p cost classes objects [] [] = Unit {0}
Stacked p cost classes objects [] (level ∷ levels) = ⊥
Stacked p cost classes objects (a ∷ stack) [] = ⊥
Stacked p cost classes objects (a ∷ stack) (level ∷ levels) =
    Stands p cost classes objects a level × IsWell p classes level × FallsTo p cost objects levels level × Stacked p cost classes objects stack levels

-- what a run keeps
pub record Holds (p : Loaded) (cost : ℕ → ℕ) (certificate : SettlingCertificate) (classes : ℕ → Option ℕ) (s : State) : Type 0 where
  pub covered : IsCovered p classes s.objects s.connected.connections s.bindings
  pub levels : List (Level certificate)
  pub stacked : Stacked p cost classes s.objects s.stack levels
  pub written : HaveWritten s.objects levels
