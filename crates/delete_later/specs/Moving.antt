-- Objects that move to another event loop (docs/machine.md, "Objects"; Qt 6, `QObject::moveToThread`: an object moves with
-- its children, and the events that are posted for it move along; one that has a parent can't be moved).
use Rattle.std.specs.Prelude.{◌≡◌, ◌≢◌, ℕ, ◌<◌, ◌≤◌, true, false, List, length, Result, Ok, Err, None, Some, IsSome}
use Rattle.meta_model.specs.Loaded.{Loaded}
use Rattle.object_tree.specs.Family.{parent_of}
use Rattle.object_tree.specs.Moving.{AreBelow, all_in_loop}
use Rattle.object_tree.specs.Objects.{home_of}
use Rattle.event_loops.specs.Queues.{Queues, rehomed}
use Rattle.binding_graph.specs.declared.binding.Binding.{Binding}
use Rattle.binding_graph.specs.Bindings.{lead_out}
use Rattle.prop_bindings.specs.Fits.{Agree}
use Rattle.delete_later.specs.declared.fault.MoveFault.{MoveFault}
use Rattle.delete_later.specs.declared.fault.MoveFault.TheVariants.{NoLoop, HasParent, Bound, Memory}
use Rattle.delete_later.specs.declared.store.Store.{Store}

-- the object and its living descendants, reached through living objects, go to another loop, and so does what waits for
-- them; no binding joins one of them with another object
pub record Moves (object home : ℕ) (old new : Store) : Type 0 where
  pub objects : List ℕ
  pub below : AreBelow old.tree object objects
  pub alone : lead_out objects old.bindings ≡ false
  pub moved : new ≡ record old { tree = all_in_loop objects home old.tree; loops = rehomed objects home old.loops }

-- a binding joins one of the object and its living descendants with another object
pub record IsBoundOut (object : ℕ) (s : Store) : Type 0 where
  pub objects : List ℕ
  pub below : AreBelow s.tree object objects
  pub out : lead_out objects s.bindings ≡ true

-- an object that has no parent moves to a loop that is there; to its own loop nothing changes
pub record IsMoved (object home : ℕ) (old new : Store) : Type 0 where
  pub there : home < length old.loops.loops
  pub root : parent_of old.tree object ≡ None
  pub same : home_of old.tree object ≡ Some home → new ≡ old
  pub other : home_of old.tree object ≢ Some home → Moves object home old new

-- why it doesn't: the first of these that holds; or memory was refused
pub data IsNotMoved (object home : ℕ) (s : Store) : MoveFault → Type 0 where
  no_loop : length s.loops.loops ≤ home → IsNotMoved object home s NoLoop
  has_parent : home < length s.loops.loops → IsSome (parent_of s.tree object) → IsNotMoved object home s HasParent
  bound : home < length s.loops.loops → parent_of s.tree object ≡ None → home_of s.tree object ≢ Some home
      → IsBoundOut object s → IsNotMoved object home s Bound
  no_memory : IsNotMoved object home s Memory

-- what a move of a living object answers, with the stores before and after it
abbrev pub MovesOrNot : ℕ → ℕ → Store → Result (Unit {0}) MoveFault → Store → Type 0
MovesOrNot object home old (Ok done) new = IsMoved object home old new
MovesOrNot object home old (Err fault) new = IsNotMoved object home old fault × (new ≡ old)

-- what agreed goes on to: the objects of a binding still live in one loop
abbrev pub StayAgreeing : Store → Store → Type 0
StayAgreeing old new = (p : Loaded) → Agree p old.tree old.bindings → Agree p new.tree new.bindings

-- ---- a part of these, as the code does it
-- these objects live in this loop, and what waits for them does so there; all else is as it was
abbrev pub moved_to : List ℕ → ℕ → Store → Store
moved_to objects home s = record s {
  tree = all_in_loop objects home s.tree;
  loops = rehomed objects home s.loops;
}

-- why what waits for these objects doesn't follow them
pub data DontFollow (objects : List ℕ) (home : ℕ) (bindings : List Binding) (loops : Queues) : MoveFault → Type 0 where
  bound_out : lead_out objects bindings ≡ true → DontFollow objects home bindings loops Bound
  no_such_loop : length loops.loops ≤ home → DontFollow objects home bindings loops NoLoop
  memory : DontFollow objects home bindings loops Memory
