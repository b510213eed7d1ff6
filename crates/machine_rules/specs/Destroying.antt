-- What a deletion does, and how one is scheduled (docs/machine.md, "Destruction"; Qt 6, `QObject::~QObject`,
-- `QObject::deleteLater` and "Object Trees & Ownership").
use Rattle.std.specs.Prelude.{◌≡◌, ℕ, suc, List, [], ◌∷◌, ◌++◌, length, Option, None, Some, Bool, true, false, MatchBool, MatchOption}
use Rattle.std.specs.List.{find}
use Rattle.basic_types.specs.declared.value.Value.TheVariants as value
use Rattle.meta_model.specs.declared.qobject.TheConstants.{DESTROYED}
use Rattle.meta_model.specs.QObject.{destroyed}
use Rattle.delete_later.specs.Ending.{died_in, ended_in}
use Rattle.delete_later.specs.Scheduling.{scheduled_with}
use Rattle.event_loops.specs.Queues.{HasName}
use Rattle.object_tree.specs.declared.life.Life.{Life}
use Rattle.object_tree.specs.Family.{children_of}
use Rattle.object_tree.specs.Objects.{name_of}
use Rattle.trace_entries.specs.declared.entry.Entry.{Entry}
use Rattle.trace_entries.specs.declared.entry.Entry.TheVariants.{At}
use Rattle.trace_entries.specs.declared.entry.EntryKind.TheVariants as entry_kind
use Rattle.trace_entries.specs.declared.entry.Shown.TheVariants as show
use Rattle.machine_state.specs.Connections.{is_living}
use Rattle.machine_state.specs.State.{State, Activation, Emit, Destroy}
use Rattle.machine_state.specs.Worlds.{store_of, with_store}

-- ---- an object is deleted

-- the deletion of an object begins; nothing is written down
abbrev pub deleting : State → List Activation → ℕ → State
deleting s below x = record s { stack = Destroy (Some x) [] ∷ below }

-- Object x dies, over a stack with the deletion on top: it leaves its parent, the bindings go whose target or source it is,
-- and its `destroyed` is emitted, whether it was blocked or not. The signal's argument would be a reference to x, which
-- reads as null from now on.
pub record Dies (s : State) (stack : List Activation) (x : ℕ) (t : State) : Type 0 where
  pub name : List ℕ
  pub named : name_of s.objects x ≡ Some name
  pub gives : t ≡ record (with_store s (died_in x (store_of s))) {
    stack = Emit x DESTROYED (value.Ref None ∷ []) 0 s.connected.last ∷ stack;
    trace = s.trace ++ At (length stack) (entry_kind.Died name)
        ∷ At (suc (length stack)) (entry_kind.Emitted name destroyed.name (show.Null ∷ []) false) ∷ [];
  }

-- The object that is deleted next dies, if it lives; it is forgotten when its `destroyed` has ended, and then it is the
-- latest of those that are torn down: no connection leads from or to it any more, and nothing waits for it. The first living
-- child of the latest of those that are torn down dies, in the order of adoption; where it has none left, it isn't torn down
-- any more. With no object left a deletion ends.
abbrev pub DestroyRule : State → List Activation → State → Option ℕ → List ℕ → Type 0
DestroyRule s below t (Some x) torn =
    MatchBool (is_living s.objects x) (Dies s (Destroy (Some x) torn ∷ below) x t)
    (t ≡ record (with_store s (ended_in x (store_of s))) { stack = Destroy None (x ∷ torn) ∷ below })
DestroyRule s below t None [] = t ≡ record s { stack = below }
DestroyRule s below t None (parent ∷ torn) =
    MatchOption (find (is_living s.objects) (children_of s.objects parent)) (t ≡ record s { stack = Destroy None torn ∷ below })
    (λ x. Dies s (Destroy (Some x) (parent ∷ torn) ∷ below) x t)

-- ---- an object is scheduled to be deleted

-- what is written down of an object that lives this life: the names of the event loop in which it lives, and of the object;
-- nothing where it is scheduled already, or lives no more
pub data TellsSchedule (s : State) (depth x : ℕ) : Option Life → List Entry → Type 0 where
  scheduled_now : {l : Life} {loop name : List ℕ} →
      l.scheduled ≡ false → HasName s.queues.loops loop l.home → name_of s.objects x ≡ Some name →
      TellsSchedule s depth x (Some l) (At depth (entry_kind.Scheduled loop name) ∷ [])
  scheduled_before : {l : Life} → l.scheduled ≡ true → TellsSchedule s depth x (Some l) []
  not_living : TellsSchedule s depth x None []

-- object x, which lives this life, is scheduled; the stack stays as it is
pub record Schedules (s : State) (stack : List Activation) (x : ℕ) (t : State) (life : Option Life) : Type 0 where
  pub lines : List Entry
  pub told : TellsSchedule s (length stack) x life lines
  pub gives : t ≡ record (with_store s (scheduled_with life x (store_of s))) { stack = stack; trace = s.trace ++ lines }

-- ---- parts of these, each as the code does it

-- object x, of this name, has died
abbrev pub died : State → List Activation → ℕ → List ℕ → State
died s stack x name = record (with_store s (died_in x (store_of s))) {
  stack = Emit x DESTROYED (value.Ref None ∷ []) 0 s.connected.last ∷ stack;
  trace = s.trace ++ At (length stack) (entry_kind.Died name)
      ∷ At (suc (length stack)) (entry_kind.Emitted name destroyed.name (show.Null ∷ []) false) ∷ [];
}

-- the object that is deleted next dies, if it lives, or is forgotten
abbrev pub NextRule : State → List Activation → State → ℕ → List ℕ → Bool → Type 0
NextRule s below t x torn lives =
    MatchBool lives (Dies s (Destroy (Some x) torn ∷ below) x t)
    (t ≡ record (with_store s (ended_in x (store_of s))) { stack = Destroy None (x ∷ torn) ∷ below })

-- this child of the latest of those that are torn down dies, or there is none
abbrev pub ChildRule : State → List Activation → State → ℕ → List ℕ → Option ℕ → Type 0
ChildRule s below t parent torn child =
    MatchOption child (t ≡ record s { stack = Destroy None torn ∷ below }) (λ x. Dies s (Destroy (Some x) (parent ∷ torn) ∷ below) x t)

-- no connection leads from or to the object any more, and nothing waits for it
abbrev pub forgotten : State → ℕ → State
forgotten s x = with_store s (ended_in x (store_of s))

-- the first living child of an object, in the order of adoption
abbrev pub living_child : State → ℕ → Option ℕ
living_child s parent = find (is_living s.objects) (children_of s.objects parent)
