-- What contracts see of a machine, and what its calls do (docs/machine.md, "Runs").
use Rattle.std.specs.Prelude.{◌≡◌, ℕ, ◌⊎◌, Bool, false, true, List, [], ◌++◌, Result, Ok, Err, None}
use Rattle.script_lang.specs.declared.event.Event.{Event}
use Rattle.meta_model.specs.Loaded.{Loaded}
use Rattle.delete_later.specs.Scheduling.{empty}
use Rattle.machine_state.specs.{declared.world.World.{World}, State.{State, Activation, IsIdle}, Worlds.{at}}
use Rattle.trace_entries.specs.{declared.entry.Entry.{Entry}, declared.fault.Answer.{Answer}, declared.fault.Answer.TheVariants.{Refused}, declared.fault.Fault.{Fault}, declared.refusal.Refusal.{Refusal}, Refusals.{refusal_number}}
use Rattle.trace_entries.specs.declared.fault.Fault.TheVariants as fault
use Rattle.native_slots.specs.Promises.{Takes}
use Rattle.machine_rules.specs.{Good.{AreSettled}, Natives.{NativeAnswers, KeepPromises}}
use Rattle.object_machine.specs.{Causes.{StopsFor}, Runs.{Run, Each, GoodRun, RunsPrefix}, Takes.{IsRefusedAs}, Events.{judged}}

pub record Seen (N : Type 0) : Type 0 where
  pub program : Loaded
  pub natives : N
  -- how many activations may nest
  pub depth : ℕ
  pub world : World
  pub stopped : Bool

-- a machine that has done nothing, and may use so many rules: nothing is there but the loop `main`
abbrev pub begun : {N : Type 0} → Loaded → N → ℕ → ℕ → Seen N
begun program natives depth steps =
    record { program = program; natives = natives; depth = depth; world = record { store = empty; turn = None; trace = []; events = 0; left = steps }; stopped = false }

-- the natives of a machine keep what its program declares of them
abbrev pub AreKept : {N : Type 0} → (N → Takes) → (N → NativeAnswers) → Seen N → Type 0
AreKept takes gives m = KeepPromises takes gives m.program m.natives

-- the machine took these events with these answers, by a whole run without a bad moment, and goes on
pub record Completes {N : Type 0} (gives : N → NativeAnswers) (before : Seen N) (events : List Event) (answers : List Answer)
    (after : Seen N) : Type 0 where
  pub went : before.stopped ≡ false
  pub same : after ≡ record before { world = after.world }
  pub runs : GoodRun before.program (gives before.natives) before.depth (at before.world []) before.world.left events answers (at after.world []) after.world.left
  pub ends : IsIdle (at after.world [])

-- The machine stopped on the way through these events, for this fault: a run of a front of them without a bad moment led to
-- a state in which what comes next, or memory, is the cause.
pub record Halts {N : Type 0} (gives : N → NativeAnswers) (before : Seen N) (events : List Event) (f : Fault) (after : Seen N)
    : Type 0 where
  pub went : before.stopped ≡ false
  pub same : after ≡ record before { world = after.world; stopped = true }
  pub stack : List Activation
  pub front : RunsPrefix before.program (gives before.natives) before.depth (at before.world []) before.world.left events (at after.world stack) after.world.left
  pub cause : StopsFor before.program (gives before.natives) before.depth (at after.world stack) after.world.left front.rest f

-- a machine that has stopped does nothing more
pub record Stays {N : Type 0} (before : Seen N) (f : Fault) (after : Seen N) : Type 0 where
  pub stopped : before.stopped ≡ true
  pub answers : f ≡ fault.Stopped
  pub same : after ≡ before

-- the machine took all these events; or it stopped on the way, or had stopped before
abbrev pub RunsAll : {N : Type 0} → (N → NativeAnswers) → Seen N → List Event → Result (Unit {0}) Fault → Seen N → Type 0
RunsAll gives before events (Ok done) after = (answers : List Answer) × Completes gives before events answers after
RunsAll gives before events (Err f) after = Halts gives before events f after ⊎ Stays before f after

-- the machine stopped on the way, or had stopped before
abbrev pub Stops : {N : Type 0} → (N → NativeAnswers) → Seen N → List Event → Fault → Seen N → Type 0
Stops gives before events f after = Halts gives before events f after ⊎ Stays before f after

-- each bound property has the value of its binding's expression
abbrev pub IsSettled : {N : Type 0} → Seen N → Type 0
IsSettled m = AreSettled (at m.world [])

-- In each run from where the machine stands, each step is so: whatever events come, and whatever natives answer. Of a machine
-- that has stopped this says nothing.
abbrev pub InEachRun : {N : Type 0} → (N → NativeAnswers) → Seen N → (State → State → Type 0) → Type 0
InEachRun gives m Holds =
    m.stopped ≡ false → (events : List Event) (answers : List Answer) (t : State) (left : ℕ) →
    (run : Run m.program (gives m.natives) (at m.world []) m.world.left events answers t left) → Each Holds run

-- a machine that has let go what it had written down
abbrev pub cleared : {N : Type 0} → Seen N → Seen N
cleared m = record m { world = record m.world { trace = [] } }

-- a machine that had written this down before
abbrev pub with_front : {N : Type 0} → List Entry → Seen N → Seen N
with_front front m = record m { world = record m.world { trace = front ++ m.world.trace } }

-- ---- refused events

-- The event is refused exactly where its conditions refuse it, with the number of the first that doesn't hold; then only its
-- line is written.
pub record RefusesExactly {N : Type 0} (before : Seen N) (e : Event) (answer : Answer) (after : Seen N) : Type 0 where
  pub must : (k : Refusal) → judged before.program (at before.world []) e (Err k) → answer ≡ Refused (refusal_number k)
  pub may : (n : ℕ) → answer ≡ Refused n → IsRefusedAs before.program before.world e n after.world
