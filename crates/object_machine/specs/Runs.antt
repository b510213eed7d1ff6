-- Runs of the machine (docs/machine.md, "Runs").
use Rattle.std.specs.Prelude.{◌≡◌, ℕ, suc, List, [], ◌∷◌, ◌++◌}
use Rattle.script_lang.specs.declared.event.Event.{Event}
use Rattle.meta_model.specs.Loaded.{Loaded}
use Rattle.trace_entries.specs.declared.fault.Answer.{Answer}
use Rattle.machine_state.specs.State.{State, IsIdle}
use Rattle.machine_rules.specs.Natives.{NativeAnswers}
use Rattle.machine_rules.specs.Rules.{Rule}
use Rattle.machine_rules.specs.Good.{IsGood}
use Rattle.object_machine.specs.Takes.{Takes}

-- A run from s, with so many rules left, to t, with so many left. Each state follows the one before it by one rule, or by
-- the taking of the next of these events with the next of these answers, which counts as one rule. Nothing is forbidden.
pub data Run (p : Loaded) (natives : NativeAnswers) : State → ℕ → List Event → List Answer → State → ℕ → Type 0 where
  done : {s : State} {n : ℕ} → Run p natives s n [] [] s n
  goes : {s m t : State} {n k : ℕ} {events : List Event} {answers : List Answer} →
      Rule p natives s m → Run p natives m n events answers t k → Run p natives s (suc n) events answers t k
  takes : {s m t : State} {n k : ℕ} {e : Event} {a : Answer} {events : List Event} {answers : List Answer} →
      Takes p e a s m → Run p natives m n events answers t k → Run p natives s (suc n) (e ∷ events) (a ∷ answers) t k

-- each step of a run is so
abbrev pub Each : {p : Loaded} {natives : NativeAnswers} {s t : State} {n k : ℕ} {events : List Event} {answers : List Answer} →
    (State → State → Type 0) → Run p natives s n events answers t k → Type 0
Each Holds done = Unit {0}
Each Holds (goes {s = s} {m = m} x rest) = Holds s m × Each Holds rest
Each Holds (takes {s = s} {m = m} x rest) = Holds s m × Each Holds rest

-- each rule of a run is so, where it leaves so many rules
abbrev pub EachRule : {p : Loaded} {natives : NativeAnswers} {s t : State} {n k : ℕ} {events : List Event} {answers : List Answer} →
    (ℕ → State → State → Type 0) → Run p natives s n events answers t k → Type 0
EachRule Holds done = Unit {0}
EachRule Holds (goes {s = s} {m = m} {n = n} x rest) = Holds n s m × EachRule Holds rest
EachRule Holds (takes x rest) = EachRule Holds rest

-- a run without a bad moment
pub record GoodRun (p : Loaded) (natives : NativeAnswers) (depth : ℕ) (s : State) (n : ℕ) (events : List Event) (answers : List Answer)
    (t : State) (k : ℕ) : Type 0 where
  pub run : Run p natives s n events answers t k
  pub good : Each (IsGood p depth) run

-- a whole run without a bad moment: it takes all these events, and ends where nothing is going on
pub record RunsWhole (p : Loaded) (natives : NativeAnswers) (depth : ℕ) (s : State) (n : ℕ) (events : List Event) (answers : List Answer)
    (t : State) (k : ℕ) : Type 0 where
  pub runs : GoodRun p natives depth s n events answers t k
  pub ends : IsIdle t

-- a run without a bad moment that takes a front of these events
pub record RunsPrefix (p : Loaded) (natives : NativeAnswers) (depth : ℕ) (s : State) (n : ℕ) (events : List Event) (t : State) (k : ℕ) : Type 0 where
  pub taken : List Event
  pub rest : List Event
  pub split : events ≡ taken ++ rest
  pub answers : List Answer
  pub runs : GoodRun p natives depth s n taken answers t k

-- ---- what may come next

-- t follows s by one rule, or by the taking of the first of these events
pub data Follows (p : Loaded) (natives : NativeAnswers) (s t : State) : List Event → Type 0 where
  by_rule : {events : List Event} → Rule p natives s t → Follows p natives s t events
  by_event : {e : Event} {a : Answer} {events : List Event} → Takes p e a s t → Follows p natives s t (e ∷ events)

-- a rule is due: something is going on, or else an event is next
pub data IsDue (s : State) : List Event → Type 0 where
  goes_on : {events : List Event} → (¬ IsIdle s) → IsDue s events
  is_next : {e : Event} {events : List Event} → IsIdle s → IsDue s (e ∷ events)
