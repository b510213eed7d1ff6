-- That an event has one answer (docs/machine.md, "Events"), and a program one run, in which all values are settled
-- (docs/machine.md, "Runs" and "Bindings").
use Rattle.std.specs.Prelude.{◌≡◌, ℕ, ◌⊎◌, List, [], ◌++◌, Result, Ok, Err}
use Rattle.meta_model.specs.Loaded.{Loaded}
use Rattle.meta_model.specs.Sound.{IsSound}
use Rattle.native_slots.specs.declared.action.Action.{Action}
use Rattle.prop_bindings.specs.Fits.{Agree}
use Rattle.script_lang.specs.declared.event.Event.{Event}
use Rattle.trace_entries.specs.declared.entry.Entry.{Entry}
use Rattle.trace_entries.specs.declared.fault.Answer.{Answer}
use Rattle.trace_entries.specs.declared.refusal.Refusal.{Refusal}
use Rattle.machine_state.specs.State.{State}
use Rattle.machine_state.specs.Worlds.{at, untouched}
use Rattle.machine_rules.specs.Good.{IsWell, IsAcyclic, AreSettled}
use Rattle.machine_rules.specs.Natives.{NativeAnswers, AnswersOnce}
use Rattle.machine_rules.specs.code.Keeps.{Grows}
use Rattle.machine_rules.specs.Rules.{Rule}
use Rattle.object_machine.specs.Runs.{Run, EachRule, GoodRun, RunsWhole, RunsPrefix}
use Rattle.object_machine.specs.Takes.{Takes}
use Rattle.object_machine.specs.Events.{judged}

-- ---- one answer

abbrev pub IsAcyclicIn : Result State Refusal → Type 0
IsAcyclicIn (Ok t) = IsAcyclic t
IsAcyclicIn (Err k) = Unit {0}

-- Where properties and bindings agree, an event is accepted with one effect, or refused for one reason, and not both; but
-- a bind by which a chain of bindings closes may have several effects, which are bad moments.
abbrev pub OneJudgement : Type 0
OneJudgement =
    (p : Loaded) (s : State) (e : Event) (a b : Result State Refusal) → IsSound p → Agree p s.objects s.bindings →
    judged p s e a → judged p s e b → IsAcyclicIn a → a ≡ b

-- So an event is taken with one answer, and at most one state follows by it, unless a chain of bindings closes.
abbrev pub OneTaking : Type 0
OneTaking =
    (p : Loaded) (e : Event) (a b : Answer) (s t u : State) → IsSound p → Agree p s.objects s.bindings →
    Takes p e a s t → Takes p e b s u → IsAcyclic t → (a ≡ b) × (t ≡ u)

-- ---- one run

-- where natives have one answer to one question: from one state, with so many rules left, all whole runs of these events
-- without a bad moment give the same answers and end in one state with the same rules left: the trace of that state is the
-- trace
abbrev pub OneRun : NativeAnswers → Type 0
OneRun natives =
    AnswersOnce natives → (p : Loaded) (depth : ℕ) (s : State) (n : ℕ) (events : List Event) (x y : List Answer) (t u : State) (j k : ℕ) →
    IsSound p → Agree p s.objects s.bindings →
    RunsWhole p natives depth s n events x t j → RunsWhole p natives depth s n events y u k → (x ≡ y) × (t ≡ u) × (j ≡ k)

-- in a run natives answer so: this is the list of actions of one that is asked by a rule that leaves so many rules
abbrev pub AnswersAre : {p : Loaded} {natives : NativeAnswers} {s t : State} {n k : ℕ} {events : List Event} {answers : List Answer} →
    (ℕ → List Action) → Run p natives s n events answers t k → Type 0
AnswersAre {p} said run = EachRule (λ left s m. Rule p (λ class sig arguments reads actions. actions ≡ said left) s m) run

-- Whatever natives may answer: of two whole runs in which they answered alike both give the same answers and end in one state
-- with the same rules left.
abbrev pub OneRunOfAnswers : NativeAnswers → Type 0
OneRunOfAnswers natives =
    (said : ℕ → List Action) (p : Loaded) (depth : ℕ) (s : State) (n : ℕ) (events : List Event) (x y : List Answer) (t u : State) (j k : ℕ) →
    IsSound p → Agree p s.objects s.bindings →
    (a : RunsWhole p natives depth s n events x t j) (b : RunsWhole p natives depth s n events y u k) →
    AnswersAre said a.runs.run → AnswersAre said b.runs.run → (x ≡ y) × (t ≡ u) × (j ≡ k)

-- one run is a front of another: from where it ends a run leads on to where the other ends, and writes on
pub record IsPrefix {p : Loaded} {natives : NativeAnswers} {depth : ℕ} {s : State} {n : ℕ} {events : List Event} {t u : State} {j k : ℕ}
    (a : RunsPrefix p natives depth s n events t j) (b : RunsPrefix p natives depth s n events u k) : Type 0 where
  pub more : List Event
  pub taken : b.taken ≡ a.taken ++ more
  pub said : List Answer
  pub answers : b.answers ≡ a.answers ++ said
  pub runs : GoodRun p natives depth t j more said u k
  pub grows : Grows t.trace u.trace

-- of two runs of fronts of one list of events, from one state and with as many rules left, one goes on where the other
-- ends, and writes after what that one wrote: so a run that stops on the way is a front of the whole one
abbrev pub OnePrefix : NativeAnswers → Type 0
OnePrefix natives =
    AnswersOnce natives → (p : Loaded) (depth : ℕ) (s : State) (n : ℕ) (events : List Event) (t u : State) (j k : ℕ) →
    IsSound p → Agree p s.objects s.bindings →
    (a : RunsPrefix p natives depth s n events t j) (b : RunsPrefix p natives depth s n events u k) → IsPrefix a b ⊎ IsPrefix b a

-- two such runs are so whatever natives may answer, if they answered alike in both: what a run wrote that stopped, be
-- it that memory ran out, is a prefix of what each longer run with the same answers writes
abbrev pub OnePrefixOfAnswers : NativeAnswers → Type 0
OnePrefixOfAnswers natives =
    (said : ℕ → List Action) (p : Loaded) (depth : ℕ) (s : State) (n : ℕ) (events : List Event) (t u : State) (j k : ℕ) →
    IsSound p → Agree p s.objects s.bindings →
    (a : RunsPrefix p natives depth s n events t j) (b : RunsPrefix p natives depth s n events u k) →
    AnswersAre said a.runs.run → AnswersAre said b.runs.run → IsPrefix a b ⊎ IsPrefix b a

-- ---- settled values

-- what follows by an event that gives no value of a wrong type and closes no chain of bindings keeps properties and
-- bindings in agreement: it settles the values again
abbrev pub TakingSettles : Type 0
TakingSettles =
    (p : Loaded) (e : Event) (a : Answer) (s t : State) → IsSound p → Agree p s.objects s.bindings →
    Takes p e a s t → IsWell p s t → IsAcyclic t → Agree p t.objects t.bindings

-- In every state that a run without a bad moment comes to, of a program that loads, all values are settled, and no chain of
-- bindings leads from a property back to itself: whatever was connected, bound, written and deleted, and whatever is going on.
abbrev pub AlwaysSettled : NativeAnswers → Type 0
AlwaysSettled natives =
    (p : Loaded) (depth steps : ℕ) (events : List Event) (answers : List Answer) (t : State) (k : ℕ) → IsSound p →
    GoodRun p natives depth (at (untouched steps) []) steps events answers t k → AreSettled t × IsAcyclic t

-- ---- what was written before

-- a state in which more was written down before
abbrev pub in_front : List Entry → State → State
in_front front s = record s { trace = front ++ s.trace }

-- a rule reads nothing of what was written down, and only adds to it
abbrev pub ReadsNoTrace : NativeAnswers → Type 0
ReadsNoTrace natives =
    (p : Loaded) (front : List Entry) (s t : State) → Rule p natives s t → Rule p natives (in_front front s) (in_front front t)

-- A run reads nothing of what was written down before, and only adds to it: so one that goes on without it is the same run.
abbrev pub RunReadsNoTrace : NativeAnswers → Type 0
RunReadsNoTrace natives =
    (p : Loaded) (front : List Entry) (s t : State) (n k : ℕ) (events : List Event) (answers : List Answer) →
    Run p natives s n events answers t k → Run p natives (in_front front s) n events answers (in_front front t) k
