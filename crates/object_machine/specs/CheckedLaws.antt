-- That no run of a checked program comes to what is never claimed of it: the laws behind the claims (docs/machine.md,
-- "Faults"; docs/certificate.md, "The check").
use Rattle.std.specs.Prelude.{ℕ, ◌≤◌, List, [], length}
use Rattle.script_lang.specs.declared.event.Event.{Event}
use Rattle.meta_model.specs.{Loaded.{Loaded}, Sound.{IsSound}, declared.effects.MetaEffects.{MetaEffects}}
use Rattle.certificate_lang.specs.declared.certificate.Certificate.{Certificate}
use Rattle.rank_check.specs.Valid.{IsValid}
use Rattle.native_slots.specs.Promises.{Takes, Promises}
use Rattle.trace_entries.specs.{declared.fault.Answer.{Answer}, declared.fault.Fault.{Fault}}
use Rattle.machine_state.specs.{State.{State, IsIdle}, Worlds.{at, untouched}, Telling.{Assigning, writes_of}}
use Rattle.machine_rules.specs.{Good.{HasArguments, Spares, IsAcyclic, AreSettled, IsTyped}, code.Lacking.{LacksFirst}, Next.{DoesNext, WritesNext, LacksValue}, Natives.{NativeAnswers}, Rules.{Rule}, Operations.{TakeAnswer}}
use Rattle.object_machine.specs.{Causes.{StopsFor}, Checked.{IsLimit}, Runs.{Run, Each, GoodRun, Follows}}

-- ---- every step of every run

-- the claims, of a step of a run that may nest so deep
pub record IsFaultless (p : Loaded) (depth : ℕ) (s t : State) : Type 0 where
  -- what was pushed, so every call that is delivered, has the arguments that its method declares
  pub arguments : HasArguments p s t
  -- no chain of bindings leads from a property back to itself
  pub acyclic : IsAcyclic t
  -- no object dies while a body of it is active
  pub spared : Spares s t
  -- activations nest no deeper than the depth
  pub shallow : length t.stack ≤ depth
  -- no expression lacks a value, no condition a truth value, and no property a value of its type
  pub typed : IsTyped p t
  -- each bound property has the value of its binding's expression
  pub settled : AreSettled t

-- A state that a run comes to, with so many rules left, in a program that loads and has a valid certificate, with natives that
-- keep what it declares of them: from the beginning, by whatever events. Nothing else is asked of the run.
pub record IsReached (accepts : Takes) (natives : NativeAnswers) (p : Loaded) (certificate : Certificate) (s : State) (left : ℕ) : Type 0 where
  pub sound : IsSound p
  pub valid : IsValid p certificate
  pub promises : Promises p accepts natives
  pub steps : ℕ
  pub taken : List Event
  pub answers : List Answer
  pub run : Run p natives (at (untouched steps) []) steps taken answers s left

-- each step of each run from there is faultless: whatever events come, and whatever natives answer
abbrev pub EachRunIsFaultless : Takes → NativeAnswers → Type 0
EachRunIsFaultless accepts natives =
    (p : Loaded) (certificate : Certificate) (s t : State) (left after : ℕ) (events : List Event) (answers : List Answer) →
    IsReached accepts natives p certificate s left → (run : Run p natives s left events answers t after) →
    Each (IsFaultless p certificate.bound) run

-- whatever may follow from a state that is reached is faultless, whether it may be carried out or not
abbrev pub EachIsFaultless : Takes → NativeAnswers → Type 0
EachIsFaultless accepts natives =
    (p : Loaded) (certificate : Certificate) (s t : State) (left : ℕ) (next : List Event) →
    IsReached accepts natives p certificate s left → Follows p natives s t next → IsFaultless p certificate.bound s t

-- ---- why a run stops

-- a run stops for no other reason, whatever events come next
abbrev pub StopsAtLimits : Takes → NativeAnswers → Type 0
StopsAtLimits accepts natives =
    (p : Loaded) (certificate : Certificate) (s : State) (left rules : ℕ) (next : List Event) (fault : Fault) →
    IsReached accepts natives p certificate s left → StopsFor p natives certificate.bound s rules next fault → IsLimit fault

-- ---- whatever natives answer, if they keep what the program declares of them or not

-- in a run without a bad moment that may nest as deep as the bound, whatever events it has taken, no state is so
abbrev pub Never : NativeAnswers → (Loaded → Certificate → State → ℕ → Type 0) → Type 0
Never natives Is =
    (p : Loaded) (certificate : Certificate) (s : State) (steps left : ℕ) (taken : List Event) (answers : List Answer) →
    IsSound p → IsValid p certificate → GoodRun p natives certificate.bound (at (untouched steps) []) steps taken answers s left →
    ¬ Is p certificate s left

-- no such run stops for this fault, whatever events come next: nothing is too deep, in use, or a chain that closes
abbrev pub NeverStops : Fault → NativeAnswers → Type 0
NeverStops fault natives = (next : List Event) → Never natives (λ p certificate s left. StopsFor p natives certificate.bound s left next fault)

-- in no such run does an expression lack a value, or a condition a truth value
abbrev pub NeverLacksValue : NativeAnswers → Type 0
NeverLacksValue natives = Never natives (λ p certificate s left. LacksValue s)

-- something goes on, and no rule follows; a step that writes, only where a property isn't there. What a native is to
-- answer is not asked.
pub record LacksRule (p : Loaded) (natives : NativeAnswers) (s : State) : Type 0 where
  pub goes_on : ¬ IsIdle s
  pub none : (t : State) → ¬ Rule p natives s t
  pub writes_none : (what : Assigning) → WritesNext s what → LacksFirst p s.objects (writes_of what)
  pub asks_none : (effects : MetaEffects) → ¬ DoesNext s (TakeAnswer effects)

-- in no such run is a rule lacking so
abbrev pub NeverStuck : NativeAnswers → Type 0
NeverStuck natives = Never natives (λ p certificate s left. LacksRule p natives s)
