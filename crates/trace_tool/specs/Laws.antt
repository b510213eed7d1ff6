-- Laws on what runs and command lines come to (docs/commands.md, "Exit status"; docs/machine.md, "Runs").
use Rattle.std.specs.Prelude.{◌≡◌, ◌≢◌, ◌⊎◌, ℕ, List, [], Result, Ok, Err}
use Rattle.meta_model.specs.{Loaded.{Loaded}, Sound.{IsSound}}
use Rattle.native_slots.specs.{declared.action.Action.{Action}, declared.head.NativeHead.{NativeHead}}
use Rattle.script_lang.specs.declared.event.Event.{Event}
use Rattle.trace_entries.specs.{declared.fault.Answer.{Answer}, declared.fault.Fault.{Fault}, declared.fault.Fault.TheVariants.{Steps}}
use Rattle.machine_state.specs.{State.{State}, Worlds.{at, untouched}}
use Rattle.machine_rules.specs.{Natives.{NativeAnswers, AnswersOnce}, code.Keeps.{Grows}}
use Rattle.object_machine.specs.{Laws.{AnswersAre}, Runs.{RunsWhole}, Seen.{Seen, Halts, begun}}
use Rattle.program_commands.specs.{Commands.{IsSameOutcome as IsSameOfProgram}, Refusals.{usage_line, memory_line}}
use Rattle.command_lines.specs.declared.input.InputFault.{InputFault}
use Rattle.trace_tool.specs.{declared.any_machine.outcome.Outcome.{Outcome}, declared.any_machine.outcome.Outcome.TheVariants.{Program, Ran as OfRun}, declared.any_machine.outcome.Ran.{Ran}, Outcomes.{outcome_text, outcome_status, IsShort}, Commands.{RunComesTo, SettlingRunComesTo, UncheckedRunComesTo, CommandComesTo}}
use Rattle.class_lang.specs.declared.size.Limits.{Limits}

-- Where nothing was done nothing comes before `usage` or `memory`, nor after it; after a read that failed nothing is
-- written at all.
abbrev pub UndoneIsALine : Type 0 → Type 0
UndoneIsALine N =
    (outcome : Outcome (Seen N)) → outcome_status outcome ≡ 1 →
    (outcome_text outcome ≡ usage_line) ⊎ (outcome_text outcome ≡ memory_line) ⊎ (outcome_text outcome ≡ [])

-- two runs: of what they wrote down the one is a front of the other, and the same where both took all events; where one did,
-- the rules were enough for the other
pub record AreOneRun {N : Type 0} (x y : Ran (Seen N)) : Type 0 where
  pub whole : x.ended ≡ Ok tt → y.ended ≡ Ok tt → x.machine.world.trace ≡ y.machine.world.trace
  pub front : Grows x.machine.world.trace y.machine.world.trace ⊎ Grows y.machine.world.trace x.machine.world.trace
  pub enough : x.ended ≡ Ok tt → y.ended ≢ Err Steps
  pub enough_too : y.ended ≡ Ok tt → x.ended ≢ Err Steps

-- outcomes are the same; but which cycle, path or chain shows why a program has no certificate isn't fixed
abbrev pub IsSameOutcome : {N : Type 0} → Outcome (Seen N) → Outcome (Seen N) → Type 0
IsSameOutcome (OfRun x) (OfRun y) = AreOneRun x y
IsSameOutcome (Program x) (Program y) = IsSameOfProgram x y
IsSameOutcome a b = a ≡ b

-- Where natives have one answer to one question, and unless memory runs out outside a run, `run` comes to one refusal,
-- or to one run.
abbrev pub OneRunOutcome : {N : Type 0} → (N → NativeAnswers) → Type 0
OneRunOutcome {N} gives =
    (limits : Limits) (heads : List NativeHead) (natives : N) (program certificate script : List ℕ) (steps : ℕ) (a b : Outcome (Seen N)) →
    AnswersOnce (gives natives) → RunComesTo limits gives heads natives program certificate script steps a →
    RunComesTo limits gives heads natives program certificate script steps b → IsShort a ⊎ IsShort b ⊎ IsSameOutcome a b

-- So `run --settling` comes to one refusal, or to one run.
abbrev pub OneSettlingRunOutcome : {N : Type 0} → (N → NativeAnswers) → Type 0
OneSettlingRunOutcome {N} gives =
    (limits : Limits) (heads : List NativeHead) (natives : N) (program certificate script : List ℕ) (steps : ℕ) (a b : Outcome (Seen N)) →
    AnswersOnce (gives natives) → SettlingRunComesTo limits gives heads natives program certificate script steps a →
    SettlingRunComesTo limits gives heads natives program certificate script steps b → IsShort a ⊎ IsShort b ⊎ IsSameOutcome a b

-- So `run --unchecked` comes to one refusal, or to one run.
abbrev pub OneUncheckedOutcome : {N : Type 0} → (N → NativeAnswers) → Type 0
OneUncheckedOutcome {N} gives =
    (limits : Limits) (heads : List NativeHead) (natives : N) (program script : List ℕ) (depth steps : ℕ) (a b : Outcome (Seen N)) →
    AnswersOnce (gives natives) → UncheckedRunComesTo limits gives heads natives program script depth steps a →
    UncheckedRunComesTo limits gives heads natives program script depth steps b → IsShort a ⊎ IsShort b ⊎ IsSameOutcome a b

-- So each command line comes, from what was read, to one line `usage`, one thing of a command on programs, or one run.
abbrev pub OneCommandOutcome : {N : Type 0} → (N → NativeAnswers) → Type 0
OneCommandOutcome {N} gives =
    (heads : List NativeHead) (natives : N) (words : List (List ℕ)) (input : Result (List ℕ) InputFault) (a b : Outcome (Seen N)) →
    AnswersOnce (gives natives) → CommandComesTo gives heads natives words input a →
    CommandComesTo gives heads natives words input b → IsShort a ⊎ IsShort b ⊎ IsSameOutcome a b

-- Whatever natives may answer: a run that stopped, as memory ran out or for another fault, wrote a prefix of what each
-- whole run of the same events writes in which they answered alike.
abbrev pub StoppedIsPrefix : {N : Type 0} → (N → NativeAnswers) → Type 0
StoppedIsPrefix {N} gives =
    (said : ℕ → List Action) (p : Loaded) (natives : N) (depth steps : ℕ) (events : List Event) (fault : Fault) (after : Seen N)
    (answers : List Answer) (u : State) (k : ℕ) → IsSound p → (stopped : Halts gives (begun p natives depth steps) events fault after) →
    (whole : RunsWhole p (gives natives) depth (at (untouched steps) []) steps events answers u k) →
    AnswersAre said stopped.front.runs.run → AnswersAre said whole.runs.run → Grows after.world.trace u.trace
