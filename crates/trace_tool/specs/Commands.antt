-- What runs and command lines come to (docs/commands.md). Memory may run out outside a run at any time before the run;
-- that it comes only where a growth of memory was refused is not stated here.
use Rattle.std.specs.{Prelude.{◌≡◌, ℕ, ◌<◌, ◌≤◌, ◌⊎◌, Bool, true, false, List, [], ◌∷◌, length, take, codes, Option, Result, Ok, Err, IfErr, IfSome}, Borrow.{Bor}}
use Rattle.certificate_lang.specs.declared.certificate.Certificate.{Certificate}
use Rattle.texts.specs.Limits.{most_depth}
use Rattle.class_lang.specs.{Limits.{standard, wide}, declared.size.Limits.{Limits}}
use Rattle.meta_model.specs.Loaded.{Loaded}
use Rattle.native_slots.specs.{declared.head.NativeHead.{NativeHead}, Misfits.{Fits}}
use Rattle.rank_check.specs.Checks.{Checking, Examines}
use Rattle.settling.specs.{Checks.{Checking as Settled, Checks as ChecksSettling}, declared.certificate.SettlingCertificate.{SettlingCertificate}}
use Rattle.script_lang.specs.{Reads.{ReadsScript}, declared.event.Event.{Event}}
use Rattle.machine_rules.specs.Natives.{NativeAnswers}
use Rattle.machine_state.specs.Worlds.{at}
use Rattle.object_machine.specs.{Checked.{IsLimit}, Claims.{Claims}, Seen.{Seen, RunsAll, begun}}
use Rattle.settled_runs.specs.{Claims.{IsLimitAt}, Machine.{SettlingClaims}}
use Rattle.program_commands.specs.{declared.outcome.Outcome.{Outcome as ProgramOutcome}, declared.outcome.Outcome.TheVariants.{Refused}, declared.refusal.Refusal.{Refusal}, declared.refusal.Refusal.TheVariants.{Script, Check as OfCheck, Unsettled, Natives as OfNatives}, Commands.{CheckComesTo, CertifyComesTo, MetaComesTo}, Settling.{CertifySettlingComesTo, CheckSettlingComesTo}, Loading.{LoadsProgram, LoadsCertified, LoadsSettling}, Steps.{First, Is, Gives}}
use Rattle.command_lines.specs.{Cut.{AreTexts}, Words.{IsLine, IsNoLine}, declared.input.InputFault.{InputFault}, declared.usage.UsageFault.{UsageFault}, declared.usage.UsageFault.TheVariants.{Words, TooLarge, Texts}, declared.words.Command.{Command}, declared.words.Command.TheVariants.{Meta, Certify, Check, CertifySettling, CheckSettling, Run, RunSettling, RunUnchecked}, declared.words.CommandLine.{CommandLine}}
use Rattle.trace_tool.specs.{Outcomes.{Writes, answer_of}, declared.any_machine.outcome.Outcome.{Outcome}, declared.any_machine.outcome.Outcome.TheVariants.{Usage, NoInput, Program, Ran as OfRun, Memory}, declared.any_machine.outcome.Ran.{Ran}}

-- a program is refused, and doesn't run
abbrev pub refused : {M : Type 0} → Refusal → Outcome M
refused refusal = Program (Refused refusal)

-- ---- `run --unchecked`

-- The program is loaded, the script is read, and each native that the program declares has a closure that keeps to the effects
-- declared.
abbrev pub MayRun : Limits → List NativeHead → List ℕ → List ℕ → Result (Loaded × List Event) Refusal → Type 0
MayRun limits heads program script =
    First (LoadsProgram limits program) Err (λ loaded.
    First (ReadsScript script) (λ fault. Err (Script fault)) (λ events.
    First (Fits heads loaded) (λ misfit. Err (OfNatives misfit)) (λ fit. Gives (loaded, events))))

-- a machine that has done nothing runs on these events, or there is no memory to make it
pub data Runs {N : Type 0} (gives : N → NativeAnswers) (machine : Seen N) (events : List Event) : Outcome (Seen N) → Type 0 where
  ran : (end : Ran (Seen N)) → RunsAll gives machine events end.ended end.machine → Runs gives machine events (OfRun end)
  short : Runs gives machine events Memory

-- `run --unchecked`, from the limits of a program, the closures, the texts, the depth and the limit of steps. The closures are known by what they are
-- for, and by what they may answer.
abbrev pub UncheckedRunComesTo : {N : Type 0} → Limits → (N → NativeAnswers) → List NativeHead → N → List ℕ → List ℕ → ℕ → ℕ → Outcome (Seen N) → Type 0
UncheckedRunComesTo limits gives heads natives program script depth steps =
    First (MayRun limits heads program script) refused (λ both. Runs gives (begun both.0 natives depth steps) both.1)

-- ---- `run`

-- The program is loaded, its certificate is read, the script is read, the certificate is valid for the program, and the closures
-- are those that the program declares.
abbrev pub Accepting : Limits → List NativeHead → List ℕ → List ℕ → List ℕ → Result (Checking × List Event) Refusal → Type 0
Accepting limits heads program certificate script =
    First (LoadsCertified limits program certificate) Err (λ both.
    First (ReadsScript script) (λ fault. Err (Script fault)) (λ events.
    First (Examines both.0 both.1) (λ why. Err (OfCheck why)) (λ checked.
    First (Fits heads checked.program) (λ misfit. Err (OfNatives misfit)) (λ fit. Gives (checked, events)))))

-- by these limits `run` accepts texts with the closures: nothing refuses them, and this is what they say
abbrev pub Accepts : Limits → List NativeHead → List ℕ → List ℕ → List ℕ → Loaded → Certificate → List Event → Type 0
Accepts limits heads program certificate script loaded read events =
    Accepting limits heads program certificate script (Ok (record { program = loaded; certificate = read }, events))

-- a machine that is accepted runs on these events to their end, or to the step limit, or until memory runs out, and the claims
-- hold of every run of it; or there is no memory to make it
pub data RunsFaultless {N : Type 0} (gives : N → NativeAnswers) (machine : Seen N) (events : List Event) : Outcome (Seen N) → Type 0 where
  ran_faultless : (end : Ran (Seen N)) → RunsAll gives machine events end.ended end.machine → IfErr end.ended IsLimit → Claims gives machine →
      RunsFaultless gives machine events (OfRun end)
  short_of_memory : RunsFaultless gives machine events Memory

-- `run`, from the limits of a program, the closures, the texts and the limit of steps: the depth is the certificate's bound
abbrev pub RunComesTo : {N : Type 0} → Limits → (N → NativeAnswers) → List NativeHead → N → List ℕ → List ℕ → List ℕ → ℕ → Outcome (Seen N) → Type 0
RunComesTo limits gives heads natives program certificate script steps =
    First (Accepting limits heads program certificate script) (λ refusal. Program (Refused refusal)) (λ both.
    RunsFaultless gives (begun both.0.program natives both.0.certificate.bound steps) both.1)

-- where it accepts: the run of this program for these events; or, where memory runs out, `memory`
abbrev pub AcceptedComesTo : {N : Type 0} → (N → NativeAnswers) → N → Loaded → Certificate → List Event → ℕ → Outcome (Seen N) → Type 0
AcceptedComesTo gives natives loaded read events steps outcome =
    RunsFaultless gives (begun loaded natives read.bound steps) events outcome
    ⊎ (answer_of outcome ≡ (codes "memory\n", 1))

-- ---- `run --settling`

-- The program is loaded, its settling certificate is read, the script is read, the certificate is valid for the program, and the
-- closures are those that the program declares.
abbrev pub AcceptingSettling : Limits → List NativeHead → List ℕ → List ℕ → List ℕ → Result (Settled × List Event) Refusal → Type 0
AcceptingSettling limits heads program certificate script =
    First (LoadsSettling limits program certificate) Err (λ both.
    First (ReadsScript script) (λ fault. Err (Script fault)) (λ events.
    First (ChecksSettling both.0 both.1) (λ reason. Err (Unsettled reason)) (λ checked.
    First (Fits heads checked.program) (λ misfit. Err (OfNatives misfit)) (λ fit. Gives (checked, events)))))

-- by these limits `run --settling` accepts texts with the closures: nothing refuses them, and this is what they say
abbrev pub AcceptsSettling : Limits → List NativeHead → List ℕ → List ℕ → List ℕ → Loaded → SettlingCertificate → List Event → Type 0
AcceptsSettling limits heads program certificate script loaded read events =
    AcceptingSettling limits heads program certificate script (Ok (record { program = loaded; certificate = read }, events))

-- a machine that is accepted runs on these events to their end, or to the step limit, or until memory runs out, or to its depth,
-- where that is less than the bound and the step for each object that was made by then; and the claims hold of every run of it.
-- Or there is no memory to make it.
pub data RunsSettling {N : Type 0} (gives : N → NativeAnswers) (certificate : SettlingCertificate) (machine : Seen N) (events : List Event) : Outcome (Seen N) → Type 0 where
  ran_settling : (end : Ran (Seen N)) → RunsAll gives machine events end.ended end.machine → IfErr end.ended (IsLimitAt certificate machine.depth (at end.machine.world [])) →
      SettlingClaims gives certificate machine → RunsSettling gives certificate machine events (OfRun end)
  short_settling : RunsSettling gives certificate machine events Memory

-- `run --settling`, from the limits of a program, the closures, the texts and the limit of steps: the depth is the greatest
abbrev pub SettlingRunComesTo : {N : Type 0} → Limits → (N → NativeAnswers) → List NativeHead → N → List ℕ → List ℕ → List ℕ → ℕ → Outcome (Seen N) → Type 0
SettlingRunComesTo limits gives heads natives program certificate script steps =
    First (AcceptingSettling limits heads program certificate script) refused (λ both.
    RunsSettling gives both.0.certificate (begun both.0.program natives most_depth steps) both.1)

-- where it accepts: the run of this program for these events; or, where memory runs out, `memory`
abbrev pub AcceptedSettlingComesTo : {N : Type 0} → (N → NativeAnswers) → N → Loaded → SettlingCertificate → List Event → ℕ → Outcome (Seen N) → Type 0
AcceptedSettlingComesTo gives natives loaded read events steps outcome =
    RunsSettling gives read (begun loaded natives most_depth steps) events outcome
    ⊎ (answer_of outcome ≡ (codes "memory\n", 1))

-- ---- command lines

-- the words are this command line's, or none's
abbrev pub Says : List (List ℕ) → Result CommandLine (Unit {0}) → Type 0
Says words (Ok line) = IsLine words line
Says words (Err none) = IsNoLine words

-- how large a program may be, with `--wide` and without it
abbrev pub limits_of : Bool → Limits
limits_of true = wide
limits_of false = standard

-- how many texts a command takes
abbrev pub texts_of : Command → ℕ
texts_of Meta = 1
texts_of Certify = 1
texts_of Check = 2
texts_of CertifySettling = 1
texts_of CheckSettling = 2
texts_of (Run steps) = 3
texts_of (RunSettling steps) = 3
texts_of (RunUnchecked options) = 2

-- The texts of an input, as many as the command takes; or it has more than 64 MiB, or another number of texts.
abbrev pub Cuts : Command → List ℕ → Result (List (List ℕ)) UsageFault → Type 0
Cuts command input (Ok texts) = (length input ≤ 67108864) × AreTexts input texts × (length texts ≡ texts_of command)
Cuts command input (Err Words) = ⊥
Cuts command input (Err TooLarge) = 67108864 < length input
Cuts command input (Err (Texts count)) =
    (length input ≤ 67108864) × (count ≡ texts_of command)
    × ((texts : List (List ℕ)) → AreTexts input texts → length texts ≡ texts_of command → ⊥)

-- what a command that runs nothing comes to
pub record IsOfProgram {N : Type 0} (ComesTo : ProgramOutcome → Type 0) (outcome : Outcome (Seen N)) : Type 0 where
  pub told : ProgramOutcome
  pub comes : ComesTo told
  pub is : outcome ≡ Program told

-- what a command comes to with its texts, of which the program is read by these limits
abbrev pub Does : {N : Type 0} → Limits → (N → NativeAnswers) → List NativeHead → N → Command → List (List ℕ) → Outcome (Seen N) → Type 0
Does limits gives heads natives Meta (program ∷ []) outcome = IsOfProgram (MetaComesTo limits program) outcome
Does limits gives heads natives Certify (program ∷ []) outcome = IsOfProgram (CertifyComesTo limits program) outcome
Does limits gives heads natives Check (program ∷ certificate ∷ []) outcome = IsOfProgram (CheckComesTo limits program certificate) outcome
Does limits gives heads natives CertifySettling (program ∷ []) outcome = IsOfProgram (CertifySettlingComesTo limits program) outcome
Does limits gives heads natives CheckSettling (program ∷ certificate ∷ []) outcome =
    IsOfProgram (CheckSettlingComesTo limits program certificate) outcome
Does limits gives heads natives (Run steps) (program ∷ certificate ∷ script ∷ []) outcome =
    RunComesTo limits gives heads natives program certificate script steps outcome
Does limits gives heads natives (RunSettling steps) (program ∷ certificate ∷ script ∷ []) outcome =
    SettlingRunComesTo limits gives heads natives program certificate script steps outcome
Does limits gives heads natives (RunUnchecked options) (program ∷ script ∷ []) outcome =
    UncheckedRunComesTo limits gives heads natives program script options.depth options.steps outcome
Does limits gives heads natives command texts outcome = ⊥

-- what a command comes to with its input
abbrev pub InputComesTo : {N : Type 0} → Limits → (N → NativeAnswers) → List NativeHead → N → Command → List ℕ → Outcome (Seen N) → Type 0
InputComesTo limits gives heads natives command input = First (Cuts command input) Usage (Does limits gives heads natives command)

-- the bytes that were read, or why there are none
abbrev pub read_of : Result (Bor (List ℕ)) InputFault → Result (List ℕ) InputFault
read_of (Ok input) = Ok input.now
read_of (Err fault) = Err fault

-- A command line, from its words and from what was read: the bytes, or why there are none.
abbrev pub CommandComesTo : {N : Type 0} → (N → NativeAnswers) → List NativeHead → N → List (List ℕ) → Result (List ℕ) InputFault → Outcome (Seen N) → Type 0
CommandComesTo gives heads natives words input =
    First (Says words) (λ none. Usage Words) (λ line.
    First (Is input) NoInput (InputComesTo (limits_of line.is_wide) gives heads natives line.command))

-- What is read of a reader's bytes, where those are known: all, but no more than a byte past 64 MiB. When a read fails
-- isn't stated, since no contract of a reader says it.
abbrev pub Reads : Option (List ℕ) → Result (List ℕ) InputFault → Type 0
Reads left (Ok input) = IfSome left (λ all. input ≡ take 67108865 all)
Reads left (Err fault) = Unit {0}

-- a command line comes to this for what was read
pub record ReadsAndComesTo {N : Type 0} (gives : N → NativeAnswers) (heads : List NativeHead) (natives : N) (words : List (List ℕ))
    (left : Option (List ℕ)) (outcome : Outcome (Seen N)) : Type 0 where
  pub input : Result (List ℕ) InputFault
  pub reads : Reads left input
  pub comes : CommandComesTo gives heads natives words input outcome

-- what a command line comes to for what was read is written
abbrev pub WritesCommand : {N E : Type 0} → (N → NativeAnswers) → List NativeHead → N → List (List ℕ) → Option (List ℕ) →
    Option (List ℕ) → Option (List ℕ) → Result ℕ E → Type 0
WritesCommand gives heads natives words left before after result = Writes (ReadsAndComesTo gives heads natives words left) before after result
