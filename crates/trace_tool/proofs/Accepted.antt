-- Where `run` accepts, it refuses nothing unless memory runs out, and runs what it accepts.
use Rattle.std.proofs.Common.{◌≡◌, ◌≢◌, ℕ, ◌⊎◌, inl, inr, List, None, Result, Ok, Err, refl, ap, sym, ◌∙◌, subst}
use Rattle.certificate_lang.specs.declared.certificate.Certificate.{Certificate}
use Rattle.meta_model.specs.Loaded.{Loaded}
use Rattle.native_slots.{specs.declared.head.NativeHead.{NativeHead}, specs.declared.misfit.Misfit.{Misfit}, specs.Misfits.{Fits}, proofs.Telling.{one_misfit}}
use Rattle.rank_check.specs.Checks.{Checking}
use Rattle.settling.specs.{Checks.{Checking as Settled}, declared.certificate.SettlingCertificate.{SettlingCertificate}}
use Rattle.script_lang.{specs.Reads.{ReadsScript}, specs.declared.event.Event.{Event}, specs.declared.fault.ScriptFault.{ScriptFault}, proofs.OneAnswer.{one_result}}
use Rattle.script_lang.specs.declared.fault.ScriptFault.TheVariants as of_script
use Rattle.machine_rules.specs.Natives.{NativeAnswers}
use Rattle.program_commands.{specs.declared.refusal.Refusal.{Refusal}, specs.Refusals.{refusal_number, script_number, memory_line}, proofs.Once.{OneOf, one_first, one_is, goes_with, loads_once, certified_once, check_once, check_short, never_denied, IsShortCheck, IsShortResult, never_short, same_short, short_refusal}}
use Rattle.program_commands.specs.declared.refusal.Refusal.TheVariants as refusal
use Rattle.program_commands.proofs.SettlingOnce.{IsShortCheck as IsShortSettling, settling_once, settling_check_once, settling_short}
use Rattle.class_lang.specs.declared.size.Limits.{Limits}
use Rattle.trace_tool.specs.{declared.any_machine.outcome.Outcome.{Outcome}, Outcomes.{IsShort, answer_of}, Commands.{Accepting, Accepts, AcceptedComesTo, AcceptingSettling, AcceptsSettling, AcceptedSettlingComesTo, MayRun, RunComesTo, SettlingRunComesTo, refused}}
use Rattle.trace_tool.proofs.Preparing.{told-status}
use Rattle.object_machine.specs.Seen.{Seen}

-- ---- each step comes to one thing

script_or_short : (r : Result (List Event) ScriptFault) → (r ≡ Err of_script.Memory) ⊎ (r ≢ Err of_script.Memory)
script_or_short (Ok events) = inr (λ e. cc e)
script_or_short (Err of_script.TooLarge) = inr (λ e. cc e)
script_or_short (Err (of_script.BadLine n)) = inr (λ e. cc e)
script_or_short (Err of_script.Memory) = inl refl

abbrev pub IsShortScript : Result (List Event) ScriptFault → Type 0
IsShortScript r = r ≡ Err of_script.Memory

pub script_once : (text : List ℕ) → OneOf IsShortScript (ReadsScript text)
script_once text a b h k = elim (script_or_short a) [
  | inl s ↦ inl s
  | inr x ↦ elim (script_or_short b) [
    | inl s ↦ inr (inl s)
    | inr y ↦ inr (inr (one_result text a b h k x y))
  ]
]

pub script_short : (fault : ScriptFault) → IsShortScript (Err fault) → refusal_number (refusal.Script fault) ≡ None
script_short fault is = let same : fault ≡ of_script.Memory = cc is in ap script_number same

abbrev pub NeverShort : Result (Unit {0}) Misfit → Type 0
NeverShort r = ⊥

pub fit_once : (heads : List NativeHead) (p : Loaded) → OneOf NeverShort (Fits heads p)
fit_once heads p a b h k = inr (inr (one_misfit heads p a b h k))

-- the closures don't fit the program that was checked
pub unfit : (heads : List NativeHead) (misfit : Misfit) {asked loaded : Loaded} → asked ≡ loaded → Fits heads asked (Err misfit) → Fits heads loaded (Err misfit)
unfit heads misfit same fit = subst (λ (p : Loaded). Fits heads p (Err misfit)) same fit

pub accepting_once : (limits : Limits) (heads : List NativeHead) (program certificate script : List ℕ) → OneOf IsShortResult (Accepting limits heads program certificate script)
accepting_once limits heads program certificate script =
    one_first IsShortResult IsShortResult (certified_once limits program certificate) same_short never_short
    (λ both. one_first IsShortScript IsShortResult (script_once script) script_short (λ x e. cc e)
    (λ events. one_first IsShortCheck IsShortResult (check_once both.0 both.1) check_short never_denied
    (λ checked. one_first NeverShort IsShortResult (fit_once heads checked.program) (λ fault s. absurd s) (λ x s. s)
    (λ fit. one_is IsShortResult (Ok (checked, events))))))

pub accepting_settling_once : (limits : Limits) (heads : List NativeHead) (program certificate script : List ℕ) → OneOf IsShortResult (AcceptingSettling limits heads program certificate script)
accepting_settling_once limits heads program certificate script =
    one_first IsShortResult IsShortResult (settling_once limits program certificate) same_short never_short
    (λ both. one_first IsShortScript IsShortResult (script_once script) script_short (λ x e. cc e)
    (λ events. one_first IsShortSettling IsShortResult (settling_check_once both.0 both.1) settling_short (λ x e. cc e)
    (λ checked. one_first NeverShort IsShortResult (fit_once heads checked.program) (λ fault s. absurd s) (λ x s. s)
    (λ fit. one_is IsShortResult (Ok (checked, events))))))

pub may_run_once : (limits : Limits) (heads : List NativeHead) (program script : List ℕ) → OneOf IsShortResult (MayRun limits heads program script)
may_run_once limits heads program script =
    one_first IsShortResult IsShortResult (loads_once limits program) same_short never_short
    (λ loaded. one_first IsShortScript IsShortResult (script_once script) script_short (λ x e. cc e)
    (λ events. one_first NeverShort IsShortResult (fit_once heads loaded) (λ fault s. absurd s) (λ x s. s)
    (λ fit. one_is IsShortResult (Ok (loaded, events)))))

pub short_refused : {N : Type 0} (r : Refusal) → refusal_number r ≡ None → IsShort (refused {M = Seen N} r)
short_refused r is = let s = short_refusal r is in record { line = s.line; status_is = s.status_is }

-- ---- what is written where `run` accepts

short_answer : {N : Type 0} (outcome : Outcome (Seen N)) → IsShort outcome → answer_of outcome ≡ (memory_line, 1)
short_answer outcome short =
    ap (λ (text : List ℕ). (text, (answer_of outcome).1)) short.line ∙ ap (λ (status : ℕ). (memory_line, status)) (sym (told-status outcome) ∙ short.status_is)

pub accepted_comes : {N : Type 0} {limits : Limits} {gives : N → NativeAnswers} {heads : List NativeHead} {natives : N} {program certificate script : List ℕ} {loaded : Loaded} {read : Certificate} {events : List Event} {steps : ℕ} {outcome : Outcome (Seen N)} →
    Accepts limits heads program certificate script loaded read events → RunComesTo limits gives heads natives program certificate script steps outcome →
    AcceptedComesTo gives natives loaded read events steps outcome
accepted_comes {limits = limits} {heads = heads} {program = program} {certificate = certificate} {script = script} {loaded = loaded} {read = read} {events = events} {outcome = outcome} accepts comes =
    let checked : Checking = record { program = loaded; certificate = read } in
    elim (goes_with IsShortResult IsShort (accepting_once limits heads program certificate script) short_refused never_short (checked, events) accepts comes) [
      | inl short ↦ inr (short_answer outcome short)
      | inr runs ↦ inl runs
    ]

pub accepted_settling_comes : {N : Type 0} {limits : Limits} {gives : N → NativeAnswers} {heads : List NativeHead} {natives : N} {program certificate script : List ℕ} {loaded : Loaded} {read : SettlingCertificate} {events : List Event} {steps : ℕ} {outcome : Outcome (Seen N)} →
    AcceptsSettling limits heads program certificate script loaded read events → SettlingRunComesTo limits gives heads natives program certificate script steps outcome →
    AcceptedSettlingComesTo gives natives loaded read events steps outcome
accepted_settling_comes {limits = limits} {heads = heads} {program = program} {certificate = certificate} {script = script} {loaded = loaded} {read = read} {events = events} {outcome = outcome} accepts comes =
    let checked : Settled = record { program = loaded; certificate = read } in
    elim (goes_with IsShortResult IsShort (accepting_settling_once limits heads program certificate script) short_refused never_short (checked, events) accepts comes) [
      | inl short ↦ inr (short_answer outcome short)
      | inr runs ↦ inl runs
    ]
