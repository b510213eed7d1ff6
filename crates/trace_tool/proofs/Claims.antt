-- The claims on what `run` and `run --settling` accept.
use Rattle.std.proofs.Common.{◌≡◌, ℕ, List, Ok, refl, sym, ap, ◌∙◌, subst}
use Rattle.certificate_lang.specs.declared.certificate.Certificate.{Certificate}
use Rattle.class_lang.specs.declared.size.Limits.{Limits}
use Rattle.meta_model.specs.Loaded.{Loaded}
use Rattle.native_slots.specs.{declared.head.NativeHead.{NativeHead}, Misfits.{Fits}, Promises.{Takes}}
use Rattle.rank_check.specs.{Checks.{Checking}, Valid.{IsValid}}
use Rattle.script_lang.specs.declared.event.Event.{Event}
use Rattle.machine_rules.specs.Natives.{NativeAnswers, KeepPromises}
use Rattle.object_machine.specs.{Claims.{Claims}, Seen.{Seen, begun}}
use Rattle.qt_runtime.proofs.Checking.{begun-claims}
use Rattle.settling.specs.{Checks.{Checking as Settled}, Levels.{StacksAreShallow}, Valid.{IsValid as Settles}, declared.certificate.SettlingCertificate.{SettlingCertificate}}
use Rattle.settled_runs.{specs.Machine.{SettlingClaims}, proofs.Claiming.{settling-claims}}
use Rattle.texts.specs.Limits.{most_depth}
use Rattle.program_commands.proofs.Stepping.{went}
use Rattle.trace_tool.{specs.Commands.{Accepts, AcceptsSettling}, specs.Prepared.{Prepares}, specs.declared.any_machine.outcome.Outcome.{Outcome}, specs.declared.any_machine.prepared.Prepared.{Prepared}, proofs.OneRun.{accepted_sound, settling_sound}}

-- they hold where closures that fit a program keep what it declares of them
pub accepted-claims : {N : Type 0} (takes : N → Takes) (gives : N → NativeAnswers) {limits : Limits} {heads : List NativeHead} {program certificate script : List ℕ} {natives : N} {steps : ℕ} {loaded : Loaded} {read : Certificate} {events : List Event} →
    (Fits heads loaded (Ok tt) → KeepPromises takes gives loaded natives) → Accepts limits heads program certificate script loaded read events → Claims gives (begun loaded natives read.bound steps)
accepted-claims takes gives {heads = heads} {loaded = loaded} {read = read} {events = events} keeps accepts =
    let a = went accepts (λ fault is. cc is) in
    let b = went a.2 (λ fault is. cc is) in
    let c = went b.2 (λ fault is. cc is) in
    let d = went c.2 (λ fault is. cc is) in
    let asked : Checking = record { program = loaded; certificate = read } in
    let same : (asked, events) ≡ (c.0, b.0) = cc d.2 in
    let checked : asked ≡ c.0 = ap (λ (pair : Checking × List Event). pair.0) same in
    let program : loaded ≡ c.0.program = ap (λ (k : Checking). k.program) checked in
    let certificate : read ≡ c.0.certificate = ap (λ (k : Checking). k.certificate) checked in
    let Valid : Certificate → Type 0 = λ k. IsValid a.0.0 k in
    let valid : IsValid loaded read = subst (λ (p : Loaded). IsValid p read) (sym (program ∙ c.1.0)) (subst Valid (sym (certificate ∙ c.1.1)) c.1.2) in
    let fits : Fits heads loaded (Ok tt) = subst (λ (p : Loaded). Fits heads p (Ok tt)) (sym program) d.1 in
    begun-claims takes gives (accepted_sound accepts) (keeps fits) refl refl valid refl

-- .. so they hold of what `run` is about to do
pub prepared-claims : {N : Type 0} {takes : N → Takes} {gives : N → NativeAnswers} {ComesTo : Outcome (Seen N) → Type 0} {prepared : Prepared (Seen N)} {limits : Limits} {heads : List NativeHead} {program certificate script : List ℕ} {loaded : Loaded} {read : Certificate} {events : List Event} →
    Prepares takes gives ComesTo prepared → (natives : N) (steps : ℕ) → (Fits heads loaded (Ok tt) → KeepPromises takes gives loaded natives) → Accepts limits heads program certificate script loaded read events → Claims gives (begun loaded natives read.bound steps)
prepared-claims {takes = takes} {gives = gives} x natives steps keeps accepts = accepted-claims takes gives keeps accepts

-- ---- with a settling certificate
pub settling-accepted : {N : Type 0} (takes : N → Takes) (gives : N → NativeAnswers) → StacksAreShallow → {limits : Limits} {heads : List NativeHead} {program certificate script : List ℕ} {natives : N} {steps : ℕ} {loaded : Loaded} {read : SettlingCertificate} {events : List Event} →
    (Fits heads loaded (Ok tt) → KeepPromises takes gives loaded natives) → AcceptsSettling limits heads program certificate script loaded read events → SettlingClaims gives read (begun loaded natives most_depth steps)
settling-accepted takes gives shallow {heads = heads} {loaded = loaded} {read = read} {events = events} keeps accepts =
    let a = went accepts (λ fault is. cc is) in
    let b = went a.2 (λ fault is. cc is) in
    let c = went b.2 (λ fault is. cc is) in
    let d = went c.2 (λ fault is. cc is) in
    let asked : Settled = record { program = loaded; certificate = read } in
    let same : (asked, events) ≡ (c.0, b.0) = cc d.2 in
    let checked : asked ≡ c.0 = ap (λ (pair : Settled × List Event). pair.0) same in
    let program : loaded ≡ c.0.program = ap (λ (k : Settled). k.program) checked in
    let certificate : read ≡ c.0.certificate = ap (λ (k : Settled). k.certificate) checked in
    let Valid : SettlingCertificate → Type 0 = λ k. Settles a.0.0 k in
    let valid : Settles loaded read = subst (λ (p : Loaded). Settles p read) (sym (program ∙ c.1.0)) (subst Valid (sym (certificate ∙ c.1.1)) c.1.2) in
    let fits : Fits heads loaded (Ok tt) = subst (λ (p : Loaded). Fits heads p (Ok tt)) (sym program) d.1 in
    settling-claims takes gives shallow (settling_sound accepts) valid (keeps fits) refl refl

pub settling-prepared : {N : Type 0} {takes : N → Takes} {gives : N → NativeAnswers} {ComesTo : Outcome (Seen N) → Type 0} {prepared : Prepared (Seen N)} {limits : Limits} {heads : List NativeHead} {program certificate script : List ℕ} {loaded : Loaded} {read : SettlingCertificate} {events : List Event} →
    Prepares takes gives ComesTo prepared → StacksAreShallow → (natives : N) (steps : ℕ) → (Fits heads loaded (Ok tt) → KeepPromises takes gives loaded natives) → AcceptsSettling limits heads program certificate script loaded read events → SettlingClaims gives read (begun loaded natives most_depth steps)
settling-prepared {takes = takes} {gives = gives} x shallow natives steps keeps accepts = settling-accepted takes gives shallow keeps accepts
