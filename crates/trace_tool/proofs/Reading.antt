-- What a command line comes to is that a read failed only where one did.
use Rattle.std.proofs.Common.{◌≡◌, ℕ, List, [], ◌∷◌, Result, Ok, Err, sym, subst}
use Rattle.class_lang.specs.declared.size.Limits.{Limits}
use Rattle.native_slots.specs.declared.head.NativeHead.{NativeHead}
use Rattle.script_lang.specs.declared.event.Event.{Event}
use Rattle.settling.specs.declared.certificate.SettlingCertificate.{SettlingCertificate}
use Rattle.machine_rules.specs.Natives.{NativeAnswers}
use Rattle.object_machine.specs.Seen.{Seen}
use Rattle.program_commands.specs.declared.outcome.Outcome.{Outcome as ProgramOutcome}
use Rattle.program_commands.specs.declared.refusal.Refusal.{Refusal}
use Rattle.program_commands.specs.Steps.{First, Is, fails, goes_on}
use Rattle.command_lines.specs.Failing.{OnUnread}
use Rattle.command_lines.specs.declared.input.InputFault.{InputFault}
use Rattle.command_lines.specs.declared.words.Command.{Command}
use Rattle.command_lines.specs.declared.words.Command.TheVariants.{Meta, Certify, Check, CertifySettling, CheckSettling, Run, RunSettling, RunUnchecked}
use Rattle.trace_tool.specs.Failed.{IfUnread}
use Rattle.trace_tool.specs.Commands.{CommandComesTo, Does, InputComesTo, IsOfProgram, Runs, RunsFaultless, RunsSettling, ran, short, ran_faultless, short_of_memory, ran_settling, short_settling, refused, limits_of}
use Rattle.trace_tool.specs.declared.any_machine.outcome.Outcome.{Outcome}
use Rattle.trace_tool.specs.declared.any_machine.outcome.Outcome.TheVariants.{NoInput}

module _ {N : Type 0} (P : Type 0) where
  -- ---- a command that has an input

  of-program : {ComesTo : ProgramOutcome → Type 0} {end : Outcome (Seen N)} → IsOfProgram ComesTo end → IfUnread end P
  of-program told = subst (λ (o : Outcome (Seen N)). IfUnread o P) (sym told.is) tt

  of-runs : {gives : N → NativeAnswers} {machine : Seen N} {events : List Event} {end : Outcome (Seen N)} → Runs gives machine events end → IfUnread end P
  of-runs (ran end runs) = tt
  of-runs short = tt

  of-faultless : {gives : N → NativeAnswers} {machine : Seen N} {events : List Event} {end : Outcome (Seen N)} → RunsFaultless gives machine events end → IfUnread end P
  of-faultless (ran_faultless end runs limit claims) = tt
  of-faultless short_of_memory = tt

  of-settling : {gives : N → NativeAnswers} {certificate : SettlingCertificate} {machine : Seen N} {events : List Event} {end : Outcome (Seen N)} → RunsSettling gives certificate machine events end → IfUnread end P
  of-settling (ran_settling end runs limit claims) = tt
  of-settling short_settling = tt

  of-first : {X : Type 0} {Finds : Result X Refusal → Type 0} {Next : X → Outcome (Seen N) → Type 0} {end : Outcome (Seen N)} → ((x : X) (o : Outcome (Seen N)) → Next x o → IfUnread o P) → First Finds refused Next end → IfUnread end P
  of-first next (fails fault finds) = tt
  of-first next (goes_on found end finds goes) = next found end goes

  of-does : (limits : Limits) (gives : N → NativeAnswers) (heads : List NativeHead) (natives : N) (command : Command) (texts : List (List ℕ)) (end : Outcome (Seen N)) → Does limits gives heads natives command texts end → IfUnread end P
  of-does limits gives heads natives Meta (program ∷ []) = λ end x. of-program x
  of-does limits gives heads natives Certify (program ∷ []) = λ end x. of-program x
  of-does limits gives heads natives Check (program ∷ certificate ∷ []) = λ end x. of-program x
  of-does limits gives heads natives CertifySettling (program ∷ []) = λ end x. of-program x
  of-does limits gives heads natives CheckSettling (program ∷ certificate ∷ []) = λ end x. of-program x
  of-does limits gives heads natives (Run steps) (program ∷ certificate ∷ script ∷ []) = λ end x. of-first (λ both o runs. of-faultless runs) x
  of-does limits gives heads natives (RunSettling steps) (program ∷ certificate ∷ script ∷ []) = λ end x. of-first (λ both o runs. of-settling runs) x
  of-does limits gives heads natives (RunUnchecked options) (program ∷ script ∷ []) = λ end x. of-first (λ both o runs. of-runs runs) x
  of-does limits gives heads natives command texts = λ end x. absurd x

  of-input : (limits : Limits) (gives : N → NativeAnswers) (heads : List NativeHead) (natives : N) (command : Command) {input : List ℕ} {end : Outcome (Seen N)} → InputComesTo limits gives heads natives command input end → IfUnread end P
  of-input limits gives heads natives command (fails fault cuts) = tt
  of-input limits gives heads natives command (goes_on texts end cuts does) = of-does limits gives heads natives command texts end does

  -- ---- what was read

  of-read : {input : List ℕ} {Next : List ℕ → Outcome (Seen N) → Type 0} {end : Outcome (Seen N)} → ((found : List ℕ) (o : Outcome (Seen N)) → Next found o → IfUnread o P) → First (Is (Ok input)) NoInput Next end → IfUnread end P
  of-read next (fails fault is) = absurd (cc is)
  of-read next (goes_on found end is goes) = next found end goes

  of-unread : (why : InputFault) {Next : List ℕ → Outcome (Seen N) → Type 0} {end : Outcome (Seen N)} → OnUnread why P → First (Is (Err why)) NoInput Next end → IfUnread end P
  of-unread why on (fails fault is) = let same : why ≡ fault = cc is in subst (λ (f : InputFault). OnUnread f P) same on
  of-unread why on (goes_on found end is goes) = absurd (cc is)

  -- an input was read
  pub read-comes : {gives : N → NativeAnswers} {heads : List NativeHead} {natives : N} {words : List (List ℕ)} {input : List ℕ} {end : Outcome (Seen N)} → CommandComesTo gives heads natives words (Ok input) end → IfUnread end P
  read-comes (fails none says) = tt
  read-comes {gives} {heads} {natives} (goes_on line end says next) = of-read (λ found o comes. of-input (limits_of line.is_wide) gives heads natives line.command comes) next

  -- .. or it can't be
  pub unread-comes : {gives : N → NativeAnswers} {heads : List NativeHead} {natives : N} {words : List (List ℕ)} (fault : InputFault) {end : Outcome (Seen N)} → OnUnread fault P → CommandComesTo gives heads natives words (Err fault) end → IfUnread end P
  unread-comes fault on (fails none says) = tt
  unread-comes fault on (goes_on line end says next) = of-unread fault on next
