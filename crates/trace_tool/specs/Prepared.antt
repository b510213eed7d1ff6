-- What a command line is about to do, and what is left of it when its run was written out while it went on (docs/commands.md,
-- "Exit status").
use Rattle.std.specs.Prelude.{◌≡◌, ℕ, List, Option, Result, IfErr, OnErr}
use Rattle.script_lang.specs.declared.event.Event.{Event}
use Rattle.native_slots.specs.Promises.{Takes}
use Rattle.trace_entries.specs.declared.entry.Entry.{Entry}
use Rattle.machine_rules.specs.Natives.{NativeAnswers}
use Rattle.object_machine.specs.Checked.{IsChecked, StopsAtLimit}
use Rattle.object_machine.specs.Seen.{Seen, AreKept, RunsAll, with_front}
use Rattle.command_lines.specs.Failing.{HasFailed}
use Rattle.command_lines.specs.Sent.{TakesWith}
use Rattle.command_lines.specs.declared.watched.Failing.{Failing}
use Rattle.trace_tool.specs.Outcomes.{outcome_text, outcome_status, seen_outcome}
use Rattle.trace_tool.specs.declared.any_machine.outcome.Outcome.{Outcome}
use Rattle.trace_tool.specs.declared.any_machine.outcome.Outcome.TheVariants.{Ran as OfRun}
use Rattle.trace_tool.specs.declared.any_machine.outcome.Ran.{Ran}
use Rattle.trace_tool.specs.declared.any_machine.prepared.Prepared.{Prepared}
use Rattle.trace_tool.specs.declared.any_machine.prepared.Prepared.TheVariants.{Done, Ready as OfReady}

-- what contracts see of what is prepared: its machine, if it has one, as that is seen
abbrev pub seen_prepared : {M S : Type 0} → (M → S) → Prepared M → Prepared S
seen_prepared seen (Done outcome) = Done (seen_outcome seen outcome)
seen_prepared seen (OfReady ready) = OfReady (record { machine = seen ready.machine; events = ready.events })

-- ---- before

-- a run of these events from this machine ends so; one of a checked program only for a limit
pub record RunsSo {N : Type 0} (gives : N → NativeAnswers) (m : Seen N) (events : List Event) (end : Ran (Seen N)) : Type 0 where
  pub ran : RunsAll gives m events end.ended end.machine
  pub limits : IsChecked gives m → IfErr end.ended (StopsAtLimit m)

-- the natives of a machine that is to run keep what its program declares of them
abbrev pub MayBeDone : {N : Type 0} → (N → Takes) → (N → NativeAnswers) → Prepared (Seen N) → Type 0
MayBeDone takes gives (Done outcome) = Unit {0}
MayBeDone takes gives (OfReady ready) = AreKept takes gives ready.machine

-- a run of these events from this machine comes to this
abbrev pub ComesOfRun : {N : Type 0} → (N → NativeAnswers) → Seen N → List Event → Outcome (Seen N) → Type 0
ComesOfRun {N} gives machine events end = (ran : Ran (Seen N)) × RunsSo gives machine events ran × (end ≡ OfRun ran)

-- what is prepared comes to this
abbrev pub ComesOf : {N : Type 0} → (N → NativeAnswers) → Prepared (Seen N) → Outcome (Seen N) → Type 0
ComesOf gives (Done outcome) end = end ≡ outcome
ComesOf gives (OfReady ready) end = ComesOfRun gives ready.machine ready.events end

-- all that it may come to is so
pub record Prepares {N : Type 0} (takes : N → Takes) (gives : N → NativeAnswers) (ComesTo : Outcome (Seen N) → Type 0) (prepared : Prepared (Seen N))
    : Type 0 where
  pub may : MayBeDone takes gives prepared
  pub comes : (end : Outcome (Seen N)) → ComesOf gives prepared end → ComesTo end

-- ---- after

-- an outcome, of which these lines of a run's trace were handed over
abbrev pub with_gone : {N : Type 0} → List Entry → Outcome (Seen N) → Outcome (Seen N)
with_gone gone (OfRun ran) = OfRun (record ran { machine = with_front gone ran.machine })
with_gone gone outcome = outcome

-- what it comes to was written, and this is left of it; only where a write failed there is no exit status
pub record CarriesOut {N E : Type 0} (ComesTo : Outcome (Seen N) → Type 0) (before after : Option (List ℕ)) (left : Outcome (Seen N)) (written : Result ℕ E)
    (writing : Failing) : Type 0 where
  pub gone : List Entry
  pub comes : ComesTo (with_gone gone left)
  pub takes : TakesWith before after (outcome_text (with_gone gone left)) (outcome_status (with_gone gone left)) written
  pub failed : OnErr written (HasFailed writing)
