-- What the end of a run shows.
use Rattle.std.proofs.Common.{◌≡◌, ℕ, inl, inr, true, false, IsTrue, List, Result, Ok, Err, refl, sym, ap, ◌∙◌, subst}
use Rattle.class_lang.specs.declared.size.Limits.{Limits}
use Rattle.meta_model.specs.Loaded.{Loaded}
use Rattle.native_slots.specs.declared.head.NativeHead.{NativeHead}
use Rattle.native_slots.specs.Promises.{Takes}
use Rattle.script_lang.specs.declared.event.Event.{Event}
use Rattle.trace_entries.specs.declared.fault.Fault.{Fault}
use Rattle.machine_rules.specs.Natives.{NativeAnswers}
use Rattle.object_machine.specs.Seen.{Seen, RunsAll, begun}
use Rattle.texts.specs.Limits.{most_depth}
use Rattle.program_commands.proofs.Stepping.{went}
use Rattle.program_commands.specs.declared.outcome.Outcome.{Outcome as ProgramOutcome}
use Rattle.trace_tool.specs.Commands.{MayRun, Runs, UncheckedRunComesTo, ran, short}
use Rattle.trace_tool.specs.Outcomes.{seen_outcome}
use Rattle.trace_tool.specs.Prepared.{ComesOf, Prepares}
use Rattle.trace_tool.specs.declared.any_machine.outcome.Outcome.{Outcome}
use Rattle.trace_tool.specs.declared.any_machine.outcome.Outcome.TheVariants.{Usage, NoInput, Program, Ran as OfRun, Memory}
use Rattle.trace_tool.specs.declared.any_machine.outcome.Ran.{Ran}
use Rattle.trace_tool.specs.declared.any_machine.prepared.Prepared.{Prepared}
use Rattle.run_witness.specs.Shows.{Shows, is_shown, ends_shown, shows_fault}

module _ {N : Type 0} (gives : N → NativeAnswers) (limits : Limits) (heads : List NativeHead) (natives : N) (program script : List ℕ) (steps : ℕ) where
  -- a machine that had done nothing stopped on the way
  ended-shows : (both : Loaded × List Event) (ended : Result (Unit {0}) Fault) (machine : Seen N) → MayRun limits heads program script (Ok both) →
      RunsAll gives (begun both.0 natives most_depth steps) both.1 ended machine → IsTrue (ends_shown ended) → Shows limits heads (gives natives) program script steps
  ended-shows both (Ok done) machine may runs shown = let no : false ≡ true = shown in absurd (cc no)
  ended-shows both (Err f) machine may runs shown =
      elim runs [
        | inl halts ↦ record { loaded = both.0; events = both.1; may = may; fault = f; shown = shown; after = machine.world; halts = record { stack = halts.stack; front = halts.front; cause = halts.cause } }
        | inr stays ↦ let no : false ≡ true = stays.stopped in absurd (cc no)
      ]

  -- what runs came to this
  runs-shows : (both : Loaded × List Event) {outcome : Outcome (Seen N)} → MayRun limits heads program script (Ok both) →
      Runs gives (begun both.0 natives most_depth steps) both.1 outcome → IsTrue (shows_fault outcome) → Shows limits heads (gives natives) program script steps
  runs-shows both may (ran end all) shown = ended-shows both end.ended end.machine may all shown
  runs-shows both may short shown = let no : false ≡ true = shown in absurd (cc no)

  refused-shows-nothing : {told : ProgramOutcome} {outcome : Outcome (Seen N)} → outcome ≡ Program told → IsTrue (shows_fault outcome) → ⊥
  refused-shows-nothing is shown = let no : false ≡ true = sym (ap (λ (o : Outcome (Seen N)). shows_fault o) is) ∙ shown in cc no

  pub unchecked-shows : (outcome : Outcome (Seen N)) → UncheckedRunComesTo limits gives heads natives program script most_depth steps outcome → IsTrue (shows_fault outcome) →
      Shows limits heads (gives natives) program script steps
  unchecked-shows outcome comes shown =
      let all = went comes (λ fault is. refused-shows-nothing is shown) in
      runs-shows all.0 all.1 all.2 shown

-- what contracts see of an outcome ended so, too
seen-so : {M S : Type 0} (seen : M → S) (outcome : Outcome M) → shows_fault (seen_outcome seen outcome) ≡ shows_fault outcome
seen-so seen (Usage fault) = refl
seen-so seen (NoInput fault) = refl
seen-so seen (Program outcome) = refl
seen-so seen (OfRun end) = refl
seen-so seen Memory = refl

-- what was prepared for a run shows what it came to
pub prepared-shows : {N : Type 0} {takes : N → Takes} {gives : N → NativeAnswers} (limits : Limits) (heads : List NativeHead) (natives : N) (program script : List ℕ) (steps : ℕ) {prepared : Prepared (Seen N)} (outcome : Outcome (Seen N)) →
    Prepares takes gives (UncheckedRunComesTo limits gives heads natives program script most_depth steps) prepared → ComesOf gives prepared (seen_outcome (λ m. m) outcome) → IsTrue (shows_fault outcome) →
    Shows limits heads (gives natives) program script steps
prepared-shows {N} {gives = gives} limits heads natives program script steps outcome prepares came shown =
    let same : shows_fault (seen_outcome (λ (m : Seen N). m) outcome) ≡ shows_fault outcome = seen-so (λ (m : Seen N). m) outcome in
    unchecked-shows gives limits heads natives program script steps _ (prepares.comes _ came) (subst IsTrue (sym same) shown)
