-- What is prepared, done and written.
use Rattle.std.{proofs.Common.{◌≡◌, ℕ, List, [], ◌++◌, Option, Result, Ok, Err, refl, sym, ap, ◌∙◌, subst, append_assoc}, specs.Prelude.{IfErr, OnErr}, proofs.lemmas.List.Concat.{flat_map-append}}
use Rattle.script_lang.specs.declared.event.Event.{Event}
use Rattle.meta_model.specs.Loaded.{Loaded}
use Rattle.native_slots.specs.Promises.{Takes}
use Rattle.trace_entries.specs.{Faults.{number_of as fault_number}, declared.entry.Entry.{Entry}, declared.fault.Fault.{Fault}}
use Rattle.machine_rules.specs.Natives.{NativeAnswers}
use Rattle.object_machine.specs.{Claims.{Claims, HasItsArguments, IsEverAcyclic, SparesActive, IsEverShallow, IsEverTyped, IsEverSettled}, Checked.{IsChecked, StopsAtLimit}, Seen.{Seen, AreKept, RunsAll, begun, with_front}}
use Rattle.settling.specs.declared.certificate.SettlingCertificate.{SettlingCertificate}
use Rattle.settled_runs.specs.Machine.{SettlingClaims}
use Rattle.program_commands.specs.Refusals.{fault_line}
use Rattle.command_lines.specs.declared.input.InputFault.TheVariants as input
use Rattle.command_lines.specs.{Failing.{HasFailed}, Lines.{entry_line, trace_text}, Sent.{TakesWith}, declared.output.Output.{Output}, declared.usage.UsageFault.TheVariants.{Words}, declared.watched.Failing.{Failing}}
use Rattle.trace_tool.{specs.Failed.{IfUnread}, specs.Outcomes.{Writes, answer_of, run_answer, outcome_text, outcome_status, run_text, run_status, seen_outcome}, specs.declared.any_machine.outcome.Outcome.{Outcome}, specs.declared.any_machine.outcome.Outcome.TheVariants.{Usage, NoInput, Program, Ran as OfRun, Memory}, specs.declared.any_machine.outcome.Ran.{Ran}, specs.Commands.{Runs, RunsFaultless, RunsSettling, ran, ran_faultless, ran_settling}, specs.Prepared.{RunsSo, Prepares, ComesOf, ComesOfRun, CarriesOut, seen_prepared, with_gone}, specs.code.Streaming.{Streams}, specs.declared.any_machine.prepared.Prepared.{Prepared}, specs.declared.any_machine.prepared.Prepared.TheVariants.{Done, Ready as OfReady}, specs.declared.any_machine.prepared.Ready.{Ready}, proofs.Answering.{ends_at_limit, ends_settling, claims_of}}

-- ---- what is prepared

pub done-prepares : {M N : Type 0} (seen : M → Seen N) (takes : N → Takes) (gives : N → NativeAnswers) {ComesTo : Outcome (Seen N) → Type 0} {prepared : Prepared M} {outcome : Outcome M} → prepared ≡ Done outcome → ComesTo (seen_outcome seen outcome) →
    Prepares takes gives ComesTo (seen_prepared seen prepared)
done-prepares {M} seen takes gives {ComesTo = ComesTo} is x =
    let At : Prepared M → Type 0 = λ p. Prepares takes gives ComesTo (seen_prepared seen p) in
    subst At (sym is) (record { may = tt; comes = λ end same. subst ComesTo (sym same) x })

module _ {N : Type 0} (takes : N → Takes) (gives : N → NativeAnswers) where
  pub done-now : {ComesTo : Outcome (Seen N) → Type 0} (outcome : Outcome (Seen N)) → ComesTo outcome → Prepares takes gives ComesTo (Done outcome)
  done-now {ComesTo} outcome x = record { may = tt; comes = λ end same. subst ComesTo (sym same) x }

  pub ready-prepares : {ComesTo : Outcome (Seen N) → Type 0} (ready : Ready (Seen N)) → AreKept takes gives ready.machine → ((end : Ran (Seen N)) → RunsSo gives ready.machine ready.events end → ComesTo (OfRun end)) → Prepares takes gives ComesTo (OfReady ready)
  ready-prepares {ComesTo} ready kept go = record { may = kept; comes = λ end x. subst ComesTo (sym x.2) (go x.0 x.1) }

  pub prepares-as : {ComesTo GoesTo : Outcome (Seen N) → Type 0} {prepared : Prepared (Seen N)} → ((end : Outcome (Seen N)) → ComesTo end → GoesTo end) → Prepares takes gives ComesTo prepared → Prepares takes gives GoesTo prepared
  prepares-as go x = record { may = x.may; comes = λ end of. go end (x.comes end of) }

-- ---- a machine that is known to have done nothing

module _ {N : Type 0} {gives : N → NativeAnswers} {machine : Seen N} {loaded : Loaded} {natives : N} {depth steps : ℕ} {events : List Event} where
  pub runs-begun : machine ≡ begun loaded natives depth steps → (end : Ran (Seen N)) → RunsSo gives machine events end → Runs gives (begun loaded natives depth steps) events (OfRun end)
  runs-begun begins end so =
      let Goes : Seen N → Type 0 = λ m. RunsAll gives m events end.ended end.machine in
      ran end (subst Goes begins so.ran)

  pub faultless-begun : machine ≡ begun loaded natives depth steps → IsChecked gives machine → HasItsArguments gives machine → IsEverAcyclic gives machine → SparesActive gives machine → IsEverShallow gives machine → IsEverTyped gives machine → IsEverSettled gives machine → (end : Ran (Seen N)) → RunsSo gives machine events end → RunsFaultless gives (begun loaded natives depth steps) events (OfRun end)
  faultless-begun begins checked arguments acyclic spared shallow typed settled end so =
      let claims : Claims gives machine = record { arguments = arguments; acyclic = acyclic; spared = spared; shallow = shallow; typed = typed; settled = settled } in
      let Goes : Seen N → Type 0 = λ m. RunsAll gives m events end.ended end.machine in
      ran_faultless end (subst Goes begins so.ran) (ends_at_limit end.ended begins (so.limits checked)) (claims_of begins claims)

  pub settling-begun : {certificate : SettlingCertificate} → machine ≡ begun loaded natives depth steps → SettlingClaims gives certificate machine → (end : Ran (Seen N)) → RunsSo gives machine events end → RunsSettling gives certificate (begun loaded natives depth steps) events (OfRun end)
  settling-begun {certificate} begins claims end so =
      let Goes : Seen N → Type 0 = λ m. RunsAll gives m events end.ended end.machine in
      let Claimed : Seen N → Type 0 = λ m. SettlingClaims gives certificate m in
      let goes = subst Goes begins so.ran in
      let claimed = subst Claimed begins claims in
      ran_settling end goes (ends_settling gives certificate loaded natives depth steps events end.ended end.machine goes claimed.stops) claimed

-- ---- what was done

pub carried-as : {N E : Type 0} {ComesTo GoesTo : Outcome (Seen N) → Type 0} {before after : Option (List ℕ)} {left : Outcome (Seen N)} {written : Result ℕ E} {writing : Failing} → ((end : Outcome (Seen N)) → ComesTo end → GoesTo end) →
    CarriesOut ComesTo before after left written writing → CarriesOut GoesTo before after left written writing
carried-as go x = record { gone = x.gone; comes = go _ x.comes; takes = x.takes; failed = x.failed }

-- .. is what had been prepared
pub carried-of : {N E : Type 0} {takes : N → Takes} {gives : N → NativeAnswers} {ComesTo : Outcome (Seen N) → Type 0} {prepared : Prepared (Seen N)} {before after : Option (List ℕ)} {left : Outcome (Seen N)} {written : Result ℕ E} {writing : Failing} → Prepares takes gives ComesTo prepared →
    CarriesOut (ComesOf gives prepared) before after left written writing → CarriesOut ComesTo before after left written writing
carried-of prepares x = carried-as prepares.comes x

-- .. which was done at once
pub carried-at-once : {M N E : Type 0} (seen : M → Seen N) (gives : N → NativeAnswers) {ComesTo : Outcome (Seen N) → Type 0} {prepared : Prepared M} {outcome : Outcome M} {before after : Option (List ℕ)} {left : Outcome (Seen N)} {written : Result ℕ E} {writing : Failing} → prepared ≡ Done outcome → ComesTo (seen_outcome seen outcome) →
    CarriesOut (ComesOf gives (seen_prepared seen prepared)) before after left written writing → CarriesOut ComesTo before after left written writing
carried-at-once {M} {N} seen gives {ComesTo = ComesTo} is came x =
    let At : Prepared M → Type 0 = λ p. (end : Outcome (Seen N)) → ComesOf gives (seen_prepared seen p) end → ComesTo end in
    carried-as (subst At (sym is) (λ end same. subst ComesTo (sym same) came)) x

-- what is seen of an outcome has the exit status of the outcome
pub told-status : {N : Type 0} (outcome : Outcome (Seen N)) → outcome_status outcome ≡ (answer_of outcome).1
told-status (Usage fault) = refl
told-status (NoInput (input.Unread reason)) = refl
told-status (NoInput input.Memory) = refl
told-status (Program outcome) = refl
told-status (OfRun end) = run-told end.machine.world.trace end.ended
  where
    run-told : (trace : List Entry) (ended : Result (Unit {0}) Fault) → run_status ended ≡ (run_answer trace ended).1
    run-told trace (Ok done) = refl
    run-told trace (Err fault) = refl
told-status Memory = refl

-- .. and was written
pub carried-writes : {N E : Type 0} {ComesTo : Outcome (Seen N) → Type 0} {before after : Option (List ℕ)} {left : Outcome (Seen N)} {written answer : Result ℕ E} {writing : Failing} → CarriesOut ComesTo before after left written writing → answer ≡ written → Writes ComesTo before after answer
carried-writes {N = N} {E = E} {ComesTo = ComesTo} {before = before} {after = after} {left = left} {written = written} x is =
    let At : Result ℕ E → Type 0 = λ r. Writes ComesTo before after r in
    let told : Outcome (Seen N) = with_gone x.gone left in
    let takes = subst (λ (status : ℕ). TakesWith before after (outcome_text told) status written) (told-status told) x.takes in
    subst At (sym is) (record { outcome = told; comes = x.comes; takes = takes })

-- .. with no exit status only where a write failed
pub carried-failed : {N E : Type 0} {ComesTo : Outcome (Seen N) → Type 0} {before after : Option (List ℕ)} {left : Outcome (Seen N)} {written answer : Result ℕ E} {writing noted : Failing} → CarriesOut ComesTo before after left written writing → answer ≡ written → noted ≡ writing → OnErr answer (HasFailed noted)
carried-failed {answer = answer} {writing = writing} x is noted =
    subst (λ (f : Failing). OnErr answer (HasFailed f)) (sym noted) (subst (λ (r : Result ℕ _). OnErr r (HasFailed writing)) (sym is) x.failed)

-- nothing was handed over of what didn't run
none-gone : {N : Type 0} (outcome : Outcome (Seen N)) → with_gone [] outcome ≡ outcome
none-gone (Usage fault) = refl
none-gone (NoInput fault) = refl
none-gone (Program outcome) = refl
none-gone (OfRun end) = refl
none-gone Memory = refl

-- the exit status is that of what is seen
status-seen : {M S : Type 0} (seen : M → S) (outcome : Outcome M) → outcome_status (seen_outcome seen outcome) ≡ outcome_status outcome
status-seen seen (Usage fault) = refl
status-seen seen (NoInput fault) = refl
status-seen seen (Program outcome) = refl
status-seen seen (OfRun end) = refl
status-seen seen Memory = refl

pub carried-done : {M N E : Type 0} (seen : M → Seen N) {ComesTo : Outcome (Seen N) → Type 0} {before after : Option (List ℕ)} {written : Result ℕ E} {writing : Failing} (outcome : Outcome M) → ComesTo (seen_outcome seen outcome) →
    TakesWith before after (outcome_text (seen_outcome seen outcome)) (outcome_status outcome) written → OnErr written (HasFailed writing) →
    CarriesOut ComesTo before after (seen_outcome seen outcome) written writing
carried-done {M} {N} seen {ComesTo = ComesTo} {before = before} {after = after} {written = written} outcome comes takes failed =
    let is : Outcome (Seen N) = seen_outcome seen outcome in
    let Status : ℕ → Type 0 = λ status. TakesWith before after (outcome_text is) status written in
    let Written : Outcome (Seen N) → Type 0 = λ o. TakesWith before after (outcome_text o) (outcome_status o) written in
    let same = sym (none-gone is) in
    record { gone = []; comes = subst ComesTo same comes; takes = subst Written same (subst Status (sym (status-seen seen outcome)) takes); failed = failed }

-- ---- a run that was written out while it went on

-- its text is what was handed over, and the rest
run-text-front : (gone rest : List Entry) (ended : Result (Unit {0}) Fault) → run_text (gone ++ rest) ended ≡ trace_text gone ++ run_text rest ended
run-text-front gone rest (Ok done) = flat_map-append entry_line gone rest
run-text-front gone rest (Err fault) =
    ap (λ (l : List ℕ). l ++ fault_line (fault_number fault)) (flat_map-append entry_line gone rest) ∙ append_assoc (trace_text gone) (trace_text rest) (fault_line (fault_number fault))

pub carried-run : {N W E : Type 0} {gives : N → NativeAnswers} {contents : W → Option (List ℕ)} {m n : Seen N} {events : List Event} {ended : Result (Unit {0}) Fault} {a b : Output W (List ℕ)} {before after : Option (List ℕ)} {written : Result ℕ E} {writing : Failing} →
    (streams : Streams gives contents m events ended n a b) → (IsChecked gives m → IfErr ended (StopsAtLimit m)) →
    TakesWith before after (trace_text streams.gone ++ run_text n.world.trace ended) (run_status ended) written → OnErr written (HasFailed writing) →
    CarriesOut (ComesOfRun gives m events) before after (OfRun (record { machine = n; ended = ended })) written writing
carried-run {N} {n = n} {ended = ended} {before = before} {after = after} {written = written} streams limits takes failed =
    let whole : Ran (Seen N) = record { machine = with_front streams.gone n; ended = ended } in
    let Written : List ℕ → Type 0 = λ text. TakesWith before after text (run_status ended) written in
    record {
      gone = streams.gone;
      comes = (whole, record { ran = streams.ran; limits = limits }, refl);
      takes = subst Written (sym (run-text-front streams.gone n.world.trace ended)) takes;
      failed = failed;
    }

-- ---- what comes only of a read that failed

unread-of : {M N : Type 0} (seen : M → Seen N) (gone : List Entry) (outcome : Outcome M) (P : Type 0) → IfUnread (with_gone gone (seen_outcome seen outcome)) P → IfUnread outcome P
unread-of seen gone (Usage fault) P x = x
unread-of seen gone (NoInput fault) P x = x
unread-of seen gone (Program outcome) P x = x
unread-of seen gone (OfRun end) P x = x
unread-of seen gone Memory P x = x

-- this is so of what is left where it is of all that it came to
pub unread-left : {M N E : Type 0} (seen : M → Seen N) {ComesTo : Outcome (Seen N) → Type 0} {before after : Option (List ℕ)} (left : Outcome M) {written : Result ℕ E} {writing : Failing} (P : Type 0) →
    CarriesOut ComesTo before after (seen_outcome seen left) written writing → ((end : Outcome (Seen N)) → ComesTo end → IfUnread end P) → IfUnread left P
unread-left seen left P x go = unread-of seen x.gone left P (go _ x.comes)

-- .. as where the words were no command
pub usage-left : {M N E : Type 0} (seen : M → Seen N) (gives : N → NativeAnswers) {prepared : Prepared M} {before after : Option (List ℕ)} (left : Outcome M) {written : Result ℕ E} {writing : Failing} (P : Type 0) → prepared ≡ Done (Usage Words) →
    CarriesOut (ComesOf gives (seen_prepared seen prepared)) before after (seen_outcome seen left) written writing → IfUnread left P
usage-left {M} {N} seen gives left P is x = unread-left seen left P (carried-at-once seen gives {ComesTo = λ (o : Outcome (Seen N)). IfUnread o P} is tt x) (λ end comes. comes)
