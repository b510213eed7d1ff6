-- What holds of a machine that has done nothing, of a program with a valid settling certificate.
use Rattle.std.proofs.Common.{◌≡◌, ◌≤◌, ℕ, List, [], length, sym, subst}
use Rattle.script_lang.specs.declared.event.Event.{Event}
use Rattle.trace_entries.specs.declared.fault.Fault.{Fault}
use Rattle.meta_model.specs.{Loaded.{Loaded}, Sound.{IsSound}}
use Rattle.native_slots.specs.Promises.{Takes}
use Rattle.machine_state.specs.{State.{State}, Worlds.{at, untouched}}
use Rattle.machine_rules.specs.{Good.{HasArguments, Spares, IsAcyclic, AreSettled, IsTyped}, Natives.{NativeAnswers, KeepPromises}}
use Rattle.settling.specs.{declared.certificate.SettlingCertificate.{SettlingCertificate}, Levels.{StacksAreShallow}, Valid.{IsValid}}
use Rattle.object_machine.{specs.CheckedLaws.{IsFaultless}, specs.Runs.{done}, specs.Seen.{Seen, Halts, InEachRun, begun}, proofs.Running.{each-weaker}}
use Rattle.settled_runs.{specs.Claims.{most_deep, IsReached, CarriesOne, ChangesToCarried, IsCarried, IsLimitAt}, specs.Machine.{SettlingClaims}, proofs.Faultless.{each_run_is_faultless, each_run_is_carried, stops_at_limits}}

module _ {N : Type 0} (takes : N → Takes) (gives : N → NativeAnswers) (shallow : StacksAreShallow) {p : Loaded} {certificate : SettlingCertificate} (sound : IsSound p) (valid : IsValid p certificate)
    (natives : N) (promises : KeepPromises takes gives p natives) (depth steps : ℕ) where
  abbrev machine : Seen N
  machine = begun p natives depth steps

  reached : IsReached (takes natives) (gives natives) p certificate (at (untouched steps) []) steps
  reached = record { sound = sound; valid = valid; promises = promises; steps = steps; taken = []; answers = []; run = done }

  abbrev Faultless : State → State → Type 0
  Faultless s t = IsFaultless p (most_deep certificate t) s t

  each-faultless : InEachRun gives machine Faultless
  each-faultless went events answers t left run = each_run_is_faultless shallow (takes natives) (gives natives) p certificate (at (untouched steps) []) t steps left events answers reached run

  each-carried : InEachRun gives machine (IsCarried p certificate)
  each-carried went events answers t left run = each_run_is_carried shallow (takes natives) (gives natives) p certificate (at (untouched steps) []) t steps left events answers reached run

  stops-for : (events : List Event) (fault : Fault) (after : Seen N) → Halts gives machine events fault after → IsLimitAt certificate depth (at after.world []) fault
  stops-for events fault after h =
      let there : IsReached (takes natives) (gives natives) p certificate (at after.world h.stack) after.world.left = record {
        sound = sound;
        valid = valid;
        promises = promises;
        steps = steps;
        taken = h.front.taken;
        answers = h.front.answers;
        run = h.front.runs.run;
      } in
      stops_at_limits shallow (takes natives) (gives natives) p certificate (at after.world h.stack) after.world.left depth after.world.left h.front.rest fault there h.cause

  begun-claimed : SettlingClaims gives certificate machine
  begun-claimed =
      let Shallow : State → State → Type 0 = λ s t. length t.stack ≤ most_deep certificate t in
      let Carries : State → State → Type 0 = λ s t. CarriesOne p certificate t in
      record {
        arguments = λ went events answers t left run. each-weaker Faultless (HasArguments p) (λ s u x. x.arguments) run (each-faultless went events answers t left run);
        acyclic = λ went events answers t left run. each-weaker Faultless (λ s u. IsAcyclic u) (λ s u x. x.acyclic) run (each-faultless went events answers t left run);
        spared = λ went events answers t left run. each-weaker Faultless Spares (λ s u x. x.spared) run (each-faultless went events answers t left run);
        shallow = λ went events answers t left run. each-weaker Faultless Shallow (λ s u x. x.shallow) run (each-faultless went events answers t left run);
        typed = λ went events answers t left run. each-weaker Faultless (λ s u. IsTyped p u) (λ s u x. x.typed) run (each-faultless went events answers t left run);
        settled = λ went events answers t left run. each-weaker Faultless (λ s u. AreSettled u) (λ s u x. x.settled) run (each-faultless went events answers t left run);
        carries = λ went events answers t left run. each-weaker (IsCarried p certificate) Carries (λ s u x. x.carries) run (each-carried went events answers t left run);
        changes = λ went events answers t left run. each-weaker (IsCarried p certificate) (ChangesToCarried p certificate) (λ s u x. x.changes) run (each-carried went events answers t left run);
        stops = stops-for;
      }

-- .. so it is of one that is known to be such
pub settling-claims : {N : Type 0} (takes : N → Takes) (gives : N → NativeAnswers) → StacksAreShallow → {m : Seen N} {p q : Loaded} {natives : N} {depth steps : ℕ} {certificate : SettlingCertificate} → IsSound p → IsValid p certificate → KeepPromises takes gives p natives →
    q ≡ p → m ≡ begun q natives depth steps → SettlingClaims gives certificate m
settling-claims {N} takes gives shallow {p = p} {q = q} {natives = natives} {depth = depth} {steps = steps} {certificate = certificate} sound valid promises same is =
    let Of : Loaded → Type 0 = λ l. SettlingClaims gives certificate (begun l natives depth steps) in
    let claims : SettlingClaims gives certificate (begun q natives depth steps) = subst Of (sym same) (begun-claimed takes gives shallow sound valid natives promises depth steps) in
    subst (λ (n : Seen N). SettlingClaims gives certificate n) (sym is) claims
