-- Each rule keeps what a run keeps, and spares every object that has a body (docs/settling-proof.md, "Each rule keeps it").
use Rattle.std.{proofs.Common.{◌≡◌, ℕ, List, [], ◌∷◌, length, Option, refl, ap}, proofs.lemmas.Option.{none-some}}
use Rattle.meta_model.specs.{Loaded.{Loaded}, Sound.{IsSound}}
use Rattle.prop_bindings.specs.Fits.{Agree}
use Rattle.machine_state.specs.{Connections.{next_used}, State.{State, Activation, Body, Emit, Update, Destroy}}
use Rattle.machine_rules.{specs.Good.{IsWell as IsGiven, Spares}, specs.Natives.{NativeAnswers}, specs.Rules.{Rule, RuleAt}, specs.code.Sound.{AllWait}}
use Rattle.settling.specs.{declared.certificate.SettlingCertificate.{SettlingCertificate}, Valid.{IsValid}}
use Rattle.object_machine.proofs.CheckedRuns.Staying.{spared-as, update-objects, emission-objects}
use Rattle.settled_runs.{specs.Levels.{Level, AreCosts}, specs.Written.{HaveWritten}, proofs.Invariant.{Stacked}, proofs.Begun.{Covered, Held}, proofs.Emitting.{emission-held, update-held}, proofs.Turning.{turn-held}, proofs.Deleting.{destroy-held}, proofs.Carrying.{KeepsPlaces, places-same, places-died, destroy-died}, proofs.Bodies.{Goes, body-goes}}

module _ {p : Loaded} {certificate : SettlingCertificate} (sound : IsSound p) (valid : IsValid p certificate) (cost : ℕ → ℕ) (costs : AreCosts p certificate cost) (classes : ℕ → Option ℕ) where
  at-top : (natives : NativeAnswers) (s t : State) (stack : List Activation) (levels : List (Level certificate)) → s.stack ≡ stack → Covered sound valid cost classes s → Agree p s.objects s.bindings → IsGiven p s t → AllWait p s.objects s.queues.loops
      → Stacked p cost classes s.objects stack levels → HaveWritten s.objects levels → RuleAt p natives s t stack → Goes sound valid cost costs classes s stack levels t
  at-top natives s t [] [] is covered agree given waiting st written rule =
      (turn-held sound valid cost costs classes s t covered is given waiting s.turn rule, λ o body gone. absurd (cc body), λ j l c q at within there. absurd (none-some l at))
  at-top natives s t [] (level ∷ levels) is covered agree given waiting st written rule = absurd st
  at-top natives s t (a ∷ below) [] is covered agree given waiting st written rule = absurd st
  at-top natives s t (Body o m arguments left ∷ below) (level ∷ levels) is covered agree given waiting st written rule =
      body-goes sound valid cost costs classes natives s t below level levels o m arguments left covered agree given (ap (λ (l : List Activation). length l) is) st.0 st.1 st.2 st.3 written rule
  at-top natives s t (Emit o g arguments used last ∷ below) (level ∷ levels) is covered agree given waiting st written rule = (
    emission-held sound valid cost costs classes s t below level levels o g arguments used last covered given (ap (λ (l : List Activation). length l) is) st.0 st.1 st.2 st.3 written _ refl rule,
    spared-as (Emit o g arguments used last ∷ below) s.objects t.objects (emission-objects p s t o g arguments last below (next_used s.objects s.connected.connections o g used last) rule),
    places-same p classes (level ∷ levels) s.objects t.objects (emission-objects p s t o g arguments last below (next_used s.objects s.connected.connections o g used last) rule),
  )
  at-top natives s t (Update places ∷ below) (level ∷ levels) is covered agree given waiting st written rule = (
    update-held sound valid cost costs classes s t below level levels places covered st.0 st.1 st.2 st.3 written rule,
    spared-as (Update places ∷ below) s.objects t.objects (update-objects p s t below places rule),
    places-same p classes (level ∷ levels) s.objects t.objects (update-objects p s t below places rule),
  )
  at-top natives s t (Destroy next torn ∷ below) (level ∷ levels) is covered agree given waiting st written rule =
      let g = destroy-held sound valid cost costs classes s t below level levels next torn covered st.0 st.1 st.2 st.3 written rule in
      (g.0, λ o body gone. g.1 o body gone, places-died p classes (level ∷ levels) s.objects t.objects (destroy-died s t below next torn rule))

  -- each rule keeps it, spares every object that has a body, and writes in sets just what they carry
  pub rule-held : (natives : NativeAnswers) (s t : State) → (held : Held sound valid cost classes s) → Agree p s.objects s.bindings → IsGiven p s t → AllWait p s.objects s.queues.loops → Rule p natives s t → Held sound valid cost classes t × Spares s t × KeepsPlaces p classes s.objects t.objects held.levels
  rule-held natives s t held agree given waiting rule = at-top natives s t s.stack held.levels refl held.covered agree given waiting held.stacked held.written rule
