-- What every state of a run without a bad moment keeps, where a settling certificate is valid.
use Rattle.std.proofs.Common.{◌≡◌, ◌⊎◌, inl, inr, ℕ, IsTrue, List, [], length, Option, None, subst}
use Rattle.script_lang.specs.declared.event.Event.{Event}
use Rattle.meta_model.specs.{Loaded.{Loaded}, Sound.{IsSound}}
use Rattle.trace_entries.specs.declared.fault.Answer.{Answer}
use Rattle.machine_state.specs.{State.{State, Activation}, Worlds.{at, untouched}}
use Rattle.machine_rules.specs.{Good.{IsWell, IsGood, Spares, has_body}, Natives.{NativeAnswers}, Rules.{Rule}}
use Rattle.settling.specs.{declared.certificate.SettlingCertificate.{SettlingCertificate}, Valid.{IsValid}}
use Rattle.object_machine.{specs.Runs.{Run, done, goes, takes, Each, GoodRun, Follows, by_rule, by_event}, specs.Takes.{Takes, accepts, refuses}, proofs.Standing.{Invariant}, proofs.Preservation.{after-rule, after-event}, proofs.CheckedRuns.Kept.{start-invariant, start-covered}}
use Rattle.object_machine.proofs.CheckedRuns.Staying.{Covered, same-count}
use Rattle.settled_runs.{specs.Levels.{AreCosts}, proofs.Invariant.{Holds}, proofs.Rules.{rule-held}, proofs.Events.{takes-held}, proofs.Carrying.{KeepsPlaces}}

pub record Kept (p : Loaded) (cost : ℕ → ℕ) (certificate : SettlingCertificate) (s : State) : Type 0 where
  pub classes : ℕ → Option ℕ
  pub held : Holds p cost certificate classes s
  pub up : Invariant p s

-- what follows keeps it, spares every object that has a body, and is of as many objects unless nothing is active then
pub record Followed (p : Loaded) (cost : ℕ → ℕ) (certificate : SettlingCertificate) (s t : State) : Type 0 where
  pub classes : ℕ → Option ℕ
  pub held : Holds p cost certificate classes t
  pub spared : Spares s t
  pub count : (length t.objects ≡ length s.objects) ⊎ (t.stack ≡ [])

-- an event is taken where nothing is active
pub idle-taken : {p : Loaded} {e : Event} {a : Answer} {u v : State} → Takes p e a u v → u.stack ≡ []
idle-taken (accepts idle y) = idle.empty
idle-taken (refuses k idle y) = idle.empty

pub no-body-idle : (s : State) → s.stack ≡ [] → (o : ℕ) → IsTrue (has_body o s.stack) → ⊥
no-body-idle s empty o body = let none : IsTrue (has_body o []) = subst (λ (l : List Activation). IsTrue (has_body o l)) empty body in absurd (cc none)

module _ {p : Loaded} {certificate : SettlingCertificate} (sound : IsSound p) (valid : IsValid p certificate) (cost : ℕ → ℕ) (costs : AreCosts p certificate cost) (natives : NativeAnswers) where
  rule-followed : {s t : State} → Kept p cost certificate s → IsWell p s t → Rule p natives s t → Followed p cost certificate s t
  rule-followed {s} {t} kept well rule =
      let up = kept.up in
      let held = rule-held sound valid cost costs kept.classes natives s t kept.held (up.sound).agree well (up.sound).waiting rule in
      record { classes = kept.classes; held = held.0; spared = held.1; count = inl (same-count p kept.classes t.objects s.objects ((held.0).covered).known ((kept.held).covered).known) }

  event-followed : {s t : State} {e : Event} {a : Answer} → Kept p cost certificate s → IsWell p s t → Takes p e a s t → Followed p cost certificate s t
  event-followed {s} {t} {e} kept well x =
      let up = kept.up in
      let held = takes-held sound valid cost costs s t e (kept.classes, kept.held) (up.sound).agree well x in
      record { classes = (held.0).0; held = (held.0).1; spared = λ o body gone. absurd (no-body-idle s (idle-taken x) o body); count = held.1 }

  -- what follows writes in sets just what they carry
  pub places-kept : {s t : State} {next : List Event} → (kept : Kept p cost certificate s) → IsWell p s t → Follows p natives s t next → (s.stack ≡ []) ⊎ (KeepsPlaces p kept.classes s.objects t.objects (kept.held).levels × Covered p kept.classes t)
  places-kept {s} {t} kept well (by_rule rule) =
      let up = kept.up in
      let held = rule-held sound valid cost costs kept.classes natives s t kept.held (up.sound).agree well (up.sound).waiting rule in
      inr (held.2, (held.0).covered)
  places-kept kept well (by_event x) = inl (idle-taken x)

  pub followed : {s t : State} {next : List Event} → Kept p cost certificate s → IsWell p s t → Follows p natives s t next → Followed p cost certificate s t
  followed {s} {t} kept well (by_rule rule) = rule-followed {s = s} {t = t} kept well rule
  followed {s} {t} kept well (by_event x) = event-followed {s = s} {t = t} kept well x

  steps-kept : {s t : State} {n k : ℕ} {es : List Event} {xs : List Answer} (d : ℕ) (r : Run p natives s n es xs t k) → Each (IsGood p d) r → Kept p cost certificate s → Kept p cost certificate t
  steps-kept d done good kept = kept
  steps-kept d (goes {s = s} {m = m} x rest) good kept =
      let f = rule-followed {s = s} {t = m} kept (good.0).well x in
      steps-kept d rest good.1 (record { classes = f.classes; held = f.held; up = after-rule natives sound kept.up good.0 x })
  steps-kept d (takes {s = s} {m = m} x rest) good kept =
      let f = event-followed {s = s} {t = m} kept (good.0).well x in
      steps-kept d rest good.1 (record { classes = f.classes; held = f.held; up = after-event sound kept.up good.0 x })

  pub run-kept : {d steps left : ℕ} {s : State} {taken : List Event} {answers : List Answer} → GoodRun p natives d (at (untouched steps) []) steps taken answers s left → Kept p cost certificate s
  run-kept {d} {steps = steps} r = steps-kept d r.run r.good (record { classes = λ o. None; held = record { covered = start-covered p steps; levels = []; stacked = tt; written = tt }; up = start-invariant p steps })
