-- Each step of a run is faultless, where a settling certificate is valid and natives keep their promise.
use Rattle.std.proofs.Common.{◌≡◌, ◌⊎◌, inl, inr, ℕ, ◌+◌, ◌*◌, ◌<◌, List, [], ◌∷◌, length, Option, None, refl, ap, arith}
use Rattle.script_lang.specs.declared.event.Event.{Event}
use Rattle.meta_model.specs.{Loaded.{Loaded}, Sound.{IsSound}}
use Rattle.native_slots.specs.Promises.{Takes, Promises}
use Rattle.object_tree.specs.declared.object.Object.{Object}
use Rattle.trace_entries.specs.{declared.fault.Answer.{Answer}, declared.fault.Fault.{Fault}, declared.fault.Fault.TheVariants.{TooDeep}}
use Rattle.machine_state.specs.{State.{State, Activation, Body, Emit, Update, Destroy}, Worlds.{at, untouched}}
use Rattle.machine_rules.specs.{Good.{IsWell, IsGood, Spares, IsAcyclic}, Natives.{NativeAnswers}, Rules.{Rule}}
use Rattle.settling.specs.{declared.certificate.SettlingCertificate.{SettlingCertificate}, Levels.{StacksAreShallow}, Valid.{IsValid}}
use Rattle.object_machine.{specs.Causes.{Brings, StopsFor, spent, short as of_memory, brings, lacks_value, writes_ill, binds_ill, goes_ill, goes_fatal, binds_loop, writes_deep, goes_deep}, specs.Checked.{IsLimit, no_rule, no_memory}, specs.CheckedLaws.{IsFaultless}, specs.Runs.{Run, Each, Follows, by_rule, by_event}, specs.Takes.{Takes as Taking}, proofs.Standing.{Invariant}, proofs.Preservation.{after-rule, after-event}}
use Rattle.object_machine.proofs.CheckedRuns.{Invariant.{TopStands}, Promised.{AllIsPromised}, Binding.{binds-fit}, Sites.{ChainsEnd}, Staying.{same-count}, Kept.{start-invariant, start-covered, lacks-none, loops-none}, Arguments.{takes-pushes}, Steps.{Known, fits-known, rule-known, rule-agree, event-agree, rule-well, event-well, each-step, steps-stand}}
use Rattle.settled_runs.{specs.Levels.{Level, AreCosts}, specs.Claims.{most_deep, IsReached, EachRunIsFaultless, StopsAtLimits, IsCarried}, proofs.Chains.{chains-end}, proofs.Claims.{writes-room, carries-one, changes-followed}, proofs.Edges.{set-costs}, proofs.Invariant.{Stacked, Holds}, proofs.Stacks.{no-deeper}, proofs.Rules.{rule-held}, proofs.Events.{takes-held}, proofs.Steps.{Kept, idle-taken, no-body-idle}}

-- what is on top of a stack stands
top-stands : (p : Loaded) (cost : ℕ → ℕ) {certificate : SettlingCertificate} (classes : ℕ → Option ℕ) (objects : List Object) (stack : List Activation) (levels : List (Level certificate)) → Stacked p cost classes objects stack levels → TopStands p objects stack
top-stands p cost classes objects [] levels st = tt
top-stands p cost classes objects (a ∷ below) [] st = absurd st
top-stands p cost classes objects (Body o m arguments left ∷ below) (level ∷ levels) st = ((st.0).node, (st.0).stands)
top-stands p cost classes objects (Emit o g arguments used last ∷ below) (level ∷ levels) st = tt
top-stands p cost classes objects (Update places ∷ below) (level ∷ levels) st = tt
top-stands p cost classes objects (Destroy next torn ∷ below) (level ∷ levels) st = tt

-- what a state of a run keeps
record Stood (p : Loaded) (cost : ℕ → ℕ) (certificate : SettlingCertificate) (s : State) : Type 0 where
  classes : ℕ → Option ℕ
  held : Holds p cost certificate classes s
  up : Invariant p s
  promised : AllIsPromised p classes s.stack

-- .. and what follows, with as many objects unless nothing is active then
record Follower (p : Loaded) (cost : ℕ → ℕ) (certificate : SettlingCertificate) (s t : State) : Type 0 where
  stood : Stood p cost certificate t
  well : IsWell p s t
  spared : Spares s t
  count : (length t.objects ≡ length s.objects) ⊎ (t.stack ≡ [])

module _ {p : Loaded} {certificate : SettlingCertificate} (sound : IsSound p) (valid : IsValid p certificate) (cost : ℕ → ℕ) (costs : AreCosts p certificate cost) (shallow : StacksAreShallow)
    (accepts : Takes) (natives : NativeAnswers) (promises : Promises p accepts natives) where
  as-known : {s : State} → (stood : Stood p cost certificate s) → Known p stood.classes s
  as-known {s} stood = record {
    covered = (stood.held).covered;
    top = top-stands p cost stood.classes s.objects s.stack (stood.held).levels (stood.held).stacked;
    up = stood.up;
    promised = stood.promised;
  }

  good : {s t : State} → Stood p cost certificate s → IsWell p s t → Spares s t → IsAcyclic t → (classes : ℕ → Option ℕ) → Holds p cost certificate classes t → IsGood p (most_deep certificate t) s t
  good stood well spared acyclic classes held = record { well = well; spared = spared; acyclic = acyclic; shallow = no-deeper shallow costs held; fits = fits-known (valid.typed) sound (as-known stood) }

  rule-follows : {s t : State} → Stood p cost certificate s → Rule p natives s t → Follower p cost certificate s t
  rule-follows {s} {t} stood rule =
      let up = stood.up in
      let well = rule-well (valid.typed) sound accepts natives promises {s = s} {t = t} (as-known stood) rule in
      let agree = rule-agree (valid.typed) sound accepts natives promises {s = s} t (as-known stood) rule in
      let held = rule-held sound valid cost costs stood.classes natives s t stood.held (up.sound).agree well (up.sound).waiting rule in
      let is_good = good {s = s} {t = t} stood well held.1 agree.acyclic stood.classes held.0 in
      record {
        stood = record { classes = stood.classes; held = held.0; up = after-rule natives sound up is_good rule; promised = (rule-known (valid.typed) sound accepts natives promises {s = s} {t = t} (as-known stood) rule).promised };
        well = well;
        spared = held.1;
        count = inl (same-count p stood.classes t.objects s.objects ((held.0).covered).known ((stood.held).covered).known);
      }

  event-follows : {s t : State} {e : Event} {a : Answer} → Stood p cost certificate s → Taking p e a s t → Follower p cost certificate s t
  event-follows {s} {t} {e} stood x =
      let up = stood.up in
      let ends : ChainsEnd p = chains-end sound valid in
      let well = event-well (valid.typed) sound accepts natives promises ends (as-known stood) x in
      let agree = event-agree (valid.typed) sound accepts natives promises ends (as-known stood) x in
      let held = takes-held sound valid cost costs s t e (stood.classes, stood.held) (up.sound).agree well x in
      let spared : Spares s t = λ o body gone. absurd (no-body-idle s (idle-taken x) o body) in
      let is_good = good {s = s} {t = t} stood well spared agree.acyclic (held.0).0 (held.0).1 in
      record {
        stood = record { classes = (held.0).0; held = (held.0).1; up = after-event sound up is_good x; promised = (takes-pushes s t e (held.0).0 x).promised };
        well = well;
        spared = spared;
        count = held.1;
      }

  follows-stood : {s t : State} {next : List Event} → Stood p cost certificate s → Follows p natives s t next → Follower p cost certificate s t
  follows-stood {s} {t} stood (by_rule rule) = rule-follows {s = s} {t = t} stood rule
  follows-stood {s} {t} stood (by_event x) = event-follows {s = s} {t = t} stood x

  -- ---- every step

  faultless : {s t : State} {next : List Event} → Stood p cost certificate s → Follows p natives s t next → IsFaultless p (most_deep certificate t) s t
  faultless {s} {t} stood follows =
      let f = follows-stood {s = s} {t = t} stood follows in
      let after = f.stood in
      record {
        arguments = (f.well).arguments;
        acyclic = (((after.up).sound).agree).acyclic;
        spared = f.spared;
        shallow = no-deeper shallow costs after.held;
        typed = record {
          values = (f.well).values;
          has_values = λ lacking. lacks-none t (valid.typed) sound (((after.up).sound).agree).typed (as-known after).top lacking;
          fits = fits-known (valid.typed) sound (as-known after);
        };
        settled = (((after.up).sound).agree).settled;
      }

  step-stood : {s t : State} {next : List Event} → Stood p cost certificate s → Follows p natives s t next → Stood p cost certificate t
  step-stood {s} {t} stood follows = (follows-stood {s = s} {t = t} stood follows).stood

  -- sets carry one value, and places change to it
  carried : {s t : State} {next : List Event} → Stood p cost certificate s → Follows p natives s t next → IsCarried p certificate s t
  carried {s} {t} stood follows =
      let f = follows-stood {s = s} {t = t} stood follows in
      let kept : Kept p cost certificate s = record { classes = stood.classes; held = stood.held; up = stood.up } in
      record {
        carries = carries-one sound valid cost costs (f.stood).classes (f.stood).held;
        changes = changes-followed sound valid cost costs natives {s = s} {t = t} kept f.well follows;
      }

  -- where a run from the beginning comes to
  come-stood : {steps left : ℕ} {s : State} {taken : List Event} {answers : List Answer} → Run p natives (at (untouched steps) []) steps taken answers s left → Stood p cost certificate s
  come-stood {steps = steps} r =
      steps-stand natives (Stood p cost certificate) (λ s t next stood follows. step-stood {s = s} {t = t} stood follows) r (record {
        classes = λ o. None;
        held = record { covered = start-covered p steps; levels = []; stacked = tt; written = tt };
        up = start-invariant p steps;
        promised = tt;
      })

  -- ---- why a run stops

  by-brought : {s : State} {depth : ℕ} {next : List Event} {f : Fault} → Stood p cost certificate s → Brings p natives depth s next f → IsLimit f ⊎ ((f ≡ TooDeep) × (depth < most_deep certificate s))
  by-brought {s} stood (lacks_value lacking) = absurd (lacks-none s (valid.typed) sound ((stood.up).sound).agree.typed (as-known stood).top lacking)
  by-brought stood (writes_ill w) = absurd (fits-known (valid.typed) sound (as-known stood) w)
  by-brought stood (binds_ill x) = absurd (x.ill (binds-fit (valid.typed) sound ((stood.up).sound).agree x.next))
  by-brought {s} stood (goes_ill g) = absurd (g.ill (follows-stood {s = s} {t = g.t} stood g.follows).well)
  by-brought {s} stood (goes_fatal g) = absurd (g.fatal (follows-stood {s = s} {t = g.t} stood g.follows).spared)
  by-brought {s} stood (binds_loop loop) = absurd (loops-none sound (chains-end sound valid) s stood.classes (stood.held).covered ((stood.up).sound).agree loop)
  by-brought stood (writes_deep w) =
      let room = writes-room sound valid cost costs shallow stood.held ((stood.up).sound).agree.typed w in
      let deep = w.deep in
      inr (refl, omega (arith, room, deep))
  by-brought {s} stood (goes_deep g) =
      let f = follows-stood {s = s} {t = g.t} stood g.follows in
      let deep = g.deep in
      let low = no-deeper shallow costs (f.stood).held in
      inr (
        refl,
        elim f.count [
          | inl same ↦ let most = ap (λ (n : ℕ). certificate.bound + certificate.step * n) same in omega (arith, deep, low, most)
          | inr empty ↦ let none = ap (λ (l : List Activation). length l) empty in absurd (omega (arith, deep, none))
        ],
      )

  by-fault : {s : State} {depth rules : ℕ} {next : List Event} {f : Fault} → Stood p cost certificate s → StopsFor p natives depth s rules next f → IsLimit f ⊎ ((f ≡ TooDeep) × (depth < most_deep certificate s))
  by-fault stood (spent none due) = inl no_rule
  by-fault stood (of_memory some due) = inl no_memory
  by-fault {s} stood (brings some x) = by-brought {s = s} stood x

pub each_run_is_faultless : StacksAreShallow → (accepts : Takes) (natives : NativeAnswers) → EachRunIsFaultless accepts natives
each_run_is_faultless shallow accepts natives p certificate s t left after events answers reached run =
    let costs = set-costs reached.valid in
    each-step natives (Stood p costs.0 certificate) (λ u v. IsFaultless p (most_deep certificate v) u v)
    (λ u v next stands follows. faultless reached.sound reached.valid costs.0 costs.1 shallow accepts natives reached.promises {s = u} {t = v} stands follows)
    (λ u v next stands follows. step-stood reached.sound reached.valid costs.0 costs.1 shallow accepts natives reached.promises {s = u} {t = v} stands follows)
    run (come-stood reached.sound reached.valid costs.0 costs.1 shallow accepts natives reached.promises reached.run)

pub stops_at_limits : StacksAreShallow → (accepts : Takes) (natives : NativeAnswers) → StopsAtLimits accepts natives
stops_at_limits shallow accepts natives p certificate s left depth rules next fault reached stops =
    let costs = set-costs reached.valid in
    by-fault reached.sound reached.valid costs.0 costs.1 shallow accepts natives reached.promises (come-stood reached.sound reached.valid costs.0 costs.1 shallow accepts natives reached.promises reached.run) stops

pub each_run_is_carried : StacksAreShallow → (accepts : Takes) (natives : NativeAnswers) (p : Loaded) (certificate : SettlingCertificate) (s t : State) (left after : ℕ) (events : List Event) (answers : List Answer) →
    IsReached accepts natives p certificate s left → (run : Run p natives s left events answers t after) → Each (IsCarried p certificate) run
each_run_is_carried shallow accepts natives p certificate s t left after events answers reached run =
    let costs = set-costs reached.valid in
    each-step natives (Stood p costs.0 certificate) (IsCarried p certificate)
    (λ u v next stands follows. carried reached.sound reached.valid costs.0 costs.1 shallow accepts natives reached.promises {s = u} {t = v} stands follows)
    (λ u v next stands follows. step-stood reached.sound reached.valid costs.0 costs.1 shallow accepts natives reached.promises {s = u} {t = v} stands follows)
    run (come-stood reached.sound reached.valid costs.0 costs.1 shallow accepts natives reached.promises reached.run)
