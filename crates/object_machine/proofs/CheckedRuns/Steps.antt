-- What every state of a run keeps where natives keep their promise, and that every step is good.
use Rattle.std.proofs.Common.{ℕ, List, [], ◌∷◌, length, Option, None, subst}
use Rattle.script_lang.specs.declared.event.Event.{Event}
use Rattle.meta_model.specs.{Loaded.{Loaded}, Sound.{IsSound}}
use Rattle.native_slots.specs.Promises.{Takes, Promises}
use Rattle.certificate_lang.specs.declared.certificate.Certificate.{Certificate}
use Rattle.rank_check.specs.Valid.{IsValid}
use Rattle.trace_entries.specs.declared.fault.Answer.{Answer}
use Rattle.machine_state.specs.{State.{State, Activation}, Worlds.{at, untouched}, Telling.{Assigning, writes_of}}
use Rattle.prop_bindings.specs.{Calls.{AllFit}, Fits.{Agree}}
use Rattle.type_check.specs.Typed.{IsTypedProgram}
use Rattle.machine_rules.{specs.Operations.{Write}, specs.Good.{IsWell, IsGood}, specs.Natives.{NativeAnswers}, specs.Rules.{Rule}, specs.Next.{WritesNext, WritesIll}, proofs.Doing.{Doing, doing}, proofs.ReachingFitting.{fits-read}}
use Rattle.object_machine.{specs.Runs.{Run, done, goes, takes, Each, Follows, by_rule, by_event}, specs.Takes.{Takes as Taking}, proofs.Preservation.{after-rule, after-event}, proofs.Standing.{Invariant}, specs.CheckedLaws.{IsFaultless}, proofs.CheckedRuns.Invariant.{TopStands, Holds}, proofs.CheckedRuns.Promised.{AllIsPromised}, proofs.CheckedRuns.Arguments.{Pushes, rule-pushes, takes-pushes}, proofs.CheckedRuns.Taking.{takes-held}, proofs.CheckedRuns.Giving.{does-give}, proofs.CheckedRuns.Sites.{ChainsEnd, chains-end}, proofs.CheckedRuns.Staying.{Covered}, proofs.CheckedRuns.Kept.{Kept, start-holds, start-invariant, follows-held, lacks-not}, proofs.CheckedRuns.Ladder.{top-stands, no-deeper}, proofs.CheckedRuns.Rules.{rule-held}, proofs.CheckedRuns.TypedSteps.{rule-agrees, takes-agrees}}

-- ---- whatever certificate a program has

-- what is known of a state that a run comes to, where natives keep their promise
pub record Known (p : Loaded) (classes : ℕ → Option ℕ) (s : State) : Type 0 where
  pub covered : Covered p classes s
  pub top : TopStands p s.objects s.stack
  pub up : Invariant p s
  pub promised : AllIsPromised p classes s.stack

module _ {p : Loaded} (program : IsTypedProgram p) (sound : IsSound p) {classes : ℕ → Option ℕ} where
  -- what the next step writes is of its property's type
  known-fits : {s : State} → Known p classes s → (what : Assigning) → WritesNext s what → AllFit p s.objects (writes_of what)
  known-fits {s} known what next =
      let n : Doing s (Write what) = doing s next in
      let first = subst (λ (l : List Activation). TopStands p s.objects l) n.is_next known.top in
      let kept = subst (AllIsPromised p classes) n.is_next known.promised in
      does-give program sound classes ((known.covered).known).lives ((known.up).sound).agree.typed first.1 n.step (Write what) ((first.1).steps).0 (kept.0).0 n.does

  -- .. so it is of no wrong type
  pub fits-known : {s : State} → Known p classes s → ¬ WritesIll p s
  fits-known known ill = ill.ill (fits-read (writes_of ill.what) (known-fits known ill.what ill.next) ill.set ill.among (ill.there).is)

  module _ (accepts : Takes) (natives : NativeAnswers) (promises : Promises p accepts natives) where
    -- what a rule pushes has its arguments, and keeps the promise
    pub rule-known : {s t : State} → Known p classes s → Rule p natives s t → Pushes p classes (length s.stack) t
    rule-known {s} {t} known rule = rule-pushes program sound classes accepts natives promises s ((known.covered).known).lives known.up t known.promised known.top rule

    -- values agree with bindings
    pub rule-agree : {s : State} (t : State) → Known p classes s → Rule p natives s t → Agree p t.objects t.bindings
    rule-agree {s} t known rule = rule-agrees natives s t ((known.up).sound).agree (known-fits known) rule

    pub event-agree : ChainsEnd p → {s t : State} {e : Event} {a : Answer} → Known p classes s → Taking p e a s t → Agree p t.objects t.bindings
    event-agree ends known x = takes-agrees program sound ends classes known.covered ((known.up).sound).agree x

    -- what follows is well
    pub rule-well : {s t : State} → Known p classes s → Rule p natives s t → IsWell p s t
    rule-well {s} {t} known rule = record { arguments = (rule-known {s = s} {t = t} known rule).arguments; values = (rule-agree {s = s} t known rule).typed }

    pub event-well : ChainsEnd p → {s t : State} {e : Event} {a : Answer} → Known p classes s → Taking p e a s t → IsWell p s t
    event-well ends {s = s} {t = t} {e = e} known x = record { arguments = (takes-pushes s t e classes x).arguments; values = (event-agree ends known x).typed }

module _ {p : Loaded} (natives : NativeAnswers) (Stands : State → Type 0) where
  -- each step of a run is so, if one is from where this stands, and it stands after it
  pub each-step : (Is : State → State → Type 0) → ((s t : State) (next : List Event) → Stands s → Follows p natives s t next → Is s t) → ((s t : State) (next : List Event) → Stands s → Follows p natives s t next → Stands t)
      → {s t : State} {n k : ℕ} {es : List Event} {xs : List Answer} (r : Run p natives s n es xs t k) → Stands s → Each Is r
  each-step Is one stand done stood = tt
  each-step Is one stand (goes {s = s} {m = m} x rest) stood = (one s m [] stood (by_rule x), each-step Is one stand rest (stand s m [] stood (by_rule x)))
  each-step Is one stand (takes {s = s} {m = m} {e = e} x rest) stood = (one s m (e ∷ []) stood (by_event x), each-step Is one stand rest (stand s m (e ∷ []) stood (by_event x)))

  -- .. so it stands where the run comes to
  pub steps-stand : ((s t : State) (next : List Event) → Stands s → Follows p natives s t next → Stands t) → {s t : State} {n k : ℕ} {es : List Event} {xs : List Answer} → Run p natives s n es xs t k → Stands s → Stands t
  steps-stand stand done stood = stood
  steps-stand stand (goes {s = s} {m = m} x rest) stood = steps-stand stand rest (stand s m [] stood (by_rule x))
  steps-stand stand (takes {s = s} {m = m} {e = e} x rest) stood = steps-stand stand rest (stand s m (e ∷ []) stood (by_event x))

-- ---- where its certificate is valid

-- what a state of a run keeps
pub record Stood (p : Loaded) (certificate : Certificate) (s : State) : Type 0 where
  pub classes : ℕ → Option ℕ
  pub held : Holds p certificate classes s
  pub up : Invariant p s
  pub promised : AllIsPromised p classes s.stack

module _ {p : Loaded} {certificate : Certificate} (valid : IsValid p certificate) (sound : IsSound p) where
  pub as-kept : (natives : NativeAnswers) {s : State} → Stood p certificate s → Kept valid sound natives s
  as-kept natives stood = ((stood.classes, stood.held), stood.up)

  as-known : {s : State} → (stood : Stood p certificate s) → Known p stood.classes s
  as-known {s} stood = record {
    covered = (stood.held).covered;
    top = top-stands p stood.classes s.objects s.stack (stood.held).levels (stood.held).stacked;
    up = stood.up;
    promised = stood.promised;
  }

  pub writes-none : {s : State} → Stood p certificate s → ¬ WritesIll p s
  writes-none stood ill = fits-known (valid.typed) sound (as-known stood) ill

  module _ (accepts : Takes) (natives : NativeAnswers) (promises : Promises p accepts natives) where
    -- what follows is good
    pub follows-good : {s t : State} {next : List Event} → Stood p certificate s → Follows p natives s t next → IsGood p certificate.bound s t
    follows-good {s} {t} stood (by_rule rule) =
        let well = rule-well (valid.typed) sound accepts natives promises {s = s} {t = t} (as-known stood) rule in
        let held = follows-held valid sound natives {s = s} {t = t} {next = []} (as-kept natives stood) well (by_rule rule) in
        let agree = rule-agree (valid.typed) sound accepts natives promises {s = s} t (as-known stood) rule in
        record { well = well; spared = held.1; acyclic = agree.acyclic; shallow = no-deeper valid (held.0).0 t.objects ((held.0).1).levels t.stack ((held.0).1).stacked; fits = writes-none stood }
    follows-good {s} {t} stood (by_event {e = e} {events = events} x) =
        let well = event-well (valid.typed) sound accepts natives promises (chains-end valid sound) (as-known stood) x in
        let held = follows-held valid sound natives {s = s} {t = t} {next = e ∷ events} (as-kept natives stood) well (by_event x) in
        let agree = event-agree (valid.typed) sound accepts natives promises (chains-end valid sound) (as-known stood) x in
        record { well = well; spared = held.1; acyclic = agree.acyclic; shallow = no-deeper valid (held.0).0 t.objects ((held.0).1).levels t.stack ((held.0).1).stacked; fits = writes-none stood }

    rule-stood : {d : ℕ} {s t : State} → Stood p certificate s → IsGood p d s t → Rule p natives s t → Stood p certificate t
    rule-stood {d} {s} {t} stood good rule =
        let up = stood.up in
        record {
          classes = stood.classes;
          held = (rule-held valid sound stood.classes natives s t stood.held (up.sound).agree (up.sound).waiting good.well rule).0;
          up = after-rule natives sound up good rule;
          promised = (rule-known (valid.typed) sound accepts natives promises {s = s} {t = t} (as-known stood) rule).promised;
        }

    event-stood : {d : ℕ} {s t : State} {e : Event} {a : Answer} → Stood p certificate s → IsGood p d s t → Taking p e a s t → Stood p certificate t
    event-stood {d} {s} {t} {e} stood good x =
        let up = stood.up in
        let held = takes-held valid sound s t e (stood.classes, stood.held) (up.sound).agree good.well x in
        record {
          classes = held.0;
          held = held.1;
          up = after-event sound up good x;
          promised = (takes-pushes s t e held.0 x).promised;
        }

    -- .. and stands
    follows-stood : {s t : State} {next : List Event} → Stood p certificate s → IsGood p certificate.bound s t → Follows p natives s t next → Stood p certificate t
    follows-stood {s} {t} stood good (by_rule rule) = rule-stood {s = s} {t = t} stood good rule
    follows-stood {s} {t} stood good (by_event x) = event-stood {s = s} {t = t} stood good x

    -- ---- every step

    pub follows-faultless : {s t : State} {next : List Event} → Stood p certificate s → Follows p natives s t next → IsFaultless p certificate.bound s t
    follows-faultless {s} {t} stood follows =
        let good = follows-good {s = s} {t = t} stood follows in
        let after = follows-stood {s = s} {t = t} stood good follows in
        record {
          arguments = (good.well).arguments;
          acyclic = good.acyclic;
          spared = good.spared;
          shallow = good.shallow;
          typed = record { values = (good.well).values; has_values = λ lacking. lacks-not valid sound natives (as-kept natives after) lacking; fits = writes-none after };
          settled = (((after.up).sound).agree).settled;
        }

    step-stood : {s t : State} {next : List Event} → Stood p certificate s → Follows p natives s t next → Stood p certificate t
    step-stood {s} {t} stood follows = follows-stood {s = s} {t = t} stood (follows-good {s = s} {t = t} stood follows) follows

    pub run-faultless : {s t : State} {n k : ℕ} {es : List Event} {xs : List Answer} (r : Run p natives s n es xs t k) → Stood p certificate s → Each (IsFaultless p certificate.bound) r
    run-faultless r stood = each-step natives (Stood p certificate) (IsFaultless p certificate.bound) (λ s t next stood follows. follows-faultless {s = s} {t = t} stood follows) (λ s t next stood follows. step-stood {s = s} {t = t} stood follows) r stood

    -- where a run from the beginning comes to
    pub come-stood : {steps left : ℕ} {s : State} {taken : List Event} {answers : List Answer} → Run p natives (at (untouched steps) []) steps taken answers s left → Stood p certificate s
    come-stood {steps = steps} r =
        steps-stand natives (Stood p certificate) (λ s t next stood follows. step-stood {s = s} {t = t} stood follows) r (record { classes = λ o. None; held = start-holds p certificate steps; up = start-invariant p steps; promised = tt })
