-- What runs of checked programs never come to.
use Rattle.std.proofs.Common.{◌≢◌, ℕ, List, refl}
use Rattle.script_lang.specs.declared.event.Event.{Event}
use Rattle.meta_model.specs.{Loaded.{Loaded}, Sound.{IsSound}}
use Rattle.certificate_lang.specs.declared.certificate.Certificate.{Certificate}
use Rattle.rank_check.specs.Valid.{IsValid}
use Rattle.native_slots.specs.Promises.{Takes}
use Rattle.trace_entries.specs.{declared.fault.Fault.{Fault}, declared.fault.Fault.TheVariants.{BadType, TooDeep, BindingLoop, InUse, Steps, Memory}}
use Rattle.machine_state.specs.State.{State}
use Rattle.machine_rules.specs.{Natives.{NativeAnswers}, Faults.{GoesIll}, Next.{WritesIll}}
use Rattle.object_machine.{specs.Causes.{Brings, StopsFor, BindsIll, spent, short, brings, lacks_value, writes_ill, binds_ill, goes_ill, goes_fatal, binds_loop, writes_deep, goes_deep}, specs.Runs.{Follows}, proofs.Progress.{stuck-lacks}, specs.Checked.{IsLimit, no_rule, no_memory}, specs.CheckedLaws.{NeverStops, NeverLacksValue, NeverStuck, IsReached, EachRunIsFaultless, EachIsFaultless, StopsAtLimits}, proofs.CheckedRuns.Binding.{binds-fit}, proofs.CheckedRuns.Kept.{Kept, run-kept, writes-low, deep-not, fatal-not, loops-not, lacks-not}, proofs.CheckedRuns.Steps.{Stood, come-stood, as-kept, writes-none, follows-good, follows-faultless, run-faultless}}

module _ {natives : NativeAnswers} {p : Loaded} {certificate : Certificate} (valid : IsValid p certificate) (sound : IsSound p) {s : State} (kept : Kept valid sound natives s) {next : List Event} where
  -- nothing is brought but 60
  not-brought : {f : Fault} → f ≢ BadType → Brings p natives certificate.bound s next f → ⊥
  not-brought other (lacks_value x) = other refl
  not-brought other (writes_ill x) = other refl
  not-brought other (binds_ill x) = other refl
  not-brought other (goes_ill x) = other refl
  not-brought other (goes_fatal x) = fatal-not valid sound natives kept x
  not-brought other (binds_loop x) = loops-not valid sound natives kept x
  not-brought other (writes_deep x) = writes-low valid sound natives kept x
  not-brought other (goes_deep x) = deep-not valid sound natives kept x

  -- .. so a run stops for nothing but 60 and the limits
  not-stopped : {left : ℕ} {f : Fault} → f ≢ BadType → f ≢ Steps → f ≢ Memory → StopsFor p natives certificate.bound s left next f → ⊥
  not-stopped other steps memory (spent none due) = steps refl
  not-stopped other steps memory (short some due) = memory refl
  not-stopped other steps memory (brings some x) = not-brought other x

pub never_too_deep : (natives : NativeAnswers) → NeverStops TooDeep natives
never_too_deep natives next p certificate s steps left taken answers sound valid run stops =
    not-stopped valid sound (run-kept valid sound natives run) (λ e. cc e) (λ e. cc e) (λ e. cc e) stops

pub never_in_use : (natives : NativeAnswers) → NeverStops InUse natives
never_in_use natives next p certificate s steps left taken answers sound valid run stops =
    not-stopped valid sound (run-kept valid sound natives run) (λ e. cc e) (λ e. cc e) (λ e. cc e) stops

pub never_loops : (natives : NativeAnswers) → NeverStops BindingLoop natives
never_loops natives next p certificate s steps left taken answers sound valid run stops =
    not-stopped valid sound (run-kept valid sound natives run) (λ e. cc e) (λ e. cc e) (λ e. cc e) stops

pub never_lacks_value : (natives : NativeAnswers) → NeverLacksValue natives
never_lacks_value natives p certificate s steps left taken answers sound valid run lacking =
    lacks-not valid sound natives (run-kept valid sound natives run) lacking

pub never_stuck : (natives : NativeAnswers) → NeverStuck natives
never_stuck natives p certificate s steps left taken answers sound valid run stuck =
    let kept = run-kept valid sound natives run in
    lacks-not valid sound natives kept (stuck-lacks sound kept.1 (record { goes_on = stuck.goes_on; stuck = stuck.none; lacks = stuck.writes_none; asks_none = stuck.asks_none }))

-- ---- every step

module _ {accepts : Takes} {natives : NativeAnswers} {p : Loaded} {certificate : Certificate} {s : State} {left : ℕ} (reached : IsReached accepts natives p certificate s left) where
  stood : Stood p certificate s
  stood = come-stood reached.valid reached.sound accepts natives reached.promises reached.run

  kept : Kept reached.valid reached.sound natives s
  kept = as-kept reached.valid reached.sound natives stood

  binds-not : {next : List Event} → BindsIll p s next → ⊥
  binds-not ill = ill.ill (binds-fit (reached.valid.typed) reached.sound ((kept.1).sound).agree ill.next)

  writes-not : WritesIll p s → ⊥
  writes-not ill = writes-none reached.valid reached.sound stood ill

  goes-not : {next : List Event} → GoesIll p s (λ t. Follows p natives s t next) → ⊥
  goes-not g = g.ill (follows-good reached.valid reached.sound accepts natives reached.promises stood g.follows).well

  by-brought : {next : List Event} {f : Fault} → Brings p natives certificate.bound s next f → ⊥
  by-brought (lacks_value lacking) = lacks-not reached.valid reached.sound natives kept lacking
  by-brought (writes_ill w) = writes-not w
  by-brought (binds_ill ill) = binds-not ill
  by-brought (goes_ill g) = goes-not g
  by-brought (goes_fatal g) = fatal-not reached.valid reached.sound natives kept g
  by-brought (binds_loop loop) = loops-not reached.valid reached.sound natives kept loop
  by-brought (writes_deep w) = writes-low reached.valid reached.sound natives kept w
  by-brought (goes_deep g) = deep-not reached.valid reached.sound natives kept g

  -- whatever rules are left
  by-fault : {rules : ℕ} {next : List Event} {fault : Fault} → StopsFor p natives certificate.bound s rules next fault → IsLimit fault
  by-fault (spent none due) = no_rule
  by-fault (short some due) = no_memory
  by-fault (brings some x) = absurd (by-brought x)

pub only_limits : {accepts : Takes} {natives : NativeAnswers} {p : Loaded} {certificate : Certificate} {s : State} {left : ℕ} (rules : ℕ) (next : List Event) (fault : Fault) → IsReached accepts natives p certificate s left → StopsFor p natives certificate.bound s rules next fault → IsLimit fault
only_limits rules next fault reached stops = by-fault reached stops

pub stops_at_limits : (accepts : Takes) (natives : NativeAnswers) → StopsAtLimits accepts natives
stops_at_limits accepts natives p certificate s left rules next fault reached stops = by-fault reached stops

pub each_run_is_faultless : (accepts : Takes) (natives : NativeAnswers) → EachRunIsFaultless accepts natives
each_run_is_faultless accepts natives p certificate s t left after events answers reached run =
    run-faultless reached.valid reached.sound accepts natives reached.promises run (stood reached)

pub each_is_faultless : (accepts : Takes) (natives : NativeAnswers) → EachIsFaultless accepts natives
each_is_faultless accepts natives p certificate s t left next reached follows =
    follows-faultless reached.valid reached.sound accepts natives reached.promises (stood reached) follows
