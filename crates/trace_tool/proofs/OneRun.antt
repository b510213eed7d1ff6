-- For natives with one answer a run is one; and a run that stopped is a front of the whole one.
use Rattle.std.proofs.Common.{◌≡◌, ◌≢◌, ◌⊎◌, inl, inr, ℕ, true, false, List, [], ◌∷◌, ◌++◌, Result, Ok, Err, refl, sym, ap, ◌∙◌, subst, append-nil}
use Rattle.certificate_lang.specs.declared.certificate.Certificate.{Certificate}
use Rattle.meta_model.specs.{Loaded.{Loaded}, Sound.{IsSound}}
use Rattle.native_slots.specs.declared.head.NativeHead.{NativeHead}
use Rattle.rank_check.specs.Checks.{Checking}
use Rattle.settling.specs.{Checks.{Checking as Settled}, declared.certificate.SettlingCertificate.{SettlingCertificate}}
use Rattle.texts.specs.Limits.{most_depth}
use Rattle.script_lang.specs.declared.event.Event.{Event}
use Rattle.trace_entries.specs.{declared.fault.Answer.{Answer}, declared.fault.Fault.{Fault}, declared.fault.Fault.TheVariants.{Steps}}
use Rattle.machine_state.specs.{State.{State, Activation, IsIdle}, Worlds.{at, untouched}}
use Rattle.machine_rules.specs.{Natives.{NativeAnswers, AnswersOnce}, code.Keeps.{Grows}}
use Rattle.object_machine.{specs.Causes.{Brings, StopsFor, spent, short as of_memory, brings, lacks_value, writes_ill, binds_ill, goes_ill, goes_fatal, binds_loop, writes_deep, goes_deep}, specs.Runs.{Run, done, goes, takes, RunsWhole, RunsPrefix, IsDue, goes_on as is_under_way, is_next}, proofs.OneRun.{no-rule, one_run, one_prefix, one_prefix_of_answers}, proofs.CheckedRuns.Kept.{start-invariant}, specs.Seen.{Seen, RunsAll, Halts, begun}}
use Rattle.class_lang.specs.declared.size.Limits.{Limits}
use Rattle.program_commands.{specs.Loading.{LoadsCertified, LoadsSettling}, specs.Steps.{First, fails, goes_on}, proofs.Once.{OneOf, both_fail, one_fails, same_found, IsShortResult, never_short, loaded_sound}, proofs.Stepping.{went}}
use Rattle.trace_tool.{specs.declared.any_machine.outcome.Outcome.{Outcome}, specs.declared.any_machine.outcome.Ran.{Ran}, specs.Outcomes.{IsShort}, specs.Commands.{Accepting, AcceptingSettling, MayRun, Runs, RunsFaultless, RunsSettling, ran, short, ran_faultless, short_of_memory, ran_settling, short_settling}, specs.Laws.{AreOneRun, IsSameOutcome, OneRunOutcome, OneSettlingRunOutcome, OneUncheckedOutcome, StoppedIsPrefix}, proofs.Accepted.{accepting_once, accepting_settling_once, may_run_once, short_refused}}

-- ---- where a run ends for good

nothing-more : {X : Type 0} (xs more rest : List X) → xs ≡ (xs ++ more) ++ rest → (more ≡ []) × (rest ≡ [])
nothing-more [] [] rest e = (refl, sym e)
nothing-more [] (m ∷ more) rest e = absurd (cc e)
nothing-more (x ∷ xs) more rest e = nothing-more xs more rest (cc e)

same-back : {X : Type 0} (xs more rest : List X) → xs ++ more ≡ xs ++ rest → more ≡ rest
same-back [] more rest e = e
same-back (x ∷ xs) more rest e = same-back xs more rest (cc e)

-- nothing leads on from where nothing is going on and no event is left
stays-there : {p : Loaded} {natives : NativeAnswers} {u t : State} {k j : ℕ} {es : List Event} {xs : List Answer} → es ≡ [] → IsIdle u → Run p natives u k es xs t j → u ≡ t
stays-there none idle done = refl
stays-there {p} {natives} {u} none idle (goes {m = m} r rest) = absurd (no-rule p natives u m idle r)
stays-there none idle (takes r rest) = absurd (cc none)

-- .. nor without a rule
none-left : {p : Loaded} {natives : NativeAnswers} {u t : State} {k j : ℕ} {es : List Event} {xs : List Answer} → k ≡ 0 → Run p natives u k es xs t j → (u ≡ t) × (es ≡ [])
none-left none done = (refl, refl)
none-left none (goes r rest) = absurd (cc none)
none-left none (takes r rest) = absurd (cc none)

nothing-due : {s : State} {es : List Event} → IsIdle s → es ≡ [] → IsDue s es → ⊥
nothing-due idle none (is_under_way busy) = busy idle
nothing-due idle none (is_next here) = absurd (cc none)

-- the limit of rules stops a run only where none is left
brings-other : {p : Loaded} {natives : NativeAnswers} {d : ℕ} {s : State} {es : List Event} {f : Fault} → f ≡ Steps → Brings p natives d s es f → ⊥
brings-other e (lacks_value x) = cc e
brings-other e (writes_ill x) = cc e
brings-other e (binds_ill x) = cc e
brings-other e (goes_ill x) = cc e
brings-other e (goes_fatal x) = cc e
brings-other e (binds_loop x) = cc e
brings-other e (writes_deep x) = cc e
brings-other e (goes_deep x) = cc e

stops-spent : {p : Loaded} {natives : NativeAnswers} {d : ℕ} {s : State} {n : ℕ} {es : List Event} {f : Fault} → f ≡ Steps → StopsFor p natives d s n es f → (n ≡ 0) × IsDue s es
stops-spent e (spent none due) = (none, due)
stops-spent e (of_memory some due) = absurd (cc e)
stops-spent e (brings some x) = absurd (brings-other e x)

module _ {N : Type 0} (gives : N → NativeAnswers) (p : Loaded) (natives : N) (depth steps : ℕ) (events : List Event) where
  -- ---- a run took a front of its events

  record Took (after : Seen N) : Type 0 where
    pub stack : List Activation
    pub left : ℕ
    pub front : RunsPrefix p (gives natives) depth (at (untouched steps) []) steps events (at after.world stack) left

  took : (ended : Result (Unit {0}) Fault) (after : Seen N) → RunsAll gives (begun p natives depth steps) events ended after → Took after
  took (Ok _) after all = record {
    stack = [];
    left = after.world.left;
    front = record { taken = events; rest = []; split = sym (append-nil events); answers = all.0; runs = all.1.runs };
  }
  took (Err fault) after all = elim all [
    | inl halts ↦ record { stack = halts.stack; left = after.world.left; front = halts.front }
    | inr stays ↦ (let no : false ≡ true = stays.stopped in absurd (cc no))
  ]

  -- ---- of two runs

  module _ (is_sound : IsSound p) (once : AnswersOnce (gives natives)) where
    same_trace : (r s : Result (Unit {0}) Fault) (a b : Seen N) → RunsAll gives (begun p natives depth steps) events r a → RunsAll gives (begun p natives depth steps) events s b →
        r ≡ Ok tt → s ≡ Ok tt → a.world.trace ≡ b.world.trace
    same_trace (Ok _) (Ok _) a b x y is also =
        let agree = (start-invariant p steps).sound.agree in
        let one = one_run (gives natives) once p depth (at (untouched steps) []) steps events x.0 y.0 (at a.world []) (at b.world []) a.world.left b.world.left is_sound agree (record { runs = x.1.runs; ends = x.1.ends }) (record { runs = y.1.runs; ends = y.1.ends }) in
        ap (λ (t : State). t.trace) one.1
    same_trace (Err f) s a b x y is also = absurd (cc is)
    same_trace (Ok _) (Err f) a b x y is also = absurd (cc also)

    one_prefix_of : {a b : Seen N} → Took a → Took b → Grows a.world.trace b.world.trace ⊎ Grows b.world.trace a.world.trace
    one_prefix_of {a} {b} x y =
        let agree = (start-invariant p steps).sound.agree in
        elim (one_prefix (gives natives) once p depth (at (untouched steps) []) steps events (at a.world x.stack) (at b.world y.stack) x.left y.left is_sound agree x.front y.front) [
          | inl leads ↦ inl leads.grows
          | inr leads ↦ inr leads.grows
        ]

    -- where one run took all events, the rules are enough for the other
    enough-of : (a : Seen N) {b : Seen N} {answers : List Answer} {f : Fault} → RunsWhole p (gives natives) depth (at (untouched steps) []) steps events answers (at a.world []) a.world.left →
        Halts gives (begun p natives depth steps) events f b → f ≡ Steps → ⊥
    enough-of a {b} {answers} whole halts e =
        let agree = (start-invariant p steps).sound.agree in
        let way = halts in
        let last : State = at b.world way.stack in
        let cause = stops-spent e way.cause in
        let all : RunsPrefix p (gives natives) depth (at (untouched steps) []) steps events (at a.world []) a.world.left =
        record { taken = events; rest = []; split = sym (append-nil events); answers = answers; runs = whole.runs } in
        elim (one_prefix (gives natives) once p depth (at (untouched steps) []) steps events (at a.world []) last a.world.left b.world.left is_sound agree all way.front) [
          | inl leads ↦
              let split : events ≡ (events ++ leads.more) ++ way.front.rest = way.front.split ∙ ap (λ (l : List Event). l ++ way.front.rest) leads.taken in
              let none = nothing-more events leads.more way.front.rest split in
              nothing-due (subst IsIdle (stays-there none.0 whole.ends leads.runs.run) whole.ends) none.1 cause.1
          | inr leads ↦
              let stopped = none-left cause.0 leads.runs.run in
              let back : way.front.rest ≡ leads.more = same-back way.front.taken way.front.rest leads.more (sym way.front.split ∙ leads.taken) in
              nothing-due (subst IsIdle (sym stopped.0) whole.ends) (back ∙ stopped.1) cause.1
        ]

    enough : (r s : Result (Unit {0}) Fault) (a b : Seen N) → RunsAll gives (begun p natives depth steps) events r a → RunsAll gives (begun p natives depth steps) events s b →
        r ≡ Ok tt → s ≢ Err Steps
    enough (Ok _) (Ok _) a b x y is also = cc also
    enough (Ok _) (Err f) a b x y is also = elim y [
      | inl halts ↦ enough-of a (record { runs = x.1.runs; ends = x.1.ends }) halts (cc also)
      | inr stays ↦ (let no : false ≡ true = stays.stopped in cc no)
    ]
    enough (Err f) s a b x y is also = cc is

    pub one_of_runs : (x y : Ran (Seen N)) → RunsAll gives (begun p natives depth steps) events x.ended x.machine → RunsAll gives (begun p natives depth steps) events y.ended y.machine → AreOneRun x y
    one_of_runs x y a b = record {
      whole = same_trace x.ended y.ended x.machine y.machine a b;
      front = one_prefix_of (took x.ended x.machine a) (took y.ended y.machine b);
      enough = enough x.ended y.ended x.machine y.machine a b;
      enough_too = enough y.ended x.ended y.machine x.machine b a;
    }

-- ---- steps one after another

-- any two are the same in this sense, or one is short of memory
abbrev pub OneAs : {R : Type 0} → (R → Type 0) → (R → R → Type 0) → (R → Type 0) → Type 0
OneAs {R} Short Same Holds = (a b : R) → Holds a → Holds b → Short a ⊎ Short b ⊎ Same a b

module _ {X F R : Type 0} {Finds : Result X F → Type 0} {fault_of : F → R} (StepShort : Result X F → Type 0) (Short : R → Type 0) (Same : R → R → Type 0)
    (one : OneOf StepShort Finds) (short : (fault : F) → StepShort (Err fault) → Short (fault_of fault)) (never : (x : X) → StepShort (Ok x) → ⊥)
    (same : (fault : F) → Same (fault_of fault) (fault_of fault)) {Next : X → R → Type 0} where
  pub same_first : ((x : X) → Finds (Ok x) → OneAs Short Same (Next x)) → OneAs Short Same (First Finds fault_of Next)
  same_first next a b (fails f h) (fails g k) = elim (both_fail {fault_of = fault_of} StepShort Short one short never f g h k) [
    | inl s ↦ inl s
    | inr rest ↦ elim rest [
      | inl s ↦ inr (inl s)
      | inr e ↦ inr (inr (subst (λ (r : R). Same (fault_of f) r) e (same f)))
    ]
  ]
  same_first next a b (fails f h) (goes_on y end k more) = inl (one_fails {fault_of = fault_of} StepShort Short one short never f y h k)
  same_first next a b (goes_on x end h more) (fails g k) = inr (inl (one_fails {fault_of = fault_of} StepShort Short one short never g x k h))
  same_first next a b (goes_on x end h more) (goes_on y other k still) =
      let found = same_found {fault_of = fault_of} StepShort Short one short never x y h k in
      next y k end other (subst (λ (z : X). Next z end) found more) still

-- ---- what is accepted is sound

certified_sound : {limits : Limits} {program certificate : List ℕ} {both : Loaded × Certificate} → LoadsCertified limits program certificate (Ok both) → IsSound both.0
certified_sound {both = both} steps =
    let a = went steps (λ fault is. cc is) in
    let b = went a.2 (λ fault is. cc is) in
    let same : both ≡ (a.0, b.0) = cc b.2 in
    subst IsSound (sym (ap (λ (pair : Loaded × Certificate). pair.0) same)) (loaded_sound a.1)

pub accepted_sound : {limits : Limits} {heads : List NativeHead} {program certificate script : List ℕ} {both : Checking × List Event} → Accepting limits heads program certificate script (Ok both) → IsSound both.0.program
accepted_sound {both = both} steps =
    let a = went steps (λ fault is. cc is) in
    let b = went a.2 (λ fault is. cc is) in
    let c = went b.2 (λ fault is. cc is) in
    let d = went c.2 (λ fault is. cc is) in
    let same : both ≡ (c.0, b.0) = cc d.2 in
    let program : both.0.program ≡ a.0.0 = ap (λ (pair : Checking × List Event). pair.0.program) same ∙ c.1.0 in
    subst IsSound (sym program) (certified_sound a.1)

loaded_settling_sound : {limits : Limits} {program certificate : List ℕ} {both : Loaded × SettlingCertificate} → LoadsSettling limits program certificate (Ok both) → IsSound both.0
loaded_settling_sound {both = both} steps =
    let a = went steps (λ fault is. cc is) in
    let b = went a.2 (λ fault is. cc is) in
    let same : both ≡ (a.0, b.0) = cc b.2 in
    subst IsSound (sym (ap (λ (pair : Loaded × SettlingCertificate). pair.0) same)) (loaded_sound a.1)

pub settling_sound : {limits : Limits} {heads : List NativeHead} {program certificate script : List ℕ} {both : Settled × List Event} → AcceptingSettling limits heads program certificate script (Ok both) → IsSound both.0.program
settling_sound {both = both} steps =
    let a = went steps (λ fault is. cc is) in
    let b = went a.2 (λ fault is. cc is) in
    let c = went b.2 (λ fault is. cc is) in
    let d = went c.2 (λ fault is. cc is) in
    let same : both ≡ (c.0, b.0) = cc d.2 in
    let program : both.0.program ≡ a.0.0 = ap (λ (pair : Settled × List Event). pair.0.program) same ∙ c.1.0 in
    subst IsSound (sym program) (loaded_settling_sound a.1)

may_run_sound : {limits : Limits} {heads : List NativeHead} {program script : List ℕ} {both : Loaded × List Event} → MayRun limits heads program script (Ok both) → IsSound both.0
may_run_sound {both = both} steps =
    let a = went steps (λ fault is. cc is) in
    let b = went a.2 (λ fault is. cc is) in
    let c = went b.2 (λ fault is. cc is) in
    let same : both ≡ (a.0, b.0) = cc c.2 in
    subst IsSound (sym (ap (λ (pair : Loaded × List Event). pair.0) same)) (loaded_sound a.1)

-- ---- the commands

one_faultless : {N : Type 0} (gives : N → NativeAnswers) (p : Loaded) (natives : N) (depth steps : ℕ) (events : List Event) {a b : Outcome (Seen N)} → IsSound p → AnswersOnce (gives natives) →
    RunsFaultless gives (begun p natives depth steps) events a → RunsFaultless gives (begun p natives depth steps) events b → IsShort a ⊎ IsShort b ⊎ IsSameOutcome a b
one_faultless gives p natives depth steps events is_sound once (ran_faultless x all ends claims) (ran_faultless y also its theirs) = inr (inr (one_of_runs gives p natives depth steps events is_sound once x y all also))
one_faultless gives p natives depth steps events is_sound once (ran_faultless x all ends claims) short_of_memory = inr (inl (record { line = refl; status_is = refl }))
one_faultless gives p natives depth steps events is_sound once short_of_memory y = inl (record { line = refl; status_is = refl })

one_settling : {N : Type 0} (gives : N → NativeAnswers) (certificate : SettlingCertificate) (p : Loaded) (natives : N) (depth steps : ℕ) (events : List Event) {a b : Outcome (Seen N)} → IsSound p → AnswersOnce (gives natives) →
    RunsSettling gives certificate (begun p natives depth steps) events a → RunsSettling gives certificate (begun p natives depth steps) events b → IsShort a ⊎ IsShort b ⊎ IsSameOutcome a b
one_settling gives certificate p natives depth steps events is_sound once (ran_settling x all ends claims) (ran_settling y also its theirs) = inr (inr (one_of_runs gives p natives depth steps events is_sound once x y all also))
one_settling gives certificate p natives depth steps events is_sound once (ran_settling x all ends claims) short_settling = inr (inl (record { line = refl; status_is = refl }))
one_settling gives certificate p natives depth steps events is_sound once short_settling y = inl (record { line = refl; status_is = refl })

one_unchecked : {N : Type 0} (gives : N → NativeAnswers) (p : Loaded) (natives : N) (depth steps : ℕ) (events : List Event) {a b : Outcome (Seen N)} → IsSound p → AnswersOnce (gives natives) →
    Runs gives (begun p natives depth steps) events a → Runs gives (begun p natives depth steps) events b → IsShort a ⊎ IsShort b ⊎ IsSameOutcome a b
one_unchecked gives p natives depth steps events is_sound once (ran x all) (ran y also) = inr (inr (one_of_runs gives p natives depth steps events is_sound once x y all also))
one_unchecked gives p natives depth steps events is_sound once (ran x all) short = inr (inl (record { line = refl; status_is = refl }))
one_unchecked gives p natives depth steps events is_sound once short y = inl (record { line = refl; status_is = refl })

pub one_run_outcome : {N : Type 0} (gives : N → NativeAnswers) → OneRunOutcome gives
one_run_outcome gives limits heads natives program certificate script steps a b once =
    same_first IsShortResult IsShort IsSameOutcome (accepting_once limits heads program certificate script) short_refused never_short (λ r. refl)
    (λ both accepted x y h k. one_faultless gives both.0.program natives both.0.certificate.bound steps both.1 (accepted_sound accepted) once h k) a b

pub one_settling_run_outcome : {N : Type 0} (gives : N → NativeAnswers) → OneSettlingRunOutcome gives
one_settling_run_outcome gives limits heads natives program certificate script steps a b once =
    same_first IsShortResult IsShort IsSameOutcome (accepting_settling_once limits heads program certificate script) short_refused never_short (λ r. refl)
    (λ both accepted x y h k. one_settling gives both.0.certificate both.0.program natives most_depth steps both.1 (settling_sound accepted) once h k) a b

pub one_unchecked_outcome : {N : Type 0} (gives : N → NativeAnswers) → OneUncheckedOutcome gives
one_unchecked_outcome gives limits heads natives program script depth steps a b once =
    same_first IsShortResult IsShort IsSameOutcome (may_run_once limits heads program script) short_refused never_short (λ r. refl)
    (λ both may x y h k. one_unchecked gives both.0 natives depth steps both.1 (may_run_sound may) once h k) a b

-- ---- a run that stopped

-- nothing more is written where nothing leads on
still : {p : Loaded} {natives : NativeAnswers} {u t : State} {k j : ℕ} {es : List Event} {xs : List Answer} → es ≡ [] → IsIdle u → Run p natives u k es xs t j → Grows t.trace u.trace
still {t = t} none idle run = record { more = []; is = ap (λ (s : State). s.trace) (stays-there none idle run) ∙ sym (append-nil t.trace) }

pub stopped_is_prefix : {N : Type 0} (gives : N → NativeAnswers) → StoppedIsPrefix gives
stopped_is_prefix gives said p natives depth steps events fault after answers u k is_sound stopped whole alike also =
    let agree = (start-invariant p steps).sound.agree in
    let all : RunsPrefix p (gives natives) depth (at (untouched steps) []) steps events u k =
    record { taken = events; rest = []; split = sym (append-nil events); answers = answers; runs = whole.runs } in
    elim (one_prefix_of_answers (gives natives) said p depth (at (untouched steps) []) steps events (at after.world stopped.stack) u after.world.left k is_sound agree stopped.front all alike also) [
      | inl leads ↦ leads.grows
      | inr leads ↦
          let split : events ≡ (events ++ leads.more) ++ stopped.front.rest = stopped.front.split ∙ ap (λ (l : List Event). l ++ stopped.front.rest) leads.taken in
          still (nothing-more events leads.more stopped.front.rest split).0 whole.ends leads.runs.run
    ]
