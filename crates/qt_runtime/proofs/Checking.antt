-- A machine of a checked program stays one, and stops for a limit alone.
use Rattle.std.{proofs.Common.{◌≡◌, ℕ, ◌≤◌, ◌⊎◌, inl, inr, Bool, true, List, [], ◌∷◌, ◌++◌, length, Result, Ok, Err, refl, sym, subst, append-nil}, specs.Prelude.{IfOk, IfErr}}
use Rattle.certificate_lang.specs.declared.certificate.Certificate.{Certificate}
use Rattle.rank_check.specs.Valid.{IsValid}
use Rattle.meta_model.specs.{Loaded.{Loaded}, Sound.{IsSound}}
use Rattle.script_lang.specs.declared.event.Event.{Event}
use Rattle.native_slots.specs.Promises.{Takes}
use Rattle.trace_entries.specs.{declared.fault.Answer.{Answer}, declared.fault.Fault.{Fault}, declared.entry.Entry.{Entry}}
use Rattle.machine_state.specs.{declared.world.World.{World}, Worlds.{at, untouched}, State.{State}}
use Rattle.machine_rules.specs.{Good.{HasArguments, Spares, IsAcyclic, AreSettled, IsTyped}, Natives.{NativeAnswers, KeepPromises}}
use Rattle.object_machine.{specs.Causes.{StopsFor}, specs.Laws.{in_front}, specs.Runs.{Run, done}, proofs.Prefixes.{run-front, each-behind, writes-ill-front, stops-front}, proofs.Running.{run-trans, each-weaker}, specs.CheckedLaws.{IsFaultless, IsReached}, proofs.CheckedRuns.Claims.{only_limits, each_run_is_faultless}, specs.Checked.{HasCome, IsChecked, IsLimit, StopsAtLimit}, specs.Claims.{Claims}, specs.Seen.{Seen, AreKept, InEachRun, Completes, Halts, Stays, begun, cleared}}
use Rattle.qt_runtime.proofs.Halting.{seen}

-- the program that is within is the one that is seen
pub sound-of : {N : Type 0} {a : Seen N} {p : Loaded} {natives : N} {depth : ℕ} {w : World} {stopped : Bool} → IsSound p → seen p natives depth w stopped ≡ a → IsSound a.program
sound-of {N} sound is = subst (λ (m : Seen N). IsSound m.program) is sound

-- ---- it stays one

module _ {N : Type 0} (gives : N → NativeAnswers) where
  -- a machine that has done nothing, of a program and a depth that are those of a certificate
  pub begun-checked : {m : Seen N} {p q : Loaded} {natives : N} {depth steps : ℕ} {certificate : Certificate} → q ≡ p → depth ≡ certificate.bound → IsValid p certificate → m ≡ begun q natives depth steps → IsChecked gives m
  begun-checked {steps = steps} {certificate = certificate} same bound valid is =
      let At : Loaded → Type 0 = λ l. IsValid l certificate in
      let checked : IsChecked gives _ = record {
        certificate = certificate;
        valid = subst At (sym same) valid;
        bound = bound;
        came = λ went. record { steps = steps; taken = []; answers = []; gone = []; run = done };
      } in
      subst (λ (m : Seen N). IsChecked gives m) (sym is) checked

  -- it goes on from where it came
  pub completes-checked : {a b : Seen N} {es : List Event} {xs : List Answer} → Completes gives a es xs b → IsChecked gives a → IsChecked gives b
  completes-checked {a} {b} {es} {xs} x checked =
      let come = checked.came x.went in
      let further : IsChecked gives (record a { world = b.world }) = record {
        certificate = checked.certificate;
        valid = checked.valid;
        bound = checked.bound;
        came = λ went. record {
          steps = come.steps;
          taken = come.taken ++ es;
          answers = come.answers ++ xs;
          gone = come.gone;
          run = run-trans come.run (run-front come.gone x.runs.run);
        };
      } in
      subst (λ (m : Seen N). IsChecked gives m) (sym x.same) further

  halts-checked : {a b : Seen N} {es : List Event} {f : Fault} → Halts gives a es f b → IsChecked gives a → IsChecked gives b
  halts-checked {a} {b} x checked =
      let stopped : IsChecked gives (record a { world = b.world; stopped = true }) = record {
        certificate = checked.certificate;
        valid = checked.valid;
        bound = checked.bound;
        came = λ went. absurd (cc went);
      } in
      subst (λ (m : Seen N). IsChecked gives m) (sym x.same) stopped

  -- .. also where it has let go what was written down
  pub cleared-checked : (a : Seen N) → IsChecked gives a → IsChecked gives (cleared a)
  cleared-checked a checked = record {
    certificate = checked.certificate;
    valid = checked.valid;
    bound = checked.bound;
    came = λ went.
        let come = checked.came went in
        let At : List Entry → Type 0 = λ trace. Run a.program (gives a.natives) (at (untouched come.steps) []) come.steps come.taken come.answers (record (at a.world []) { trace = trace }) a.world.left in
        record {
          steps = come.steps;
          taken = come.taken;
          answers = come.answers;
          gone = come.gone ++ a.world.trace;
          run = subst At (sym (append-nil (come.gone ++ a.world.trace))) come.run;
        };
  }

-- ---- it stops for a limit

-- what holds of a step whatever was written before holds of it
faultless-behind : {p : Loaded} {d : ℕ} (front : List Entry) (s t : State) → IsFaultless p d (in_front front s) (in_front front t) → IsFaultless p d s t
faultless-behind front s t x = record {
  arguments = x.arguments;
  acyclic = x.acyclic;
  spared = x.spared;
  shallow = x.shallow;
  typed = record { values = x.typed.values; has_values = x.typed.has_values; fits = λ ill. x.typed.fits (writes-ill-front front ill) };
  settled = x.settled;
}

module _ {N : Type 0} (takes : N → Takes) (gives : N → NativeAnswers) where
  -- it has come to where it is
  is-reached : {a : Seen N} → IsSound a.program → AreKept takes gives a → (checked : IsChecked gives a) → (come : HasCome gives a) → IsReached (takes a.natives) (gives a.natives) a.program checked.certificate (in_front come.gone (at a.world [])) a.world.left
  is-reached sound kept checked come =
      record { sound = sound; valid = checked.valid; promises = kept; steps = come.steps; taken = come.taken; answers = come.answers; run = come.run }

  halts-limit : {a b : Seen N} {es : List Event} {f : Fault} → IsSound a.program → AreKept takes gives a → Halts gives a es f b → IsChecked gives a → IsLimit f
  halts-limit {a} {b} {f = f} sound kept x checked =
      let come = checked.came x.went in
      let natives = gives a.natives in
      let stop = in_front come.gone (at b.world x.stack) in
      let StopsAt : ℕ → Type 0 = λ d. StopsFor a.program natives d stop b.world.left x.front.rest f in
      let reached : IsReached (takes a.natives) natives a.program checked.certificate stop b.world.left = record {
        sound = sound;
        valid = checked.valid;
        promises = kept;
        steps = come.steps;
        taken = come.taken ++ x.front.taken;
        answers = come.answers ++ x.front.answers;
        run = run-trans come.run (run-front come.gone x.front.runs.run);
      } in
      only_limits b.world.left x.front.rest f reached (subst StopsAt checked.bound (stops-front come.gone x.cause))

  stops-checked : {a b : Seen N} {es : List Event} {f : Fault} → IsSound a.program → AreKept takes gives a → Halts gives a es f b ⊎ Stays a f b → IsChecked gives a → IsChecked gives b × StopsAtLimit a f
  stops-checked sound kept (inl halts) checked = (halts-checked gives halts checked, inl (halts-limit sound kept halts checked))
  stops-checked sound kept (inr stays) checked = (subst (λ (m : Seen N). IsChecked gives m) (sym stays.same) checked, inr stays.stopped)

  -- what an event comes to for a machine of a checked program
  pub applied-checked : {a b : Seen N} (e : Event) (r : Result Answer Fault) → IsSound a.program → AreKept takes gives a → IfOk r (λ x. Completes gives a (e ∷ []) (x ∷ []) b) → IfErr r (λ f. Halts gives a (e ∷ []) f b ⊎ Stays a f b) → IsChecked gives a → IsChecked gives b × IfErr r (StopsAtLimit a)
  applied-checked e (Ok x) sound kept taken stopped checked = (completes-checked gives taken checked, tt)
  applied-checked e (Err f) sound kept taken stopped checked = stops-checked sound kept stopped checked

  -- ---- the claims

  each-faultless : {a : Seen N} → IsSound a.program → AreKept takes gives a → (checked : IsChecked gives a) → InEachRun gives a (IsFaultless a.program checked.certificate.bound)
  each-faultless {a} sound kept checked went events answers t left run =
      let come = checked.came went in
      let d : ℕ = checked.certificate.bound in
      let Step : State → State → Type 0 = IsFaultless a.program d in
      let all =
      each_run_is_faultless (takes a.natives) (gives a.natives) a.program checked.certificate (in_front come.gone (at a.world [])) (in_front come.gone t) a.world.left left events answers (is-reached sound kept checked come) (run-front come.gone run) in
      each-behind come.gone Step Step (λ u v x. faultless-behind come.gone u v x) run all

  pub claims-hold : {a : Seen N} → IsSound a.program → AreKept takes gives a → IsChecked gives a → Claims gives a
  claims-hold {a} sound kept checked =
      let d : ℕ = checked.certificate.bound in
      let Step : State → State → Type 0 = IsFaultless a.program d in
      let all : InEachRun gives a Step = each-faultless sound kept checked in
      let Shallow : State → State → Type 0 = λ s t. length t.stack ≤ a.depth in
      record {
        arguments = λ went events answers t left run. each-weaker Step (HasArguments a.program) (λ s u x. x.arguments) run (all went events answers t left run);
        acyclic = λ went events answers t left run. each-weaker Step (λ s u. IsAcyclic u) (λ s u x. x.acyclic) run (all went events answers t left run);
        spared = λ went events answers t left run. each-weaker Step Spares (λ s u x. x.spared) run (all went events answers t left run);
        shallow = λ went events answers t left run. each-weaker Step Shallow (λ s u x. subst (λ (k : ℕ). length u.stack ≤ k) (sym checked.bound) x.shallow) run (all went events answers t left run);
        typed = λ went events answers t left run. each-weaker Step (λ s u. IsTyped a.program u) (λ s u x. x.typed) run (all went events answers t left run);
        settled = λ went events answers t left run. each-weaker Step (λ s u. AreSettled u) (λ s u x. x.settled) run (all went events answers t left run);
      }

  -- .. on a machine that has done nothing, of a program and a depth that are those of a certificate
  pub begun-claims : {m : Seen N} {p q : Loaded} {natives : N} {depth steps : ℕ} {certificate : Certificate} → IsSound p → KeepPromises takes gives p natives → q ≡ p → depth ≡ certificate.bound → IsValid p certificate → m ≡ begun q natives depth steps → Claims gives m
  begun-claims {p = p} {q = q} {natives = natives} {depth = depth} {steps = steps} sound promises same bound valid is =
      let Kept : Loaded → Type 0 = λ l. KeepPromises takes gives l natives in
      let claims : Claims gives (begun q natives depth steps) = claims-hold (subst IsSound (sym same) sound) (subst Kept (sym same) promises) (begun-checked gives same bound valid refl) in
      subst (λ (n : Seen N). Claims gives n) (sym is) claims
