-- What every state of a run keeps, and what it excludes.
use Rattle.std.proofs.Common.{◌≡◌, ℕ, suc, ◌≤◌, IsTrue, List, [], ◌∷◌, length, Option, None, refl, sym, subst, arith}
use Rattle.basic_types.specs.declared.value.Value.{Value}
use Rattle.script_lang.specs.declared.event.Event.{Event}
use Rattle.meta_model.specs.{Loaded.{Loaded}, Sound.{IsSound, IsSoundWork}, declared.object.Work.{Work}, declared.object.Statement.{Statement}, declared.object.Statement.TheViews.{out-Statement}, Members.{Below}}
use Rattle.binding_graph.specs.Bindings.{binding_at, without, replaced}
use Rattle.prop_bindings.{specs.Fits.{Agree}, proofs.Agreeing.{unbound_agree}}
use Rattle.effect_scan.specs.declared.node.Node.{Node}
use Rattle.certificate_lang.specs.declared.certificate.Certificate.{Certificate}
use Rattle.rank_check.specs.Valid.{IsValid}
use Rattle.trace_entries.specs.declared.fault.Answer.{Answer}
use Rattle.machine_state.specs.{State.{Step, Run, State, Activation, Body}, Worlds.{at, untouched}}
use Rattle.machine_rules.{specs.Operations.{Write, operation}, specs.Good.{IsWell, IsGood, Spares, has_body}, specs.Natives.{NativeAnswers}, specs.Rules.{Rule}, specs.Faults.{WritesDeep, GoesDeep, GoesFatal}, specs.Next.{LacksValue}, proofs.Doing.{doing, lacking}, proofs.Lists.{all-filtered, all-snoc}, proofs.Keeps.{lives-of-class}}
use Rattle.object_machine.{specs.Causes.{BindsLoop}, specs.Runs.{Run as ARun, done, goes, takes, Each, GoodRun, Follows, by_rule, by_event}, specs.Takes.{Takes, accepts, refuses}, proofs.Standing.{Invariant}, proofs.Preservation.{after-rule, after-event}, proofs.CheckedRuns.Invariant.{BodyStands, TopStands, Level, Stacked, IsSited, Holds, IsStepOf, runs}, proofs.CheckedRuns.Ladder.{top-stands, falls-to, climbs, no-deeper}, proofs.CheckedRuns.Leading.{leads-drawn, does-led, occurs-sound, occurs-in}, proofs.CheckedRuns.Rules.{rule-held}, proofs.CheckedRuns.Staying.{bound-by, Covered}, proofs.CheckedRuns.Events.{binding-sited}, proofs.CheckedRuns.Taking.{HoldsSome, takes-held}, proofs.CheckedRuns.Sites.{ChainsEnd, chains-end}, proofs.CheckedRuns.Lacking.{body-typed, typed-does}, proofs.CheckedRuns.Nodes.{body-named}}
use Rattle.type_check.specs.Typed.{IsTypedWork, IsTypedProgram}
use Rattle.object_tree.specs.{declared.object.Object.{Object}, Typed.{AreTyped}}

-- ---- the start

pub start-invariant : (p : Loaded) (steps : ℕ) → Invariant p (at (untouched steps) [])
start-invariant p steps = record {
  sound = record { agree = unbound_agree p [] (λ o x l is. absurd (cc is.is)); joined = tt; housed = record { has_main = omega arith; each = λ o home is. absurd (cc is) }; waiting = (tt, tt) };
  stands = tt;
  emitted = tt;
  heard = tt;
}

pub start-covered : (p : Loaded) (steps : ℕ) → Covered p (λ o. None) (at (untouched steps) [])
start-covered p steps = record {
  known = record { lives = λ o class is. absurd (cc is); each = λ o low. absurd (omega (arith, low)); inside = λ o class is. absurd (cc is) };
  owned = λ parent. tt;
  wired = tt;
  sited = tt;
}

pub start-holds : (p : Loaded) (certificate : Certificate) (steps : ℕ) → Holds p certificate (λ o. None) (at (untouched steps) [])
start-holds p certificate steps = record { covered = start-covered p steps; levels = []; stacked = tt }

-- ---- bodies

-- a body that stands has the values that its next statement needs
body-does : {p : Loaded} {objects : List Object} {o m : ℕ} {arguments : List Value} {statement : Statement} {rest : List Step} {x : Node} → IsTypedProgram p → IsSound p → AreTyped p objects → (b : BodyStands p objects o m arguments (Run statement ∷ rest) x) → IsStepOf (b.method).work (Run statement) → operation objects o arguments (out-Statement statement) ≡ None → ⊥
body-does {p} {objects = objects} {o = o} {m = m} {arguments = arguments} {statement = statement} program sound typed b (runs {body = body} slot occurs) none =
    let types = (b.method).types in
    let work = subst (λ (w : Work). IsSoundWork p b.class m types w) slot ((sound.classes b.class (b.is).class (b.is).is_class).methods m b.method (b.is).is).work in
    let whole = body-typed b.class m work.declaring b.method program sound b.is work.below work.declares (body-named sound b.class m b.method b.is b.bodied) in
    let all = subst (λ (w : Work). IsTypedWork p work.declaring types w) slot whole in
    let own = lives-of-class objects o b.class b.lives in
    typed-does sound typed o work.declaring own.0 own.1 arguments types own.2 (subst (λ (k : ℕ). Below p k work.declaring) (sym own.3) work.below) b.typed (out-Statement statement)
    (occurs-sound sound work.declaring types statement body work.sound occurs) (all statement occurs) (λ sets at u i. all u (occurs-in statement sets body occurs at u i)) none

-- .. so the body on top does something
pub lacks-none : {p : Loaded} (s : State) → IsTypedProgram p → IsSound p → AreTyped p s.objects → TopStands p s.objects s.stack → ¬ LacksValue s
lacks-none {p} s program sound typed top value =
    let it = lacking s value in
    let first = subst (λ (l : List Activation). TopStands p s.objects l) it.is_next top in
    body-does program sound typed first.1 ((first.1).steps).0 it.lacks

-- an expression of a binding that may be installed isn't among what it leads to
pub loops-none : {p : Loaded} (sound : IsSound p) (ends : ChainsEnd p) (s : State) {next : List Event} (classes : ℕ → Option ℕ) → Covered p classes s → Agree p s.objects s.bindings → ¬ BindsLoop p s next
loops-none {p} sound ends s classes covered agree loops =
    let b = loops.binding in
    let asked = loops.next in
    let sited = binding-sited sound s asked.idle classes covered agree asked.site asked.target asked.sources b asked.may in
    let all = all-snoc (IsSited p classes) (without b.target s.bindings) b (all-filtered (IsSited p classes) _ s.bindings covered.sited) sited in
    ends classes (binding_at (replaced s.bindings b)) (λ q z e. bound-by (IsSited p classes) (replaced s.bindings b) all q z e) loops.closes

-- ---- runs

module _ {p : Loaded} {certificate : Certificate} (valid : IsValid p certificate) (sound : IsSound p) (natives : NativeAnswers) where
  abbrev pub Kept : State → Type 0
  Kept s = HoldsSome valid sound s × Invariant p s

  rule-kept : {d : ℕ} {s t : State} → Kept s → IsGood p d s t → Rule p natives s t → Kept t
  rule-kept {d} {s} {t} kept good rule =
      let up = kept.1 in
      let held = rule-held valid sound (kept.0).0 natives s t (kept.0).1 (up.sound).agree (up.sound).waiting good.well rule in
      (((kept.0).0, held.0), after-rule natives sound up good rule)

  takes-kept : {d : ℕ} {s t : State} {e : Event} {a : Answer} → Kept s → IsGood p d s t → Takes p e a s t → Kept t
  takes-kept {d} {s} {t} {e} kept good x =
      let up = kept.1 in
      (takes-held valid sound s t e kept.0 (up.sound).agree good.well x, after-event sound up good x)

  steps-kept : {s t : State} {n k : ℕ} {es : List Event} {xs : List Answer} (d : ℕ) (r : ARun p natives s n es xs t k) → Each (IsGood p d) r → Kept s → Kept t
  steps-kept d done good kept = kept
  steps-kept d (goes {s = s} {m = m} x rest) good kept = steps-kept d rest good.1 (rule-kept {s = s} {t = m} kept good.0 x)
  steps-kept d (takes {s = s} {m = m} x rest) good kept = steps-kept d rest good.1 (takes-kept {s = s} {t = m} kept good.0 x)

  pub run-kept : {d steps left : ℕ} {s : State} {taken : List Event} {answers : List Answer} → GoodRun p natives d (at (untouched steps) []) steps taken answers s left → Kept s
  run-kept {d} {steps = steps} r = steps-kept d r.run r.good (((λ o. None), start-holds p certificate steps), start-invariant p steps)

  -- ---- what follows

  -- what follows and is well keeps it, and spares every object that has a body
  pub follows-held : {s t : State} {next : List Event} → Kept s → IsWell p s t → Follows p natives s t next → HoldsSome valid sound t × Spares s t
  follows-held {s} {t} kept well (by_rule rule) =
      let up = kept.1 in
      let held = rule-held valid sound (kept.0).0 natives s t (kept.0).1 (up.sound).agree (up.sound).waiting well rule in
      (((kept.0).0, held.0), held.1)
  follows-held {s} {t} kept well (by_event {e = e} x) =
      let up = kept.1 in
      (takes-held valid sound s t e kept.0 (up.sound).agree well x, λ o body gone. absurd (no-body-idle x o body))
    where
      idle-is : {e : Event} {a : Answer} {u v : State} → Takes p e a u v → u.stack ≡ []
      idle-is (accepts idle y) = idle.empty
      idle-is (refuses k idle y) = idle.empty

      no-body-idle : {e : Event} {a : Answer} → Takes p e a s t → (o : ℕ) → IsTrue (has_body o s.stack) → ⊥
      no-body-idle y o body = let none : IsTrue (has_body o []) = subst (λ (l : List Activation). IsTrue (has_body o l)) (idle-is y) body in absurd (cc none)

  -- a body on top that writes leaves room for one more
  pub writes-low : {s : State} → Kept s → WritesDeep p certificate.bound s → ⊥
  writes-low {s} kept w =
      let n = doing s w.next in
      let held = (kept.0).1 in
      room held.levels (subst (λ (l : List Activation). Stacked p (kept.0).0 s.objects l held.levels) n.is_next held.stacked) (subst (λ (l : List Activation). certificate.bound ≤ length l) n.is_next w.deep)
    where
      room : (levels : List (Level certificate)) → Stacked p (kept.0).0 s.objects (Body (doing s w.next).object (doing s w.next).method (doing s w.next).arguments ((doing s w.next).step ∷ (doing s w.next).rest) ∷ (doing s w.next).below) levels → certificate.bound ≤ suc (length (doing s w.next).below) → ⊥
      room [] st deep = absurd st
      room (r ∷ levels) st deep =
          let b = (st.0).stands in
          let led = does-led (valid.typed) sound ((kept.1).sound).agree.typed b (doing s w.next).step (Write w.what) (b.steps).0 (doing s w.next).does in
          let up = falls-to valid sound (led.0).0 (st.0).is (leads-drawn b (led.0).1) in
          let low = climbs valid (kept.0).0 s.objects r.line r levels (doing s w.next).below refl st.1 st.2 in
          let fall = (up.2).rank in
          omega (arith, low, fall, deep)

  pub deep-not : {s : State} {next : List Event} → Kept s → GoesDeep p certificate.bound s (λ t. Follows p natives s t next) → ⊥
  deep-not kept g =
      let held = (follows-held kept g.well g.follows).0 in
      let low = no-deeper valid held.0 (g.t).objects (held.1).levels (g.t).stack (held.1).stacked in
      let deep = g.deep in
      omega (arith, low, deep)

  pub fatal-not : {s : State} {next : List Event} → Kept s → GoesFatal p s (λ t. Follows p natives s t next) → ⊥
  fatal-not kept g = g.fatal (follows-held kept g.well g.follows).1

  pub loops-not : {s : State} {next : List Event} → Kept s → BindsLoop p s next → ⊥
  loops-not {s} kept loops = loops-none sound (chains-end valid sound) s (kept.0).0 ((kept.0).1).covered ((kept.1).sound).agree loops

  -- the body on top does something
  pub lacks-not : {s : State} → Kept s → LacksValue s → ⊥
  lacks-not {s} kept value =
      let held = (kept.0).1 in
      lacks-none s (valid.typed) sound ((kept.1).sound).agree.typed (top-stands p (kept.0).0 s.objects s.stack held.levels held.stacked) value
