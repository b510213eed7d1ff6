-- A state stops for one fault at most.
use Rattle.std.proofs.Common.{◌≡◌, ◌⊎◌, inl, inr, ℕ, suc, IsTrue, List, [], ◌∷◌, length, None, Some, Ok, Err, refl, sym, ap, ◌∙◌, subst, arith}
use Rattle.basic_types.specs.declared.value.Value.{Value}
use Rattle.script_lang.specs.{declared.event.Event.{Event}, declared.event.Event.TheVariants.{Bind}}
use Rattle.meta_model.specs.{Loaded.{Loaded}, Sound.{IsSound}}
use Rattle.object_tree.specs.{declared.object.Object.{Object}, Typed.{AreTyped}}
use Rattle.binding_graph.specs.{declared.binding.Binding.{Binding}, Bindings.{binding_at, replaced, Loop}}
use Rattle.prop_bindings.{specs.Calls.{AllFit}, specs.Fits.{Agree, IsFit}, proofs.Fitting.{fit-stays}}
use Rattle.trace_entries.specs.{declared.fault.Answer.{Answer}, declared.fault.Fault.{Fault}, declared.refusal.Refusal.{Refusal}}
use Rattle.machine_state.specs.{Accepting.{accepted}, State.{Step, Run, State, Activation, Body, IsIdle}, Telling.{Assigning, writes_of}}
use Rattle.machine_rules.{specs.Operations.{Operation, Write, TakeAnswer}, specs.Faults.{WritesDeep, GoesIll, GoesFatal, GoesDeep}, specs.Next.{WritesNext, WritesIll, LacksValue}, specs.Good.{IsWell, Spares, IsAcyclic, TopFits, has_body}, specs.Natives.{NativeAnswers, AnswersOnce}, specs.Rules.{Rule, RuleAt, StepRule, Does}, specs.Settling.{Installs}, specs.There.{IsDead}, specs.Judgement.{becomes, goes_on, ends}, proofs.Agreeing.{bound-fits}, proofs.Differing.{differ-spared}, proofs.OneRule.{does-one, stack-one}, proofs.ReachingFitting.{fits-read}, proofs.Doing.{step-of, doing, lacking, lacks-nothing}, proofs.ReachedStates.{next-writes}}
use Rattle.object_machine.{specs.Causes.{BindsNext, BindsIll, BindsLoop, Brings, spent, short, brings, lacks_value, writes_ill, binds_ill, goes_ill, goes_fatal, binds_loop, writes_deep, goes_deep}, specs.Events.{judged, may_bind}, specs.FaultLaws.{OneFault}, specs.Runs.{Follows, by_rule, by_event}, specs.Takes.{Takes, accepts, refuses}, proofs.CheckedRuns.Settled.{writes-agree}, proofs.OneRun.{no-rule, taken-idle}, proofs.OneTaking.{one_taking, one-may-bind}, proofs.Settling.{bound-plain}}

-- natives that answer nothing else than nothing
abbrev silent : NativeAnswers
silent class sig arguments reads actions = actions ≡ []

silent-once : AnswersOnce silent
silent-once class sig arguments reads a b x y = x ∙ sym y

-- objects are as they were, and nothing is pushed
record IsQuiet (s t : State) : Type 0 where
  pub objects : t.objects ≡ s.objects
  pub as_high : length t.stack ≡ length s.stack

module _ (p : Loaded) (natives : NativeAnswers) (s : State) (sound : IsSound p) (agree : Agree p s.objects s.bindings) where
  -- ---- what follows by a rule is one state, or a native answers, which is no bad moment

  does-alike : (t u : State) (o m : ℕ) (arguments : List Value) (rest : List Step) (below : List Activation) (step : Step) → s.stack ≡ Body o m arguments (step ∷ rest) ∷ below → (d : Operation) → Does p natives s o m arguments rest below d t → Does p natives s o m arguments rest below d u → (t ≡ u) ⊎ (IsQuiet s t × IsQuiet s u)
  does-alike t u o m arguments rest below step is (TakeAnswer effects) a b =
      let high : suc (length below) ≡ length s.stack = sym (ap (λ (l : List Activation). length l) is) in
      inr (
        record { objects = ap (λ (v : State). v.objects) a.gives; as_high = ap (λ (v : State). length v.stack) a.gives ∙ high },
        record { objects = ap (λ (v : State). v.objects) b.gives; as_high = ap (λ (v : State). length v.stack) b.gives ∙ high },
      )
  does-alike t u o m arguments rest below step is d a b = inl (does-one p silent silent-once s o m arguments rest below d t u agree a b)

  at-alike : (t u : State) (stack : List Activation) → s.stack ≡ stack → RuleAt p natives s t stack → RuleAt p natives s u stack → (t ≡ u) ⊎ (IsQuiet s t × IsQuiet s u)
  at-alike t u (Body o m arguments (step ∷ rest) ∷ below) is first other =
      let a = step-of p natives s o m arguments step rest below t first in
      let b = step-of p natives s o m arguments step rest below u other in
      let both : Some a.what ≡ Some b.what = sym a.is ∙ b.is in
      let same : a.what ≡ b.what = cc both in
      let Done : Operation → Type 0 = λ d. Does p natives s o m arguments rest below d u in
      does-alike t u o m arguments rest below step is a.what a.does (subst Done (sym same) b.does)
  at-alike t u stack is a b = inl (stack-one p silent silent-once s t u stack agree a b)

  rules-alike : (t u : State) → Rule p natives s t → Rule p natives s u → (t ≡ u) ⊎ (IsQuiet s t × IsQuiet s u)
  rules-alike t u a b = at-alike t u s.stack refl a b

  quiet-well : {t : State} → IsQuiet s t → IsWell p s t
  quiet-well quiet = record {
    arguments = λ higher. absurd (let high = quiet.as_high in omega (arith, higher, high));
    values = subst (AreTyped p) (sym quiet.objects) agree.typed;
  }

  quiet-spares : {t : State} → IsQuiet s t → Spares s t
  quiet-spares quiet o body gone = subst (λ (l : List Object). IsDead l o) quiet.objects gone

  -- ---- where nothing is going on

  body-busy : {o m : ℕ} {arguments : List Value} {left : List Step} {below : List Activation} → s.stack ≡ Body o m arguments left ∷ below → ¬ IsIdle s
  body-busy {o} {m} {arguments} {left} {below} is idle = let none : (Body o m arguments left ∷ below) ≡ [] = sym is ∙ idle.empty in absurd (cc none)

  idle-spares : (t : State) → IsIdle s → Spares s t
  idle-spares t idle o body gone = let none : IsTrue (has_body o []) = subst (λ (l : List Activation). IsTrue (has_body o l)) idle.empty body in absurd (cc none)

  busy-rule : {t : State} {next : List Event} → (¬ IsIdle s) → Follows p natives s t next → Rule p natives s t
  busy-rule busy (by_rule r) = r
  busy-rule busy (by_event x) = absurd (busy (taken-idle x))

  -- ---- a bind

  made : {t : State} {b : Binding} (site target : List ℕ) (sources : List (List ℕ)) → may_bind p s site target sources (Ok b) → judged p s (Bind site target sources) (Ok t) → Installs p (accepted s) s.stack b t
  made {t} {b} site target sources may (goes_on c also (becomes x)) =
      let both : Ok c ≡ Ok b = one-may-bind p s site target sources sound (Ok c) (Ok b) also may in
      let same : c ≡ b = cc both in
      subst (λ (z : Binding). Installs p (accepted s) s.stack z t) same x

  unrefused : {b : Binding} (k : Refusal) (site target : List ℕ) (sources : List (List ℕ)) → may_bind p s site target sources (Ok b) → judged p s (Bind site target sources) (Err k) → ⊥
  unrefused k site target sources may (goes_on c f x) = elim x [ ]
  unrefused {b} k site target sources may (ends f) = let no = one-may-bind p s site target sources sound (Ok b) (Err k) may f in absurd (cc no)

  -- the event that binds it is taken so
  bind-taken : {b : Binding} {t : State} {a : Answer} (site target : List ℕ) (sources : List (List ℕ)) → may_bind p s site target sources (Ok b) → Takes p (Bind site target sources) a s t → Installs p (accepted s) s.stack b t
  bind-taken site target sources may (accepts idle x) = made site target sources may x
  bind-taken site target sources may (refuses k idle x) = absurd (unrefused k site target sources may x)

  bind-installs : {b : Binding} {t : State} {next : List Event} → BindsNext p s next b → Follows p natives s t next → Installs p (accepted s) s.stack b t
  bind-installs {t = t} asked (by_rule r) = absurd (no-rule p natives s t asked.idle r)
  bind-installs {t = t} asked (by_event {e = e} {a = a} x) =
      let is : e ≡ Bind asked.site asked.target asked.sources = cc asked.is_next in
      bind-taken asked.site asked.target asked.sources asked.may (subst (λ (z : Event). Takes p z a s t) is x)

  -- .. which closes a chain where the binding does
  bind-closes : {b : Binding} {t : State} → Installs p (accepted s) s.stack b t → IsAcyclic t → Loop (binding_at (replaced s.bindings b)) → ⊥
  bind-closes x acyclic closes = subst (λ (v : State). IsAcyclic v) x.settles.gives acyclic closes

  -- .. and else the binding fits where all is well after it
  bind-fits : {b : Binding} {t : State} {next : List Event} (asked : BindsNext p s next b) → Follows p natives s t next → IsWell p s t → IsFit p s.objects b
  bind-fits {b} {t} asked follows well =
      let x = bind-installs asked follows in
      let over : IsWell p (accepted s) t = record { arguments = well.arguments; values = well.values } in
      let typed : AreTyped p x.objects = subst (λ (v : State). AreTyped p v.objects) x.settles.gives well.values in
      let fit = bound-fits {s = accepted s} agree over x typed (bound-plain s asked.site asked.target asked.sources sound asked.may x) in
      fit-stays p x.objects s.objects typed agree.typed (sym x.installed.objects) b fit

  -- two binds that are next are of one binding
  bind-one : {a b : Binding} {next : List Event} → BindsNext p s next a → BindsNext p s next b → a ≡ b
  bind-one {a} {b} x y =
      let events : (Bind x.site x.target x.sources ∷ x.rest) ≡ (Bind y.site y.target y.sources ∷ y.rest) = sym x.is_next ∙ y.is_next in
      let site : x.site ≡ y.site = cc events in
      let target : x.target ≡ y.target = cc events in
      let sources : x.sources ≡ y.sources = cc events in
      let May : List ℕ → List ℕ → List (List ℕ) → Type 0 = λ i j k. may_bind p s i j k (Ok a) in
      let may : may_bind p s y.site y.target y.sources (Ok a) =
      subst (λ (k : List (List ℕ)). May y.site y.target k) sources (subst (λ (j : List ℕ). May y.site j x.sources) target (subst (λ (i : List ℕ). May i x.target x.sources) site x.may)) in
      let both : Ok a ≡ Ok b = one-may-bind p s y.site y.target y.sources sound (Ok a) (Ok b) may y.may in
      cc both

  -- ---- what is next in a body

  lacks-stuck : (t : State) → LacksValue s → Rule p natives s t → ⊥
  lacks-stuck t value r =
      let x = lacking s value in
      let At : List Activation → Type 0 = λ stack. RuleAt p natives s t stack in
      let step : StepRule p natives s x.object x.method x.arguments (Run x.statement) x.rest x.below t = step-of p natives s x.object x.method x.arguments (Run x.statement) x.rest x.below t (subst At x.is_next r) in
      let both : Some step.what ≡ None = sym step.is ∙ x.lacks in
      cc both

  -- two writes that are next are one
  next-one : {what other : Assigning} → WritesNext s what → WritesNext s other → what ≡ other
  next-one {what} {other} x y =
      let both : Some (Write what) ≡ Some (Write other) = sym x ∙ y in
      cc both

  writes-spare : (t : State) {what : Assigning} → WritesNext s what → Rule p natives s t → Spares s t
  writes-spare t next r o body gone =
      let x = next-writes p natives s t (doing s next) r in
      differ-spared s.objects x.objects x.written.objects o (subst (λ (v : State). IsDead v.objects o) x.settles.gives gone)

  -- values that fit are written well
  writes-well : (t : State) {depth : ℕ} → WritesDeep p depth s → Rule p natives s t → IsWell p s t
  writes-well t deep r =
      let x = next-writes p natives s t (doing s deep.next) r in
      record {
        arguments = λ higher. subst (λ (v : State). TopFits p v.objects v.stack) (sym x.settles.gives) tt;
        values = (writes-agree agree x deep.fit).typed;
      }

  writes-fit : {depth : ℕ} → WritesDeep p depth s → ¬ WritesIll p s
  writes-fit deep ill =
      let same : deep.what ≡ ill.what = next-one deep.next ill.next in
      ill.ill (fits-read (writes_of ill.what) (subst (λ (w : Assigning). AllFit p s.objects (writes_of w)) same deep.fit) ill.set ill.among ill.there.is)

  -- ---- of two causes one excludes the other

  module _ (depth : ℕ) (next : List Event) where
    -- 60 and 63
    lacks-fatal : LacksValue s → GoesFatal p s (λ t. Follows p natives s t next) → ⊥
    lacks-fatal x g = lacks-stuck g.t x (busy-rule (body-busy (lacking s x).is_next) g.follows)

    writes-fatal : {what : Assigning} → WritesNext s what → GoesFatal p s (λ t. Follows p natives s t next) → ⊥
    writes-fatal w g = g.fatal (writes-spare g.t w (busy-rule (body-busy (doing s w).is_next) g.follows))

    idle-fatal : IsIdle s → GoesFatal p s (λ t. Follows p natives s t next) → ⊥
    idle-fatal idle g = g.fatal (idle-spares g.t idle)

    ill-fatal : GoesIll p s (λ t. Follows p natives s t next) → GoesFatal p s (λ t. Follows p natives s t next) → ⊥
    ill-fatal i g = by_follows g.follows i.follows
      where
        by_follows : {es fs : List Event} → Follows p natives s g.t es → Follows p natives s i.t fs → ⊥
        by_follows (by_event x) f = idle-fatal (taken-idle x) g
        by_follows (by_rule r) (by_event x) = idle-fatal (taken-idle x) g
        by_follows (by_rule r) (by_rule q) = elim (rules-alike i.t g.t q r) [
          | inl same ↦ i.ill (subst (λ (v : State). IsWell p s v) (sym same) g.well)
          | inr quiet ↦ i.ill (quiet-well quiet.0)
        ]

    -- 60 and 62
    ill-loop : GoesIll p s (λ t. Follows p natives s t next) → BindsLoop p s next → ⊥
    ill-loop i l = bind-closes (bind-installs l.next i.follows) i.acyclic l.closes

    binds-loop : BindsIll p s next → BindsLoop p s next → ⊥
    binds-loop i l = i.ill (subst (λ (b : Binding). IsFit p s.objects b) (bind-one l.next i.next) l.fit)

    -- 60 and 61
    lacks-deep : LacksValue s → GoesDeep p depth s (λ t. Follows p natives s t next) → ⊥
    lacks-deep x g = lacks-stuck g.t x (busy-rule (body-busy (lacking s x).is_next) g.follows)

    binds-deep : BindsIll p s next → GoesDeep p depth s (λ t. Follows p natives s t next) → ⊥
    binds-deep i g = i.ill (bind-fits i.next g.follows g.well)

    ill-low : GoesIll p s (λ t. Follows p natives s t next) → WritesDeep p depth s → ⊥
    ill-low i w = i.ill (writes-well i.t w (busy-rule (body-busy (doing s w.next).is_next) i.follows))

    ill-deep : GoesIll p s (λ t. Follows p natives s t next) → GoesDeep p depth s (λ t. Follows p natives s t next) → ⊥
    ill-deep i g = by_follows refl g.follows i.follows
      where
        by_event_one : {a b : Answer} {e f : Event} {es fs : List Event} → (e ∷ es) ≡ (f ∷ fs) → Takes p e a s g.t → Takes p f b s i.t → ⊥
        by_event_one {a} {b} {e} {f} same x y =
            let is : f ≡ e = cc same in
            let both = one_taking p e a b s g.t i.t sound agree x (subst (λ (z : Event). Takes p z b s i.t) is y) g.acyclic in
            i.ill (subst (λ (v : State). IsWell p s v) both.1 g.well)

        by_follows : {es fs : List Event} → es ≡ fs → Follows p natives s g.t es → Follows p natives s i.t fs → ⊥
        by_follows same (by_event x) (by_event y) = by_event_one same x y
        by_follows same (by_rule r) (by_event x) = no-rule p natives s g.t (taken-idle x) r
        by_follows same (by_event x) (by_rule r) = no-rule p natives s i.t (taken-idle x) r
        by_follows same (by_rule r) (by_rule q) = elim (rules-alike i.t g.t q r) [
          | inl one ↦ i.ill (subst (λ (v : State). IsWell p s v) (sym one) g.well)
          | inr quiet ↦ i.ill (quiet-well quiet.0)
        ]

    -- 63 and 61
    fatal-deep : GoesFatal p s (λ t. Follows p natives s t next) → GoesDeep p depth s (λ t. Follows p natives s t next) → ⊥
    fatal-deep f g = by_follows f.follows g.follows
      where
        by_follows : {es fs : List Event} → Follows p natives s f.t es → Follows p natives s g.t fs → ⊥
        by_follows (by_event x) other = idle-fatal (taken-idle x) f
        by_follows (by_rule r) (by_event x) = idle-fatal (taken-idle x) f
        by_follows (by_rule r) (by_rule q) = elim (rules-alike f.t g.t r q) [
          | inl one ↦ f.fatal (subst (λ (v : State). Spares s v) (sym one) g.spared)
          | inr quiet ↦ f.fatal (quiet-spares quiet.0)
        ]

    -- 62 and 61
    loop-deep : BindsLoop p s next → GoesDeep p depth s (λ t. Follows p natives s t next) → ⊥
    loop-deep l g = bind-closes (bind-installs l.next g.follows) g.acyclic l.closes

    -- a body is active, and nothing is going on
    busy-binds : {o m : ℕ} {arguments : List Value} {left : List Step} {below : List Activation} {b : Binding} → s.stack ≡ Body o m arguments left ∷ below → BindsNext p s next b → ⊥
    busy-binds is asked = body-busy is asked.idle

    one-cause : {f g : Fault} → Brings p natives depth s next f → Brings p natives depth s next g → f ≡ g
    one-cause (lacks_value x) (lacks_value y) = refl
    one-cause (lacks_value x) (writes_ill y) = refl
    one-cause (lacks_value x) (binds_ill y) = refl
    one-cause (lacks_value x) (goes_ill y) = refl
    one-cause (lacks_value x) (goes_fatal y) = absurd (lacks-fatal x y)
    one-cause (lacks_value x) (binds_loop y) = absurd (busy-binds (lacking s x).is_next y.next)
    one-cause (lacks_value x) (writes_deep y) = absurd (lacks-nothing s x y.next)
    one-cause (lacks_value x) (goes_deep y) = absurd (lacks-deep x y)
    one-cause (writes_ill x) (lacks_value y) = refl
    one-cause (writes_ill x) (writes_ill y) = refl
    one-cause (writes_ill x) (binds_ill y) = refl
    one-cause (writes_ill x) (goes_ill y) = refl
    one-cause (writes_ill x) (goes_fatal y) = absurd (writes-fatal x.next y)
    one-cause (writes_ill x) (binds_loop y) = absurd (busy-binds (doing s x.next).is_next y.next)
    one-cause (writes_ill x) (writes_deep y) = absurd (writes-fit y x)
    one-cause (writes_ill x) (goes_deep y) = absurd (y.fits x)
    one-cause (binds_ill x) (lacks_value y) = refl
    one-cause (binds_ill x) (writes_ill y) = refl
    one-cause (binds_ill x) (binds_ill y) = refl
    one-cause (binds_ill x) (goes_ill y) = refl
    one-cause (binds_ill x) (goes_fatal y) = absurd (idle-fatal x.next.idle y)
    one-cause (binds_ill x) (binds_loop y) = absurd (binds-loop x y)
    one-cause (binds_ill x) (writes_deep y) = absurd (busy-binds (doing s y.next).is_next x.next)
    one-cause (binds_ill x) (goes_deep y) = absurd (binds-deep x y)
    one-cause (goes_ill x) (lacks_value y) = refl
    one-cause (goes_ill x) (writes_ill y) = refl
    one-cause (goes_ill x) (binds_ill y) = refl
    one-cause (goes_ill x) (goes_ill y) = refl
    one-cause (goes_ill x) (goes_fatal y) = absurd (ill-fatal x y)
    one-cause (goes_ill x) (binds_loop y) = absurd (ill-loop x y)
    one-cause (goes_ill x) (writes_deep y) = absurd (ill-low x y)
    one-cause (goes_ill x) (goes_deep y) = absurd (ill-deep x y)
    one-cause (goes_fatal x) (lacks_value y) = absurd (lacks-fatal y x)
    one-cause (goes_fatal x) (writes_ill y) = absurd (writes-fatal y.next x)
    one-cause (goes_fatal x) (binds_ill y) = absurd (idle-fatal y.next.idle x)
    one-cause (goes_fatal x) (goes_ill y) = absurd (ill-fatal y x)
    one-cause (goes_fatal x) (goes_fatal y) = refl
    one-cause (goes_fatal x) (binds_loop y) = absurd (idle-fatal y.next.idle x)
    one-cause (goes_fatal x) (writes_deep y) = absurd (writes-fatal y.next x)
    one-cause (goes_fatal x) (goes_deep y) = absurd (fatal-deep x y)
    one-cause (binds_loop x) (lacks_value y) = absurd (busy-binds (lacking s y).is_next x.next)
    one-cause (binds_loop x) (writes_ill y) = absurd (busy-binds (doing s y.next).is_next x.next)
    one-cause (binds_loop x) (binds_ill y) = absurd (binds-loop y x)
    one-cause (binds_loop x) (goes_ill y) = absurd (ill-loop y x)
    one-cause (binds_loop x) (goes_fatal y) = absurd (idle-fatal x.next.idle y)
    one-cause (binds_loop x) (binds_loop y) = refl
    one-cause (binds_loop x) (writes_deep y) = absurd (busy-binds (doing s y.next).is_next x.next)
    one-cause (binds_loop x) (goes_deep y) = absurd (loop-deep x y)
    one-cause (writes_deep x) (lacks_value y) = absurd (lacks-nothing s y x.next)
    one-cause (writes_deep x) (writes_ill y) = absurd (writes-fit x y)
    one-cause (writes_deep x) (binds_ill y) = absurd (busy-binds (doing s x.next).is_next y.next)
    one-cause (writes_deep x) (goes_ill y) = absurd (ill-low y x)
    one-cause (writes_deep x) (goes_fatal y) = absurd (writes-fatal x.next y)
    one-cause (writes_deep x) (binds_loop y) = absurd (busy-binds (doing s x.next).is_next y.next)
    one-cause (writes_deep x) (writes_deep y) = refl
    one-cause (writes_deep x) (goes_deep y) = refl
    one-cause (goes_deep x) (lacks_value y) = absurd (lacks-deep y x)
    one-cause (goes_deep x) (writes_ill y) = absurd (x.fits y)
    one-cause (goes_deep x) (binds_ill y) = absurd (binds-deep y x)
    one-cause (goes_deep x) (goes_ill y) = absurd (ill-deep y x)
    one-cause (goes_deep x) (goes_fatal y) = absurd (fatal-deep y x)
    one-cause (goes_deep x) (binds_loop y) = absurd (loop-deep y x)
    one-cause (goes_deep x) (writes_deep y) = refl
    one-cause (goes_deep x) (goes_deep y) = refl

pub one_fault : (natives : NativeAnswers) → OneFault natives
one_fault natives p depth s left next f g sound agree (spent none due) (spent also again) no_f no_g = refl
one_fault natives p depth s left next f g sound agree (spent none due) (short some again) no_f no_g = absurd (no_g refl)
one_fault natives p depth s left next f g sound agree (spent none due) (brings some y) no_f no_g = absurd (omega (arith, none, some))
one_fault natives p depth s left next f g sound agree (short some due) y no_f no_g = absurd (no_f refl)
one_fault natives p depth s left next f g sound agree (brings some x) (spent none due) no_f no_g = absurd (omega (arith, none, some))
one_fault natives p depth s left next f g sound agree (brings some x) (short also due) no_f no_g = absurd (no_g refl)
one_fault natives p depth s left next f g sound agree (brings some x) (brings also y) no_f no_g = one-cause p natives s sound agree depth next x y
