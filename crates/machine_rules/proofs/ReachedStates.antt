-- How runs are put together.
use Rattle.machine_state.specs.{Telling.{Assigning, writes_of}, declared.world.World.{World}, State.{State, Activation, Body, Update, IsIdle}, Worlds.{at}, code.Changing.{Ticks, GoesTo}}
use Rattle.std.{proofs.Common.{◌≡◌, ◌≢◌, ℕ, suc, ◌+◌, ◌-◌, ◌<◌, ◌≤◌, inl, inr, Option, Some, IsTrue, List, [], ◌∷◌, ◌++◌, length, Result, Ok, Err, refl, sym, ap, ◌∙◌, subst, arith, length-append}, specs.Prelude.{OnOk}, specs.Result.{IsErrAnd}}
use Rattle.meta_model.specs.{Loaded.{Loaded}, declared.effects.MetaEffects.{MetaEffects}}
use Rattle.expressions.specs.declared.evaluation.EvalFault.{EvalFault}
use Rattle.expressions.specs.declared.evaluation.EvalFault.TheVariants as eval
use Rattle.trace_entries.specs.{declared.fault.Fault.{Fault}, declared.fault.Fault.TheVariants.{BadType, TooDeep, InUse, Steps, Memory}, Faults.{IsFaultOf}}
use Rattle.machine_rules.{specs.Rules.{Rule, RuleAt, StepRule, Does}, specs.Settling.{Writes, notified}, specs.Operations.{Operation, Write, TakeAnswer}, specs.There.{IsDead, NoneDied}, specs.code.Sound.{AgreeIn}, specs.Good.{has_body, IsWell, Spares, IsAcyclic, IsGood, TopFits, shows}, specs.Faults.{WritesDeep, GoesIll, GoesFatal, GoesDeep}, specs.code.Lacking.{LacksFirst}, specs.Next.{DoesNext, WritesNext, WritesIll}, specs.code.Going.{GoodRules, done, then, IsStuck}, specs.Reaches.{Reaches, StopsIn, RunsTo}, proofs.Doing.{Doing, doing, step-of}, proofs.Stacks.{high, shows-over}, specs.Natives.{NativeAnswers}}
use Rattle.prop_bindings.specs.Fits.{Agree}
use Rattle.binding_graph.specs.declared.place.Place.{Place}
use Rattle.object_tree.specs.declared.object.Object.{Object}

pub rules-trans : {p : Loaded} {natives : NativeAnswers} {d : ℕ} {s m t : State} {n k j : ℕ} → GoodRules p natives d s n m k → GoodRules p natives d m k t j → GoodRules p natives d s n t j
rules-trans done r = r
rules-trans (then x ok rest) r = then x ok (rules-trans rest r)

pub rules-one : {p : Loaded} {natives : NativeAnswers} {d : ℕ} {s t : State} {n k : ℕ} → Rule p natives s t → IsGood p d s t → 0 < n → k ≡ n - 1 → GoodRules p natives d s n t k
rules-one {p} {natives} {d} {s} {t} {n} {k} x ok some e =
    let Family : ℕ → Type 0 = λ a. GoodRules p natives d s a t k in
    let suc_is : suc k ≡ n = omega (arith, e) in
    subst Family suc_is (then x ok done)

pub reaches-same : {p : Loaded} {natives : NativeAnswers} {d : ℕ} {h : List (Option ℕ)} {w : World} {top : List Activation} → Reaches p natives d h w top w top
reaches-same = record { runs = λ below e. done }

pub reaches-then : {p : Loaded} {natives : NativeAnswers} {d : ℕ} {h : List (Option ℕ)} {w v u : World} {a b c : List Activation} → Reaches p natives d h w a v b → Reaches p natives d h v b u c → Reaches p natives d h w a u c
reaches-then x y = record { runs = λ below e. rules-trans (x.runs below e) (y.runs below e) }

pub stops-after : {p : Loaded} {natives : NativeAnswers} {d : ℕ} {h : List (Option ℕ)} {w v u : World} {a b : List Activation} {f : Fault} → Reaches p natives d h w a v b → StopsIn p natives d h v b u f → StopsIn p natives d h w a u f
stops-after x y = record { stops = λ below e. let q = y.stops below e in (q.0, rules-trans (x.runs below e) q.1, q.2) }

-- a call that goes on from where another run came
pub ends-after : {p : Loaded} {natives : NativeAnswers} {d : ℕ} {h : List (Option ℕ)} {w v u : World} {a b c : List Activation} {r : Result (Unit {0}) Fault} → Reaches p natives d h w a v b → RunsTo p natives d h v b u c r → RunsTo p natives d h w a u c r
ends-after {r = Ok _} x y = record { cases = reaches-then x y.cases }
ends-after {r = Err f} x y = record { cases = stops-after x y.cases }

-- where no object has died, none has that has a body
pub none-spared : (old new : List Object) (stack : List Activation) → NoneDied old new → (o : ℕ) → IsTrue (has_body o stack) → IsDead new o → IsDead old o
none-spared old new stack none o body gone = none o gone

pub same-spared : {old new : List Object} → new ≡ old → NoneDied old new
same-spared e o gone = subst (λ (objects : List Object). IsDead objects o) e gone

-- where the next step writes, the next rule does
pub next-writes : (p : Loaded) (natives : NativeAnswers) (s t : State) {what : Assigning} → (next : Doing s (Write what)) → Rule p natives s t → Writes p s (Body next.object next.method next.arguments next.rest ∷ next.below) what t
next-writes p natives s t {what} next rule =
    let At : List Activation → Type 0 = λ stack. RuleAt p natives s t stack in
    let step : StepRule p natives s next.object next.method next.arguments next.step next.rest next.below t = step-of p natives s next.object next.method next.arguments next.step next.rest next.below t (subst At next.is_next rule) in
    let both : Some step.what ≡ Some (Write what) = sym step.is ∙ next.does in
    let same : step.what ≡ Write what = cc both in
    let Done : Operation → Type 0 = λ e. Does p natives s next.object next.method next.arguments next.rest next.below e t in
    subst Done same step.does

-- .. and pushes an update
pub writes-push : (p : Loaded) (natives : NativeAnswers) (s t : State) {what : Assigning} → (next : Doing s (Write what)) → Rule p natives s t → (places : List Place) × (t.stack ≡ Update places ∷ Body next.object next.method next.arguments next.rest ∷ next.below)
writes-push p natives s t next rule =
    let writes = next-writes p natives s t next rule in
    (notified p writes.objects writes.changed, ap (λ (u : State). u.stack) writes.settles.gives)

-- .. so one that leaves the stack no higher writes nothing
no-higher-fits : (p : Loaded) (natives : NativeAnswers) (s t : State) → Rule p natives s t → length t.stack ≤ length s.stack → ¬ WritesIll p s
no-higher-fits p natives s t rule low ill =
    let next = doing s ill.next in
    let pushed = writes-push p natives s t next rule in
    let after : length t.stack ≡ suc (suc (length next.below)) = ap (λ (l : List Activation). length l) pushed.1 in
    let before : length s.stack ≡ suc (length next.below) = ap (λ (l : List Activation). length l) next.is_next in
    absurd (omega (arith, after, before, low))

-- .. nor does one that pushes something else
pub no-update-fits : (p : Loaded) (natives : NativeAnswers) (s t : State) (top : Activation) (below : List Activation) → Rule p natives s t → t.stack ≡ top ∷ below → ((places : List Place) → top ≢ Update places) → ¬ WritesIll p s
no-update-fits p natives s t top below rule is other ill =
    let next = doing s ill.next in
    let pushed = writes-push p natives s t next rule in
    let both : (top ∷ below) ≡ (Update pushed.0 ∷ Body next.object next.method next.arguments next.rest ∷ next.below) = sym is ∙ pushed.1 in
    let same : top ≡ Update pushed.0 = cc both in
    other pushed.0 same

-- one rule that pushes nothing, to a world with one rule fewer left
pub reaches-low : {p : Loaded} {natives : NativeAnswers} {d : ℕ} {h : List (Option ℕ)} {w v : World} {a b : List Activation} → ((below : List Activation) → shows below ≡ h → Rule p natives (at w (a ++ below)) (at v (b ++ below))) → NoneDied w.store.tree v.store.tree → length b ≤ length a → length b + length h ≤ d → AgreeIn p v → v.left ≡ w.left - 1 → 0 < w.left → Reaches p natives d h w a v b
reaches-low {p} {natives} {d} {h} {w} {v} {a} {b} step none low fits agree less some = record {
  runs = λ below e.
      let shallow : length (b ++ below) ≤ d = omega (arith, length-append b below, high below e, fits) in
      let no_higher : length (b ++ below) ≤ length (a ++ below) = omega (arith, length-append b below, length-append a below, low) in
      let good : IsGood p d (at w (a ++ below)) (at v (b ++ below)) = record { well = record { arguments = λ higher. absurd (omega (arith, higher, no_higher)); values = agree.typed }; spared = none-spared w.store.tree v.store.tree (a ++ below) none; acyclic = agree.acyclic; shallow = shallow; fits = no-higher-fits p natives (at w (a ++ below)) (at v (b ++ below)) (step below e) no_higher } in
      rules-one (step below e) good some less;
}

-- one rule that pushes an activation, over a stack that shows `active`
pub reaches-high : {p : Loaded} {natives : NativeAnswers} {d : ℕ} {h active : List (Option ℕ)} {w v : World} {from : List Activation} {top : Activation} {to : List Activation} → active ≡ shows to ++ h → ((below : List Activation) → shows below ≡ h → Rule p natives (at w (from ++ below)) (at v (top ∷ to ++ below))) → ((below : List Activation) → shows below ≡ h → ¬ WritesIll p (at w (from ++ below))) → ((below : List Activation) → shows below ≡ h → Spares (at w (from ++ below)) (at v (top ∷ to ++ below))) → ((below : List Activation) → TopFits p v.store.tree (top ∷ to ++ below)) → length active < d → AgreeIn p v → v.left ≡ w.left - 1 → 0 < w.left → Reaches p natives d h w from v (top ∷ to)
reaches-high {p} {natives} {d} {h} {active} {w} {v} {from} {top} {to} over step fits spared fit room agree less some = record {
  runs = λ below e.
      let shallow : length (top ∷ to ++ below) ≤ d = omega (arith, high (to ++ below) (shows-over to below over e), room) in
      let good : IsGood p d (at w (from ++ below)) (at v (top ∷ to ++ below)) = record { well = record { arguments = λ higher. fit below; values = agree.typed }; spared = spared below e; acyclic = agree.acyclic; shallow = shallow; fits = fits below e } in
      rules-one (step below e) good some less;
}

-- .. one that is no update
pub reaches-pushed : {p : Loaded} {natives : NativeAnswers} {d : ℕ} {h active : List (Option ℕ)} {w v : World} {from : List Activation} {top : Activation} {to : List Activation} → active ≡ shows to ++ h → ((places : List Place) → top ≢ Update places) → ((below : List Activation) → shows below ≡ h → Rule p natives (at w (from ++ below)) (at v (top ∷ to ++ below))) → ((below : List Activation) → shows below ≡ h → Spares (at w (from ++ below)) (at v (top ∷ to ++ below))) → ((below : List Activation) → TopFits p v.store.tree (top ∷ to ++ below)) → length active < d → AgreeIn p v → v.left ≡ w.left - 1 → 0 < w.left → Reaches p natives d h w from v (top ∷ to)
reaches-pushed {p} {natives} {w = w} {v = v} {from = from} {top = top} {to = to} over other step spared fit room agree less some =
    reaches-high over step (λ below e. no-update-fits p natives (at w (from ++ below)) (at v (top ∷ to ++ below)) top (to ++ below) (step below e) refl other) spared fit room agree less some

-- ---- why a run stops

-- where an activation is at the top, something is going on
pub not-idle : (w : World) (a : Activation) (below : List Activation) → ¬ IsIdle (at w (a ∷ below))
not-idle w a below idle = let none : (a ∷ below) ≡ [] = idle.empty in absurd (cc none)

-- no rule is left where one is due
pub stops-steps : {p : Loaded} {natives : NativeAnswers} {d : ℕ} {h : List (Option ℕ)} {w : World} {a : Activation} → w.left ≡ 0 → StopsIn p natives d h w (a ∷ []) w Steps
stops-steps {w = w} {a = a} none = record { stops = λ below e. (a ∷ below, done, (none, not-idle w a below)) }

-- what is going on where a run stops
module _ {p : Loaded} {natives : NativeAnswers} {d : ℕ} {h : List (Option ℕ)} {w : World} {from : List Activation} (goes_on : (below : List Activation) → ¬ IsIdle (at w (from ++ below))) (some : 0 < w.left) where
  -- memory was refused
  pub stops-memory : StopsIn p natives d h w from w Memory
  stops-memory = record { stops = λ below e. (from ++ below, done, (some, goes_on below)) }

  -- no rule leads on
  pub stops-stuck : ((below : List Activation) (t : State) → ¬ Rule p natives (at w (from ++ below)) t) → ((below : List Activation) (what : Assigning) → WritesNext (at w (from ++ below)) what → LacksFirst p w.store.tree (writes_of what)) → ((below : List Activation) (effects : MetaEffects) → ¬ DoesNext (at w (from ++ below)) (TakeAnswer effects)) → StopsIn p natives d h w from w BadType
  stops-stuck stuck lacks asks = record {
    stops = λ below e.
        let is : IsStuck p natives (at w (from ++ below)) = record { goes_on = goes_on below; stuck = stuck below; lacks = lacks below; asks_none = asks below } in
        (from ++ below, done, (some, inl is));
  }

-- the next rule gives a value that is not of its type
pub stops-ill : {p : Loaded} {natives : NativeAnswers} {d : ℕ} {h : List (Option ℕ)} {w : World} {from : List Activation} → 0 < w.left → ((below : List Activation) → (t : State) × Rule p natives (at w (from ++ below)) t × IsAcyclic t × (¬ IsWell p (at w (from ++ below)) t)) → StopsIn p natives d h w from w BadType
stops-ill {p} {natives} {w = w} {from = from} some next = record {
  stops = λ below e.
      let q = next below in
      let is : GoesIll p (at w (from ++ below)) (λ t. Rule p natives (at w (from ++ below)) t) = record { t = q.0; follows = q.1; acyclic = q.2; ill = q.3 } in
      (from ++ below, done, (some, inr (inr is)));
}

-- .. the next statement writes one
pub stops-ill-write : {p : Loaded} {natives : NativeAnswers} {d : ℕ} {h : List (Option ℕ)} {w : World} {from : List Activation} → 0 < w.left → ((below : List Activation) → WritesIll p (at w (from ++ below))) → StopsIn p natives d h w from w BadType
stops-ill-write {w = w} {from = from} some ill = record { stops = λ below e. (from ++ below, done, (some, inr (inl (ill below)))) }

-- by the next rule an object dies while a body of it is active
pub stops-fatal : {p : Loaded} {natives : NativeAnswers} {d : ℕ} {h : List (Option ℕ)} {w : World} {from : List Activation} → 0 < w.left → ((below : List Activation) → shows below ≡ h → (t : State) × Rule p natives (at w (from ++ below)) t × IsWell p (at w (from ++ below)) t × (¬ Spares (at w (from ++ below)) t)) → StopsIn p natives d h w from w InUse
stops-fatal {p} {natives} {w = w} {from = from} some next = record {
  stops = λ below e.
      let q = next below e in
      let is : GoesFatal p (at w (from ++ below)) (λ t. Rule p natives (at w (from ++ below)) t) = record { t = q.0; follows = q.1; well = q.2; fatal = q.3 } in
      (from ++ below, done, (some, is));
}

-- the next rule nests too deep
pub stops-deep : {p : Loaded} {natives : NativeAnswers} {d : ℕ} {h : List (Option ℕ)} {w : World} {from : List Activation} → 0 < w.left → ((below : List Activation) → shows below ≡ h → (t : State) × Rule p natives (at w (from ++ below)) t × IsWell p (at w (from ++ below)) t × Spares (at w (from ++ below)) t × Agree p t.objects t.bindings × (¬ WritesIll p (at w (from ++ below))) × (d < length t.stack)) → StopsIn p natives d h w from w TooDeep
stops-deep {p} {natives} {d} {w = w} {from = from} some next = record {
  stops = λ below e.
      let q = next below e in
      let is : GoesDeep p d (at w (from ++ below)) (λ t. Rule p natives (at w (from ++ below)) t) = record { t = q.0; follows = q.1; well = q.2; spared = q.3; acyclic = q.4.acyclic; fits = q.5; deep = q.6 } in
      (from ++ below, done, (some, inr is));
}

-- .. the next statement writes, and what that notifies would
pub stops-deep-write : {p : Loaded} {natives : NativeAnswers} {d : ℕ} {h : List (Option ℕ)} {w : World} {from : List Activation} → 0 < w.left → ((below : List Activation) → shows below ≡ h → WritesDeep p d (at w (from ++ below))) → StopsIn p natives d h w from w TooDeep
stops-deep-write {w = w} {from = from} some deep = record { stops = λ below e. (from ++ below, done, (some, inl (deep below e))) }

-- ---- what is left behind a `?`

-- nothing is said of a call that failed
pub ok-err : (P : Type 0) {p : Loaded} {natives : NativeAnswers} {d : ℕ} {h : List (Option ℕ)} {w v : World} {a : List Activation} {f : Fault} (r : Result (Unit {0}) Fault) → StopsIn p natives d h w a v f → IsErrAnd r (λ y. y ≡ f) → OnOk r P
ok-err P (Ok _) x is = absurd is
ok-err P (Err y) x is = tt

pub ok-map : (P Q : Type 0) (r : Result (Unit {0}) Fault) → OnOk r P → (P → Q) → OnOk r Q
ok-map P Q (Ok _) p f = f p
ok-map P Q (Err _) p f = tt

-- what a call that failed leaves
pub ends-left : {p : Loaded} {natives : NativeAnswers} {d : ℕ} {h : List (Option ℕ)} {w v : World} {a b : List Activation} {f : Fault} (r : Result (Unit {0}) Fault) → StopsIn p natives d h w a v f → IsErrAnd r (λ y. y ≡ f) → RunsTo p natives d h w a v b r
ends-left (Ok _) x is = absurd is
ends-left {p} {natives} {d} {h} {w} {v} {a} (Err y) x is = record { cases = subst (λ (q : Fault). StopsIn p natives d h w a v q) (sym is) x }

-- a fault that is known to be another one
pub stops-as : {p : Loaded} {natives : NativeAnswers} {d : ℕ} {h : List (Option ℕ)} {w v : World} {a : List Activation} {f g : Fault} → f ≡ g → StopsIn p natives d h w a v g → StopsIn p natives d h w a v f
stops-as {p} {natives} {d} {h} {w} {v} {a} is x = let Named : Fault → Type 0 = λ q. StopsIn p natives d h w a v q in subst Named (sym is) x

-- no rule was left
pub ends-undue : {p : Loaded} {natives : NativeAnswers} {d : ℕ} {h : List (Option ℕ)} {w : World} {a : Activation} {b : List Activation} {f : Fault} (r : Result (Unit {0}) Fault) → (w.left ≡ 0) × (f ≡ Steps) → IsErrAnd r (λ y. y ≡ f) → RunsTo p natives d h w (a ∷ []) w b r
ends-undue r none is = ends-left r (stops-as none.1 (stops-steps none.0)) is

-- memory was refused
pub ends-short : {p : Loaded} {natives : NativeAnswers} {d : ℕ} {h : List (Option ℕ)} {w : World} {from to : List Activation} (r : Result (Unit {0}) Fault) → ((below : List Activation) → ¬ IsIdle (at w (from ++ below))) → 0 < w.left → IsErrAnd r (λ y. y ≡ Memory) → RunsTo p natives d h w from w to r
ends-short r goes_on some is = ends-left r (stops-memory goes_on some) is

-- .. to a function that then changed nothing
pub ends-unchanged : {p : Loaded} {natives : NativeAnswers} {d : ℕ} {h : List (Option ℕ)} {w v : World} {from to : List Activation} {f : Fault} (r : Result (Unit {0}) Fault) → ((below : List Activation) → ¬ IsIdle (at w (from ++ below))) → 0 < w.left → (f ≡ Memory) × (v ≡ w) → IsErrAnd r (λ y. y ≡ f) → RunsTo p natives d h w from v to r
ends-unchanged {p} {natives} {d} {h} {w} {v} {from} {to} {f} r goes_on some same is =
    let Family : World → Type 0 = λ u. StopsIn p natives d h w from u f in
    ends-left r (subst Family (sym same.1) (stops-as same.0 (stops-memory goes_on some))) is

-- an expression had no value, or memory was refused
pub stops-faulted : {p : Loaded} {natives : NativeAnswers} {d : ℕ} {h : List (Option ℕ)} {w : World} {a : Activation} {f : Fault} (e : EvalFault) → 0 < w.left → (e ≡ eval.BadType → StopsIn p natives d h w (a ∷ []) w BadType) → IsFaultOf e f → StopsIn p natives d h w (a ∷ []) w f
stops-faulted eval.BadType some ill is = stops-as is (ill refl)
stops-faulted {w = w} {a = a} eval.Memory some ill is = stops-as is (stops-memory (not-idle w a) some)

pub ends-faulted : {p : Loaded} {natives : NativeAnswers} {d : ℕ} {h : List (Option ℕ)} {w : World} {a : Activation} {b : List Activation} {e : EvalFault} (r : Result (Unit {0}) Fault) → 0 < w.left → (e ≡ eval.BadType → StopsIn p natives d h w (a ∷ []) w BadType) → IsErrAnd r (λ y. IsFaultOf e y) → RunsTo p natives d h w (a ∷ []) w b r
ends-faulted (Ok _) some ill is = absurd is
ends-faulted {e = e} (Err f) some ill is = record { cases = stops-faulted e some ill is }

-- ---- calls that carry out one rule

-- .. which writes nothing down
pub reaches-ticked : {p : Loaded} {natives : NativeAnswers} {d : ℕ} {h : List (Option ℕ)} {w v : World} {a : Activation} {b : List Activation} → ((below : List Activation) → shows below ≡ h → Rule p natives (at w (a ∷ below)) (at w (b ++ below))) → length b ≤ 1 → length h < d → AgreeIn p w → Ticks w v (Ok tt) → Reaches p natives d h w (a ∷ []) v b
reaches-ticked {p} {natives} {d} {h} {w} {v} {a} {b} step low room agree x =
    let Family : World → Type 0 = λ u. Reaches p natives d h w (a ∷ []) u b in
    subst Family (sym x.1) (reaches-low step (λ o gone. gone) low (omega (arith, low, room)) agree refl x.0)

pub stops-ticked : {p : Loaded} {natives : NativeAnswers} {d : ℕ} {h : List (Option ℕ)} {w v : World} {a : Activation} {f : Fault} → Ticks w v (Err f) → StopsIn p natives d h w (a ∷ []) v f
stops-ticked {p} {natives} {d} {h} {w} {v} {a} {f} x =
    let Family : World → Type 0 = λ u. StopsIn p natives d h w (a ∷ []) u f in
    subst Family (sym x.2) (stops-as x.1 (stops-steps x.0))

pub ends-ticked : {p : Loaded} {natives : NativeAnswers} {d : ℕ} {h : List (Option ℕ)} {w v : World} {a : Activation} {b : List Activation} (r : Result (Unit {0}) Fault) → ((below : List Activation) → shows below ≡ h → Rule p natives (at w (a ∷ below)) (at w (b ++ below))) → length b ≤ 1 → length h < d → AgreeIn p w → Ticks w v r → RunsTo p natives d h w (a ∷ []) v b r
ends-ticked (Ok _) step low room agree x = record { cases = reaches-ticked step low room agree x }
ends-ticked (Err f) step low room agree x = record { cases = stops-ticked x }

-- .. which writes an entry down, and leaves the stack as high as it was
pub ends-noted : {p : Loaded} {natives : NativeAnswers} {d : ℕ} {h : List (Option ℕ)} {w v : World} {a b : Activation} (target : World) (r : Result (Unit {0}) Fault) → ((below : List Activation) → shows below ≡ h → Rule p natives (at w (a ∷ below)) (at target (b ∷ below))) → NoneDied w.store.tree target.store.tree → length h < d → AgreeIn p target → target.left ≡ w.left - 1 → 0 < w.left → GoesTo w target v r → RunsTo p natives d h w (a ∷ []) v (b ∷ []) r
ends-noted {p} {natives} {d} {h} {w} {v} {a} {b} target (Ok _) step none room agree less some x =
    let Family : World → Type 0 = λ u. Reaches p natives d h w (a ∷ []) u (b ∷ []) in
    record { cases = subst Family (sym x) (reaches-low {b = b ∷ []} step none (omega arith) (omega (arith, room)) agree less some) }
ends-noted {p} {natives} {d} {h} {w} {v} {a} {b} target (Err f) step none room agree less some x =
    let Family : World → Type 0 = λ u. StopsIn p natives d h w (a ∷ []) u f in
    record { cases = subst Family (sym x.1) (stops-as x.0 (stops-memory (not-idle w a) some)) }

-- what runs over more activations
pub ends-lifted : {p : Loaded} {natives : NativeAnswers} {d : ℕ} {h active : List (Option ℕ)} {w v : World} {top : Activation} {to : List Activation} {r : Result (Unit {0}) Fault} → active ≡ shows to ++ h → RunsTo p natives d active w (top ∷ []) v [] r → RunsTo p natives d h w (top ∷ to) v to r
ends-lifted {to = to} {r = Ok _} over x = record { cases = record { runs = λ below e. x.cases.runs (to ++ below) (shows-over to below over e) } }
ends-lifted {to = to} {r = Err f} over x = record { cases = record { stops = λ below e. x.cases.stops (to ++ below) (shows-over to below over e) } }
