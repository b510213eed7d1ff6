-- What events and rules count, and what runs keep.
use Rattle.std.proofs.Common.{◌≡◌, ℕ, ◌+◌, ◌≤◌, List, [], Bool, true, false, Some, Ok, refl, sym, ap, subst, arith}
use Rattle.script_lang.specs.{declared.event.Event.{Event}, declared.event.Event.TheVariants.{Loop, Turn, New, Adopt, Move, Connect, Disconnect, Set, Bind, Emit, Call, Block, Unblock, Delete, Later}, declared.event.Input.{Input}}
use Rattle.meta_model.specs.{Loaded.{Loaded}, Sound.{IsSound}}
use Rattle.prop_bindings.{specs.Fits.{Agree}, proofs.Agreeing.{unbound_agree}}
use Rattle.trace_entries.specs.declared.fault.Answer.{Answer}
use Rattle.machine_state.specs.{declared.world.World.{World}, Accepting.{accepted}, State.{State}, Worlds.{at, with_store}}
use Rattle.delete_later.specs.declared.store.Store.{Store}
use Rattle.machine_rules.{specs.Natives.{NativeAnswers}, specs.code.Sound.{IsSoundWorld}, specs.code.Keeps.{Grows, Keeps}, proofs.Keeps.{grows-by, grows-same, grows-then, begins-kept, writes-kept, installs-kept, schedules-kept, rule-kept}, specs.Good.{IsGood}, proofs.Agreeing.{rule-agrees}, specs.Judgement.{becomes, gives, goes_on}}
use Rattle.object_machine.{specs.declared.invoking.Invocation.{Invocation}, specs.declared.invoking.Invocation.TheVariants.{Emit as EmitIt, Call as CallIt}, proofs.Judged.{given-is}, proofs.Moving.{moved-by}, specs.Laws.{AlwaysSettled}, specs.Runs.{Run, done, goes, takes, Each}, specs.Takes.{Takes, accepts, refuses}, specs.Events.{judged, block, invoke}, proofs.Settling.{takes-agree}, proofs.Standing.{Invariant}}

-- ---- counts

-- an event is counted, makes at most one connection, and leaves what was written down
record Counts (s t : State) : Type 0 where
  pub events : t.events ≡ s.events + 1
  pub connected : t.connected.last ≤ s.connected.last + 1
  pub posted : t.queues.posted ≤ s.queues.posted + 1
  pub grows : Grows s.trace t.trace

-- it begins with this, after its line
counts-kept : {p : Loaded} {s t : State} → Keeps p (accepted s) 1 t 0 → Counts s t
counts-kept kept = record { events = kept.events; connected = omega (arith, kept.paid); posted = omega (arith, kept.posted); grows = grows-then (grows-by _) kept.grows }

counts-invoked : (p : Loaded) {s t : State} (a : Invocation) (name called : List ℕ) (inputs : List Input) → invoke p s a name called inputs (Ok t) → Counts s t
counts-invoked p a name called inputs (goes_on _ o (goes_on _ m (goes_on _ vs (goes_on _ fit (becomes begins))))) = counts-kept (begins-kept begins)

counts-blocked : {s t : State} (name : List ℕ) (on : Bool) → block s name on (Ok t) → Counts s t
counts-blocked name on (goes_on _ lives gives) = record { events = refl; connected = omega arith; posted = omega arith; grows = grows-by _ }

counts-judged : (p : Loaded) {s t : State} (e : Event) → judged p s e (Ok t) → Counts s t
counts-judged p (Loop name) (goes_on _ free gives) = record { events = refl; connected = omega arith; posted = omega arith; grows = grows-by _ }
counts-judged p (Turn name) (goes_on _ is gives) = record { events = refl; connected = omega arith; posted = omega arith; grows = grows-by _ }
counts-judged p (New name class loop) (goes_on _ free (goes_on _ is (goes_on _ lives (goes_on _ room gives)))) = record { events = refl; connected = omega arith; posted = omega arith; grows = grows-by _ }
counts-judged p (Adopt parent child) (goes_on _ a (goes_on _ c (goes_on _ owns (goes_on _ over (goes_on _ home (goes_on objects (becomes x) given)))))) =
    let events = ap (λ (u : State). u.events) (given-is given) in
    let connected = ap (λ (u : State). u.connected.last) (given-is given) in
    let posted = ap (λ (u : State). u.queues.posted) (given-is given) in
    record { events = events; connected = omega (arith, connected); posted = omega (arith, posted); grows = record { more = _; is = ap (λ (u : State). u.trace) (given-is given) } }
counts-judged p {s = s} (Move name loop) (goes_on o lives (goes_on home is (goes_on _ root (goes_on _ alone (goes_on store (becomes x) given))))) =
    let Family : State → Type 0 = λ u. Counts s u in
    let same : Counts s (accepted s) = record { events = refl; connected = omega arith; posted = omega arith; grows = grows-by _ } in
    subst Family (sym (given-is given)) (moved-by (λ (stores : Store). Counts s (with_store (accepted s) stores)) same (λ os alone. record { events = refl; connected = omega arith; posted = omega arith; grows = grows-by _ }) x)
counts-judged p {s = s} (Disconnect e) (goes_on f named (goes_on _ is given)) =
    let Family : State → Type 0 = λ u. Counts s u in
    subst Family (sym (given-is given)) (record { events = refl; connected = omega arith; posted = omega arith; grows = grows-by _ })
counts-judged p {s = s} (Connect e how) (goes_on f named (goes_on _ judged given)) =
    let Family : State → Type 0 = λ u. Counts s u in
    subst Family (sym (given-is given)) (record { events = refl; connected = omega arith; posted = omega arith; grows = grows-by _ })
counts-judged p (Set name property i) (goes_on _ o (goes_on _ q (goes_on _ v (goes_on _ fits (becomes writes))))) = counts-kept (writes-kept writes)
counts-judged p (Bind site target sources) (goes_on _ may (becomes installs)) = counts-kept (installs-kept installs)
counts-judged p (Emit name signal inputs) x = counts-invoked p EmitIt name signal inputs x
counts-judged p (Call name slot inputs) x = counts-invoked p CallIt name slot inputs x
counts-judged p (Block name) x = counts-blocked name true x
counts-judged p (Unblock name) x = counts-blocked name false x
counts-judged p (Delete name) (goes_on _ lives gives) = record { events = refl; connected = omega arith; posted = omega arith; grows = grows-by _ }
counts-judged p {s} {t} (Later name) (goes_on o lives (becomes x)) = counts-kept (schedules-kept p (accepted s) s.stack o.number t (Some o.it) x)

counts-takes : {p : Loaded} {s t : State} {e : Event} {a : Answer} → Takes p e a s t → Counts s t
counts-takes {p = p} {e = e} (accepts idle x) = counts-judged p e x
counts-takes (refuses k idle x) = record { events = refl; connected = omega arith; posted = omega arith; grows = grows-by _ }

-- what a run counts it pays for with rules, and it leaves what was written down
pub record Pays (s : State) (n : ℕ) (t : State) (k : ℕ) : Type 0 where
  pub events : t.events + k ≤ s.events + n
  pub connected : t.connected.last + k ≤ s.connected.last + n
  pub posted : t.queues.posted + k ≤ s.queues.posted + n
  pub grows : Grows s.trace t.trace

pub runs-pay : {p : Loaded} {natives : NativeAnswers} {s t : State} {n k : ℕ} {es : List Event} {xs : List Answer} → Run p natives s n es xs t k → Pays s n t k
runs-pay {s = s} done = record { events = omega arith; connected = omega arith; posted = omega arith; grows = grows-same s.trace }
runs-pay {p} {natives} (goes {s = s} {m = m} x rest) =
    let kept = rule-kept p natives s m s.stack x in
    let more = runs-pay rest in
    record { events = omega (arith, kept.events, more.events); connected = omega (arith, kept.paid, more.connected); posted = omega (arith, kept.posted, more.posted); grows = grows-then kept.grows more.grows }
runs-pay (takes x rest) =
    let one = counts-takes x in
    let more = runs-pay rest in
    record { events = omega (arith, one.events, more.events); connected = omega (arith, one.connected, more.connected); posted = omega (arith, one.posted, more.posted); grows = grows-then one.grows more.grows }

-- ---- what a run keeps

-- where nothing is going on, all that is going on stands
pub invariant-at : {p : Loaded} (w : World) → IsSoundWorld p w → Invariant p (at w [])
invariant-at w sound = record { sound = record { agree = sound.is.agree; joined = sound.is.joined; housed = sound.is.housed; waiting = sound.is.waiting }; stands = tt; emitted = tt; heard = tt }

-- where there is no object and no binding, all agree
pub agree-none : (p : Loaded) → Agree p [] []
agree-none p = unbound_agree p [] (λ o x l is. absurd (cc is.is))

-- ---- values stay settled

-- where objects and bindings agree at the start of a run, they do in every state that it comes to
run-agrees : {p : Loaded} {natives : NativeAnswers} {s t : State} {n k : ℕ} {es : List Event} {xs : List Answer} (d : ℕ) → IsSound p → (r : Run p natives s n es xs t k) → Each (IsGood p d) r → Agree p s.objects s.bindings → Agree p t.objects t.bindings
run-agrees d sound done good agree = agree
run-agrees {natives = natives} d sound (goes {s = s} x rest) good agree = run-agrees d sound rest good.1 (rule-agrees agree good.0.well natives s.stack x)
run-agrees d sound (takes x rest) good agree = run-agrees d sound rest good.1 (takes-agree sound agree x good.0.well good.0.acyclic)

pub always_settled : (natives : NativeAnswers) → AlwaysSettled natives
always_settled natives p depth steps events answers t k sound r =
    let agree = run-agrees depth sound r.run r.good (agree-none p) in
    (agree.settled, agree.acyclic)
