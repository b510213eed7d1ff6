-- What a rule or an event pushes has the arguments that its method declares.
use Rattle.std.{proofs.Common.{◌≡◌, ℕ, suc, ◌<◌, ◌≤◌, Bool, true, false, List, [], ◌∷◌, map, take, length, Ok, Err, Result, Option, Some, None, refl, sym, ap, subst, arith, inl, inr}, specs.List.{AllByRecursion, find}}
use Rattle.basic_types.specs.{declared.value.Value.{Value}, Values.{null_has}}
use Rattle.script_lang.specs.{declared.event.Event.{Event}, declared.event.Event.TheVariants.{Loop, Turn as TurnEvent, New, Adopt, Move, Connect as ConnectEvent, Disconnect as DisconnectEvent, Set, Bind, Emit as EmitEvent, Call as CallEvent, Block, Unblock, Delete as DeleteEvent, Later as LaterEvent}, declared.event.Input.{Input}}
use Rattle.syntax_trees.specs.{declared.connection.ConnectionType.{ConnectionType}, declared.connection.Endpoints.{Endpoints as Named}}
use Rattle.meta_model.specs.{declared.object.MetaMethod.{MetaMethod}, declared.object.Statement.{Statement}, declared.object.Work.{Work}, declared.object.Work.TheVariants.{Signal, Slot, Native}, Loaded.{Loaded}, Sound.{IsSound}}
use Rattle.connections.specs.declared.connection.Connection.{Connection}
use Rattle.event_loops.specs.{declared.item.Item.{Item}, declared.item.Item.TheVariants.{Call, Deletion}, declared.item.Posted.{Posted}, Queues.{Queues, items_at, is_before, taken_before}}
use Rattle.native_slots.specs.Promises.{Takes, Promises}
use Rattle.object_tree.specs.{declared.life.Life.{Life}, declared.object.Object.{Object}, Objects.{class_of, life_of}, Typed.{ReadAs}}
use Rattle.binding_graph.specs.declared.place.Place.{Place}
use Rattle.prop_bindings.specs.Fits.{Agree}
use Rattle.effect_scan.specs.declared.node.Node.{Node}
use Rattle.type_check.specs.Typed.{IsTypedProgram}
use Rattle.machine_state.specs.{declared.endpoints.Endpoints.{Endpoints}, declared.turn.Turn.{Turn}, Accepting.{accepted}, Connections.{is_living, next_used}, State.{Step, Run, Act, State, IsIdle, Activation, Body, Emit, Update, Destroy}, Turns.{running, reaches_at_once}}
use Rattle.trace_entries.specs.{declared.refusal.Refusal.{Refusal}, declared.fault.Answer.{Answer}}
use Rattle.machine_rules.{specs.Connecting.{kept_ends, names_of}, specs.Destroying.{Dies, NextRule, ChildRule, DestroyRule, living_child, Schedules}, specs.Operations.{Operation, Write, Begin, Choose, Connect, Disconnect, Delete, Schedule, TakeAnswer, Nothing, operation_of_step}, specs.Good.{ArgumentsFit, of_living, of_dead, TopFits}, specs.Judgement.{found as finds, holds as so, becomes, goes_on}, specs.Natives.{NativeAnswers}, specs.Rules.{Rule, RuleAt, BodyRule, Does, EmitRule, UpdateRule, NotifiesIf, TurnRule, Serves, Delivers, Arrives, Begins, BeginsIf, begun, with_used, linked, unlinked}, specs.code.Sound.{Waits, SendsThese, MayBeHeard}, specs.There.{IsMember}, specs.Writing.{Announces}, proofs.Doing.{step-of}, proofs.Delivered.{fit-of, next-delivered, delivered-fits}, proofs.Declared.{living-fits}, proofs.Dying.{died-dead}, proofs.Fields.{member-at, method-unique}, proofs.Lists.{all-append}, proofs.Notifying.{announced-fits}, proofs.Soundness.{AllFit}, proofs.Waiting.{first-waits}, proofs.Scheduling.{schedule-cases}, proofs.Hearing.{AllHeard, nobody, may-be-heard}}
use Rattle.object_machine.{specs.declared.invoking.Invocation.{Invocation}, specs.declared.invoking.Invocation.TheVariants.{Emit as EmitIt, Call as CallIt}, specs.Takes.{Takes as Taking, accepts, refuses}, specs.Events.{judged, block, invoke}, proofs.Standing.{Invariant}, proofs.CheckedRuns.Invariant.{BodyStands, TopStands}, proofs.CheckedRuns.Promised.{StepIsPromised, AllIsPromised}, proofs.CheckedRuns.Giving.{does-give, answer-promised}, proofs.Judged.{given-is}, proofs.Judging.Naming.{living-is, living-object}, proofs.CheckedRuns.Leading.{does-led}}

-- What was pushed over so many activations has its arguments, and what is left of natives' answers keeps to their effects.
pub record Pushes (p : Loaded) (classes : ℕ → Option ℕ) (high : ℕ) (t : State) : Type 0 where
  pub arguments : high < length t.stack → TopFits p t.objects t.stack
  pub promised : AllIsPromised p classes t.stack

runs-promised : (p : Loaded) (classes : ℕ → Option ℕ) (o : ℕ) (statements : List Statement) → AllByRecursion (StepIsPromised p classes o) (map Run statements)
runs-promised p classes o [] = tt
runs-promised p classes o (s ∷ statements) = (tt, runs-promised p classes o statements)

module _ {p : Loaded} {classes : ℕ → Option ℕ} where
  -- a state that is this one
  pushes-as : {n : ℕ} {t u : State} → t ≡ u → Pushes p classes n u → Pushes p classes n t
  pushes-as {n} e all = let Family : State → Type 0 = λ v. Pushes p classes n v in subst Family (sym e) all

  -- nothing is pushed
  pushes-none : {n : ℕ} {t : State} → length t.stack ≤ n → AllIsPromised p classes t.stack → Pushes p classes n t
  pushes-none low all = record { arguments = λ high. absurd (omega (arith, low, high)); promised = all }

  -- a method begins
  pushes-begun : {n : ℕ} {t : State} (u : State) (below : List Activation) (o : ℕ) (x : Object) (m : ℕ) (method : MetaMethod) (arguments : List Value) (work : Work) → ArgumentsFit p u.objects o m arguments → AllIsPromised p classes below → t ≡ begun u below o x m method arguments work → Pushes p classes n t
  pushes-begun u below o x m method arguments Signal fit all e = pushes-as e (record { arguments = λ high. of_living fit; promised = (tt, all) })
  pushes-begun u below o x m method arguments (Slot statements) fit all e = pushes-as e (record { arguments = λ high. fit; promised = (runs-promised p classes o statements, all) })
  pushes-begun u below o x m method arguments (Native effects) fit all e = pushes-as e (record { arguments = λ high. fit; promised = ((tt, tt), all) })

  pushes-begins : {n : ℕ} {t : State} {u : State} {below : List Activation} {o m : ℕ} {arguments : List Value} → (b : Begins p u below o m arguments t) → ArgumentsFit p u.objects o m arguments → AllIsPromised p classes below → Pushes p classes n t
  pushes-begins {u = u} {below = below} {o = o} {m = m} {arguments = arguments} b fit all = pushes-begun u below o b.object m b.method arguments (b.method).work fit all b.gives

  -- an object dies
  pushes-dies : {n x : ℕ} {s t : State} {stack : List Activation} → Dies s stack x t → AllIsPromised p classes stack → Pushes p classes n t
  pushes-dies {x = x} {s = s} d all = pushes-as d.gives (record { arguments = λ high. of_dead (died-dead s.objects x d.named) refl (null_has, tt); promised = (tt, all) })

  pushes-destroy : {n : ℕ} (s t : State) (below : List Activation) (next : Option ℕ) (torn : List ℕ) → n ≡ suc (length below) → AllIsPromised p classes below → DestroyRule s below t next torn → Pushes p classes n t
  pushes-destroy {n} s t below (Some x) torn high all rule = by_life (is_living s.objects x) rule
    where
      by_life : (b : Bool) → NextRule s below t x torn b → Pushes p classes n t
      by_life true d = pushes-dies d (tt, all)
      by_life false e = pushes-as e (pushes-none (omega (arith, high)) (tt, all))
  pushes-destroy s t below None [] high all rule = pushes-as rule (pushes-none (omega (arith, high)) all)
  pushes-destroy {n} s t below None (parent ∷ torn) high all rule = by_child (living_child s parent) rule
    where
      by_child : (found : Option ℕ) → ChildRule s below t parent torn found → Pushes p classes n t
      by_child (Some x) d = pushes-dies d (tt, all)
      by_child None e = pushes-as e (pushes-none (omega (arith, high)) (tt, all))

  -- an object is scheduled
  pushes-schedules : {n : ℕ} (s t : State) (stack : List Activation) (x : ℕ) (life : Option Life) → length stack ≤ n → AllIsPromised p classes stack → Schedules s stack x t life → Pushes p classes n t
  pushes-schedules s t stack x life low all rule = elim (schedule-cases life rule) [
    | inl e ↦ pushes-as e (pushes-none low all)
    | inr d ↦ pushes-as d.gives (pushes-none low all)
  ]

  -- connections are made and removed
  pushes-linked : {n : ℕ} (s : State) (stack : List Activation) (ends : Endpoints) (how : ConnectionType) (names : Named (List ℕ)) (answer : Result (Unit {0}) Refusal) → length stack ≤ n → AllIsPromised p classes stack → Pushes p classes n (linked s stack ends how names answer)
  pushes-linked s stack ends how names (Ok _) low all = pushes-none low all
  pushes-linked s stack ends how names (Err k) low all = pushes-none low all

  pushes-unlinked : {n : ℕ} (s : State) (stack : List Activation) (ends : Endpoints) (names : Named (List ℕ)) (answer : Result (Unit {0}) Refusal) → length stack ≤ n → AllIsPromised p classes stack → Pushes p classes n (unlinked s stack ends names answer)
  pushes-unlinked s stack ends names (Ok _) low all = pushes-none low all
  pushes-unlinked s stack ends names (Err k) low all = pushes-none low all

-- ---- rules

module _ {p : Loaded} (program : IsTypedProgram p) (sound : IsSound p) (classes : ℕ → Option ℕ) (takes : Takes) (natives : NativeAnswers) (promises : Promises p takes natives) (s : State) (known : (o class : ℕ) → class_of s.objects o ≡ Some class → classes o ≡ Some class) (up : Invariant p s) where
  agree : Agree p s.objects s.bindings
  agree = (up.sound).agree

  -- ---- bodies

  pushes-does : (t : State) (n o m : ℕ) (arguments : List Value) (y : Step) (rest : List Step) (below : List Activation) {x : Node} (b : BodyStands p s.objects o m arguments (y ∷ rest) x) → n ≡ suc (length below) → StepIsPromised p classes o y → AllByRecursion (StepIsPromised p classes o) rest → AllIsPromised p classes below → (d : Operation) → operation_of_step s.objects o arguments y ≡ Some d → Does p natives s o m arguments rest below d t → Pushes p classes n t
  pushes-does t n o m arguments y rest below b high one left all (Write what) is does = pushes-as (does.settles).gives (record { arguments = λ more. tt; promised = (tt, (left, all)) })
  pushes-does t n o m arguments y rest below b high one left all (Begin x k given) is does =
      let gives = does-give program sound classes known agree.typed b y (Begin x k given) (b.steps).0 one is in
      pushes-begins does (fit-of does.is (gives does.object does.method does.is)) (left, all)
  pushes-does t n o m arguments y rest below b high one left all (Choose block) is does =
      pushes-as does (pushes-none (omega (arith, high)) (all-append (StepIsPromised p classes o) (map Run block) rest (runs-promised p classes o block) left, all))
  pushes-does t n o m arguments y rest below b high one left all (Connect ends how) is does =
      pushes-as does.gives (pushes-linked s (Body o m arguments rest ∷ below) (kept_ends ends) how (names_of does.kept) does.answer (omega (arith, high)) (left, all))
  pushes-does t n o m arguments y rest below b high one left all (Disconnect ends) is does =
      pushes-as does.gives (pushes-unlinked s (Body o m arguments rest ∷ below) (kept_ends ends) (names_of does.kept) does.answer (omega (arith, high)) (left, all))
  pushes-does t n o m arguments y rest below b high one left all (Delete x) is does = pushes-as does (record { arguments = λ more. tt; promised = (tt, (left, all)) })
  pushes-does t n o m arguments y rest below b high one left all (Schedule x) is does =
      pushes-schedules s t (Body o m arguments rest ∷ below) x (life_of s.objects x) (omega (arith, high)) (left, all) does
  pushes-does t n o m arguments y rest below b high one left all (TakeAnswer effects) is does =
      let native = does-led program sound agree.typed b y (TakeAnswer effects) (b.steps).0 is in
      pushes-as does.gives (pushes-none (omega (arith, high)) (all-append (StepIsPromised p classes o) (map (Act effects) does.actions) rest (answer-promised takes natives sound promises classes known agree.typed b native does) left, all))
  pushes-does t n o m arguments y rest below b high one left all Nothing is does = pushes-as does (pushes-none (omega (arith, high)) (left, all))

  pushes-body : (t : State) (n o m : ℕ) (arguments : List Value) (left : List Step) (below : List Activation) {x : Node} (b : BodyStands p s.objects o m arguments left x) → n ≡ suc (length below) → AllByRecursion (StepIsPromised p classes o) left → AllIsPromised p classes below → BodyRule p natives s o m arguments below t left → Pushes p classes n t
  pushes-body t n o m arguments [] below b high left all e = pushes-as e (pushes-none (omega (arith, high)) all)
  pushes-body t n o m arguments (y ∷ rest) below b high left all rule =
      let r = step-of p natives s o m arguments y rest below t rule in
      pushes-does t n o m arguments y rest below b high left.0 left.1 all r.what r.is r.does

  -- ---- emissions

  pushes-emission : (t : State) (n o g : ℕ) (arguments : List Value) (used last : ℕ) (below : List Activation) → n ≡ suc (length below) → SendsThese p s.objects o g arguments → MayBeHeard s.objects s.connected.connections o g → AllIsPromised p classes below →
      (found : Option Connection) → next_used s.objects s.connected.connections o g used last ≡ found → EmitRule p s o g arguments last below t found → Pushes p classes n t
  pushes-emission t n o g arguments used last below high sends may all None is e = pushes-as e (pushes-none (omega (arith, high)) all)
  pushes-emission t n o g arguments used last below high sends may all (Some c) is u =
      by_way (reaches_at_once c.kind u.home (running s.turn)) u.arrives
    where
      given : List Value
      given = take (length (u.method).types) arguments

      fit : ArgumentsFit p s.objects c.receiver c.method given
      fit = delivered-fits (next-delivered s.connected.connections o g used last c (up.sound).joined sends may is) u.is refl refl

      by_way : (b : Bool) → Arrives (with_used s c) (Emit o g arguments c.number last ∷ below) u.home c.receiver u.receiver c.method u.method given t b → Pushes p classes n t
      by_way true e = pushes-begun (with_used s c) (Emit o g arguments c.number last ∷ below) c.receiver u.receiver c.method u.method given (u.method).work fit (tt, all) e
      by_way false x = pushes-as x.gives (pushes-none (omega (arith, high)) (tt, all))

  -- ---- updates

  pushes-update : (t : State) (n : ℕ) (places : List Place) (below : List Activation) → n ≡ suc (length below) → AllIsPromised p classes below → UpdateRule p s below t places → Pushes p classes n t
  pushes-update t n [] below high all e = pushes-as e (pushes-none (omega (arith, high)) all)
  pushes-update t n (place ∷ places) below high all rule = by_life (life_of s.objects place.object) rule
    where
      by_life : (life : Option Life) → NotifiesIf p s (Update places ∷ below) place t life → Pushes p classes n t
      by_life None e = pushes-as e (pushes-none (omega (arith, high)) (tt, all))
      by_life (Some l) x =
          let life = (x.is).life in
          let class = (x.is).class in
          let announces : Announces p s.objects place x.signal = record {
            object = x.object;
            life = life;
            lives = (x.is).lives;
            notifies = record {
              object = class;
              is_class = (x.is).is_class;
              property = x.property;
              is = (x.is).is_property;
              is_signal = x.is_signal;
              sound = ((sound.classes life.class class (x.is).is_class).properties place.property x.property (x.is).is_property).notifies x.signal x.is_signal;
            };
          } in
          let member : IsMember p s.objects place.object x.signal x.object x.method = record { life = life; lives = (x.is).lives; is_method = x.is_method } in
          pushes-begun s (Update places ∷ below) place.object x.object x.signal x.method (take (length (x.method).types) (x.present ∷ [])) Signal (announced-fits announces agree.typed member x.is_present refl refl) (tt, all) x.gives

  -- ---- turns

  pushes-delivers : (t : State) (queues : Queues) (item : Item) → AllIsPromised p classes s.stack → s.stack ≡ [] → Waits p s.objects item → Delivers p (record s { queues = queues }) t item → Pushes p classes (length s.stack) t
  pushes-delivers t queues (Call o m arguments) all empty waits rule = by_life (life_of s.objects o) rule
    where
      by_life : (life : Option Life) → BeginsIf p (record s { queues = queues }) o m arguments t life → Pushes p classes (length s.stack) t
      by_life None e = pushes-as e (pushes-none (omega arith) all)
      by_life (Some l) b = pushes-begins b (living-fits (b.is).lives waits) tt
  pushes-delivers t queues (Deletion o) all empty waits rule = pushes-as rule (record { arguments = λ more. tt; promised = (tt, tt) })

  pushes-turn : (t : State) → AllIsPromised p classes s.stack → s.stack ≡ [] → (turn : Option Turn) → TurnRule p s t turn → Pushes p classes (length s.stack) t
  pushes-turn t all empty None rule = absurd rule
  pushes-turn t all empty (Some turn) rule = by_first (find (is_before turn.limit) (items_at s.queues.loops turn.home)) refl rule
    where
      by_first : (found : Option Posted) → find (is_before turn.limit) (items_at s.queues.loops turn.home) ≡ found → Serves p s t turn found → Pushes p classes (length s.stack) t
      by_first None is e = pushes-as e (pushes-none (omega arith) all)
      by_first (Some q) is d = pushes-delivers t (taken_before turn.home turn.limit s.queues) q.item all empty (first-waits p s.objects s.queues.loops turn.home turn.limit q (up.sound).waiting is) d

  -- ---- all rules

  pushes-at : (t : State) (stack : List Activation) → s.stack ≡ stack → AllIsPromised p classes stack → TopStands p s.objects stack → RuleAt p natives s t stack → Pushes p classes (length s.stack) t
  pushes-at t [] is all top rule = pushes-turn t (subst (AllIsPromised p classes) (sym is) tt) is s.turn rule
  pushes-at t (Body o m arguments left ∷ below) is all top rule = pushes-body t (length s.stack) o m arguments left below top.1 (ap (λ (l : List Activation). length l) is) all.0 all.1 rule
  pushes-at t (Emit o g arguments used last ∷ below) is all top rule =
      pushes-emission t (length s.stack) o g arguments used last below (ap (λ (l : List Activation). length l) is) (emitted-on-top is) (heard-on-top is) all.1 (next_used s.objects s.connected.connections o g used last) refl rule
    where
      emitted-on-top : s.stack ≡ Emit o g arguments used last ∷ below → SendsThese p s.objects o g arguments
      emitted-on-top e = (subst (λ (l : List Activation). AllFit p s.objects l) e up.emitted).0

      heard-on-top : s.stack ≡ Emit o g arguments used last ∷ below → MayBeHeard s.objects s.connected.connections o g
      heard-on-top e = may-be-heard s.objects s.connected.connections o g (subst (λ (l : List Activation). AllHeard s.objects s.connected.connections nobody l) e up.heard).0
  pushes-at t (Update places ∷ below) is all top rule = pushes-update t (length s.stack) places below (ap (λ (l : List Activation). length l) is) all.1 rule
  pushes-at t (Destroy next torn ∷ below) is all top rule = pushes-destroy s t below next torn (ap (λ (l : List Activation). length l) is) all.1 rule

  pub rule-pushes : (t : State) → AllIsPromised p classes s.stack → TopStands p s.objects s.stack → Rule p natives s t → Pushes p classes (length s.stack) t
  rule-pushes t all top rule = pushes-at t s.stack refl all top rule

-- ---- events

module _ (p : Loaded) (s : State) (idle : IsIdle s) (classes : ℕ → Option ℕ) where
  none-promised : AllIsPromised p classes s.stack
  none-promised = subst (AllIsPromised p classes) (sym idle.empty) tt

  -- the stack stays as it was
  quiet : {t u : State} → t ≡ u → u.stack ≡ s.stack → Pushes p classes (length s.stack) t
  quiet {t} {u} e same =
      pushes-as e (pushes-none (omega (arith, ap (λ (l : List Activation). length l) same)) (subst (AllIsPromised p classes) (sym same) none-promised))

  pushes-invoked : (t : State) (a : Invocation) (name called : List ℕ) (inputs : List Input) → invoke p s a name called inputs (Ok t) → Pushes p classes (length s.stack) t
  pushes-invoked t a name called inputs (goes_on o lives (goes_on m (finds asked) (goes_on vs given (goes_on _ (so fit) (becomes b))))) =
      let it = living-object o (living-is lives) in
      let same : (m.it) ≡ b.method = method-unique asked.is (member-at it.1 b.is) in
      pushes-begins b (fit-of b.is (subst (λ (k : MetaMethod). ReadAs p s.objects vs k.types) same fit)) none-promised

  pushes-judged : (t : State) (e : Event) → judged p s e (Ok t) → Pushes p classes (length s.stack) t
  pushes-judged t (Loop name) (goes_on _ free given) = quiet (given-is given) refl
  pushes-judged t (TurnEvent name) (goes_on home is given) = quiet (given-is given) refl
  pushes-judged t (New name class loop) (goes_on _ free (goes_on c is (goes_on home lives (goes_on _ room given)))) = quiet (given-is given) refl
  pushes-judged t (Adopt parent child) (goes_on a is_parent (goes_on c is_child (goes_on _ owns (goes_on _ over (goes_on _ home (goes_on objects (becomes x) given)))))) = quiet (given-is given) refl
  pushes-judged t (Move name loop) (goes_on o lives (goes_on home is (goes_on _ root (goes_on _ alone (goes_on store (becomes x) given))))) = quiet (given-is given) refl
  pushes-judged t (ConnectEvent e how) (goes_on f both (goes_on _ may given)) = quiet (given-is given) refl
  pushes-judged t (DisconnectEvent e) (goes_on f both (goes_on _ is given)) = quiet (given-is given) refl
  pushes-judged t (Set name property i) (goes_on o lives (goes_on q _ (goes_on v _ (goes_on _ fits (becomes w))))) = pushes-as (w.settles).gives (record { arguments = λ more. tt; promised = (tt, none-promised) })
  pushes-judged t (Bind site target sources) (goes_on b may (becomes x)) = pushes-as (x.settles).gives (record { arguments = λ more. tt; promised = (tt, none-promised) })
  pushes-judged t (EmitEvent name signal inputs) x = pushes-invoked t EmitIt name signal inputs x
  pushes-judged t (CallEvent name slot inputs) x = pushes-invoked t CallIt name slot inputs x
  pushes-judged t (Block name) (goes_on o lives given) = quiet (given-is given) refl
  pushes-judged t (Unblock name) (goes_on o lives given) = quiet (given-is given) refl
  pushes-judged t (DeleteEvent name) (goes_on o lives given) = pushes-as (given-is given) (record { arguments = λ more. tt; promised = (tt, none-promised) })
  pushes-judged t (LaterEvent name) (goes_on o lives (becomes x)) = pushes-schedules (accepted s) t s.stack o.number (Some o.it) (omega arith) none-promised x

pub takes-pushes : {p : Loaded} (s t : State) (e : Event) {a : Answer} (classes : ℕ → Option ℕ) → Taking p e a s t → Pushes p classes (length s.stack) t
takes-pushes {p} s t e classes (accepts idle x) = pushes-judged p s idle classes t e x
takes-pushes {p} s t e classes (refuses k idle x) = pushes-none (omega arith) (none-promised p s idle classes)
