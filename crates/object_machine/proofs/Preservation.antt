-- Why what is going on goes on: its members and statements are there, and the objects whose bodies are active live.
use Rattle.std.{proofs.Common.{◌≡◌, ℕ, suc, ◌+◌, ◌<◌, Bool, List, [], ◌∷◌, ◌++◌, map, length, take, true, false, Option, Some, None, slice_get, refl, sym, ap, IsTrue, inl, length-append, ◌∙◌, subst, Ok, arith, inr, ◌⊎◌}, specs.List.{AllByRecursion, find}, specs.Prelude.{Result, Err}}
use Rattle.basic_types.specs.{declared.value.Value.{Value}, declared.sig.Sig.{Sig}, Types.{Fits}}
use Rattle.script_lang.specs.{declared.event.Event.{Event}, declared.event.Event.TheVariants.{Loop, Turn, New, Adopt, Move, Connect, Disconnect, Set, Bind, Emit as EmitEvent, Call as CallEvent, Block, Unblock, Delete as DeleteEvent, Later as LaterEvent}, declared.event.Input.{Input}}
use Rattle.meta_model.specs.{declared.object.MetaMethod.{MetaMethod}, declared.object.Statement.{Statement}, declared.effects.MetaEffects.{MetaEffects}, Members.{IsMethod, IsProperty}, declared.object.ValueType.{ValueType}, declared.object.Work.{Work}, declared.object.Work.TheVariants.{Signal, Slot, Native}, Loaded.{Loaded}, Sound.{IsSound, IsSoundWork, IsSoundBody, IsSoundNative, AreSound, none_sound, next_sound}}
use Rattle.native_slots.specs.declared.action.Action.{Action}
use Rattle.trace_entries.specs.{declared.entry.ShownAction.{ShownAction}, declared.refusal.Refusal.{Refusal}, declared.entry.Entry.{Entry}, declared.fault.Answer.{Answer}}
use Rattle.connections.specs.declared.connection.Connection.{Connection}
use Rattle.object_tree.{specs.declared.life.Life.{Life}, specs.declared.object.Object.{Object}, specs.Adopting.{IsAdopted}, specs.Creating.{begun as begun_life, fresh, initial_values}, specs.Family.{moved, without_life}, specs.Objects.{Lives, life_of, change_life, with_life, blocked, home_of}, proofs.Changing.{length-change}, specs.Moving.{all_in_loop}, proofs.Moving.{length-in_loop}, specs.Typed.{AreTyped, ReadAs}, proofs.TypedObjects.{class-more, seen-appended, shape_in, class-same, seen-same, shape-change, shape-moved}}
use Rattle.binding_graph.specs.{declared.binding.Binding.{Binding}, declared.place.Place.{Place}}
use Rattle.prop_bindings.specs.{Changes.{DifferInValues}, Fits.{Agree}}
use Rattle.machine_state.{specs.declared.endpoints.Endpoints.{Endpoints}, specs.Telling.{Assigning}, specs.State.{Step, Run, Ask, Act, State, IsIdle, Activation, Body, Emit, Update, Destroy}, specs.declared.turn.Turn.{Turn as ATurn}, specs.Turns.{running, reaches_at_once}, specs.Worlds.{store_of, with_store}, specs.Connections.{is_living, next_used, joins_these}, specs.Accepting.{accepted}, proofs.Due.{all-removed}}
use Rattle.machine_rules.{specs.Natives.{NativeAnswers, IsShownAs, set_shown, emit_shown, AreShownAs}, specs.Connecting.{AreThere, kept_ends, names_of}, specs.Operations.{Operation, Write, Begin, Choose, Connect as Link, Disconnect as Unlink, Delete, Schedule, TakeAnswer, Nothing, operation_of_step}, specs.Destroying.{Dies, NextRule, ChildRule, DestroyRule, living_child, Schedules}, specs.Rules.{Rule, RuleAt, BodyRule, Does, EmitRule, UpdateRule, Begins, begun, with_used, linked, unlinked, TurnRule, Serves, Delivers, Arrives, BeginsIf, NotifiesIf}, specs.Settling.{Settles, Writes, Installs}, specs.Writing.{MayNotify}, specs.Judgement.{found as finds, holds as so, becomes, gives as just, goes_on}, specs.declared.ends.FoundEnds.{FoundEnds}, specs.Good.{has_body, ArgumentsFit, TopFits, IsWell, Spares, IsGood}, proofs.Doing.{step-of}, proofs.Agreeing.{rule-agrees}, specs.code.Sound.{Joined, AreHoused}, specs.code.Keeps.{StayThere, Keeps}, specs.There.{IsDead, IsMember}, proofs.Dying.{died-stay, scheduled-stay, scheduled-seen}, proofs.Fields.{life-unique, member-method}, proofs.Differing.{differ-stay, differ-spared}, proofs.Notifying.{all-notified}, proofs.Lists.{all-append, all-snoc}, proofs.Keeps.{all-stay, all-joined-still, rule-kept, begins-kept, writes-kept, installs-kept, schedules-kept, joined-by}, proofs.Soundness.{AllFit, Fair, rule-fair, begins-fair, writes-fair, installs-fair, schedules-fair, all-wait-still}, proofs.Waiting.{housed-same, home-change}, proofs.Scheduling.{schedule-cases}, proofs.Hearing.{AllHeard, nobody, Heard, rule-heard, begins-heard, writes-heard, installs-heard, schedules-heard}}
use Rattle.object_machine.{proofs.Possible.{possible}, proofs.Standing.{ActionStands, StepStands, BodyStands, Stands, Invariant, AllStand, SparedIn, all-stand-still}, specs.declared.invoking.Invocation.{Invocation}, specs.declared.invoking.Invocation.TheVariants.{Emit as EmitIt, Call as CallIt}, specs.Takes.{Takes, accepts, refuses}, specs.Events.{judged, block, find_ends, invoke}, proofs.Judged.{given-is}, proofs.Judging.Naming.{living-is, living-object}, proofs.Settling.{takes-agree}, specs.Runs.{Run as ARun, done, goes, takes, Each, GoodRun}, proofs.Changes.{adopted-by, length-moved}, proofs.Moving.{moved-by, shape-in_loop, housed-in_loop, all-rehomed, length-rehomed}, proofs.Homes.{housed-more, housed-loop, waiting-loop, home-there, home-moved}}
use Rattle.event_loops.specs.{declared.item.Item.{Item}, declared.item.Item.TheVariants.{Call, Deletion}, declared.item.Posted.{Posted}, Queues.{Loop as ALoop, Queues, items_at, is_before, taken_before, with_loop, rehomed}}
use Rattle.delete_later.specs.{declared.store.Store.{Store}, Moving.{IsMoved}}
use Rattle.syntax_trees.specs.{declared.connection.ConnectionType.{ConnectionType}, declared.connection.Endpoints.{Endpoints as Named}}

-- ---- steps

-- statements that are sound stand
run-steps : (p : Loaded) (c me : ℕ) (types : List ValueType) (statements : List Statement) → AreSound p me types statements → AllByRecursion (StepStands p c me types) (map Run statements)
run-steps p c me types [] none_sound = tt
run-steps p c me types (x ∷ rest) (next_sound one more) = (one, run-steps p c me types rest more)

-- an action that is written down names what the object's class has
action-stands : {p : Loaded} {objects : List Object} {o : ℕ} {x : Object} {l : Life} {effects : MetaEffects} {it : Action} {line : ShownAction} → Lives objects o x l → IsShownAs p objects o effects it line → ActionStands p l.class effects it
action-stands {p} lives (set_shown {q = q} {property = property} placed field) =
    let Class : Life → Type 0 = λ k. IsProperty p k.class q property in
    (q, property, placed, subst Class (life-unique field.lives lives) (record { class = field.class; is_class = field.is_class; is = field.is_property }))
action-stands {p} lives (emit_shown {g = g} {signal = signal} placed member) =
    let Class : Life → Type 0 = λ k. IsMethod p k.class g signal in
    (g, signal, placed, subst Class (life-unique member.lives lives) member.is_method)

answer-steps : (p : Loaded) {objects : List Object} {o : ℕ} {x : Object} {l : Life} (me : ℕ) (types : List ValueType) (effects : MetaEffects) (actions : List Action) (lines : List ShownAction) → Lives objects o x l → AreShownAs p objects o effects actions lines → AllByRecursion (StepStands p l.class me types) (map (Act effects) actions)
answer-steps p me types effects [] lines lives shown = tt
answer-steps p me types effects (it ∷ actions) [] lives shown = absurd shown
answer-steps p me types effects (it ∷ actions) (line ∷ lines) lives shown = (action-stands lives shown.0, answer-steps p me types effects actions lines lives shown.1)

body-with : {p : Loaded} {objects : List Object} {o : ℕ} {arguments : List Value} {left : List Step} (x : BodyStands p objects o arguments left) (rest : List Step) → AllByRecursion (StepStands p x.life.class x.declaring x.types) rest → BodyStands p objects o arguments rest
body-with x rest steps = record { object = x.object; life = x.life; lives = x.lives; declaring = x.declaring; below = x.below; types = x.types; typed = x.typed; steps = steps }

body-rest : {p : Loaded} {objects : List Object} {o : ℕ} {arguments : List Value} {x : Step} {rest : List Step} → BodyStands p objects o arguments (x ∷ rest) → BodyStands p objects o arguments rest
body-rest {rest = rest} x = body-with x rest x.steps.1

-- ---- rules

-- a slot that is called with arguments that fit
called-stands : {p : Loaded} {objects : List Object} {o m : ℕ} {x : Object} {method : MetaMethod} {arguments : List Value} {statements : List Statement} → IsSound p → IsMember p objects o m x method → method.work ≡ Slot statements → ArgumentsFit p objects o m arguments → BodyStands p objects o arguments (map Run statements)
called-stands {p} {objects} {m = m} {x = x} {method = method} {arguments = arguments} {statements = statements} sound is work_is fit =
    let method_is : fit.method ≡ method = member-method fit.is is in
    let Typed : MetaMethod → Type 0 = λ k. ReadAs p objects arguments k.types in
    let Sound_work : Work → Type 0 = λ w. IsSoundWork p is.life.class m method.types w in
    let body : IsSoundBody p is.life.class m method.types statements = subst Sound_work work_is ((sound.classes is.life.class is.is_method.class is.is_method.is_class).methods m method is.is_method.is).work in
    record { object = x; life = is.life; lives = is.lives; declaring = body.declaring; below = body.below; types = method.types; typed = subst Typed method_is fit.typed; steps = run-steps p is.life.class body.declaring method.types statements body.sound }

-- .. a native that is
asked-stands : {p : Loaded} {objects : List Object} {o m : ℕ} {x : Object} {method : MetaMethod} {arguments : List Value} {effects : MetaEffects} → IsSound p → IsMember p objects o m x method → method.work ≡ Native effects → ArgumentsFit p objects o m arguments → BodyStands p objects o arguments (Ask effects ∷ [])
asked-stands {p} {objects} {m = m} {x = x} {method = method} {arguments = arguments} {effects = effects} sound is work_is fit =
    let method_is : fit.method ≡ method = member-method fit.is is in
    let Typed : MetaMethod → Type 0 = λ k. ReadAs p objects arguments k.types in
    let Sound_work : Work → Type 0 = λ w. IsSoundWork p is.life.class m method.types w in
    let native : IsSoundNative p is.life.class m method.types effects = subst Sound_work work_is ((sound.classes is.life.class is.is_method.class is.is_method.is_class).methods m method is.is_method.is).work in
    record { object = x; life = is.life; lives = is.lives; declaring = native.declaring; below = native.below; types = method.types; typed = subst Typed method_is fit.typed; steps = (tt, tt) }

-- a method that begins, over what stands
begun-stands : (p : Loaded) (s : State) (below : List Activation) (o : ℕ) (x : Object) (m : ℕ) (method : MetaMethod) (arguments : List Value) (work : Work) (t : State) → IsSound p → IsMember p s.objects o m x method → method.work ≡ work → t ≡ begun s below o x m method arguments work → length s.stack < suc (length below) → IsWell p s t → AllByRecursion (Stands p s.objects) below → AllStand p t
begun-stands p s below o x m method arguments Signal t sound is work_is e higher well lower =
    let Family : State → Type 0 = λ u. AllStand p u in
    subst Family (sym e) (tt, lower)
begun-stands p s below o x m method arguments (Slot statements) t sound is work_is e higher well lower =
    let Family : State → Type 0 = λ u. AllStand p u in
    let Fit : State → Type 0 = λ u. length s.stack < length u.stack → TopFits p u.objects u.stack in
    let fits : Fit (begun s below o x m method arguments (Slot statements)) = subst Fit e well.arguments in
    subst Family (sym e) (called-stands sound is work_is (fits higher), lower)
begun-stands p s below o x m method arguments (Native effects) t sound is work_is e higher well lower =
    let Family : State → Type 0 = λ u. AllStand p u in
    let Fit : State → Type 0 = λ u. length s.stack < length u.stack → TopFits p u.objects u.stack in
    let fits : Fit (begun s below o x m method arguments (Native effects)) = subst Fit e well.arguments in
    subst Family (sym e) (asked-stands sound is work_is (fits higher), lower)

module _ {p : Loaded} {s t : State} (sound : IsSound p) (well : IsWell p s t) where
  begins-stands : {below : List Activation} {o m : ℕ} {arguments : List Value} → Begins p s below o m arguments t → length s.stack < suc (length below) → AllByRecursion (Stands p s.objects) below → AllStand p t
  begins-stands {below} {o} {m} {arguments} b higher lower = begun-stands p s below o b.object m b.method arguments b.method.work t sound b.is refl b.gives higher well lower

  -- the stack is another one, and the objects are the same
  as-is : {u : State} → t ≡ u → AllStand p u → AllStand p t
  as-is e lower = let Family : State → Type 0 = λ v. AllStand p v in subst Family (sym e) lower

  -- values change, and those that changed may be notified
  settles-stands : {below : List Activation} {Tells : List Entry → Type 0} {objects : List Object} {bindings : List Binding} {changed : List Place} → DifferInValues s.objects objects → Settles p s below Tells objects bindings changed t → AllByRecursion (Stands p s.objects) below → AllStand p t
  settles-stands {below} {objects = objects} {changed = changed} differ x lower =
      as-is x.gives (all-notified p objects changed sound, all-stand-still p s.objects objects below (differ-stay s.objects objects differ) (λ o body gone. differ-spared s.objects objects differ o gone) lower)

  writes-stands : {below : List Activation} {what : Assigning} → Writes p s below what t → AllByRecursion (Stands p s.objects) below → AllStand p t
  writes-stands w lower = settles-stands w.written.objects w.settles lower

  installs-stands : {below : List Activation} {b : Binding} → Installs p s below b t → AllByRecursion (Stands p s.objects) below → AllStand p t
  installs-stands x lower = settles-stands x.installed.objects x.settles lower

  -- connections are made and removed
  linked-stands : (stack : List Activation) (ends : Endpoints) (how : ConnectionType) (names : Named (List ℕ)) (answer : Result (Unit {0}) Refusal) → AllByRecursion (Stands p s.objects) stack → AllStand p (linked s stack ends how names answer)
  linked-stands stack ends how names (Ok _) all = all
  linked-stands stack ends how names (Err k) all = all

  unlinked-stands : (stack : List Activation) (ends : Endpoints) (names : Named (List ℕ)) (answer : Result (Unit {0}) Refusal) → AllByRecursion (Stands p s.objects) stack → AllStand p (unlinked s stack ends names answer)
  unlinked-stands stack ends names (Ok _) all = all
  unlinked-stands stack ends names (Err k) all = all

  -- an object is scheduled to be deleted
  schedules-stands : (stack : List Activation) (x : ℕ) (life : Option Life) → AllByRecursion (Stands p s.objects) stack → Schedules s stack x t life → AllStand p t
  schedules-stands stack x life all r = elim (schedule-cases life r) [
    | inl e ↦ as-is e all
    | inr d ↦ as-is d.gives (all-stand-still p s.objects _ stack (scheduled-stay s.objects x) (λ o body gone. sym (scheduled-seen s.objects x o) ∙ gone) all)
  ]

  -- what a step does, over what stands
  does-stands : (natives : NativeAnswers) → AreTyped p s.objects → (o m : ℕ) (arguments : List Value) (x : Step) (rest : List Step) (below : List Activation) (d : Operation) → BodyStands p s.objects o arguments (x ∷ rest) → operation_of_step s.objects o arguments x ≡ Some d → AllByRecursion (Stands p s.objects) below → length s.stack ≡ suc (length below) → Does p natives s o m arguments rest below d t → AllStand p t
  does-stands natives typed o m arguments x rest below (Write what) body is lower high does = writes-stands does (body-rest body, lower)
  does-stands natives typed o m arguments x rest below (Begin y n given) body is lower high does = begins-stands does (omega (arith, high)) (body-rest body, lower)
  does-stands natives typed o m arguments x rest below (Choose block) body is lower high does =
      let Stood : Step → Type 0 = StepStands p body.life.class body.declaring body.types in
      let chosen = run-steps p body.life.class body.declaring body.types block (possible sound typed body (Choose block) is) in
      as-is does (body-with body (map Run block ++ rest) (all-append Stood (map Run block) rest chosen body.steps.1), lower)
  does-stands natives typed o m arguments x rest below (Link ends how) body is lower high does =
      as-is does.gives (linked-stands (Body o m arguments rest ∷ below) (kept_ends ends) how (names_of does.kept) does.answer (body-rest body, lower))
  does-stands natives typed o m arguments x rest below (Unlink ends) body is lower high does =
      as-is does.gives (unlinked-stands (Body o m arguments rest ∷ below) (kept_ends ends) (names_of does.kept) does.answer (body-rest body, lower))
  does-stands natives typed o m arguments x rest below (Delete y) body is lower high does = as-is does (tt, (body-rest body, lower))
  does-stands natives typed o m arguments x rest below (Schedule y) body is lower high does = schedules-stands (Body o m arguments rest ∷ below) y (life_of s.objects y) (body-rest body, lower) does
  does-stands natives typed o m arguments x rest below (TakeAnswer effects) body is lower high does =
      let Stood : Step → Type 0 = StepStands p body.life.class body.declaring body.types in
      let answered = answer-steps p body.declaring body.types effects does.actions does.lines body.lives does.are_shown in
      as-is does.gives (body-with body (map (Act effects) does.actions ++ rest) (all-append Stood (map (Act effects) does.actions) rest answered body.steps.1), lower)
  does-stands natives typed o m arguments x rest below Nothing body is lower high does = as-is does (body-rest body, lower)

  body-stands : (natives : NativeAnswers) → AreTyped p s.objects → (o m : ℕ) (arguments : List Value) (below : List Activation) (left : List Step) → BodyStands p s.objects o arguments left → AllByRecursion (Stands p s.objects) below → length s.stack ≡ suc (length below) → BodyRule p natives s o m arguments below t left → AllStand p t
  body-stands natives typed o m arguments below [] body lower high r = as-is r lower
  body-stands natives typed o m arguments below (x ∷ rest) body lower high rule =
      let r = step-of p natives s o m arguments x rest below t rule in
      does-stands natives typed o m arguments x rest below r.what body r.is lower high r.does

  -- a method begins, or a call of it is posted
  arrives-stands : (u : State) (stack : List Activation) (home o : ℕ) (x : Object) (m : ℕ) (method : MetaMethod) (arguments : List Value) (b : Bool) → IsWell p u t → IsMember p u.objects o m x method → length u.stack < suc (length stack) → AllByRecursion (Stands p u.objects) stack → Arrives u stack home o x m method arguments t b → AllStand p t
  arrives-stands u stack home o x m method arguments true now is higher lower r = begun-stands p u stack o x m method arguments method.work t sound is refl r higher now lower
  arrives-stands u stack home o x m method arguments false now is higher lower r = as-is r.gives lower

  emission-stands : (o g : ℕ) (arguments : List Value) (last : ℕ) (below : List Activation) (found : Option Connection) → AllByRecursion (Stands p s.objects) below → length s.stack ≡ suc (length below) → EmitRule p s o g arguments last below t found → AllStand p t
  emission-stands o g arguments last below None lower high r = as-is r lower
  emission-stands o g arguments last below (Some c) lower high r =
      let well_used : IsWell p (with_used s c) t = record { arguments = well.arguments; values = well.values } in
      arrives-stands (with_used s c) (Emit o g arguments c.number last ∷ below) r.home c.receiver r.receiver c.method r.method (take (length r.method.types) arguments) (reaches_at_once c.kind r.home (running s.turn)) well_used r.is (omega (arith, high)) (tt, lower) r.arrives

  update-stands : (below : List Activation) (places : List Place) → AllByRecursion (MayNotify p s.objects) places → AllByRecursion (Stands p s.objects) below → UpdateRule p s below t places → AllStand p t
  update-stands below [] there lower r = as-is r lower
  update-stands below (place ∷ places) there lower r = by_life (life_of s.objects place.object) r
    where
      by_life : (life : Option Life) → NotifiesIf p s (Update places ∷ below) place t life → AllStand p t
      by_life None e = as-is e (there.1, lower)
      by_life (Some l) n = as-is n.gives (tt, (there.1, lower))

  -- an object dies, which has no body
  dies-stands : (stack : List Activation) (x : ℕ) → SparedIn stack s.objects t.objects → AllByRecursion (Stands p s.objects) stack → Dies s stack x t → AllStand p t
  dies-stands stack x spared all d =
      let after : List Object = without_life x s.objects in
      let died_so : SparedIn stack s.objects after = λ o body gone. spared o body (subst (λ (u : State). IsDead u.objects o) (sym d.gives) gone) in
      as-is d.gives (tt, all-stand-still p s.objects after stack (died-stay s.objects x d.named) died_so all)

  destroy-stands : (below : List Activation) (next : Option ℕ) (torn : List ℕ) → SparedIn below s.objects t.objects → AllByRecursion (Stands p s.objects) below → DestroyRule s below t next torn → AllStand p t
  destroy-stands below (Some x) torn spared lower r = by_life (is_living s.objects x) r
    where
      by_life : (b : Bool) → NextRule s below t x torn b → AllStand p t
      by_life true d = dies-stands (Destroy (Some x) torn ∷ below) x spared (tt, lower) d
      by_life false e = as-is e (tt, lower)
  destroy-stands below None [] spared lower r = as-is r lower
  destroy-stands below None (parent ∷ torn) spared lower r = by_child (living_child s parent) r
    where
      by_child : (child : Option ℕ) → ChildRule s below t parent torn child → AllStand p t
      by_child (Some x) d = dies-stands (Destroy (Some x) (parent ∷ torn) ∷ below) x spared (tt, lower) d
      by_child None e = as-is e (tt, lower)

  -- an item is delivered, or a turn ends
  delivers-stands : (queues : Queues) (item : Item) → length s.stack ≡ 0 → AllStand p s → Delivers p (record s { queues = queues }) t item → AllStand p t
  delivers-stands queues (Call o m arguments) low all r = by_life (life_of s.objects o) r
    where
      by_life : (life : Option Life) → BeginsIf p (record s { queues = queues }) o m arguments t life → AllStand p t
      by_life None e = as-is e all
      by_life (Some l) b =
          begun-stands p (record s { queues = queues }) [] o b.object m b.method arguments b.method.work t sound b.is refl b.gives (omega (arith, low)) (record { arguments = well.arguments; values = well.values }) tt
  delivers-stands queues (Deletion o) low all r = as-is r (tt, tt)

  turn-stands : (found : Option ATurn) → length s.stack ≡ 0 → AllStand p s → TurnRule p s t found → AllStand p t
  turn-stands None low all r = absurd r
  turn-stands (Some turn) low all r = by_first (find (is_before turn.limit) (items_at s.queues.loops turn.home)) r
    where
      by_first : (first : Option Posted) → Serves p s t turn first → AllStand p t
      by_first None e = as-is e all
      by_first (Some q) d = delivers-stands (taken_before turn.home turn.limit s.queues) q.item low all d

  rule-stands : (natives : NativeAnswers) → AreTyped p s.objects → Spares s t → (stack : List Activation) → s.stack ≡ stack → AllStand p s → AllByRecursion (Stands p s.objects) stack → RuleAt p natives s t stack → AllStand p t
  rule-stands natives typed spares [] is here all r = turn-stands s.turn (ap (λ (l : List Activation). length l) is) here r
  rule-stands natives typed spares (Body o m arguments left ∷ below) is here all r = body-stands natives typed o m arguments below left all.0 all.1 (ap (λ (l : List Activation). length l) is) r
  rule-stands natives typed spares (Emit o g arguments used last ∷ below) is here all r =
      emission-stands o g arguments last below (next_used s.objects s.connected.connections o g used last) all.1 (ap (λ (l : List Activation). length l) is) r
  rule-stands natives typed spares (Update places ∷ below) is here all r = update-stands below places all.0 all.1 r
  rule-stands natives typed spares (Destroy next torn ∷ below) is here all r =
      destroy-stands below next torn (λ o body gone. spares o (subst (λ (l : List Activation). IsTrue (has_body o l)) (sym is) body) gone) all.1 r

  -- what is going on stands where the stack does
  kept-invariant : Agree p t.objects t.bindings → Invariant p s → Keeps p s 1 t 0 → AllStand p t → Fair p t → Heard t → Invariant p t
  kept-invariant agree up kept stands fair heard = record { sound = record { agree = agree; joined = kept.joined sound up.sound.joined; housed = kept.housed up.sound.housed; waiting = fair.waiting }; stands = stands; emitted = fair.emitted; heard = heard }

  rule-invariant : (natives : NativeAnswers) → Spares s t → Agree p t.objects t.bindings → Invariant p s → Rule p natives s t → Invariant p t
  rule-invariant natives spares agree up r = kept-invariant agree up (rule-kept p natives s t s.stack r) (rule-stands natives up.sound.agree.typed spares s.stack refl up.stands up.stands r) (rule-fair sound well up.sound.waiting natives s.stack up.sound.joined up.heard up.emitted up.emitted refl r) (rule-heard p s t natives up.heard r)

-- ---- events

-- nothing is going on
none-stand : (p : Loaded) {s : State} (objects : List Object) → IsIdle s → AllByRecursion (Stands p objects) s.stack
none-stand p objects idle = let Family : List Activation → Type 0 = λ l. AllByRecursion (Stands p objects) l in subst Family (sym idle.empty) tt

none-fit : (p : Loaded) {s : State} (objects : List Object) → IsIdle s → AllFit p objects s.stack
none-fit p objects idle = let Family : List Activation → Type 0 = λ l. AllFit p objects l in subst Family (sym idle.empty) tt

none-heard : {s : State} (Over : ℕ → Type 0) (objects : List Object) (connections : List Connection) → IsIdle s → AllHeard objects connections Over s.stack
none-heard Over objects connections idle = let Family : List Activation → Type 0 = λ l. AllHeard objects connections Over l in subst Family (sym idle.empty) tt

-- objects change, the living ones stay of their classes, and each lives in a loop that is there
changed-invariant : {p : Loaded} {s : State} (objects : List Object) → IsIdle s → Invariant p s → Agree p objects s.bindings → StayThere s.objects objects → AreHoused objects s.queues.loops → Invariant p (record (accepted s) { objects = objects })
changed-invariant {p} {s} objects idle up agree stay housed = record {
  sound = record {
    agree = agree;
    joined = all-joined-still p s.objects objects s.connected.connections stay up.sound.joined;
    housed = housed;
    waiting = all-wait-still p s.objects objects s.queues.loops stay up.sound.waiting;
  };
  stands = none-stand p objects idle;
  emitted = none-fit p objects idle;
  heard = none-heard nobody objects s.connected.connections idle;
}

-- an object is added
created-stay : (objects : List Object) (x : Object) (l : Life) → x.life ≡ Some l → StayThere objects (objects ++ x ∷ [])
created-stay objects x l alive = record {
  living = λ o class is. inl (class-more objects x o class is);
  dead = λ o is. seen-appended objects x l o o alive ∙ is;
  created = omega (arith, length-append objects (x ∷ []));
}

-- an event loop is added
loop-invariant : {p : Loaded} {s : State} (name : List ℕ) → Invariant p s → Invariant p (record (accepted s) { queues = with_loop name s.queues })
loop-invariant {p} {s} name up = record {
  sound = record { agree = up.sound.agree; joined = up.sound.joined; housed = housed-loop s.objects s.queues.loops name up.sound.housed; waiting = waiting-loop p s.objects s.queues.loops name up.sound.waiting };
  stands = up.stands;
  emitted = up.emitted;
  heard = up.heard;
}

-- .. where each of them shows the same
same-stay : (old new : List Object) → length new ≡ length old → ((o : ℕ) → shape_in (slice_get new o) ≡ shape_in (slice_get old o)) → StayThere old new
same-stay old new many same = record { living = λ o class is. inl (class-same old new o (same o) ∙ is); dead = λ o is. seen-same old new o (same o) ∙ is; created = omega (arith, many) }

adopted-stay : {a c : ℕ} {y : Life} {old new : List Object} → IsAdopted a c y old new → StayThere old new
adopted-stay {a} {c} {old = old} is = adopted-by (λ (l : List Object). StayThere old l) (all-stay old) (same-stay old (moved a c old) (length-moved a c old) (shape-moved a c old)) is

-- .. and lives where it lived
adopted-housed : {a c : ℕ} {y : Life} {old new : List Object} (loops : List ALoop) → IsAdopted a c y old new → AreHoused old loops → AreHoused new loops
adopted-housed {a} {c} {old = old} loops is housed = housed-same old _ loops loops (adopted-by (λ (l : List Object). (o : ℕ) → home_of l o ≡ home_of old o) (λ o. refl) (home-moved a c old) is) refl housed

-- objects move, with what waits for them
moved-invariant : {p : Loaded} {s : State} {o home : ℕ} {stores : Store} → IsIdle s → Invariant p s → IsMoved o home (store_of s) stores → Agree p stores.tree stores.bindings → Invariant p (with_store (accepted s) stores)
moved-invariant {p} {s} {o} {home} idle up is =
    let Family : Store → Type 0 = λ stores. Agree p stores.tree stores.bindings → Invariant p (with_store (accepted s) stores) in
    moved-by Family
    (λ agree. record { sound = record { agree = agree; joined = up.sound.joined; housed = up.sound.housed; waiting = up.sound.waiting }; stands = up.stands; emitted = up.emitted; heard = up.heard })
    (λ os alone agree.
    let objects : List Object = all_in_loop os home s.objects in
    let stay : StayThere s.objects objects = same-stay s.objects objects (length-in_loop home os s.objects) (shape-in_loop home os s.objects) in
    let queues : Queues = rehomed os home s.queues in
    record {
      sound = record {
        agree = agree;
        joined = all-joined-still p s.objects objects s.connected.connections stay up.sound.joined;
        housed = housed-in_loop home os s.objects s.queues.loops queues.loops (length-rehomed os home s.queues) is.there up.sound.housed;
        waiting = all-wait-still p s.objects objects queues.loops stay (all-rehomed p s.objects os home s.queues up.sound.waiting);
      };
      stands = none-stand p objects idle;
      emitted = none-fit p objects idle;
      heard = none-heard nobody objects s.connected.connections idle;
    })
    is

-- a connection joins what it names
connection-joined : {p : Loaded} {objects : List Object} (e : Named (List ℕ)) (how : ConnectionType) (n : ℕ) (f : FoundEnds) → IsSound p → find_ends p objects e (Ok f) → Fits e.signal e.method →
    Joined p objects (record { number = n; sender = f.ends.sender; signal = f.ends.signal; receiver = f.ends.receiver; method = f.ends.method; kind = how.kind; single = how.single })
connection-joined {p} {objects} e how n f sound (goes_on a sender (goes_on b receiver (goes_on g (finds signal) (goes_on m (finds method) given)))) fits =
    let Signal_types : Sig → Type 0 = λ t. Fits t e.method in
    let Method_types : Sig → Type 0 = λ t. Fits signal.0.method.sig t in
    let from = living-object a (living-is sender) in
    let to = living-object b (living-is receiver) in
    let ends : Endpoints = record { sender = a.number; signal = g; receiver = b.number; method = m } in
    let spelled : AreThere p objects ends = record {
      sender = from.0;
      signal = signal.0.method;
      sends = record { life = a.it; lives = from.1; is_method = signal.0.is };
      receiver = to.0;
      method = method.method;
      receives = record { life = b.it; lives = to.1; is_method = method.is };
    } in
    let Joins : FoundEnds → Type 0 = λ k. Joined p objects (record { number = n; sender = k.ends.sender; signal = k.ends.signal; receiver = k.ends.receiver; method = k.ends.method; kind = how.kind; single = how.single }) in
    subst Joins (sym (given-is given)) (joined-by how n spelled sound (subst Method_types (sym method.signed) (subst Signal_types (sym signal.0.signed) fits)))

-- the state in which an event is taken
accepted-invariant : {p : Loaded} {s : State} → Invariant p s → Invariant p (accepted s)
accepted-invariant up = record { sound = record { agree = up.sound.agree; joined = up.sound.joined; housed = up.sound.housed; waiting = up.sound.waiting }; stands = up.stands; emitted = up.emitted; heard = up.heard }

accepted-well : {p : Loaded} {s t : State} → IsWell p s t → IsWell p (accepted s) t
accepted-well well = record { arguments = well.arguments; values = well.values }

invoked-invariant : {p : Loaded} {s t : State} (a : Invocation) (name called : List ℕ) (inputs : List Input) → IsSound p → Invariant p s → IsWell p s t → Agree p t.objects t.bindings → invoke p s a name called inputs (Ok t) → Invariant p t
invoked-invariant {p} {s} {t} a name called inputs sound up well agree (goes_on _ o (goes_on _ m (goes_on _ vs (goes_on _ fit (becomes begins))))) =
    kept-invariant sound (accepted-well well) agree (accepted-invariant up) (begins-kept begins) (begins-stands sound (accepted-well well) begins (omega arith) up.stands) (begins-fair sound (accepted-well well) up.sound.waiting begins (omega arith) up.emitted) (begins-heard p (accepted s) t begins up.heard)

blocked-invariant : {p : Loaded} {s t : State} (name : List ℕ) (on : Bool) → IsIdle s → Invariant p s → Agree p t.objects t.bindings → block s name on (Ok t) → Invariant p t
blocked-invariant {p} {s} name on idle up agree (goes_on o lives just) =
    changed-invariant (change_life o.number (blocked on) s.objects) idle up agree (same-stay s.objects _ (length-change o.number (with_life (blocked on)) s.objects) (shape-change o.number (blocked on) s.objects (λ l. refl)))
    (housed-same s.objects _ s.queues.loops s.queues.loops (home-change o.number (blocked on) s.objects (λ l. refl)) refl up.sound.housed)

judged-invariant : {p : Loaded} {s t : State} (e : Event) → IsSound p → IsIdle s → Invariant p s → judged p s e (Ok t) → IsWell p s t → Agree p t.objects t.bindings → Invariant p t
judged-invariant (Loop name) sound idle up (goes_on _ free just) well agree = loop-invariant name up
judged-invariant (Turn name) sound idle up (goes_on home is just) well agree = record { sound = record { agree = up.sound.agree; joined = up.sound.joined; housed = up.sound.housed; waiting = up.sound.waiting }; stands = up.stands; emitted = up.emitted; heard = up.heard }
judged-invariant {s = s} (New name class loop) sound idle up (goes_on _ free (goes_on c is (goes_on home (finds lives) (goes_on _ room just)))) well agree =
    let x : Object = fresh name c.number home (initial_values c.it) in
    let l : Life = begun_life c.number home (initial_values c.it) in
    changed-invariant _ idle up agree (created-stay _ x l refl)
    (housed-more s.objects x l s.queues.loops refl up.sound.housed (home-there s.queues.loops home loop up.sound.housed.has_main lives))
judged-invariant {p} {s} (Adopt parent child) sound idle up (goes_on _ a (goes_on _ c (goes_on _ owns (goes_on _ over (goes_on _ home (goes_on objects (becomes x) given)))))) well agree =
    let Family : State → Type 0 = λ u. Invariant p u in
    let Agrees : State → Type 0 = λ u. Agree p u.objects u.bindings in
    subst Family (sym (given-is given)) (changed-invariant objects idle up (subst Agrees (given-is given) agree) (adopted-stay x) (adopted-housed s.queues.loops x up.sound.housed))
judged-invariant {p} {s} (Move name loop) sound idle up (goes_on _ o (goes_on _ is (goes_on _ root (goes_on _ alone (goes_on store (becomes x) given))))) well agree =
    let Family : State → Type 0 = λ u. Invariant p u in
    let Agrees : State → Type 0 = λ u. Agree p u.objects u.bindings in
    subst Family (sym (given-is given)) (moved-invariant idle up x (subst Agrees (given-is given) agree))
judged-invariant {p} {s} (Connect e how) sound idle up (goes_on f named (goes_on _ (goes_on _ covers (goes_on _ (so fits) new)) given)) well agree =
    let Family : State → Type 0 = λ u. Invariant p u in
    subst Family (sym (given-is given)) (record {
      sound = record {
        agree = up.sound.agree;
        joined = all-snoc (Joined p s.objects) s.connected.connections _ up.sound.joined (connection-joined e how (s.connected.last + 1) f sound named fits);
        housed = up.sound.housed;
        waiting = up.sound.waiting;
      };
      stands = up.stands;
      emitted = up.emitted;
      heard = none-heard nobody s.objects _ idle;
    })
judged-invariant {p} {s} (Disconnect e) sound idle up (goes_on f named (goes_on _ is given)) well agree =
    let Family : State → Type 0 = λ u. Invariant p u in
    subst Family (sym (given-is given)) (record {
      sound = record { agree = up.sound.agree; joined = all-removed (Joined p s.objects) (joins_these f.ends) s.connected up.sound.joined; housed = up.sound.housed; waiting = up.sound.waiting };
      stands = up.stands;
      emitted = up.emitted;
      heard = none-heard nobody s.objects _ idle;
    })
judged-invariant {p} {s} {t} (Set name property i) sound idle up (goes_on _ o (goes_on _ q (goes_on _ v (goes_on _ fits (becomes writes))))) well agree =
    kept-invariant sound (accepted-well well) agree (accepted-invariant up) (writes-kept writes) (writes-stands sound (accepted-well well) writes up.stands) (writes-fair sound (accepted-well well) up.sound.waiting writes up.emitted) (writes-heard p (accepted s) t writes up.heard)
judged-invariant {p} {s} {t} (Bind site target sources) sound idle up (goes_on b may (becomes installs)) well agree =
    kept-invariant sound (accepted-well well) agree (accepted-invariant up) (installs-kept installs) (installs-stands sound (accepted-well well) installs up.stands) (installs-fair sound (accepted-well well) up.sound.waiting installs up.emitted) (installs-heard p (accepted s) t installs up.heard)
judged-invariant (EmitEvent name signal inputs) sound idle up x well agree = invoked-invariant EmitIt name signal inputs sound up well agree x
judged-invariant (CallEvent name slot inputs) sound idle up x well agree = invoked-invariant CallIt name slot inputs sound up well agree x
judged-invariant (Block name) sound idle up x well agree = blocked-invariant name true idle up agree x
judged-invariant (Unblock name) sound idle up x well agree = blocked-invariant name false idle up agree x
judged-invariant {s = s} (DeleteEvent name) sound idle up (goes_on o lives just) well agree = record {
  sound = record { agree = up.sound.agree; joined = up.sound.joined; housed = up.sound.housed; waiting = up.sound.waiting };
  stands = (tt, up.stands);
  emitted = (tt, up.emitted);
  heard = none-heard (λ k. (k ≡ o.number) ⊎ ⊥) s.objects s.connected.connections idle;
}
judged-invariant {p} {s} {t} (LaterEvent name) sound idle up (goes_on o lives (becomes x)) well agree =
    kept-invariant sound (accepted-well well) agree (accepted-invariant up) (schedules-kept p (accepted s) s.stack o.number t (Some o.it) x)
    (schedules-stands sound (accepted-well well) s.stack o.number (Some o.it) up.stands x) (schedules-fair sound (accepted-well well) up.sound.waiting s.stack o.number (Some o.it) x up.emitted) (schedules-heard p (accepted s) t s.stack o.number (Some o.it) x up.heard)

takes-invariant : {p : Loaded} {s t : State} {e : Event} {a : Answer} → IsSound p → Invariant p s → Takes p e a s t → IsWell p s t → Agree p t.objects t.bindings → Invariant p t
takes-invariant {e = e} sound up (accepts idle x) well agree = judged-invariant e sound idle up x well agree
takes-invariant sound up (refuses k idle x) well agree = record { sound = record { agree = up.sound.agree; joined = up.sound.joined; housed = up.sound.housed; waiting = up.sound.waiting }; stands = up.stands; emitted = up.emitted; heard = up.heard }

-- ---- steps without a bad moment

pub after-rule : {p : Loaded} {d : ℕ} {s t : State} (natives : NativeAnswers) → IsSound p → Invariant p s → IsGood p d s t → Rule p natives s t → Invariant p t
after-rule {s = s} natives sound up good r =
    rule-invariant sound good.well natives good.spared (rule-agrees up.sound.agree good.well natives s.stack r) up r

pub after-event : {p : Loaded} {d : ℕ} {s t : State} {e : Event} {a : Answer} → IsSound p → Invariant p s → IsGood p d s t → Takes p e a s t → Invariant p t
after-event sound up good x = takes-invariant sound up x good.well (takes-agree sound up.sound.agree x good.well good.acyclic)

-- every state of a run keeps it
run-invariant : {p : Loaded} {natives : NativeAnswers} {s t : State} {n k : ℕ} {es : List Event} {xs : List Answer} (d : ℕ) → IsSound p → (r : ARun p natives s n es xs t k) → Each (IsGood p d) r → Invariant p s → Invariant p t
run-invariant d sound done good up = up
run-invariant {natives = natives} d sound (goes x rest) good up = run-invariant d sound rest good.1 (after-rule natives sound up good.0 x)
run-invariant d sound (takes x rest) good up = run-invariant d sound rest good.1 (after-event sound up good.0 x)

pub runs-invariant : {p : Loaded} {natives : NativeAnswers} {d : ℕ} {s t : State} {n k : ℕ} {es : List Event} {xs : List Answer} → IsSound p → GoodRun p natives d s n es xs t k → Invariant p s → Invariant p t
runs-invariant {d = d} sound r up = run-invariant d sound r.run r.good up
