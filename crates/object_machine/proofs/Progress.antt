-- What goes on in a run lacks a next rule only for want of a value.
use Rattle.std.{proofs.Common.{◌≡◌, inl, inr, ◌∙◌, ℕ, true, false, List, [], ◌∷◌, Option, Some, None, Result, Ok, Err, refl, subst, Bool, cond, length, take, ap}, specs.List.{AllByRecursion, find}, specs.Prelude.{is_some}, specs.Option.{option_map}}
use Rattle.basic_types.specs.declared.value.Value.{Value}
use Rattle.script_lang.specs.declared.event.Event.{Event}
use Rattle.meta_model.specs.{declared.object.ValueType.{ValueType}, declared.object.MetaMethod.{MetaMethod}, declared.effects.MetaEffects.{MetaEffects}, Loaded.{Loaded}, Sound.{IsSound}}
use Rattle.machine_state.specs.{declared.endpoints.Endpoints.{Endpoints}, State.{Step, Run, Ask, Act, State, Activation, Body, Emit, Update, Destroy}, declared.turn.Turn.{Turn}, Turns.{running, reaches_at_once}, Connections.{is_living, next_used}, Telling.{Assigning, writes_of}}
use Rattle.trace_entries.specs.{declared.refusal.Refusal.{Refusal}, declared.fault.Fault.{Fault}, declared.fault.Fault.TheVariants.{BadType, TooDeep, BindingLoop, InUse, Steps, Memory, Stopped}}
use Rattle.syntax_trees.specs.declared.connection.ConnectionType.{ConnectionType}
use Rattle.machine_rules.{specs.Natives.{NativeAnswers}, specs.Connecting.{AreThere}, specs.Judgement.{Check, Then, holds, fails, goes_on as next_is, ends as ends_so}, specs.Rules.{RuleAt, StepRule, Does, EmitRule, UpdateRule, Connects, Disconnects, TurnRule, Serves, Delivers, Arrives, with_used, BeginsIf, NotifiesIf}, specs.Destroying.{Dies, NextRule, ChildRule, DestroyRule, living_child, Schedules, scheduled_now, scheduled_before, not_living}, specs.Operations.{Operation, Write, Begin, Choose, Connect, Disconnect, Delete, Schedule, TakeAnswer, Nothing, operation_of_step}, specs.code.Lacking.{LacksFirst}, specs.Next.{DoesNext, LacksValue}, specs.code.Going.{IsStuck, RulesStop}, specs.There.{IsField}, specs.Writing.{MayNotify}, proofs.Delivered.{next-delivered}, proofs.Doing.{step-rule, does-next, lacks-value}, proofs.Fields.{old-there}, specs.code.Sound.{IsDelivered, Waits}, proofs.Soundness.{AllFit}, proofs.Waiting.{loop-named, first-waits}, proofs.Hearing.{AllHeard, nobody, may-be-heard}}
use Rattle.run_context.proofs.Linking.{kept-there}
use Rattle.connections.specs.declared.connection.Connection.{Connection}
use Rattle.object_tree.{specs.declared.object.Object.{Object}, specs.Family.{children_of}, specs.declared.life.Life.{Life}, specs.Objects.{life_of, home_of}, proofs.Changing.{life-of-lives, lives-of-life}}
use Rattle.event_loops.specs.{declared.item.Item.{Item}, declared.item.Item.TheVariants.{Call, Deletion}, declared.item.Posted.{Posted}, Queues.{Queues, HasName, items_at, is_before, taken_before}}
use Rattle.binding_graph.specs.declared.place.Place.{Place}
use Rattle.object_machine.{specs.Causes.{StopsFor, spent, short, brings, lacks_value, writes_ill, goes_ill, goes_fatal, writes_deep, goes_deep}, proofs.Possible.{IsPossible, possible, acts}, proofs.Standing.{BodyStands, Stands, Invariant}, specs.Runs.{by_rule, goes_on}}

-- a judgement has some answer
check-somehow : {k : Refusal} {Holds : Type 0} → ((r : Result (Unit {0}) Refusal) → ¬ Check k Holds r) → ⊥
check-somehow {k} none = none (Err k) (fails (λ h. none (Ok tt) (holds h)))

then-somehow : {X Y : Type 0} {First : Result X Refusal → Type 0} {Next : X → Result Y Refusal → Type 0} → (((r : Result X Refusal) → ¬ First r) → ⊥) → ((x : X) → ((r : Result Y Refusal) → ¬ Next x r) → ⊥) → ((r : Result Y Refusal) → ¬ Then First Next r) → ⊥
then-somehow {X} {Y} {First} {Next} first next none = first by_answer
  where
    by_answer : (r : Result X Refusal) → ¬ First r
    by_answer (Ok x) f = next x (λ q n. none q (next_is x f n))
    by_answer (Err k) f = none (Err k) (ends_so f)

-- a call begins, or is posted to a loop that is there
arrives-somehow : (s : State) (stack : List Activation) (home o : ℕ) (x : Object) (m : ℕ) (method : MetaMethod) (given : List Value) (b : Bool) → (name : List ℕ) × HasName s.queues.loops name home → ((t : State) → ¬ Arrives s stack home o x m method given t b) → ⊥
arrives-somehow s stack home o x m method given true named none = none _ refl
arrives-somehow s stack home o x m method given false named none = none _ (record { name = named.0; is_loop = named.1; gives = refl })

-- what is found as living lives
found-lives : (objects : List Object) (os : List ℕ) (x : ℕ) → find (is_living objects) os ≡ Some x → is_living objects x ≡ true
found-lives objects [] x e = absurd (cc e)
found-lives objects (o ∷ os) x e =
    (elim (is_living objects o) as (λ b. is_living objects o ≡ b → cond b (Some o) (find (is_living objects) os) ≡ Some x → is_living objects x ≡ true) [
      | true ↦ λ lives is. let same : o ≡ x = cc is in subst (λ (k : ℕ). is_living objects k ≡ true) same lives
      | false ↦ λ not is. found-lives objects os x is
    ]) refl e

-- a living object dies somehow, since it has a name
dies-somehow : (s : State) (stack : List Activation) (x : ℕ) → is_living s.objects x ≡ true → ((t : State) → ¬ Dies s stack x t) → ⊥
dies-somehow s stack x lives none = by_life (life_of s.objects x) refl lives
  where
    by_life : (life : Option Life) → life_of s.objects x ≡ life → is_some life ≡ true → ⊥
    by_life None is b = absurd (cc b)
    by_life (Some l) is b =
        let there = lives-of-life s.objects x l is in
        none _ (record { name = there.0.name; named = ap (option_map (λ (y : Object). y.name)) there.1.is; gives = refl })

-- .. so a deletion has a next rule
destroy-somehow : (s : State) (below : List Activation) (next : Option ℕ) (torn : List ℕ) → ((t : State) → ¬ DestroyRule s below t next torn) → ⊥
destroy-somehow s below (Some x) torn none = by_life (is_living s.objects x) refl none
  where
    by_life : (b : Bool) → is_living s.objects x ≡ b → ((t : State) → ¬ NextRule s below t x torn b) → ⊥
    by_life true is stuck = dies-somehow s (Destroy (Some x) torn ∷ below) x is stuck
    by_life false is stuck = stuck _ refl
destroy-somehow s below None [] none = none _ refl
destroy-somehow s below None (parent ∷ torn) none = by_child (living_child s parent) refl none
  where
    by_child : (child : Option ℕ) → living_child s parent ≡ child → ((t : State) → ¬ ChildRule s below t parent torn child) → ⊥
    by_child None is stuck = stuck _ refl
    by_child (Some x) is stuck = dies-somehow s (Destroy (Some x) (parent ∷ torn) ∷ below) x (found-lives s.objects (children_of s.objects parent) x is) stuck

module _ {p : Loaded} {s : State} (sound : IsSound p) (up : Invariant p s) where
  -- ends that are there may be connected, or that is refused
  no-connect : {ends : Endpoints} {how : ConnectionType} {stack : List Activation} → AreThere p s.objects ends → ((t : State) → ¬ Connects p s stack ends how t) → ⊥
  no-connect {how = how} spelled none =
      then-somehow check-somehow (λ _. then-somehow check-somehow (λ _. check-somehow))
      (λ answer judged. none _ (record { spelled = spelled; kept = kept-there spelled; answer = answer; judged = judged; gives = refl }))

  no-disconnect : {ends : Endpoints} {stack : List Activation} → AreThere p s.objects ends → ((t : State) → ¬ Disconnects p s stack ends t) → ⊥
  no-disconnect spelled none = check-somehow (λ answer judged. none _ (record { kept = kept-there spelled; answer = answer; judged = judged; gives = refl }))

  -- an object may be scheduled to be deleted, since its loop has a name
  no-schedule : (stack : List Activation) (x : ℕ) (life : Option Life) → life_of s.objects x ≡ life → ((t : State) → ¬ Schedules s stack x t life) → ⊥
  no-schedule stack x None is none = none _ (record { lines = []; told = not_living; gives = refl })
  no-schedule stack x (Some l) is none = by_mark l.scheduled refl
    where
      by_mark : (b : Bool) → l.scheduled ≡ b → ⊥
      by_mark true marked = none _ (record { lines = []; told = scheduled_before marked; gives = refl })
      by_mark false unmarked =
          let there = lives-of-life s.objects x l is in
          let lives : home_of s.objects x ≡ Some l.home = ap (option_map (λ (k : Life). k.home)) is in
          let named = loop-named s.queues.loops l.home (up.sound.housed.each x l.home lives) in
          none _ (record { lines = _; told = scheduled_now unmarked named.1 (ap (option_map (λ (y : Object). y.name)) there.1.is); gives = refl })

  -- what is possible is done by some rule
  possible-goes : (natives : NativeAnswers) (o m : ℕ) (arguments : List Value) (rest : List Step) (below : List Activation) (me : ℕ) (types : List ValueType) (d : Operation) → IsPossible p s.objects me types d → ((what : Assigning) → d ≡ Write what → LacksFirst p s.objects (writes_of what)) → ((effects : MetaEffects) → d ≡ TakeAnswer effects → ⊥) → ((t : State) → ¬ Does p natives s o m arguments rest below d t) → ⊥
  possible-goes natives o m arguments rest below me types (Write what) may lacks asks none =
      let lack = lacks what refl in
      let field = may lack.after.front lack.after.back lack.set lack.after.are lack.after.fit in
      lack.lacks field.object field.property field.is
  possible-goes natives o m arguments rest below me types (Begin x n given) may lacks asks none = none _ (record { object = may.0; method = may.1; is = may.2; gives = refl })
  possible-goes natives o m arguments rest below me types (Choose block) may lacks asks none = none _ refl
  possible-goes natives o m arguments rest below me types (Connect ends how) may lacks asks none = no-connect may none
  possible-goes natives o m arguments rest below me types (Disconnect ends) may lacks asks none = no-disconnect may none
  possible-goes natives o m arguments rest below me types (Delete x) may lacks asks none = none _ refl
  possible-goes natives o m arguments rest below me types (Schedule x) may lacks asks none = no-schedule (Body o m arguments rest ∷ below) x (life_of s.objects x) refl none
  possible-goes natives o m arguments rest below me types (TakeAnswer effects) may lacks asks none = asks effects refl
  possible-goes natives o m arguments rest below me types Nothing may lacks asks none = none _ refl

  -- a step that has no next rule does nothing that is possible
  step-none : {natives : NativeAnswers} (o m : ℕ) (arguments : List Value) (x : Step) (rest : List Step) (below : List Activation) → s.stack ≡ Body o m arguments (x ∷ rest) ∷ below → IsStuck p natives s → BodyStands p s.objects o arguments (x ∷ rest) → ((t : State) → ¬ StepRule p natives s o m arguments x rest below t) → operation_of_step s.objects o arguments x ≡ None
  step-none {natives} o m arguments x rest below e halts body stuck = by_found (operation_of_step s.objects o arguments x) refl
    where
      by_found : (found : Option Operation) → operation_of_step s.objects o arguments x ≡ found → operation_of_step s.objects o arguments x ≡ None
      by_found None is = is
      by_found (Some d) is =
          let next : (k : Operation) → d ≡ k → DoesNext s k = λ k same. does-next s e (is ∙ ap (λ (k : Operation). Some k) same) in
          absurd (possible-goes natives o m arguments rest below body.declaring body.types d (possible sound up.sound.agree.typed body d is)
          (λ what same. halts.lacks what (next (Write what) same)) (λ effects same. halts.asks_none effects (next (TakeAnswer effects) same))
          (λ t does. stuck t (record { what = d; is = is; does = does })))

  -- .. so it is a statement that lacks a value
  step-lacks : {natives : NativeAnswers} (o m : ℕ) (arguments : List Value) (x : Step) (rest : List Step) (below : List Activation) → s.stack ≡ Body o m arguments (x ∷ rest) ∷ below → IsStuck p natives s → BodyStands p s.objects o arguments (x ∷ rest) → ((t : State) → ¬ StepRule p natives s o m arguments x rest below t) → LacksValue s
  step-lacks o m arguments (Run x) rest below e halts body stuck =
      lacks-value s e (step-none o m arguments (Run x) rest below e halts body stuck)
  step-lacks o m arguments (Ask effects) rest below e halts body stuck = absurd (cc (step-none o m arguments (Ask effects) rest below e halts body stuck))
  step-lacks o m arguments (Act effects it) rest below e halts body stuck = absurd (acts body (step-none o m arguments (Act effects it) rest below e halts body stuck))

  -- an emission has a next rule
  emission-goes : (o g : ℕ) (arguments : List Value) (last : ℕ) (below : List Activation) (found : Option Connection) → ((c : Connection) → found ≡ Some c → IsDelivered p s.objects c arguments) → ((t : State) → ¬ EmitRule p s o g arguments last below t found) → ⊥
  emission-goes o g arguments last below None delivers stuck = stuck _ refl
  emission-goes o g arguments last below (Some c) delivers stuck =
      let d = delivers c refl in
      let home : ℕ = d.is.life.home in
      let lives : home_of s.objects c.receiver ≡ Some home = ap (λ (there : Option Life). option_map (λ (l : Life). l.home) there) (life-of-lives d.is.lives) in
      let named = loop-named s.queues.loops home (up.sound.housed.each c.receiver home lives) in
      arrives-somehow (with_used s c) (Emit o g arguments c.number last ∷ below) home c.receiver d.receiver c.method d.method (take (length d.method.types) arguments) (reaches_at_once c.kind home (running s.turn)) named
      (λ t r. stuck t (record { receiver = d.receiver; method = d.method; is = d.is; home = home; lives_in = lives; arrives = r }))

  -- a call that waits begins, if its object lives
  delivers-goes : (queues : Queues) (item : Item) → Waits p s.objects item → ((t : State) → ¬ Delivers p (record s { queues = queues }) t item) → ⊥
  delivers-goes queues (Call o m arguments) waits none = by_life (life_of s.objects o) refl none
    where
      by_life : (life : Option Life) → life_of s.objects o ≡ life → ((t : State) → ¬ BeginsIf p (record s { queues = queues }) o m arguments t life) → ⊥
      by_life None is stays = stays _ refl
      by_life (Some l) is stays =
          let there = lives-of-life s.objects o l is in
          let declared = waits.takes.living there.0 l there.1 in
          stays _ (record { object = there.0; method = declared.method; is = record { life = l; lives = there.1; is_method = declared.is }; gives = refl })
  delivers-goes queues (Deletion o) waits none = none _ refl

  -- .. and so has a turn
  turn-goes : (turn : Turn) (first : Option Posted) → ((q : Posted) → first ≡ Some q → Waits p s.objects q.item) → ((t : State) → ¬ Serves p s t turn first) → ⊥
  turn-goes turn None waits stuck = stuck _ refl
  turn-goes turn (Some q) waits stuck = delivers-goes (taken_before turn.home turn.limit s.queues) q.item (waits q refl) stuck

  -- .. and so has an update
  update-goes : (below : List Activation) (places : List Place) → AllByRecursion (MayNotify p s.objects) places → ((t : State) → ¬ UpdateRule p s below t places) → ⊥
  update-goes below [] all stuck = stuck _ refl
  update-goes below (place ∷ places) all stuck = by_life (life_of s.objects place.object) refl stuck
    where
      by_life : (life : Option Life) → life_of s.objects place.object ≡ life → ((t : State) → ¬ NotifiesIf p s (Update places ∷ below) place t life) → ⊥
      by_life None is stays = stays _ refl
      by_life (Some l) is stays =
          let there = lives-of-life s.objects place.object l is in
          let n = all.0.living there.0 l there.1 in
          let by = n.is in
          let field : IsField p s.objects place.object place.property there.0 by.property = record { life = l; lives = there.1; class = by.object; is_class = by.is_class; is_property = by.is } in
          let present = old-there field up.sound.agree.typed in
          stays _ (record {
            object = there.0;
            property = by.property;
            is = field;
            signal = n.signal;
            is_signal = by.is_signal;
            present = present.0;
            is_present = present.1;
            method = by.sound.signal;
            is_method = record { class = by.object; is_class = by.is_class; is = by.sound.is };
            gives = refl;
          })

  stack-lacks : {natives : NativeAnswers} (stack : List Activation) → s.stack ≡ stack → IsStuck p natives s → AllByRecursion (Stands p s.objects) stack → AllFit p s.objects stack → AllHeard s.objects s.connected.connections nobody stack → ((t : State) → ¬ RuleAt p natives s t stack) → LacksValue s
  stack-lacks [] e halts all fit heard stuck = by_turn s.turn refl stuck
    where
      by_turn : (found : Option Turn) → s.turn ≡ found → ((t : State) → ¬ TurnRule p s t found) → LacksValue s
      by_turn None none stays = absurd (halts.goes_on (record { empty = e; no_turn = none }))
      by_turn (Some turn) is stays = absurd (turn-goes turn (find (is_before turn.limit) (items_at s.queues.loops turn.home)) (λ q found. first-waits p s.objects s.queues.loops turn.home turn.limit q up.sound.waiting found) stays)
  stack-lacks (Body o m arguments [] ∷ below) e halts all fit heard stuck = absurd (stuck _ refl)
  stack-lacks (Body o m arguments (x ∷ rest) ∷ below) e halts all fit heard stuck = step-lacks o m arguments x rest below e halts all.0 (λ t r. stuck t (step-rule p _ s o m arguments x rest below t r))
  stack-lacks (Emit o g arguments used last ∷ below) e halts all fit heard stuck =
      absurd (emission-goes o g arguments last below (next_used s.objects s.connected.connections o g used last) (λ c found. next-delivered s.connected.connections o g used last c up.sound.joined fit.0 (may-be-heard s.objects s.connected.connections o g heard.0) found) stuck)
  stack-lacks (Update places ∷ below) e halts all fit heard stuck = absurd (update-goes below places all.0 stuck)
  stack-lacks (Destroy next torn ∷ below) e halts all fit heard stuck = absurd (destroy-somehow s below next torn stuck)

  -- what goes on without a next rule lacks a value
  pub stuck-lacks : {natives : NativeAnswers} → IsStuck p natives s → LacksValue s
  stuck-lacks x = stack-lacks s.stack refl x up.stands up.emitted up.heard x.stuck

  -- why rules stop is why the run does, whatever events are left
  pub cause-of : (natives : NativeAnswers) (d left : ℕ) (es : List Event) (f : Fault) → RulesStop p natives d s left f → StopsFor p natives d s left es f
  cause-of natives d left es BadType r =
      elim r.1 [
        | inl stuck ↦ brings r.0 (lacks_value (stuck-lacks stuck))
        | inr wrong ↦ elim wrong [
          | inl write ↦ brings r.0 (writes_ill write)
          | inr goes ↦ brings r.0 (goes_ill (record { t = goes.t; follows = by_rule goes.follows; acyclic = goes.acyclic; ill = goes.ill }))
        ]
      ]
  cause-of natives d left es TooDeep r =
      elim r.1 [
        | inl write ↦ brings r.0 (writes_deep write)
        | inr deep ↦ brings r.0 (goes_deep (record { t = deep.t; follows = by_rule deep.follows; well = deep.well; spared = deep.spared; acyclic = deep.acyclic; fits = deep.fits; deep = deep.deep }))
      ]
  cause-of natives d left es InUse r =
      let fatal = r.1 in
      brings r.0 (goes_fatal (record { t = fatal.t; follows = by_rule fatal.follows; well = fatal.well; fatal = fatal.fatal }))
  cause-of natives d left es Steps r = spent r.0 (goes_on r.1)
  cause-of natives d left es Memory r = short r.0 (goes_on r.1)
  cause-of natives d left es BindingLoop r = absurd r
  cause-of natives d left es Stopped r = absurd r
