-- From one state at most one follows by a rule.
use Rattle.std.{proofs.Common.{◌≡◌, ℕ, suc, List, [], ◌∷◌, ◌++◌, length, take, Option, Some, None, Result, sym, ap, ◌∙◌, subst, Bool, true, false}, specs.List.{find}}
use Rattle.basic_types.specs.{declared.value.Value.{Value}, declared.sig.Sig.{Sig}}
use Rattle.meta_model.specs.{declared.object.MetaMethod.{MetaMethod}, declared.object.MetaProperty.{MetaProperty}, declared.object.Work.TheVariants.{Signal}, Loaded.{Loaded}, Members.{IsMethod}}
use Rattle.object_tree.specs.{declared.life.Life.{Life}, declared.object.Object.{Object}, Objects.{life_of}}
use Rattle.event_loops.specs.{declared.item.Item.{Item}, declared.item.Item.TheVariants.{Call, Deletion}, declared.item.Posted.{Posted}, Queues.{items_at, is_before, taken_before}}
use Rattle.connections.specs.{declared.connection.Connection.{Connection}, Connected.{Connected}}
use Rattle.trace_entries.specs.{declared.entry.Entry.{Entry}, declared.refusal.Refusal.{Refusal}}
use Rattle.machine_state.{specs.declared.changes.telling.Cause.TheVariants.{Bind}, specs.Telling.{AreTold, Assigning, IsAssigningTold, writes_of}, proofs.Told.{assigning-once, told-once}, specs.Connections.{is_living, next_used}, specs.declared.turn.Turn.{Turn}, specs.Turns.{running, reaches_at_once}, specs.State.{Step, State, Activation, Body, Emit, Update, Destroy}, specs.declared.endpoints.Endpoints.{Endpoints}, specs.Worlds.{store_of, with_store}}
use Rattle.binding_graph.specs.{declared.binding.Binding.{Binding}, Bindings.{binding_at, without_all, replaced, Loop}, declared.place.Place.{Place}}
use Rattle.prop_bindings.{specs.Changes.{places_in}, specs.Fits.{Agree}, proofs.Once.{written_once, installed_once}}
use Rattle.syntax_trees.specs.{declared.connection.ConnectionType.{ConnectionType}, declared.connection.Endpoints.{Endpoints as Named}}
use Rattle.machine_rules.{specs.declared.ends.FoundEnds.{FoundEnds}, specs.Connecting.{AreThere, kept_ends, names_of, found_ends, may_connect}, specs.Judgement.{HasOneAnswer}, proofs.Doing.{step-of}, proofs.OneAnswer.{one-check, one-then}, specs.Destroying.{Dies, died, NextRule, ChildRule, DestroyRule, living_child, Schedules}, specs.Operations.{Operation, Write, Begin, Choose, Connect, Disconnect, Delete, Schedule, TakeAnswer, Nothing}, specs.Rules.{Rule, RuleAt, BodyRule, Does, EmitRule, Uses, UpdateRule, Notifies, NotifiesIf, Begins, BeginsIf, begun, with_used, Connects, Disconnects, linked, unlinked, Arrives, posted, TurnRule, Serves, Delivers}, specs.Settling.{Settles, Writes, Installs, notified}, proofs.Answering.{answers-one}, proofs.Fields.{some-is, life-unique, method-unique, member-object, member-method, field-property}, specs.Natives.{NativeAnswers, AnswersOnce}, proofs.Scheduling.{told-one}}
use Rattle.delete_later.specs.Scheduling.{scheduled_with}

-- two methods of one number of one life's class
method-is : {p : Loaded} {x y : Life} {m n : ℕ} {a b : MetaMethod} → x ≡ y → m ≡ n → IsMethod p x.class m a → IsMethod p y.class n b → a ≡ b
method-is {p} {x} {y} {m} {n} {a} {b} life_is number_is f g =
    let At : Life → Type 0 = λ z. IsMethod p z.class n b in
    let Numbered : ℕ → Type 0 = λ k. IsMethod p x.class k b in
    method-unique f (subst Numbered (sym number_is) (subst At (sym life_is) g))

pub begins-one : {p : Loaded} {s t u : State} {below : List Activation} {o m : ℕ} {arguments : List Value} → Begins p s below o m arguments t → Begins p s below o m arguments u → t ≡ u
begins-one {s = s} {below = below} {o = o} {m = m} {arguments = arguments} a b =
    let object_is : a.object ≡ b.object = member-object a.is b.is in
    let method_is : a.method ≡ b.method = member-method a.is b.is in
    a.gives
    ∙ ap (λ (x : Object). begun s below o x m a.method arguments a.method.work) object_is
    ∙ ap (λ (k : MetaMethod). begun s below o b.object m k arguments k.work) method_is
    ∙ sym b.gives

-- what changes is written down in one way, where each list of lines that tells of it is one
settles-one : {p : Loaded} {s t u : State} {below : List Activation} {bindings : List Binding} {objects others : List Object} {changed more : List Place} (Tells : List Object → List Place → List Entry → Type 0) →
    ((xs : List Object) (places : List Place) (k l : List Entry) → Tells xs places k → Tells xs places l → k ≡ l) →
    objects ≡ others → changed ≡ more → Settles p s below (Tells objects changed) objects bindings changed t → Settles p s below (Tells others more) others bindings more u → t ≡ u
settles-one {p} {s} {below = below} {bindings} {objects} {others} {changed} {more} Tells once objects_are changed_are a b =
    let told : Tells objects changed b.lines = subst (λ (xs : List Object). Tells xs changed b.lines) (sym objects_are) (subst (λ (places : List Place). Tells others places b.lines) (sym changed_are) b.told) in
    let lines_are : a.lines ≡ b.lines = once objects changed a.lines b.lines a.told told in
    let state_of : List Object → List Place → List Entry → State = λ xs places lines.
    record s { objects = xs; bindings = bindings; stack = Update (notified p xs places) ∷ below; trace = s.trace ++ lines } in
    a.gives
    ∙ ap (λ (xs : List Object). state_of xs changed a.lines) objects_are
    ∙ ap (λ (places : List Place). state_of others places a.lines) changed_are
    ∙ ap (λ (lines : List Entry). state_of others more lines) lines_are
    ∙ sym b.gives

pub writes-one : {p : Loaded} {s t u : State} {below : List Activation} {what : Assigning} → Agree p s.objects s.bindings → Writes p s below what t → Writes p s below what u → t ≡ u
writes-one {p} {s} {below = below} {what = what} agree a b =
    let cs : List Binding = without_all (places_in (writes_of what)) s.bindings in
    let same = written_once p s.bindings s.objects (writes_of what) agree cs cs a.objects b.objects a.changed b.changed a.written b.written in
    settles-one (λ xs places lines. IsAssigningTold p xs (suc (length below)) what places lines) (λ xs places k l. assigning-once p xs (suc (length below)) what places k l) same.1 same.2 a.settles b.settles

-- .. and so it is with a binding that is installed, unless it closes a chain
pub installs-one : {p : Loaded} {s t u : State} {below : List Activation} {b : Binding} → Agree p s.objects s.bindings → (¬ Loop (binding_at (replaced s.bindings b))) → Installs p s below b t → Installs p s below b u → t ≡ u
installs-one {p} {s} {below = below} {b = b} agree acyclic x y =
    let cs : List Binding = replaced s.bindings b in
    let same = installed_once p s.bindings s.objects b agree acyclic cs cs x.objects y.objects x.changed y.changed x.installed y.installed in
    settles-one (λ xs places lines. AreTold p xs (suc (length below)) Bind b.target places lines) (λ xs places k l. told-once p xs (suc (length below)) Bind b.target places k l) same.1 same.2 x.settles y.settles

-- the names at two ends
names-one : {p : Loaded} {objects : List Object} {ends : Endpoints} (a b : AreThere p objects ends) → names_of a ≡ names_of b
names-one a b =
    let names : Object → MetaMethod → Object → MetaMethod → Named (List ℕ) = λ x g y m. record { sender = x.name; signal = g.sig; receiver = y.name; method = m.sig } in
    ap (λ (x : Object). names x a.signal a.receiver a.method) (member-object a.sends b.sends)
    ∙ ap (λ (g : MetaMethod). names b.sender g a.receiver a.method) (member-method a.sends b.sends)
    ∙ ap (λ (y : Object). names b.sender b.signal y a.method) (member-object a.receives b.receives)
    ∙ ap (λ (m : MetaMethod). names b.sender b.signal b.receiver m) (member-method a.receives b.receives)

-- .. between which a connection may be made, or not
pub may-connect-one : (p : Loaded) (connected : Connected) (found : FoundEnds) (signal method : Sig) (how : ConnectionType) → HasOneAnswer (may_connect p connected found signal method how)
may-connect-one p connected found signal method how = one-then one-check (λ _. one-then one-check (λ _. one-check))

connects-one : {p : Loaded} {s t u : State} {stack : List Activation} {ends : Endpoints} {how : ConnectionType} → Connects p s stack ends how t → Connects p s stack ends how u → t ≡ u
connects-one {p} {s} {stack = stack} {ends = ends} {how = how} a b =
    let Judged : Life → Life → MetaMethod → MetaMethod → Type 0 = λ k l g m. may_connect p s.connected (record { from = k.class; to = l.class; ends = kept_ends ends }) g.sig m.sig how b.answer in
    let from = b.spelled.sends.life in
    let to = b.spelled.receives.life in
    let judged : Judged a.spelled.sends.life a.spelled.receives.life a.spelled.signal a.spelled.method =
    subst (λ (k : Life). Judged k a.spelled.receives.life a.spelled.signal a.spelled.method) (life-unique b.spelled.sends.lives a.spelled.sends.lives)
    (subst (λ (l : Life). Judged from l a.spelled.signal a.spelled.method) (life-unique b.spelled.receives.lives a.spelled.receives.lives)
    (subst (λ (g : MetaMethod). Judged from to g a.spelled.method) (member-method b.spelled.sends a.spelled.sends)
    (subst (λ (m : MetaMethod). Judged from to b.spelled.signal m) (member-method b.spelled.receives a.spelled.receives) b.judged))) in
    let answer_is : a.answer ≡ b.answer = may-connect-one p s.connected (found_ends a.spelled) a.spelled.signal.sig a.spelled.method.sig how a.answer b.answer a.judged judged in
    a.gives
    ∙ ap (λ (r : Result (Unit {0}) Refusal). linked s stack (kept_ends ends) how (names_of a.kept) r) answer_is
    ∙ ap (λ (n : Named (List ℕ)). linked s stack (kept_ends ends) how n b.answer) (names-one a.kept b.kept)
    ∙ sym b.gives

disconnects-one : {p : Loaded} {s t u : State} {stack : List Activation} {ends : Endpoints} → Disconnects p s stack ends t → Disconnects p s stack ends u → t ≡ u
disconnects-one {p} {s} {stack = stack} {ends = ends} a b =
    a.gives
    ∙ ap (λ (r : Result (Unit {0}) Refusal). unlinked s stack (kept_ends ends) (names_of a.kept) r) (one-check a.answer b.answer a.judged b.judged)
    ∙ ap (λ (n : Named (List ℕ)). unlinked s stack (kept_ends ends) n b.answer) (names-one a.kept b.kept)
    ∙ sym b.gives

-- ---- objects that are deleted

dies-one : {s t u : State} {stack : List Activation} {x : ℕ} → Dies s stack x t → Dies s stack x u → t ≡ u
dies-one {s} {stack = stack} {x = x} a b = a.gives ∙ ap (λ (name : List ℕ). died s stack x name) (some-is a.named b.named) ∙ sym b.gives

destroy-one : (s : State) (below : List Activation) (t u : State) (next : Option ℕ) (torn : List ℕ) → DestroyRule s below t next torn → DestroyRule s below u next torn → t ≡ u
destroy-one s below t u (Some x) torn a b = by_life (is_living s.objects x) a b
  where
    by_life : (n : Bool) → NextRule s below t x torn n → NextRule s below u x torn n → t ≡ u
    by_life true a b = dies-one a b
    by_life false a b = a ∙ sym b
destroy-one s below t u None [] a b = a ∙ sym b
destroy-one s below t u None (parent ∷ torn) a b = by_child (living_child s parent) a b
  where
    by_child : (child : Option ℕ) → ChildRule s below t parent torn child → ChildRule s below u parent torn child → t ≡ u
    by_child (Some x) a b = dies-one a b
    by_child None a b = a ∙ sym b

pub schedules-one : (s t u : State) (stack : List Activation) (x : ℕ) (life : Option Life) → Schedules s stack x t life → Schedules s stack x u life → t ≡ u
schedules-one s t u stack x life a b =
    let state_of : List Entry → State = λ lines. record (with_store s (scheduled_with life x (store_of s))) { stack = stack; trace = s.trace ++ lines } in
    a.gives ∙ (ap state_of (told-one a.told b.told) ∙ sym b.gives)

-- ---- bodies

pub does-one : (p : Loaded) (natives : NativeAnswers) → AnswersOnce natives → (s : State) (o m : ℕ) (arguments : List Value) (rest : List Step) (below : List Activation) (d : Operation) (t u : State) → Agree p s.objects s.bindings → Does p natives s o m arguments rest below d t → Does p natives s o m arguments rest below d u → t ≡ u
does-one p natives once s o m arguments rest below (Write what) t u agree a b = writes-one agree a b
does-one p natives once s o m arguments rest below (Begin x n given) t u agree a b = begins-one a b
does-one p natives once s o m arguments rest below (Choose block) t u agree a b = a ∙ sym b
does-one p natives once s o m arguments rest below (Connect ends how) t u agree a b = connects-one a b
does-one p natives once s o m arguments rest below (Disconnect ends) t u agree a b = disconnects-one a b
does-one p natives once s o m arguments rest below (Delete x) t u agree a b = a ∙ sym b
does-one p natives once s o m arguments rest below (Schedule x) t u agree a b = schedules-one s t u (Body o m arguments rest ∷ below) x (life_of s.objects x) a b
does-one p natives once s o m arguments rest below (TakeAnswer effects) t u agree a b = answers-one once a b
does-one p natives once s o m arguments rest below Nothing t u agree a b = a ∙ sym b

body-one : (p : Loaded) (natives : NativeAnswers) → AnswersOnce natives → (s : State) (o m : ℕ) (arguments : List Value) (below : List Activation) (t u : State) (left : List Step) → Agree p s.objects s.bindings → BodyRule p natives s o m arguments below t left → BodyRule p natives s o m arguments below u left → t ≡ u
body-one p natives once s o m arguments below t u [] agree a b = a ∙ sym b
body-one p natives once s o m arguments below t u (x ∷ rest) agree first other =
    let a = step-of p natives s o m arguments x rest below t first in
    let b = step-of p natives s o m arguments x rest below u other in
    let both : Some a.what ≡ Some b.what = sym a.is ∙ b.is in
    let same : a.what ≡ b.what = cc both in
    let Done : Operation → Type 0 = λ d. Does p natives s o m arguments rest below d u in
    does-one p natives once s o m arguments rest below a.what t u agree a.does (subst Done (sym same) b.does)

arrives-one : {t u : State} (s : State) (stack : List Activation) (home o : ℕ) (x : Object) (m : ℕ) (method : MetaMethod) (arguments : List Value) (b : Bool) → Arrives s stack home o x m method arguments t b → Arrives s stack home o x m method arguments u b → t ≡ u
arrives-one s stack home o x m method arguments true a b = a ∙ sym b
arrives-one s stack home o x m method arguments false a b =
    let both : Some a.name ≡ Some b.name = sym a.is_loop ∙ b.is_loop in
    let name_is : a.name ≡ b.name = cc both in
    a.gives ∙ ap (λ (name : List ℕ). posted s stack name home o x m method arguments) name_is ∙ sym b.gives

uses-one : {p : Loaded} {s t u : State} {below : List Activation} {c : Connection} {arguments : List Value} → Uses p s below c arguments t → Uses p s below c arguments u → t ≡ u
uses-one {s = s} {u = u} {below = below} {c = c} {arguments = arguments} a b =
    let receiver_is : a.receiver ≡ b.receiver = member-object a.is b.is in
    let method_is : a.method ≡ b.method = member-method a.is b.is in
    let homes : Some a.home ≡ Some b.home = sym a.lives_in ∙ b.lives_in in
    let home_is : a.home ≡ b.home = cc homes in
    let Arrive : ℕ → Object → MetaMethod → Type 0 = λ home x k. Arrives (with_used s c) below home c.receiver x c.method k (take (length k.types) arguments) u (reaches_at_once c.kind home (running s.turn)) in
    let with_home : Arrive a.home b.receiver b.method = subst (λ (home : ℕ). Arrive home b.receiver b.method) (sym home_is) b.arrives in
    let with_receiver : Arrive a.home a.receiver b.method = subst (λ (x : Object). Arrive a.home x b.method) (sym receiver_is) with_home in
    let with_all : Arrive a.home a.receiver a.method = subst (λ (k : MetaMethod). Arrive a.home a.receiver k) (sym method_is) with_receiver in
    arrives-one (with_used s c) below a.home c.receiver a.receiver c.method a.method (take (length a.method.types) arguments) (reaches_at_once c.kind a.home (running s.turn)) a.arrives with_all

emit-one : (p : Loaded) (s : State) (o g : ℕ) (arguments : List Value) (last : ℕ) (below : List Activation) (t u : State) (found : Option Connection) → EmitRule p s o g arguments last below t found → EmitRule p s o g arguments last below u found → t ≡ u
emit-one p s o g arguments last below t u None a b = a ∙ sym b
emit-one p s o g arguments last below t u (Some c) a b = uses-one a b

notifies-one : {p : Loaded} {s t u : State} {below : List Activation} {place : Place} → Notifies p s below place t → Notifies p s below place u → t ≡ u
notifies-one {s = s} {below = below} {place = place} a b =
    let object_is : a.object ≡ b.object = some-is a.is.lives.is b.is.lives.is in
    let property_is : a.property ≡ b.property = field-property a.is b.is in
    let both : Some a.signal ≡ Some b.signal = sym a.is_signal ∙ ap (λ (k : MetaProperty). k.notify) property_is ∙ b.is_signal in
    let signal_is : a.signal ≡ b.signal = cc both in
    let present_is : a.present ≡ b.present = some-is a.is_present b.is_present in
    let method_is : a.method ≡ b.method = method-is (life-unique a.is.lives b.is.lives) signal_is a.is_method b.is_method in
    let state_of : Object → ℕ → Value → MetaMethod → State = λ x g v k. begun s below place.object x g k (take (length k.types) (v ∷ [])) Signal in
    a.gives
    ∙ ap (λ (x : Object). state_of x a.signal a.present a.method) object_is
    ∙ ap (λ (g : ℕ). state_of b.object g a.present a.method) signal_is
    ∙ ap (λ (v : Value). state_of b.object b.signal v a.method) present_is
    ∙ ap (λ (k : MetaMethod). state_of b.object b.signal b.present k) method_is
    ∙ sym b.gives

update-one : (p : Loaded) (s : State) (below : List Activation) (t u : State) (places : List Place) → UpdateRule p s below t places → UpdateRule p s below u places → t ≡ u
update-one p s below t u [] a b = a ∙ sym b
update-one p s below t u (place ∷ places) a b = by_life (life_of s.objects place.object) a b
  where
    by_life : (life : Option Life) → NotifiesIf p s (Update places ∷ below) place t life → NotifiesIf p s (Update places ∷ below) place u life → t ≡ u
    by_life None a b = a ∙ sym b
    by_life (Some l) a b = notifies-one a b

delivers-one : (p : Loaded) (s t u : State) (item : Item) → Delivers p s t item → Delivers p s u item → t ≡ u
delivers-one p s t u (Call o m arguments) a b = by_life (life_of s.objects o) a b
  where
    by_life : (life : Option Life) → BeginsIf p s o m arguments t life → BeginsIf p s o m arguments u life → t ≡ u
    by_life None a b = a ∙ sym b
    by_life (Some l) a b = begins-one a b
delivers-one p s t u (Deletion o) a b = a ∙ sym b

serves-one : (p : Loaded) (s t u : State) (turn : Turn) (first : Option Posted) → Serves p s t turn first → Serves p s u turn first → t ≡ u
serves-one p s t u turn None a b = a ∙ sym b
serves-one p s t u turn (Some q) a b = delivers-one p (record s { queues = taken_before turn.home turn.limit s.queues }) t u q.item a b

turn-one : (p : Loaded) (s t u : State) (turn : Option Turn) → TurnRule p s t turn → TurnRule p s u turn → t ≡ u
turn-one p s t u None a b = absurd a
turn-one p s t u (Some turn) a b = serves-one p s t u turn (find (is_before turn.limit) (items_at s.queues.loops turn.home)) a b

pub stack-one : (p : Loaded) (natives : NativeAnswers) → AnswersOnce natives → (s t u : State) (stack : List Activation) → Agree p s.objects s.bindings → RuleAt p natives s t stack → RuleAt p natives s u stack → t ≡ u
stack-one p natives once s t u [] agree a b = turn-one p s t u s.turn a b
stack-one p natives once s t u (Body o m arguments left ∷ below) agree a b = body-one p natives once s o m arguments below t u left agree a b
stack-one p natives once s t u (Emit o g arguments used last ∷ below) agree a b = emit-one p s o g arguments last below t u (next_used s.objects s.connected.connections o g used last) a b
stack-one p natives once s t u (Update places ∷ below) agree a b = update-one p s below t u places a b
stack-one p natives once s t u (Destroy next torn ∷ below) agree a b = destroy-one s below t u next torn a b

pub rule-one : (p : Loaded) (natives : NativeAnswers) → AnswersOnce natives → (s t u : State) → Agree p s.objects s.bindings → Rule p natives s t → Rule p natives s u → t ≡ u
rule-one p natives once s t u agree a b = stack-one p natives once s t u s.stack agree a b
