-- What each rule leaves as it was.
use Rattle.machine_state.{specs.Telling.{Assigning}, specs.declared.world.World.{World}, specs.Worlds.{at}, proofs.Due.{last-used, all-used, all-removed}, specs.State.{Step, State, Activation, Body, Emit, Update, Destroy}, specs.Connections.{is_living, next_used, joins_these}, specs.declared.turn.Turn.{Turn}, specs.Turns.{running, reaches_at_once}, specs.declared.endpoints.Endpoints.{Endpoints}}
use Rattle.std.{proofs.Common.{◌≡◌, ◌⊎◌, inl, inr, ℕ, suc, ◌+◌, List, [], ◌∷◌, ◌++◌, Option, Some, None, refl, sym, ap, ◌∙◌, subst, arith, Result, Ok, Err, append_assoc, append-nil, ◌<◌, ◌≤◌, Bool, true, false, length, map}, specs.List.{AllByRecursion, find}, specs.Option.{option_map}}
use Rattle.basic_types.specs.{declared.value.Value.{Value}, Types.{Fits}}
use Rattle.meta_model.specs.{Loaded.{Loaded}, declared.object.Work.{Work}, declared.object.Work.TheVariants.{Signal, Slot, Native}, declared.object.MetaMethod.{MetaMethod}, declared.object.ValueType.{ValueType}, Sound.{IsSound}}
use Rattle.event_loops.specs.{declared.item.Item.{Item}, declared.item.Item.TheVariants.{Call, Deletion}, declared.item.Posted.{Posted}, Queues.{Loop, Queues, items_at, is_before, posted_to, taken_before, dropped, without_object}}
use Rattle.object_tree.{specs.declared.life.Life.{Life}, specs.declared.object.Object.{Object}, specs.Objects.{Lives, life_of, class_of, change_life, scheduled}, specs.Family.{without_life}, proofs.Changing.{life-of-lives, lives-of-life}, specs.Typed.{ReadAs}, proofs.TypedObjects.{Follow, read-still}}
use Rattle.connections.specs.{declared.connection.Connection.{Connection}, Connected.{touches}}
use Rattle.binding_graph.specs.{declared.place.Place.{Place}, declared.binding.Binding.{Binding}}
use Rattle.machine_rules.{specs.Destroying.{Dies, forgotten, NextRule, ChildRule, DestroyRule, living_child, Schedules}, specs.Rules.{RuleAt, BodyRule, Does, EmitRule, UpdateRule, NotifiesIf, Begins, BeginsIf, begun, with_used, linked, unlinked, TurnRule, Serves, Delivers, Arrives}, specs.Operations.{Operation, Write, Begin, Choose, Connect, Disconnect, Delete, Schedule, TakeAnswer, Nothing}, proofs.Doing.{step-of}, proofs.Waiting.{length-change, housed-same, home-change}, specs.There.{IsMember, IsDead}, specs.Connecting.{AreThere, kept_ends, named_signal, names_of, found_ends, may_connect}, specs.Judgement.{goes_on, holds}, proofs.Fitting.{types-fit}, proofs.Lists.{all-snoc}, proofs.Declared.{member-takes, member-sends}, proofs.Dying.{lives-or-dead, lives-not-dead, died-stay, died-home, scheduled-stay}, specs.code.Going.{GoodRules, done, then}, specs.code.Sound.{IsDeclared, Receives, Sends, Joined, AgreeIn}, specs.Reaches.{Reaches}, specs.Settling.{Settles, Writes, Installs}, proofs.Agreeing.{rules-settled}, proofs.Differing.{differ-stay, differ-home}, specs.code.Keeps.{StayThere, AllJoined, Grows, Keeps, KeepsWorld}, specs.Natives.{NativeAnswers}, specs.Good.{whose, shows}, proofs.Scheduling.{deferred, schedule-cases}}
use Rattle.trace_entries.specs.{declared.entry.Entry.{Entry}, declared.refusal.Refusal.{Refusal}}
use Rattle.syntax_trees.specs.{declared.connection.ConnectionType.{ConnectionType}, declared.connection.Endpoints.{Endpoints as Named}}
use Rattle.prop_bindings.specs.Changes.{DifferInValues}

-- ---- objects that stay

-- an object of a class lives
pub lives-of-class : (objects : List Object) (o class : ℕ) → class_of objects o ≡ Some class → (x : Object) × (l : Life) × Lives objects o x l × (l.class ≡ class)
lives-of-class objects o class e = by_life (life_of objects o) refl e
  where
    by_life : (there : Option Life) → life_of objects o ≡ there → option_map (λ (l : Life). l.class) there ≡ Some class → (x : Object) × (l : Life) × Lives objects o x l × (l.class ≡ class)
    by_life None is f = absurd (cc f)
    by_life (Some l) is f = let there = lives-of-life objects o l is in (there.0, l, there.1, cc f)

-- .. and a living object has a class
pub class-of-lives : (objects : List Object) (o : ℕ) {x : Object} {l : Life} → Lives objects o x l → class_of objects o ≡ Some l.class
class-of-lives objects o lives = ap (option_map (λ (l : Life). l.class)) (life-of-lives lives)

-- what lives of what was created lived before, of its class
pub lived : (old new : List Object) (o : ℕ) {x : Object} {l : Life} → StayThere old new → o < length old → Lives new o x l → (y : Object) × (k : Life) × Lives old o y k × (k.class ≡ l.class)
lived old new o {x} {l} stay created lives = elim (lives-or-dead old o created) [
  | inl before ↦
      let now : (class_of new o ≡ Some before.1.class) ⊎ IsDead new o = stay.living o before.1.class (class-of-lives old o before.2) in
      elim now [
        | inl same ↦ let classes : Some before.1.class ≡ Some l.class = sym same ∙ class-of-lives new o lives in (before.0, before.1, before.2, cc classes)
        | inr gone ↦ absurd (lives-not-dead lives gone)
      ]
  | inr gone ↦ absurd (lives-not-dead lives (stay.dead o gone))
]

-- a living object lives on, of its class, unless it died
pub lives-on : (old new : List Object) (o : ℕ) {x : Object} {l : Life} → StayThere old new → (¬ IsDead new o) → Lives old o x l → (y : Object) × (k : Life) × Lives new o y k × (k.class ≡ l.class)
lives-on old new o {x} {l} stay spared lives = elim (stay.living o l.class (class-of-lives old o lives)) [
  | inl same ↦ lives-of-class new o l.class same
  | inr gone ↦ absurd (spared gone)
]

-- what a method takes it takes still
pub takes-still : {p : Loaded} {old new : List Object} {o m : ℕ} {types : List ValueType} → StayThere old new → Receives p old o m types → Receives p new o m types
takes-still {p} {old} {new} {o} {m} {types} stay takes =
    let Declared : ℕ → Type 0 = λ k. IsDeclared p k m types in
    record {
      created = omega (arith, takes.created, stay.created);
      living = λ x l lives. let before = lived old new o stay takes.created lives in subst Declared before.3 (takes.living before.0 before.1 before.2);
    }

pub sends-still : {p : Loaded} {old new : List Object} {o g : ℕ} {types : List ValueType} → StayThere old new → Sends p old o g types → Sends p new o g types
sends-still stay sends = record { takes = takes-still stay sends.takes; last = sends.last }

-- what reads as a type does so still
follow-stay : {old new : List Object} → StayThere old new → Follow old new
follow-stay stay = record { stays = stay.living; rests = stay.dead }

pub values-stay : (p : Loaded) {old new : List Object} → StayThere old new → (vs : List Value) (Ts : List ValueType) → ReadAs p old vs Ts → ReadAs p new vs Ts
values-stay p {old} {new} stay vs Ts have = read-still p old new (follow-stay stay) vs Ts have

pub all-stay : (objects : List Object) → StayThere objects objects
all-stay objects = record { living = λ o class is. inl is; dead = λ o is. is; created = omega arith }

pub stay-then : {a b c : List Object} → StayThere a b → StayThere b c → StayThere a c
stay-then {a} {b} {c} x y = record {
  living = λ o class is. elim (x.living o class is) [
    | inl still ↦ y.living o class still
    | inr gone ↦ inr (y.dead o gone)
  ];
  dead = λ o is. y.dead o (x.dead o is);
  created = omega (arith, x.created, y.created);
}

-- ---- connections join what they joined

joined-still : {p : Loaded} {old new : List Object} (c : Connection) → StayThere old new → Joined p old c → Joined p new c
joined-still c stay j = record { types = j.types; rest = j.rest; sends = sends-still stay j.sends; receives = takes-still stay j.receives }

pub all-joined-still : (p : Loaded) (old new : List Object) (connections : List Connection) → StayThere old new → AllJoined p old connections → AllJoined p new connections
all-joined-still p old new [] stay all = tt
all-joined-still p old new (c ∷ cs) stay all = (joined-still c stay all.0, all-joined-still p old new cs stay all.1)

-- what is connected joins what is named
pub joined-by : {p : Loaded} {objects : List Object} {ends : Endpoints} (how : ConnectionType) (n : ℕ) (spelled : AreThere p objects ends) → IsSound p → Fits spelled.signal.sig spelled.method.sig →
    Joined p objects (record { number = n; sender = ends.sender; signal = named_signal ends.signal; receiver = ends.receiver; method = ends.method; kind = how.kind; single = how.single })
joined-by {p} {objects} {ends} how n spelled program fits =
    let front = types-fit program spelled.sends.is_method spelled.receives.is_method fits in
    let kept : IsMember p objects ends.sender (named_signal ends.signal) spelled.sender front.0 = record { life = spelled.sends.life; lives = spelled.sends.lives; is_method = front.1 } in
    record {
      types = spelled.method.types;
      rest = front.2.0;
      sends = subst (λ (types : List ValueType). Sends p objects ends.sender (named_signal ends.signal) types) front.2.1 (member-sends program kept);
      receives = member-takes spelled.receives;
    }

-- ---- what was written down

pub grows-by : {old : List Entry} (more : List Entry) → Grows old (old ++ more)
grows-by more = record { more = more; is = refl }

pub grows-same : (old : List Entry) → Grows old old
grows-same old = record { more = []; is = sym (append-nil old) }

pub grows-then : {a b c : List Entry} → Grows a b → Grows b c → Grows a c
grows-then {a} x y =
    record { more = x.more ++ y.more; is = y.is ∙ ap (λ (l : List Entry). l ++ y.more) x.is ∙ append_assoc a x.more y.more }

-- ---- from state to state

pub keeps-same : {p : Loaded} {s : State} {n : ℕ} → Keeps p s n s n
keeps-same {s = s} = record { objects = all-stay _; joined = λ program all. all; connected = omega arith; paid = omega arith; housed = λ all. all; posted = omega arith; no_turn = λ e. e; events = refl; fewer = omega arith; grows = grows-same s.trace }

pub keeps-then : {p : Loaded} {s m t : State} {n j k : ℕ} → Keeps p s n m j → Keeps p m j t k → Keeps p s n t k
keeps-then x y = record {
  objects = stay-then x.objects y.objects;
  joined = λ program all. y.joined program (x.joined program all);
  connected = omega (arith, x.connected, y.connected);
  paid = omega (arith, x.paid, y.paid);
  housed = λ all. y.housed (x.housed all);
  posted = omega (arith, x.posted, y.posted);
  no_turn = λ e. y.no_turn (x.no_turn e);
  events = y.events ∙ x.events;
  fewer = omega (arith, x.fewer, y.fewer);
  grows = grows-then x.grows y.grows;
}

keeps-is : {p : Loaded} {s u t : State} {n k : ℕ} → t ≡ u → Keeps p s n u k → Keeps p s n t k
keeps-is {p} {s} {n = n} {k = k} e x = let Family : State → Type 0 = λ u. Keeps p s n u k in subst Family (sym e) x

-- ---- rules

-- objects, connections and numbers are those that they were
keeps-all : {p : Loaded} {s : State} (stack : List Activation) {trace : List Entry} → Grows s.trace trace → Keeps p s 1 (record s { stack = stack; trace = trace }) 0
keeps-all stack grows = record { objects = all-stay _; joined = λ program all. all; connected = omega arith; paid = omega arith; housed = λ all. all; posted = omega arith; no_turn = λ e. e; events = refl; fewer = omega arith; grows = grows }

-- a connection is used
used-kept : {p : Loaded} {s : State} {n : ℕ} (c : Connection) → Keeps p s n (with_used s c) n
used-kept {p = p} {s = s} c = record {
  objects = all-stay _;
  joined = λ program all. all-used (Joined p s.objects) c s.connected all;
  connected = omega (arith, last-used c s.connected);
  paid = omega (arith, last-used c s.connected);
  housed = λ all. all;
  posted = omega arith;
  no_turn = λ e. e;
  events = refl;
  fewer = omega arith;
  grows = grows-same s.trace;
}

begun-kept : (p : Loaded) (s : State) (below : List Activation) (o : ℕ) (x : Object) (m : ℕ) (method : MetaMethod) (arguments : List Value) (work : Work) (t : State) → t ≡ begun s below o x m method arguments work → Keeps p s 1 t 0
begun-kept p s below o x m method arguments Signal t e = keeps-is e (keeps-all _ (grows-by _))
begun-kept p s below o x m method arguments (Slot statements) t e = keeps-is e (keeps-all _ (grows-by _))
begun-kept p s below o x m method arguments (Native effects) t e = keeps-is e (keeps-all _ (grows-by _))

pub begins-kept : {p : Loaded} {s : State} {below : List Activation} {o m : ℕ} {arguments : List Value} {t : State} → Begins p s below o m arguments t → Keeps p s 1 t 0
begins-kept {p = p} {s = s} {below = below} {o = o} {m = m} {arguments = arguments} {t = t} x = begun-kept p s below o x.object m x.method arguments x.method.work t x.gives

-- properties change, and nothing else of the objects
settles-kept : {p : Loaded} {s : State} {below : List Activation} {Tells : List Entry → Type 0} {objects : List Object} {bindings : List Binding} {changed : List Place} {t : State} → DifferInValues s.objects objects → Settles p s below Tells objects bindings changed t → Keeps p s 1 t 0
settles-kept {p = p} {s = s} {objects = objects} differ x =
    let stay : StayThere s.objects objects = differ-stay s.objects objects differ in
    keeps-is x.gives (record {
      objects = stay;
      joined = λ program all. all-joined-still p s.objects objects s.connected.connections stay all;
      connected = omega arith;
      paid = omega arith;
      housed = housed-same s.objects objects s.queues.loops s.queues.loops (differ-home s.objects objects differ) refl;
      posted = omega arith;
      no_turn = λ e. e;
      events = refl;
      fewer = omega arith;
      grows = grows-by x.lines;
    })

pub writes-kept : {p : Loaded} {s : State} {below : List Activation} {what : Assigning} {t : State} → Writes p s below what t → Keeps p s 1 t 0
writes-kept x = settles-kept x.written.objects x.settles

pub installs-kept : {p : Loaded} {s : State} {below : List Activation} {b : Binding} {t : State} → Installs p s below b t → Keeps p s 1 t 0
installs-kept x = settles-kept x.installed.objects x.settles

-- a connection is made, or refused
linked-kept : (p : Loaded) (s : State) (stack : List Activation) (ends : Endpoints) (how : ConnectionType) (names : Named (List ℕ)) (spelled : AreThere p s.objects ends) (answer : Result (Unit {0}) Refusal) → may_connect p s.connected (found_ends spelled) spelled.signal.sig spelled.method.sig how answer → Keeps p s 1 (linked s stack (kept_ends ends) how names answer) 0
linked-kept p s stack ends how names spelled (Ok _) (goes_on _ covers (goes_on _ (holds fits) new)) = record {
  objects = all-stay _;
  joined = λ program all. all-snoc (Joined p s.objects) s.connected.connections _ all (joined-by how (s.connected.last + 1) spelled program fits);
  connected = omega arith;
  paid = omega arith;
  housed = λ all. all;
  posted = omega arith;
  no_turn = λ e. e;
  events = refl;
  fewer = omega arith;
  grows = grows-by _;
}
linked-kept p s stack ends how names spelled (Err k) judged = keeps-all stack (grows-by _)

-- .. removed, or that is refused
unlinked-kept : (p : Loaded) (s : State) (stack : List Activation) (ends : Endpoints) (names : Named (List ℕ)) (answer : Result (Unit {0}) Refusal) → Keeps p s 1 (unlinked s stack ends names answer) 0
unlinked-kept p s stack ends names (Ok _) = record {
  objects = all-stay _;
  joined = λ program all. all-removed (Joined p s.objects) (joins_these ends) s.connected all;
  connected = omega arith;
  paid = omega arith;
  housed = λ all. all;
  posted = omega arith;
  no_turn = λ e. e;
  events = refl;
  fewer = omega arith;
  grows = grows-by _;
}
unlinked-kept p s stack ends names (Err k) = keeps-all stack (grows-by _)

-- ---- objects that are deleted

-- one dies
dies-kept : {p : Loaded} {s : State} {stack : List Activation} {x : ℕ} {t : State} → Dies s stack x t → Keeps p s 1 t 0
dies-kept {p} {s} {x = x} d =
    let stay : StayThere s.objects (without_life x s.objects) = died-stay s.objects x d.named in
    keeps-is d.gives (record {
      objects = stay;
      joined = λ program all. all-joined-still p s.objects _ s.connected.connections stay all;
      connected = omega arith;
      paid = omega arith;
      housed = λ housed. record { has_main = housed.has_main; each = λ o home is. housed.each o home (died-home s.objects x o home d.named is) };
      posted = omega arith;
      no_turn = λ e. e;
      events = refl;
      fewer = omega arith;
      grows = grows-by _;
    })

length-dropped : (x : ℕ) (loops : List Loop) → length (map (without_object x) loops) ≡ length loops
length-dropped x [] = refl
length-dropped x (l ∷ loops) = ap suc (length-dropped x loops)

-- .. and is forgotten
forgotten-kept : {p : Loaded} {s : State} (x : ℕ) (stack : List Activation) → Keeps p s 1 (record (forgotten s x) { stack = stack }) 0
forgotten-kept {p} {s} x stack = record {
  objects = all-stay _;
  joined = λ program all. all-removed (Joined p s.objects) (touches x) s.connected all;
  connected = omega arith;
  paid = omega arith;
  housed = housed-same s.objects s.objects s.queues.loops (dropped x s.queues).loops (λ o. refl) (length-dropped x s.queues.loops);
  posted = omega arith;
  no_turn = λ e. e;
  events = refl;
  fewer = omega arith;
  grows = grows-same s.trace;
}

destroy-kept : (p : Loaded) (s : State) (below : List Activation) (t : State) (next : Option ℕ) (torn : List ℕ) → DestroyRule s below t next torn → Keeps p s 1 t 0
destroy-kept p s below t (Some x) torn r = by_life (is_living s.objects x) r
  where
    by_life : (b : Bool) → NextRule s below t x torn b → Keeps p s 1 t 0
    by_life true d = dies-kept d
    by_life false e = keeps-is e (forgotten-kept x (Destroy None (x ∷ torn) ∷ below))
destroy-kept p s below t None [] r = keeps-is r (keeps-all _ (grows-same s.trace))
destroy-kept p s below t None (parent ∷ torn) r = by_child (living_child s parent) r
  where
    by_child : (child : Option ℕ) → ChildRule s below t parent torn child → Keeps p s 1 t 0
    by_child (Some x) d = dies-kept d
    by_child None e = keeps-is e (keeps-all _ (grows-same s.trace))

-- .. or scheduled
deferred-kept : {p : Loaded} {s : State} (stack : List Activation) (loop : List ℕ) (home x : ℕ) (name : List ℕ) → Keeps p s 1 (deferred s stack loop home x name) 0
deferred-kept {p} {s} stack loop home x name =
    let stay : StayThere s.objects (change_life x scheduled s.objects) = scheduled-stay s.objects x in
    record {
      objects = stay;
      joined = λ program all. all-joined-still p s.objects _ s.connected.connections stay all;
      connected = omega arith;
      paid = omega arith;
      housed = housed-same s.objects _ s.queues.loops _ (home-change x scheduled s.objects (λ l. refl)) (length-change home _ s.queues.loops);
      posted = omega arith;
      no_turn = λ e. e;
      events = refl;
      fewer = omega arith;
      grows = grows-by _;
    }

pub schedules-kept : (p : Loaded) (s : State) (stack : List Activation) (x : ℕ) (t : State) (life : Option Life) → Schedules s stack x t life → Keeps p s 1 t 0
schedules-kept p s stack x t life r = elim (schedule-cases life r) [
  | inl e ↦ keeps-is e (keeps-all stack (grows-same s.trace))
  | inr d ↦ keeps-is d.gives (deferred-kept stack d.loop d.home x d.name)
]

-- ---- bodies

does-kept : (p : Loaded) (natives : NativeAnswers) (s : State) (o m : ℕ) (arguments : List Value) (rest : List Step) (below : List Activation) (d : Operation) (t : State) → Does p natives s o m arguments rest below d t → Keeps p s 1 t 0
does-kept p natives s o m arguments rest below (Write what) t does = writes-kept does
does-kept p natives s o m arguments rest below (Begin x n given) t does = begins-kept does
does-kept p natives s o m arguments rest below (Choose block) t does = keeps-is does (keeps-all _ (grows-same s.trace))
does-kept p natives s o m arguments rest below (Connect ends how) t does =
    keeps-is does.gives (linked-kept p s (Body o m arguments rest ∷ below) ends how (names_of does.kept) does.spelled does.answer does.judged)
does-kept p natives s o m arguments rest below (Disconnect ends) t does =
    keeps-is does.gives (unlinked-kept p s (Body o m arguments rest ∷ below) (kept_ends ends) (names_of does.kept) does.answer)
does-kept p natives s o m arguments rest below (Delete x) t does = keeps-is does (keeps-all _ (grows-same s.trace))
does-kept p natives s o m arguments rest below (Schedule x) t does = schedules-kept p s (Body o m arguments rest ∷ below) x t (life_of s.objects x) does
does-kept p natives s o m arguments rest below (TakeAnswer effects) t does = keeps-is does.gives (keeps-all _ (grows-by _))
does-kept p natives s o m arguments rest below Nothing t does = keeps-is does (keeps-all _ (grows-by _))

body-kept : (p : Loaded) (natives : NativeAnswers) (s : State) (o m : ℕ) (arguments : List Value) (below : List Activation) (t : State) (left : List Step) → BodyRule p natives s o m arguments below t left → Keeps p s 1 t 0
body-kept p natives s o m arguments below t [] r = keeps-is r (keeps-all _ (grows-same s.trace))
body-kept p natives s o m arguments below t (x ∷ rest) rule =
    let r = step-of p natives s o m arguments x rest below t rule in
    does-kept p natives s o m arguments rest below r.what t r.does

-- objects and connections are those that they were, and other items wait in the loops
queues-kept : {p : Loaded} {s : State} {n : ℕ} (queues : Queues) (stack : List Activation) {trace : List Entry} → length queues.loops ≡ length s.queues.loops → queues.posted ≤ s.queues.posted + 1 → Grows s.trace trace → Keeps p s (suc n) (record s { queues = queues; stack = stack; trace = trace }) n
queues-kept {s = s} queues stack long few grows = record {
  objects = all-stay _;
  joined = λ program all. all;
  connected = omega arith;
  paid = omega arith;
  housed = housed-same s.objects s.objects s.queues.loops queues.loops (λ o. refl) long;
  posted = omega (arith, few);
  no_turn = λ e. e;
  events = refl;
  fewer = omega arith;
  grows = grows;
}

-- a method begins at once, or a call of it is posted
arrives-kept : (p : Loaded) (s : State) (stack : List Activation) (home o : ℕ) (x : Object) (m : ℕ) (method : MetaMethod) (arguments : List Value) (t : State) (b : Bool) → Arrives s stack home o x m method arguments t b → Keeps p s 1 t 0
arrives-kept p s stack home o x m method arguments t true r = begun-kept p s stack o x m method arguments method.work t r
arrives-kept p s stack home o x m method arguments t false r =
    keeps-is r.gives (queues-kept (posted_to home (Call o m arguments) s.queues) stack (length-change home _ s.queues.loops) (omega arith) (grows-by _))

emit-kept : (p : Loaded) (s : State) (o g : ℕ) (arguments : List Value) (last : ℕ) (below : List Activation) (t : State) (found : Option Connection) → EmitRule p s o g arguments last below t found → Keeps p s 1 t 0
emit-kept p s o g arguments last below t None r = keeps-is r (keeps-all _ (grows-same s.trace))
emit-kept p s o g arguments last below t (Some c) r = keeps-then (used-kept c) (arrives-kept p (with_used s c) _ r.home c.receiver r.receiver c.method r.method _ t (reaches_at_once c.kind r.home (running s.turn)) r.arrives)

update-kept : (p : Loaded) (s : State) (below : List Activation) (t : State) (places : List Place) → UpdateRule p s below t places → Keeps p s 1 t 0
update-kept p s below t [] r = keeps-is r (keeps-all _ (grows-same s.trace))
update-kept p s below t (place ∷ places) r = by_life (life_of s.objects place.object) r
  where
    by_life : (life : Option Life) → NotifiesIf p s (Update places ∷ below) place t life → Keeps p s 1 t 0
    by_life None e = keeps-is e (keeps-all _ (grows-same s.trace))
    by_life (Some l) n = begun-kept p s _ place.object n.object n.signal n.method _ Signal t n.gives

delivers-kept : (p : Loaded) (s t : State) (item : Item) → Delivers p s t item → Keeps p s 1 t 0
delivers-kept p s t (Call o m arguments) r = by_life (life_of s.objects o) r
  where
    by_life : (life : Option Life) → BeginsIf p s o m arguments t life → Keeps p s 1 t 0
    by_life None e = keeps-is e (keeps-all _ (grows-same s.trace))
    by_life (Some l) b = begins-kept b
delivers-kept p s t (Deletion o) r = keeps-is r (keeps-all _ (grows-same s.trace))

serves-kept : (p : Loaded) (s t : State) (turn : Turn) (first : Option Posted) → Serves p s t turn first → Keeps p s 1 t 0
serves-kept p s t turn None r = keeps-is r (record { objects = all-stay _; joined = λ program all. all; connected = omega arith; paid = omega arith; housed = λ all. all; posted = omega arith; no_turn = λ e. refl; events = refl; fewer = omega arith; grows = grows-same s.trace })
serves-kept p s t turn (Some q) r =
    let taken : State = record s { queues = taken_before turn.home turn.limit s.queues } in
    let took : Keeps p s 1 taken 1 = record {
      objects = all-stay _;
      joined = λ program all. all;
      connected = omega arith;
      paid = omega arith;
      housed = housed-same s.objects s.objects s.queues.loops taken.queues.loops (λ o. refl) (length-change turn.home _ s.queues.loops);
      posted = omega arith;
      no_turn = λ e. e;
      events = refl;
      fewer = omega arith;
      grows = grows-same s.trace;
    } in
    keeps-then took (delivers-kept p taken t q.item r)

turn-kept : (p : Loaded) (s t : State) (turn : Option Turn) → TurnRule p s t turn → Keeps p s 1 t 0
turn-kept p s t None r = absurd r
turn-kept p s t (Some turn) r = serves-kept p s t turn (find (is_before turn.limit) (items_at s.queues.loops turn.home)) r

pub rule-kept : (p : Loaded) (natives : NativeAnswers) (s t : State) (stack : List Activation) → RuleAt p natives s t stack → Keeps p s 1 t 0
rule-kept p natives s t [] r = turn-kept p s t s.turn r
rule-kept p natives s t (Body o m arguments left ∷ below) r = body-kept p natives s o m arguments below t left r
rule-kept p natives s t (Emit o g arguments used last ∷ below) r = emit-kept p s o g arguments last below t (next_used s.objects s.connected.connections o g used last) r
rule-kept p natives s t (Update places ∷ below) r = update-kept p s below t places r
rule-kept p natives s t (Destroy next torn ∷ below) r = destroy-kept p s below t next torn r

-- a rule, whatever is left after it
one-kept : {p : Loaded} {s t : State} (n : ℕ) → Keeps p s 1 t 0 → Keeps p s (suc n) t n
one-kept n x = record { objects = x.objects; joined = x.joined; connected = x.connected; paid = omega (arith, x.paid); housed = x.housed; posted = omega (arith, x.posted); no_turn = x.no_turn; events = x.events; fewer = omega arith; grows = x.grows }

-- so do runs of rules
pub rules-kept : {p : Loaded} {natives : NativeAnswers} {d : ℕ} {s t : State} {n k : ℕ} → GoodRules p natives d s n t k → Keeps p s n t k
rules-kept done = keeps-same
rules-kept {p} {natives} (then {s = s} {m = m} {n = n} r good rest) = keeps-then (one-kept n (rule-kept p natives s m s.stack r)) (rules-kept rest)

-- a stack that shows this
abbrev pub some-top : Option ℕ → Activation
some-top None = Update []
some-top (Some o) = Body o 0 [] []

some-whose : (body : Option ℕ) → whose (some-top body) ≡ body
some-whose None = refl
some-whose (Some o) = refl

pub some-stack : (shown : List (Option ℕ)) → (below : List Activation) × (shows below ≡ shown)
some-stack [] = ([], refl)
some-stack (body ∷ shown) =
    let q = some-stack shown in
    (some-top body ∷ q.0, ap (λ (x : Option ℕ). x ∷ shows q.0) (some-whose body) ∙ ap (λ (l : List (Option ℕ)). body ∷ l) q.1)

-- what holds of no activations, and stays where one is put over others, holds of it
pub some-by : (P : List Activation → Type 0) → P [] → ((body : Option ℕ) (rest : List Activation) → P rest → P (some-top body ∷ rest)) → (shown : List (Option ℕ)) → P ((some-stack shown).0)
unfolding some-stack
some-by P none step [] = none
some-by P none step (body ∷ shown) = step body ((some-stack shown).0) (some-by P none step shown)

-- what holds of whatever shows something holds of all of it
pub some-all : (P : Activation → Type 0) → ((body : Option ℕ) → P (some-top body)) → (shown : List (Option ℕ)) → AllByRecursion P ((some-stack shown).0)
unfolding some-stack
some-all P each [] = tt
some-all P each (body ∷ shown) = (each body, some-all P each shown)

-- whatever the stacks are
keeps-world : {p : Loaded} {w v : World} {a b : List Activation} → Keeps p (at w a) w.left (at v b) v.left → KeepsWorld p w v
keeps-world x = record { objects = x.objects; joined = x.joined; connected = x.connected; paid = x.paid; housed = x.housed; posted = x.posted; no_turn = x.no_turn; events = x.events; fewer = x.fewer; grows = x.grows }

pub reaches-keeps : {p : Loaded} {natives : NativeAnswers} {d : ℕ} {h : List (Option ℕ)} {w v : World} {a b : List Activation} → Reaches p natives d h w a v b → KeepsWorld p w v
reaches-keeps {h = h} x = let q = some-stack h in keeps-world (rules-kept (x.runs q.0 q.1))

pub reaches-agree : {p : Loaded} {natives : NativeAnswers} {d : ℕ} {h : List (Option ℕ)} {w v : World} {a b : List Activation} → Reaches p natives d h w a v b → AgreeIn p w → AgreeIn p v
reaches-agree {h = h} x agree = let q = some-stack h in rules-settled (x.runs q.0 q.1) agree
