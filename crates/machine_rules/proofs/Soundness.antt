-- What stays sound: items that wait and emissions have arguments that fit.
use Rattle.machine_state.{specs.Telling.{Assigning}, specs.declared.turn.Turn.{Turn}, specs.declared.world.World.{World}, specs.Connections.{is_living, next_used}, specs.State.{Step, State, Activation, Body, Emit, Update, Destroy}, specs.Turns.{running, reaches_at_once}, specs.code.Changing.{using, noted, HasWritten}, proofs.Due.{all-used, last-used}, specs.declared.endpoints.Endpoints.{Endpoints}}
use Rattle.std.{proofs.Common.{◌≡◌, ℕ, suc, ◌+◌, ◌<◌, Bool, true, false, List, [], ◌∷◌, ◌++◌, length, take, Result, Ok, Err, Option, Some, None, slice_get, refl, sym, subst, arith, inl, inr}, specs.List.{AllByRecursion, find}, specs.Option.{option_map}, proofs.lemmas.Option.{slice_get_within}}
use Rattle.basic_types.specs.declared.value.Value.{Value}
use Rattle.meta_model.specs.{declared.object.MetaMethod.{MetaMethod}, declared.object.Work.{Work}, declared.object.Work.TheVariants.{Signal, Slot, Native}, Loaded.{Loaded}, Sound.{IsSound}}
use Rattle.connections.specs.declared.connection.Connection.{Connection}
use Rattle.event_loops.specs.{declared.item.Item.{Item}, declared.item.Item.TheVariants.{Call, Deletion}, declared.item.Posted.{Posted}, Queues.{Loop, items_at, is_before, taken_before}}
use Rattle.object_tree.specs.{declared.object.Object.{Object}, declared.life.Life.{Life}, Family.{without_life}, Objects.{life_of, name_of, change_life, scheduled}}
use Rattle.binding_graph.specs.{declared.binding.Binding.{Binding}, declared.place.Place.{Place}}
use Rattle.prop_bindings.specs.{Changes.{DifferInValues}, Fits.{Agree}}
use Rattle.trace_entries.specs.{declared.entry.Entry.{Entry}, declared.refusal.Refusal.{Refusal}}
use Rattle.machine_rules.{specs.Operations.{Operation, Write, Begin, Choose, Nothing, Connect, Disconnect, Delete, Schedule, TakeAnswer}, specs.Good.{ArgumentsFit, TopFits, IsWell}, specs.code.Keeps.{StayThere, AllJoined, KeepsWorld}, specs.Reaches.{Reaches}, specs.Settling.{Settles, Writes, Installs}, specs.Rules.{RuleAt, BodyRule, Does, EmitRule, UpdateRule, NotifiesIf, TurnRule, Serves, Delivers, Arrives, Begins, BeginsIf, begun, with_used, linked, unlinked}, specs.code.Going.{GoodRules, done, then}, specs.code.Sound.{SendsThese, IsDelivered, Joined, Waits, AllWait, Sound, AgreeIn, IsSoundWorld, MayBeHeard}, specs.Destroying.{Dies, forgotten, NextRule, ChildRule, DestroyRule, living_child, Schedules}, proofs.Doing.{step-of}, proofs.Delivered.{next-delivered, delivered-fits}, proofs.Declared.{fit-takes, emission-sends}, proofs.Dying.{died-stay, scheduled-stay}, proofs.Keeps.{takes-still, sends-still, values-stay, all-joined-still, rule-kept, some-top, some-stack, some-all, reaches-keeps, reaches-agree}, proofs.Differing.{differ-stay, differ-home}, proofs.Waiting.{all-posted, all-taken, all-dropped, housed-same}, proofs.Lists.{all-append, all-weaken}, specs.Connecting.{kept_ends, names_of}, specs.Natives.{NativeAnswers}, proofs.Scheduling.{deferred, schedule-cases}, proofs.Hearing.{AllHeard, nobody, Heard, may-be-heard, rule-heard, heard-over}}
use Rattle.syntax_trees.specs.{declared.connection.ConnectionType.{ConnectionType}, declared.connection.Endpoints.{Endpoints as Named}}

-- ---- as long as the objects stay there

sends-stays : {p : Loaded} {old new : List Object} {o g : ℕ} {arguments : List Value} → StayThere old new → SendsThese p old o g arguments → SendsThese p new o g arguments
sends-stays {p} {arguments = arguments} stay s = record { types = s.types; sends = sends-still stay s.sends; typed = values-stay p stay arguments s.types s.typed }

pub emitted-still : {p : Loaded} {w v : World} {o g : ℕ} {arguments : List Value} → KeepsWorld p w v → SendsThese p w.store.tree o g arguments → SendsThese p v.store.tree o g arguments
emitted-still keeps s = sends-stays keeps.objects s

waits-still : (p : Loaded) (old new : List Object) (item : Item) → StayThere old new → Waits p old item → Waits p new item
waits-still p old new (Call o m arguments) stay t = record { types = t.types; takes = takes-still stay t.takes; typed = values-stay p stay arguments t.types t.typed }
waits-still p old new (Deletion o) stay created = omega (arith, created, stay.created)

pub all-wait-still : (p : Loaded) (old new : List Object) (loops : List Loop) → StayThere old new → AllWait p old loops → AllWait p new loops
all-wait-still p old new loops stay all =
    all-weaken (λ (l : Loop). AllByRecursion (λ (q : Posted). Waits p old q.item) l.items) (λ (l : Loop). AllByRecursion (λ (q : Posted). Waits p new q.item) l.items) loops
    (λ l waiting. all-weaken (λ (q : Posted). Waits p old q.item) (λ (q : Posted). Waits p new q.item) l.items (λ q waits. waits-still p old new q.item stay waits) waiting) all

-- ---- emissions

-- an emission has the arguments that its signal takes
abbrev pub Fits : Loaded → List Object → Activation → Type 0
Fits p objects (Body o m arguments left) = Unit {0}
Fits p objects (Emit o g arguments used last) = SendsThese p objects o g arguments
Fits p objects (Update places) = Unit {0}
Fits p objects (Destroy next torn) = Unit {0}

abbrev pub AllFit : Loaded → List Object → List Activation → Type 0
AllFit p objects stack = AllByRecursion (Fits p objects) stack

fits-still : (p : Loaded) (old new : List Object) → StayThere old new → (a : Activation) → Fits p old a → Fits p new a
fits-still p old new stay (Body o m arguments left) fits = tt
fits-still p old new stay (Emit o g arguments used last) fits = sends-stays stay fits
fits-still p old new stay (Update places) fits = tt
fits-still p old new stay (Destroy next torn) fits = tt

all-fit-still : (p : Loaded) (old new : List Object) (stack : List Activation) → StayThere old new → AllFit p old stack → AllFit p new stack
all-fit-still p old new stack stay all = all-weaken (Fits p old) (Fits p new) stack (fits-still p old new stay) all

-- what has a name was created
named-created : (objects : List Object) (x : ℕ) {name : List ℕ} → name_of objects x ≡ Some name → x < length objects
named-created objects x {name} named = by_object (slice_get objects x) refl named
  where
    by_object : (there : Option Object) → slice_get objects x ≡ there → option_map (λ (y : Object). y.name) there ≡ Some name → x < length objects
    by_object None is e = absurd (cc e)
    by_object (Some y) is e = slice_get_within objects x y is

-- what waits fits, and so does what is emitted
pub record Fair (p : Loaded) (s : State) : Type 0 where
  pub waiting : AllWait p s.objects s.queues.loops
  pub emitted : AllFit p s.objects s.stack

-- ---- rules

-- a method that begins, over what is fair
begun-fair : (p : Loaded) → IsSound p → (u t : State) (n : ℕ) (below : List Activation) (o : ℕ) (x : Object) (m : ℕ) (method : MetaMethod) (arguments : List Value) (work : Work) → t ≡ begun u below o x m method arguments work → n < suc (length below) → (n < length t.stack → TopFits p t.objects t.stack) → AllWait p u.objects u.queues.loops → AllFit p u.objects below → Fair p t
begun-fair p program u t n below o x m method arguments Signal e higher fits waiting lower =
    let Family : State → Type 0 = λ v. (n < length v.stack → TopFits p v.objects v.stack) → Fair p v in
    subst Family (sym e) (λ top. record { waiting = waiting; emitted = (emission-sends program (top higher), lower) }) fits
begun-fair p program u t n below o x m method arguments (Slot statements) e higher fits waiting lower =
    let Family : State → Type 0 = λ v. Fair p v in
    subst Family (sym e) (record { waiting = waiting; emitted = (tt, lower) })
begun-fair p program u t n below o x m method arguments (Native effects) e higher fits waiting lower =
    let Family : State → Type 0 = λ v. Fair p v in
    subst Family (sym e) (record { waiting = waiting; emitted = (tt, lower) })

-- a call begins, or is posted
arrives-fair : (p : Loaded) → IsSound p → (u t : State) (n : ℕ) (stack : List Activation) (home o : ℕ) (x : Object) (m : ℕ) (method : MetaMethod) (arguments : List Value) (b : Bool) → ArgumentsFit p u.objects o m arguments → AllWait p u.objects u.queues.loops → AllFit p u.objects stack → n < suc (length stack) → (n < length t.stack → TopFits p t.objects t.stack) → Arrives u stack home o x m method arguments t b → Fair p t
arrives-fair p program u t n stack home o x m method arguments true fit waiting lower higher top r = begun-fair p program u t n stack o x m method arguments method.work r higher top waiting lower
arrives-fair p program u t n stack home o x m method arguments false fit waiting lower higher top r =
    let Family : State → Type 0 = λ v. Fair p v in
    let item : Posted = record { number = u.queues.posted + 1; item = Call o m arguments } in
    subst Family (sym r.gives) (record { waiting = all-posted p u.objects home item u.queues.loops (fit-takes fit) waiting; emitted = lower })

module _ {p : Loaded} {s t : State} (program : IsSound p) (well : IsWell p s t) (waiting : AllWait p s.objects s.queues.loops) where
  pub begins-fair : {below : List Activation} {o m : ℕ} {arguments : List Value} → Begins p s below o m arguments t → length s.stack < suc (length below) → AllFit p s.objects below → Fair p t
  begins-fair {below} {o} {m} {arguments} b higher lower = begun-fair p program s t (length s.stack) below o b.object m b.method arguments b.method.work b.gives higher well.arguments waiting lower

  pub settles-fair : {below : List Activation} {Tells : List Entry → Type 0} {objects : List Object} {bindings : List Binding} {changed : List Place} → DifferInValues s.objects objects → Settles p s below Tells objects bindings changed t → AllFit p s.objects below → Fair p t
  settles-fair {below} {objects = objects} differ x lower =
      let stay : StayThere s.objects objects = differ-stay s.objects objects differ in
      let Family : State → Type 0 = λ v. Fair p v in
      subst Family (sym x.gives) (record { waiting = all-wait-still p s.objects objects s.queues.loops stay waiting; emitted = (tt, all-fit-still p s.objects objects below stay lower) })

  pub writes-fair : {below : List Activation} {what : Assigning} → Writes p s below what t → AllFit p s.objects below → Fair p t
  writes-fair w lower = settles-fair w.written.objects w.settles lower

  pub installs-fair : {below : List Activation} {b : Binding} → Installs p s below b t → AllFit p s.objects below → Fair p t
  installs-fair x lower = settles-fair x.installed.objects x.settles lower

  -- the stack is another one, and all else that matters is the same
  quiet-fair : {stack : List Activation} {trace : List Entry} → t ≡ record s { stack = stack; trace = trace } → AllFit p s.objects stack → Fair p t
  quiet-fair e lower =
      let Family : State → Type 0 = λ v. Fair p v in
      subst Family (sym e) (record { waiting = waiting; emitted = lower })

  -- a connection is made or removed, or that is refused
  linked-fair : (stack : List Activation) (ends : Endpoints) (how : ConnectionType) (names : Named (List ℕ)) (answer : Result (Unit {0}) Refusal) → t ≡ linked s stack ends how names answer → AllFit p s.objects stack → Fair p t
  linked-fair stack ends how names (Ok _) e lower = let Family : State → Type 0 = λ v. Fair p v in subst Family (sym e) (record { waiting = waiting; emitted = lower })
  linked-fair stack ends how names (Err k) e lower = quiet-fair e lower

  unlinked-fair : (stack : List Activation) (ends : Endpoints) (names : Named (List ℕ)) (answer : Result (Unit {0}) Refusal) → t ≡ unlinked s stack ends names answer → AllFit p s.objects stack → Fair p t
  unlinked-fair stack ends names (Ok _) e lower = let Family : State → Type 0 = λ v. Fair p v in subst Family (sym e) (record { waiting = waiting; emitted = lower })
  unlinked-fair stack ends names (Err k) e lower = quiet-fair e lower

  -- an object dies, and is forgotten
  dies-fair : {stack : List Activation} {x : ℕ} → Dies s stack x t → length s.stack ≡ length stack → AllFit p s.objects stack → Fair p t
  dies-fair {stack} {x} d high lower =
      let after : List Object = without_life x s.objects in
      let stay : StayThere s.objects after = died-stay s.objects x d.named in
      let Family : State → Type 0 = λ v. (length s.stack < length v.stack → TopFits p v.objects v.stack) → Fair p v in
      subst Family (sym d.gives)
      (λ top. record {
        waiting = all-wait-still p s.objects after s.queues.loops stay waiting;
        emitted = (emission-sends program (top (omega (arith, high))), all-fit-still p s.objects after stack stay lower);
      }) well.arguments

  forgotten-fair : (x : ℕ) (stack : List Activation) → t ≡ record (forgotten s x) { stack = stack } → AllFit p s.objects stack → Fair p t
  forgotten-fair x stack e lower =
      let Family : State → Type 0 = λ v. Fair p v in
      subst Family (sym e) (record { waiting = all-dropped p s.objects x s.queues.loops waiting; emitted = lower })

  destroy-fair : (below : List Activation) (next : Option ℕ) (torn : List ℕ) → AllFit p s.objects below → length s.stack ≡ suc (length below) → DestroyRule s below t next torn → Fair p t
  destroy-fair below (Some x) torn lower high r = by_life (is_living s.objects x) r
    where
      by_life : (b : Bool) → NextRule s below t x torn b → Fair p t
      by_life true d = dies-fair d high (tt, lower)
      by_life false e = forgotten-fair x (Destroy None (x ∷ torn) ∷ below) e (tt, lower)
  destroy-fair below None [] lower high r = quiet-fair r lower
  destroy-fair below None (parent ∷ torn) lower high r = by_child (living_child s parent) r
    where
      by_child : (child : Option ℕ) → ChildRule s below t parent torn child → Fair p t
      by_child (Some x) d = dies-fair d high (tt, lower)
      by_child None e = quiet-fair e (tt, lower)

  -- .. or it is scheduled
  deferred-fair : (stack : List Activation) (loop : List ℕ) (home x : ℕ) (name : List ℕ) → t ≡ deferred s stack loop home x name → x < length s.objects → AllFit p s.objects stack → Fair p t
  deferred-fair stack loop home x name e created lower =
      let after : List Object = change_life x scheduled s.objects in
      let stay : StayThere s.objects after = scheduled-stay s.objects x in
      let item : Posted = record { number = s.queues.posted + 1; item = Deletion x } in
      let Family : State → Type 0 = λ v. Fair p v in
      subst Family (sym e) (record {
        waiting = all-posted p after home item s.queues.loops (omega (arith, created, stay.created)) (all-wait-still p s.objects after s.queues.loops stay waiting);
        emitted = all-fit-still p s.objects after stack stay lower;
      })

  pub schedules-fair : (stack : List Activation) (x : ℕ) (life : Option Life) → Schedules s stack x t life → AllFit p s.objects stack → Fair p t
  schedules-fair stack x life r lower = elim (schedule-cases life r) [
    | inl e ↦ quiet-fair e lower
    | inr d ↦ deferred-fair stack d.loop d.home x d.name d.gives (named-created s.objects x d.named) lower
  ]

  does-fair : (natives : NativeAnswers) (o m : ℕ) (arguments : List Value) (rest : List Step) (below : List Activation) (d : Operation) → AllFit p s.objects below → length s.stack ≡ suc (length below) → Does p natives s o m arguments rest below d t → Fair p t
  does-fair natives o m arguments rest below (Write what) lower high does = writes-fair does (tt, lower)
  does-fair natives o m arguments rest below (Begin y n given) lower high does = begins-fair does (omega (arith, high)) (tt, lower)
  does-fair natives o m arguments rest below (Choose block) lower high does = quiet-fair does (tt, lower)
  does-fair natives o m arguments rest below (Connect ends how) lower high does =
      linked-fair (Body o m arguments rest ∷ below) (kept_ends ends) how (names_of does.kept) does.answer does.gives (tt, lower)
  does-fair natives o m arguments rest below (Disconnect ends) lower high does =
      unlinked-fair (Body o m arguments rest ∷ below) (kept_ends ends) (names_of does.kept) does.answer does.gives (tt, lower)
  does-fair natives o m arguments rest below (Delete x) lower high does = quiet-fair does (tt, (tt, lower))
  does-fair natives o m arguments rest below (Schedule x) lower high does = schedules-fair (Body o m arguments rest ∷ below) x (life_of s.objects x) does (tt, lower)
  does-fair natives o m arguments rest below (TakeAnswer effects) lower high does = quiet-fair does.gives (tt, lower)
  does-fair natives o m arguments rest below Nothing lower high does = quiet-fair does (tt, lower)

  body-fair : (natives : NativeAnswers) (o m : ℕ) (arguments : List Value) (below : List Activation) (left : List Step) → AllFit p s.objects below → length s.stack ≡ suc (length below) → BodyRule p natives s o m arguments below t left → Fair p t
  body-fair natives o m arguments below [] lower high r = quiet-fair r lower
  body-fair natives o m arguments below (x ∷ rest) lower high rule =
      let r = step-of p natives s o m arguments x rest below t rule in
      does-fair natives o m arguments rest below r.what lower high r.does

  emission-fair : (o g : ℕ) (arguments : List Value) (used last : ℕ) (below : List Activation) (found : Option Connection) → AllJoined p s.objects s.connected.connections → next_used s.objects s.connected.connections o g used last ≡ found → SendsThese p s.objects o g arguments → MayBeHeard s.objects s.connected.connections o g → AllFit p s.objects below → length s.stack ≡ suc (length below) → EmitRule p s o g arguments last below t found → Fair p t
  emission-fair o g arguments used last below None joined is fit may lower high r = quiet-fair r lower
  emission-fair o g arguments used last below (Some c) joined is fit may lower high r =
      let d : IsDelivered p s.objects c arguments = next-delivered s.connected.connections o g used last c joined fit may is in
      let given : ArgumentsFit p s.objects c.receiver c.method (take (length r.method.types) arguments) = delivered-fits d r.is refl refl in
      arrives-fair p program (with_used s c) t (length s.stack) (Emit o g arguments c.number last ∷ below) r.home c.receiver r.receiver c.method r.method (take (length r.method.types) arguments) (reaches_at_once c.kind r.home (running s.turn)) given waiting (fit, lower) (omega (arith, high)) well.arguments r.arrives

  update-fair : (below : List Activation) (places : List Place) → AllFit p s.objects below → length s.stack ≡ suc (length below) → UpdateRule p s below t places → Fair p t
  update-fair below [] lower high r = quiet-fair r lower
  update-fair below (place ∷ places) lower high r = by_life (life_of s.objects place.object) r
    where
      by_life : (life : Option Life) → NotifiesIf p s (Update places ∷ below) place t life → Fair p t
      by_life None e = quiet-fair e (tt, lower)
      by_life (Some l) n =
          begun-fair p program s t (length s.stack) (Update places ∷ below) place.object n.object n.signal n.method (take (length n.method.types) (n.present ∷ [])) Signal n.gives (omega (arith, high)) well.arguments waiting (tt, lower)

  -- an item is delivered, or the turn ends
  delivers-fair : (turn : Turn) (item : Item) → length s.stack ≡ 0 → AllFit p s.objects s.stack → Delivers p (record s { queues = taken_before turn.home turn.limit s.queues }) t item → Fair p t
  delivers-fair turn (Call o m arguments) low all r = by_life (life_of s.objects o) r
    where
      taken : State
      taken = record s { queues = taken_before turn.home turn.limit s.queues }

      by_life : (life : Option Life) → BeginsIf p taken o m arguments t life → Fair p t
      by_life None e =
          let Family : State → Type 0 = λ v. Fair p v in
          subst Family (sym e) (record { waiting = all-taken p s.objects turn.home turn.limit s.queues.loops waiting; emitted = all })
      by_life (Some l) b = begun-fair p program taken t (length s.stack) [] o b.object m b.method arguments b.method.work b.gives (omega (arith, low)) well.arguments (all-taken p s.objects turn.home turn.limit s.queues.loops waiting) tt
  delivers-fair turn (Deletion o) low all e =
      let Family : State → Type 0 = λ v. Fair p v in
      subst Family (sym e) (record { waiting = all-taken p s.objects turn.home turn.limit s.queues.loops waiting; emitted = (tt, tt) })

  turn-fair : (found : Option Turn) → length s.stack ≡ 0 → AllFit p s.objects s.stack → TurnRule p s t found → Fair p t
  turn-fair None low all r = absurd r
  turn-fair (Some turn) low all r = by_first (find (is_before turn.limit) (items_at s.queues.loops turn.home)) r
    where
      by_first : (first : Option Posted) → Serves p s t turn first → Fair p t
      by_first None e =
          let Family : State → Type 0 = λ v. Fair p v in
          subst Family (sym e) (record { waiting = waiting; emitted = all })
      by_first (Some q) d = delivers-fair turn q.item low all d

  pub rule-fair : (natives : NativeAnswers) (stack : List Activation) → AllJoined p s.objects s.connected.connections → AllHeard s.objects s.connected.connections nobody stack → AllFit p s.objects s.stack → AllFit p s.objects stack → length s.stack ≡ length stack → RuleAt p natives s t stack → Fair p t
  rule-fair natives [] joined heard here all high r = turn-fair s.turn high here r
  rule-fair natives (Body o m arguments left ∷ below) joined heard here all high r = body-fair natives o m arguments below left all.1 high r
  rule-fair natives (Emit o g arguments used last ∷ below) joined heard here all high r =
      emission-fair o g arguments used last below (next_used s.objects s.connected.connections o g used last) joined refl all.0 (may-be-heard s.objects s.connected.connections o g heard.0) all.1 high r
  rule-fair natives (Update places ∷ below) joined heard here all high r = update-fair below places all.1 high r
  rule-fair natives (Destroy next torn ∷ below) joined heard here all high r = destroy-fair below next torn all.1 high r

-- .. and so after runs of rules
pub rules-fair : {p : Loaded} {natives : NativeAnswers} {d : ℕ} {s t : State} {n k : ℕ} → IsSound p → GoodRules p natives d s n t k → AllJoined p s.objects s.connected.connections → Heard s → Fair p s → Fair p t
rules-fair program done joined heard fair = fair
rules-fair {p} {natives} program (then {s = s} {m = m} r good rest) joined heard fair =
    rules-fair program rest ((rule-kept p natives s m s.stack r).joined program joined) (rule-heard p s m natives heard r) (rule-fair program good.well fair.waiting natives s.stack joined heard fair.emitted fair.emitted refl r)

-- ---- the world stays sound

some-fits : (p : Loaded) (objects : List Object) (body : Option ℕ) → Fits p objects (some-top body)
some-fits p objects None = tt
some-fits p objects (Some o) = tt

-- what fits, over some stack that shows this
fit-over : (p : Loaded) (objects : List Object) (a : List Activation) (shown : List (Option ℕ)) → AllFit p objects a → AllFit p objects (a ++ (some-stack shown).0)
fit-over p objects a shown fits = all-append (Fits p objects) a ((some-stack shown).0) fits (some-all (Fits p objects) (some-fits p objects) shown)

keeps-sound : {p : Loaded} {w v : World} → IsSoundWorld p w → KeepsWorld p w v → AgreeIn p v → AllWait p v.store.tree v.store.loops.loops → IsSoundWorld p v
keeps-sound sound keeps agree waiting = record {
  program = sound.program;
  is = record { agree = agree; joined = keeps.joined sound.program sound.is.joined; housed = keeps.housed sound.is.housed; waiting = waiting };
  numbers = omega (arith, keeps.paid, sound.numbers);
  room = omega (arith, keeps.posted, sound.room);
}

module _ {p : Loaded} {natives : NativeAnswers} {d : ℕ} {h : List (Option ℕ)} {w v : World} {a : List Activation} (fits : AllFit p w.store.tree a × AllHeard w.store.tree w.store.connections.connections nobody a) (sound : IsSoundWorld p w) where
  reaches-waiting : {b : List Activation} → Reaches p natives d h w a v b → AllWait p v.store.tree v.store.loops.loops
  reaches-waiting x = let q = some-stack h in (rules-fair sound.program (x.runs q.0 q.1) sound.is.joined (heard-over w.store.tree w.store.connections.connections nobody a h fits.1) (record { waiting = sound.is.waiting; emitted = fit-over p w.store.tree a h fits.0 })).waiting

  -- wherever a run of rules leads, the machine stays sound
  pub reaches-sound : {b : List Activation} → Reaches p natives d h w a v b → IsSoundWorld p v
  reaches-sound x = keeps-sound sound (reaches-keeps x) (reaches-agree x sound.is.agree) (reaches-waiting x)

-- .. after a rule that uses a connection
pub sound-used : {p : Loaded} {v : World} (w : World) (entries : List Entry) (c : Connection) → v ≡ using w entries c → IsSoundWorld p w → IsSoundWorld p v
sound-used {p} w entries c e sound =
    let Family : World → Type 0 = λ u. IsSoundWorld p u in
    subst Family (sym e) (record {
      program = sound.program;
      is = record { agree = sound.is.agree; joined = all-used (Joined p w.store.tree) c w.store.connections sound.is.joined; housed = sound.is.housed; waiting = sound.is.waiting };
      numbers = omega (arith, last-used c w.store.connections, sound.numbers);
      room = omega (arith, sound.room);
    })

-- .. where nothing is made, removed or posted
pub sound-noted : {p : Loaded} {v : World} (w : World) (entries : List Entry) → v ≡ noted w entries → IsSoundWorld p w → IsSoundWorld p v
sound-noted {p} w entries e sound =
    let Family : World → Type 0 = λ u. IsSoundWorld p u in
    subst Family (sym e) (record {
      program = sound.program;
      is = record { agree = sound.is.agree; joined = sound.is.joined; housed = sound.is.housed; waiting = sound.is.waiting };
      numbers = omega (arith, sound.numbers);
      room = omega (arith, sound.room);
    })

-- .. after a write or a bind: these objects differ in values alone, and they agree with the bindings
pub sound-settled : {p : Loaded} {old new : List Object} {bindings : List Binding} (after : List Binding) {connections : List Connection} {loops : List Loop} → DifferInValues old new → Agree p new after → Sound p old bindings connections loops → Sound p new after connections loops
sound-settled {p} {old} {new} after {connections} {loops} differ agree sound =
    let stay = differ-stay old new differ in
    record {
      agree = agree;
      joined = all-joined-still p old new connections stay sound.joined;
      housed = housed-same old new loops loops (differ-home old new differ) refl sound.housed;
      waiting = all-wait-still p old new loops stay sound.waiting;
    }

-- .. in a world
pub sound-set : {p : Loaded} {d : ℕ} {what : Assigning} {changed : List Place} {v : World} (w : World) → HasWritten p d what w (noted w) changed v → AgreeIn p v → IsSoundWorld p w → IsSoundWorld p v
sound-set {p} {v = v} w written agree sound =
    let Family : World → Type 0 = λ u. IsSoundWorld p u in
    subst Family (sym written.gives) (record {
      program = sound.program;
      is = sound-settled v.store.bindings written.writes.objects agree sound.is;
      numbers = omega (arith, sound.numbers);
      room = omega (arith, sound.room);
    })

-- a world that is known to be another one
pub sound-as : {p : Loaded} {w v : World} → v ≡ w → IsSoundWorld p w → IsSoundWorld p v
sound-as {p} is sound = let In : World → Type 0 = λ u. IsSoundWorld p u in subst In (sym is) sound
