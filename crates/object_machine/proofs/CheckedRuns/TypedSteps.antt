-- Whatever step a run takes, each property has a value of its type, and values agree with bindings: a rule keeps this if
-- what it writes is of the property's type, and each event keeps it.
use Rattle.std.{proofs.Common.{◌≡◌, ℕ, suc, Bool, true, false, List, [], ◌∷◌, ◌++◌, length, take, Result, Ok, Err, Option, Some, None, slice_get, refl, sym, subst, inl, inr}, specs.List.{AllByRecursion, find}, proofs.lemmas.List.Elements.{All-from_recursion}}
use Rattle.basic_types.specs.declared.value.Value.{Value}
use Rattle.basic_types.specs.declared.value.Value.TheVariants as variant
use Rattle.syntax_trees.specs.{declared.connection.ConnectionType.{ConnectionType}, declared.connection.Endpoints.{Endpoints as Named}}
use Rattle.script_lang.specs.{declared.event.Event.{Event}, declared.event.Event.TheVariants.{Loop, Turn as TurnEvent, New, Adopt, Move, Connect as ConnectEvent, Disconnect as DisconnectEvent, Set, Bind, Emit as EmitEvent, Call as CallEvent, Block, Unblock, Delete as DeleteEvent, Later as LaterEvent}, declared.event.Input.{Input}}
use Rattle.meta_model.specs.{declared.object.MetaMethod.{MetaMethod}, declared.object.MetaObject.{MetaObject}, declared.object.Work.{Work}, declared.object.Work.TheVariants.{Signal, Slot, Native}, Literals.{HoldsNoObject}, Loaded.{Loaded}, Members.{IsClass}, Sound.{IsSound}, Values.{Has}}
use Rattle.connections.specs.declared.connection.Connection.{Connection}
use Rattle.event_loops.specs.{declared.item.Item.{Item}, declared.item.Item.TheVariants.{Call, Deletion}, declared.item.Posted.{Posted}, Queues.{items_at, is_before, taken_before}}
use Rattle.object_tree.{specs.declared.life.Life.{Life}, specs.declared.object.Object.{Object}, specs.Creating.{BeginsAs, BeginsWell, fresh, initial_values}, specs.Objects.{life_of, class_with}, specs.Seen.{seen}, proofs.TypedObjects.{typed-created}}
use Rattle.binding_graph.specs.{declared.binding.Binding.{Binding}, declared.place.Place.{Place}, Bindings.{binding_at, without, replaced, Loop as Closed}}
use Rattle.prop_bindings.{specs.Fits.{Agree}, proofs.Leaving.{agree-living, left_agree}, proofs.Agreeing.{adopted_agree, blocked_agree, live-created}, specs.Calls.{AllFit}}
use Rattle.effect_scan.specs.{declared.node.Member.TheVariants.{Property}, Nodes.{node}}
use Rattle.type_check.specs.Typed.{IsTypedProgram}
use Rattle.machine_state.specs.{declared.endpoints.Endpoints.{Endpoints}, declared.turn.Turn.{Turn}, Accepting.{accepted}, Connections.{is_living, next_used}, State.{Step, State, IsIdle, Activation, Body, Emit, Update, Destroy}, Turns.{running, reaches_at_once}, Telling.{Assigning, writes_of}}
use Rattle.trace_entries.specs.{declared.refusal.Refusal.{Refusal}, declared.fault.Answer.{Answer}}
use Rattle.machine_rules.{specs.Connecting.{kept_ends, names_of}, specs.Destroying.{Dies, NextRule, ChildRule, DestroyRule, living_child, Schedules}, specs.Operations.{Operation, Write, Begin, Choose, Connect, Disconnect, Delete, Schedule, TakeAnswer, Nothing, operation_of_step}, specs.Judgement.{found as finds, holds as so, becomes, goes_on}, specs.Natives.{NativeAnswers}, specs.Rules.{Rule, RuleAt, BodyRule, Does, EmitRule, UpdateRule, NotifiesIf, TurnRule, Serves, Delivers, Arrives, BeginsIf, begun, with_used, linked, unlinked}, specs.Next.{WritesNext}, proofs.Differing.{scheduled-agree}, proofs.Doing.{does-next, step-of}, proofs.Lists.{all-filtered, all-snoc}, proofs.Scheduling.{schedule-cases}}
use Rattle.object_machine.{specs.declared.invoking.Invocation.{Invocation}, specs.declared.invoking.Invocation.TheVariants.{Emit as EmitIt, Call as CallIt}, specs.Takes.{Takes, accepts, refuses}, specs.Events.{judged, block, invoke}, proofs.Settling.{bound-within}, proofs.CheckedRuns.Invariant.{IsSited, IsCovered}, proofs.CheckedRuns.Binding.{may-fit}, proofs.CheckedRuns.Staying.{bound-by, Covered}, proofs.CheckedRuns.Events.{binding-sited}, proofs.Judged.{given-is}, proofs.Moving.{stores-agree}, proofs.Judging.Naming.{living-is, living-object}, proofs.CheckedRuns.Nodes.{property-node}, proofs.CheckedRuns.Settled.{agree-at, writes-agree, installs-agree}, proofs.CheckedRuns.Sites.{ChainsEnd}}

-- every value that the next step writes fits its property
abbrev pub WritesFit : Loaded → State → Type 0
WritesFit p s = (what : Assigning) → WritesNext s what → AllFit p s.objects (writes_of what)

-- ---- rules

module _ {p : Loaded} (s t : State) (agree : Agree p s.objects s.bindings) where
  begun-agrees : (u : State) (below : List Activation) (o : ℕ) (x : Object) (m : ℕ) (method : MetaMethod) (arguments : List Value) (work : Work) → Agree p u.objects u.bindings → t ≡ begun u below o x m method arguments work → Agree p t.objects t.bindings
  begun-agrees u below o x m method arguments Signal before e = agree-at _ e before
  begun-agrees u below o x m method arguments (Slot statements) before e = agree-at _ e before
  begun-agrees u below o x m method arguments (Native effects) before e = agree-at _ e before

  linked-agrees : (stack : List Activation) (ends : Endpoints) (how : ConnectionType) (names : Named (List ℕ)) (answer : Result (Unit {0}) Refusal) → t ≡ linked s stack ends how names answer → Agree p t.objects t.bindings
  linked-agrees stack ends how names (Ok _) e = agree-at _ e agree
  linked-agrees stack ends how names (Err k) e = agree-at _ e agree

  unlinked-agrees : (stack : List Activation) (ends : Endpoints) (names : Named (List ℕ)) (answer : Result (Unit {0}) Refusal) → t ≡ unlinked s stack ends names answer → Agree p t.objects t.bindings
  unlinked-agrees stack ends names (Ok _) e = agree-at _ e agree
  unlinked-agrees stack ends names (Err k) e = agree-at _ e agree

  -- what is left once an object is dead
  dies-agrees : {stack : List Activation} {x : ℕ} → Dies s stack x t → Agree p t.objects t.bindings
  dies-agrees {x = x} d = agree-at _ d.gives (left_agree p s.bindings s.objects x agree)

  destroy-agrees : (below : List Activation) (next : Option ℕ) (torn : List ℕ) → DestroyRule s below t next torn → Agree p t.objects t.bindings
  destroy-agrees below (Some x) torn r = by_life (is_living s.objects x) r
    where
      by_life : (b : Bool) → NextRule s below t x torn b → Agree p t.objects t.bindings
      by_life true d = dies-agrees d
      by_life false e = agree-at _ e agree
  destroy-agrees below None [] r = agree-at _ r agree
  destroy-agrees below None (parent ∷ torn) r = by_child (living_child s parent) r
    where
      by_child : (child : Option ℕ) → ChildRule s below t parent torn child → Agree p t.objects t.bindings
      by_child (Some x) d = dies-agrees d
      by_child None e = agree-at _ e agree

  schedules-agrees : (stack : List Activation) (x : ℕ) (life : Option Life) → Schedules s stack x t life → Agree p t.objects t.bindings
  schedules-agrees stack x life r = elim (schedule-cases life r) [
    | inl e ↦ agree-at _ e agree
    | inr d ↦ agree-at _ d.gives (scheduled-agree p s.objects s.bindings x agree)
  ]

  does-agrees : (natives : NativeAnswers) (o m : ℕ) (arguments : List Value) (step : Step) (rest : List Step) (below : List Activation) (d : Operation) → s.stack ≡ Body o m arguments (step ∷ rest) ∷ below → operation_of_step s.objects o arguments step ≡ Some d → WritesFit p s → Does p natives s o m arguments rest below d t → Agree p t.objects t.bindings
  does-agrees natives o m arguments step rest below (Write what) at is fit does =
      let next : WritesNext s what = does-next s at is in
      writes-agree agree does (fit what next)
  does-agrees natives o m arguments step rest below (Begin x n given) at is fit does = begun-agrees s (Body o m arguments rest ∷ below) x does.object n does.method given (does.method).work agree does.gives
  does-agrees natives o m arguments step rest below (Choose chosen) at is fit does = agree-at _ does agree
  does-agrees natives o m arguments step rest below (Connect ends how) at is fit does = linked-agrees (Body o m arguments rest ∷ below) (kept_ends ends) how (names_of does.kept) does.answer does.gives
  does-agrees natives o m arguments step rest below (Disconnect ends) at is fit does = unlinked-agrees (Body o m arguments rest ∷ below) (kept_ends ends) (names_of does.kept) does.answer does.gives
  does-agrees natives o m arguments step rest below (Delete x) at is fit does = agree-at _ does agree
  does-agrees natives o m arguments step rest below (Schedule x) at is fit does = schedules-agrees (Body o m arguments rest ∷ below) x (life_of s.objects x) does
  does-agrees natives o m arguments step rest below (TakeAnswer effects) at is fit does = agree-at _ does.gives agree
  does-agrees natives o m arguments step rest below Nothing at is fit does = agree-at _ does agree

  body-agrees : (natives : NativeAnswers) (o m : ℕ) (arguments : List Value) (below : List Activation) (left : List Step) → s.stack ≡ Body o m arguments left ∷ below → WritesFit p s → BodyRule p natives s o m arguments below t left → Agree p t.objects t.bindings
  body-agrees natives o m arguments below [] at fit r = agree-at _ r agree
  body-agrees natives o m arguments below (step ∷ rest) at fit rule =
      let r = step-of p natives s o m arguments step rest below t rule in
      does-agrees natives o m arguments step rest below r.what at r.is fit r.does

  arrives-agrees : (u : State) (stack : List Activation) (home o : ℕ) (x : Object) (m : ℕ) (method : MetaMethod) (arguments : List Value) (b : Bool) → Agree p u.objects u.bindings → Arrives u stack home o x m method arguments t b → Agree p t.objects t.bindings
  arrives-agrees u stack home o x m method arguments true before r = begun-agrees u stack o x m method arguments method.work before r
  arrives-agrees u stack home o x m method arguments false before r = agree-at _ r.gives before

  emission-agrees : (o g : ℕ) (arguments : List Value) (last : ℕ) (below : List Activation) (found : Option Connection) → EmitRule p s o g arguments last below t found → Agree p t.objects t.bindings
  emission-agrees o g arguments last below None r = agree-at _ r agree
  emission-agrees o g arguments last below (Some c) r =
      arrives-agrees (with_used s c) (Emit o g arguments c.number last ∷ below) r.home c.receiver r.receiver c.method r.method (take (length (r.method).types) arguments) (reaches_at_once c.kind r.home (running s.turn)) agree r.arrives

  update-agrees : (below : List Activation) (places : List Place) → UpdateRule p s below t places → Agree p t.objects t.bindings
  update-agrees below [] r = agree-at _ r agree
  update-agrees below (place ∷ places) r = by_life (life_of s.objects place.object) r
    where
      by_life : (life : Option Life) → NotifiesIf p s (Update places ∷ below) place t life → Agree p t.objects t.bindings
      by_life None e = agree-at _ e agree
      by_life (Some l) n = begun-agrees s (Update places ∷ below) place.object n.object n.signal n.method (take (length (n.method).types) (n.present ∷ [])) Signal agree n.gives

  delivers-agrees : (u : State) (item : Item) → Agree p u.objects u.bindings → Delivers p u t item → Agree p t.objects t.bindings
  delivers-agrees u (Call o m arguments) before r = by_life (life_of u.objects o) r
    where
      by_life : (life : Option Life) → BeginsIf p u o m arguments t life → Agree p t.objects t.bindings
      by_life None e = agree-at _ e before
      by_life (Some l) b = begun-agrees u [] o b.object m b.method arguments (b.method).work before b.gives
  delivers-agrees u (Deletion o) before e = agree-at _ e before

  turn-agrees : (found : Option Turn) → TurnRule p s t found → Agree p t.objects t.bindings
  turn-agrees None r = absurd r
  turn-agrees (Some turn) r = by_first (find (is_before turn.limit) (items_at s.queues.loops turn.home)) r
    where
      by_first : (first : Option Posted) → Serves p s t turn first → Agree p t.objects t.bindings
      by_first None e = agree-at _ e agree
      by_first (Some q) d = delivers-agrees (record s { queues = taken_before turn.home turn.limit s.queues }) q.item agree d

  stack-agrees : (natives : NativeAnswers) (stack : List Activation) → s.stack ≡ stack → WritesFit p s → RuleAt p natives s t stack → Agree p t.objects t.bindings
  stack-agrees natives [] at fit r = turn-agrees s.turn r
  stack-agrees natives (Body o m arguments left ∷ below) at fit r = body-agrees natives o m arguments below left at fit r
  stack-agrees natives (Emit o g arguments used last ∷ below) at fit r = emission-agrees o g arguments last below (next_used s.objects s.connected.connections o g used last) r
  stack-agrees natives (Update places ∷ below) at fit r = update-agrees below places r
  stack-agrees natives (Destroy next torn ∷ below) at fit r = destroy-agrees below next torn r

-- a rule that writes what fits leaves all in agreement
pub rule-agrees : {p : Loaded} (natives : NativeAnswers) (s t : State) → Agree p s.objects s.bindings → WritesFit p s → Rule p natives s t → Agree p t.objects t.bindings
rule-agrees natives s t agree fit rule = stack-agrees s t agree natives s.stack refl fit rule

-- ---- a new object

-- what holds no object reads as it is
seen-literal : (objects : List Object) (v : Value) → HoldsNoObject v → seen objects v ≡ v
seen-literal objects (variant.Int n) none = refl
seen-literal objects (variant.Bool b) none = refl
seen-literal objects (variant.Text t) none = refl
seen-literal objects (variant.Ref None) none = refl
seen-literal objects (variant.Ref (Some o)) none = absurd (none o refl)

-- what holds at each place
all-at : {X : Type 0} (P : X → Type 0) (xs : List X) → ((k : ℕ) (x : X) → slice_get xs k ≡ Some x → P x) → AllByRecursion P xs
all-at P [] each = tt
all-at P (x ∷ xs) each = (each 0 x refl, all-at P xs (λ k. each (suc k)))

-- in a typed program every object begins well
begins-well : {p : Loaded} → IsTypedProgram p → IsSound p → (objects : List Object) (c : ℕ) (class : MetaObject) → IsClass p c class → BeginsWell p objects c class
begins-well {p} program sound objects c class is = All-from_recursion (BeginsAs p objects c) class.properties (all-at (BeginsAs p objects c) class.properties (λ q property there.
    let here = property-node sound c q property (record { class = class; is_class = is; is = there }) in
    let has = program.nodes here.0 (node c (Property q)) here.1 property (class_with objects c) (record { class = class; is_class = is; is = there }) in
    let literal = seen-literal objects property.initial (((sound.classes c class is).properties q property there).initial) in
    subst (λ (v : Value). Has p (class_with objects c) v property.kind) (sym literal) has))

-- ---- events

module _ {p : Loaded} (program : IsTypedProgram p) (sound : IsSound p) (ends : ChainsEnd p) (s : State) (agree : Agree p s.objects s.bindings) where
  invoked-agrees : (t : State) (a : Invocation) (name called : List ℕ) (inputs : List Input) → invoke p s a name called inputs (Ok t) → Agree p t.objects t.bindings
  invoked-agrees t a name called inputs (goes_on o lives (goes_on m asked (goes_on vs given (goes_on _ fit (becomes b))))) =
      begun-agrees s t agree (accepted s) s.stack o.number b.object m.number b.method vs (b.method).work agree b.gives

  blocked-agrees : {t : State} (name : List ℕ) (on : Bool) → block s name on (Ok t) → Agree p t.objects t.bindings
  blocked-agrees name on (goes_on o lives given) =
      agree-at _ (given-is given) (blocked_agree p s.bindings s.objects o.number on agree)

  -- an object more
  created-agrees : (name : List ℕ) (c home : ℕ) (class : MetaObject) → IsClass p c class → Agree p (s.objects ++ fresh name c home (initial_values class) ∷ []) s.bindings
  created-agrees name c home class is =
      let z : Object = fresh name c home (initial_values class) in
      agree-living p s.objects (s.objects ++ z ∷ []) s.bindings
      (typed-created p s.objects name c home class is (begins-well program sound s.objects c class is) agree.typed)
      (live-created s.objects z) agree

  -- a bind that may be closes no chain
  bind-closes-none : (classes : ℕ → Option ℕ) → IsCovered p classes s.objects s.connected.connections s.bindings → (b : Binding) → IsSited p classes b → ¬ Closed (binding_at (replaced s.bindings b))
  bind-closes-none classes covered b sited =
      let all = all-snoc (IsSited p classes) (without b.target s.bindings) b (all-filtered (IsSited p classes) _ s.bindings covered.sited) sited in
      ends classes (binding_at (replaced s.bindings b)) (λ q z e. bound-by (IsSited p classes) (replaced s.bindings b) all q z e)

  event-agrees : (t : State) (e : Event) (classes : ℕ → Option ℕ) → Covered p classes s → IsIdle s → judged p s e (Ok t) → Agree p t.objects t.bindings
  event-agrees t (Loop name) classes covered idle (goes_on _ free given) = agree-at _ (given-is given) agree
  event-agrees t (TurnEvent name) classes covered idle (goes_on home is given) = agree-at _ (given-is given) agree
  event-agrees t (New name class loop) classes covered idle (goes_on _ free (goes_on c (finds is) (goes_on home lives (goes_on _ room given)))) =
      agree-at _ (given-is given) (created-agrees name c.number home c.it is.0)
  event-agrees t (Adopt parent child) classes covered idle (goes_on a is_parent (goes_on c is_child (goes_on _ owns (goes_on _ over (goes_on _ home (goes_on objects (becomes x) given)))))) =
      agree-at _ (given-is given) (adopted_agree p s.bindings s.objects objects a.number c.number c.it agree x)
  event-agrees t (Move name loop) classes covered idle (goes_on o lives (goes_on home is (goes_on _ root (goes_on _ alone (goes_on store (becomes x) given))))) =
      agree-at _ (given-is given) (stores-agree x agree)
  event-agrees t (ConnectEvent e how) classes covered idle (goes_on f both (goes_on _ may given)) = agree-at _ (given-is given) agree
  event-agrees t (DisconnectEvent e) classes covered idle (goes_on f both (goes_on _ may given)) = agree-at _ (given-is given) agree
  event-agrees t (Set name property i) classes covered idle (goes_on o lives (goes_on q (finds asked) (goes_on v _ (goes_on _ (so fits) (becomes w))))) =
      let it = living-object o (living-is lives) in
      writes-agree {s = accepted s} agree w (record { object = it.0; life = o.it; lives = it.1; property = q.it; is_property = asked.0; reads = fits }, tt)
  event-agrees t (Bind site target sources) classes covered idle (goes_on b may (becomes x)) =
      let sited = binding-sited sound s idle classes covered agree site target sources b may in
      installs-agree {s = accepted s} agree (may-fit program sound s agree site target sources b may) (bind-closes-none classes covered b sited) (bound-within s site target sources may) x
  event-agrees t (EmitEvent name signal inputs) classes covered idle x = invoked-agrees t EmitIt name signal inputs x
  event-agrees t (CallEvent name slot inputs) classes covered idle x = invoked-agrees t CallIt name slot inputs x
  event-agrees t (Block name) classes covered idle x = blocked-agrees name true x
  event-agrees t (Unblock name) classes covered idle x = blocked-agrees name false x
  event-agrees t (DeleteEvent name) classes covered idle (goes_on o lives given) = agree-at _ (given-is given) agree
  event-agrees t (LaterEvent name) classes covered idle (goes_on o lives (becomes x)) = schedules-agrees (accepted s) t agree s.stack o.number (Some o.it) x

-- whatever event is taken, all is in agreement
pub takes-agrees : {p : Loaded} (program : IsTypedProgram p) (sound : IsSound p) (ends : ChainsEnd p) {s t : State} {e : Event} {a : Answer} (classes : ℕ → Option ℕ) → Covered p classes s → Agree p s.objects s.bindings → Takes p e a s t → Agree p t.objects t.bindings
takes-agrees program sound ends {s = s} {t = t} {e = e} classes covered agree (accepts idle x) = event-agrees program sound ends s agree t e classes covered idle x
takes-agrees program sound ends classes covered agree (refuses k idle x) = agree
