-- What may follow a state by one rule, beside the taking of events (docs/machine.md, "Rules"). No rule is forbidden
-- because activations would nest too deep, a value is of a wrong type or an object dies while a body of it is active: those
-- are faults of a run, and not of a rule.
use Rattle.std.specs.{Prelude.{◌≡◌, ℕ, suc, List, [], ◌∷◌, ◌++◌, length, take, map, Option, None, Some, Result, Ok, Err, Bool, true, false, IsTrue, MatchOption}, List.{AllZip, find}}
use Rattle.basic_types.specs.declared.value.Value.{Value}
use Rattle.syntax_trees.specs.{declared.connection.ConnectionType.{ConnectionType}, declared.connection.Endpoints.{Endpoints as Named}}
use Rattle.meta_model.specs.{declared.object.Work.{Work}, declared.object.Work.TheVariants.{Signal, Slot, Native}, declared.object.MetaMethod.{MetaMethod}, declared.object.MetaProperty.{MetaProperty}, Loaded.{Loaded}, Members.{IsMethod}, declared.effects.MetaEffects.{MetaEffects}}
use Rattle.event_loops.specs.{declared.item.Item.{Item}, declared.item.Item.TheVariants.{Call, Deletion}, declared.item.Posted.{Posted}, Queues.{HasName, items_at, is_before, posted_to, taken_before}}
use Rattle.object_tree.specs.{declared.object.Object.{Object}, Objects.{life_of, home_of, stored}, declared.life.Life.{Life}}
use Rattle.connections.specs.declared.connection.Connection.{Connection}
use Rattle.trace_entries.specs.{declared.entry.Entry.{Entry}, declared.entry.Entry.TheVariants.{At}, declared.entry.EntryKind.{EntryKind}, declared.entry.Shown.{Shown}, declared.entry.ShownAction.{ShownAction}, declared.refusal.Refusal.{Refusal}, declared.refusal.Refusal.TheVariants.{NoConnection}, Refusals.{refusal_number}}
use Rattle.trace_entries.specs.declared.entry.EntryKind.TheVariants as entry_kind
use Rattle.native_slots.specs.declared.action.Action.{Action}
use Rattle.machine_state.specs.{declared.endpoints.Endpoints.{Endpoints}, Worlds.{with_connection, without_connections}, Connections.{are_joined, silences, next_used, after_use}, Objects.{all_shown}, State.{Step, Run, Ask, Act, State, Activation, Body, Emit, Update, Destroy}, Turns.{running, reaches_at_once}, declared.turn.Turn.{Turn}}
use Rattle.machine_rules.specs.{There.{IsMember, IsField}, Judgement.{Check}, Connecting.{AreThere, kept_ends, names_of, found_ends, may_connect}, Destroying.{deleting, DestroyRule, Schedules}, Settling.{Writes}, Operations.{Operation, Write, Begin, Choose, Connect, Disconnect, Delete, Schedule, TakeAnswer, Nothing, operation_of_step}, Natives.{NativeAnswers, MayAnswer, IsShownAs}}
use Rattle.binding_graph.specs.declared.place.Place.{Place}

-- what begins with a method: the emission of a signal, the body of a slot, or of a native, which begins with its answer
abbrev pub top_of : ℕ → ℕ → List Value → ℕ → Work → Activation
top_of o m arguments last Signal = Emit o m arguments 0 last
top_of o m arguments last (Slot statements) = Body o m arguments (map Run statements)
top_of o m arguments last (Native effects) = Body o m arguments (Ask effects ∷ [])

-- the entry of what begins with a method, which says of a signal whether it calls nothing
abbrev pub begin_entry : ℕ → Object → ℕ → List ℕ → List Shown → Work → Entry
begin_entry depth x m method given Signal = At depth (entry_kind.Emitted x.name method given (silences x.life m))
begin_entry depth x m method given _ = At depth (entry_kind.Called x.name method given)

-- a method of an object begins over a stack
abbrev pub begun : State → List Activation → ℕ → Object → ℕ → MetaMethod → List Value → Work → State
begun s below o x m method arguments work = record s {
  stack = top_of o m arguments s.connected.last work ∷ below;
  trace = s.trace ++ begin_entry (suc (length below)) x m method.sig.name (all_shown s.objects arguments) work ∷ [];
}

-- method m of object o begins with these arguments
pub record Begins (p : Loaded) (s : State) (below : List Activation) (o m : ℕ) (arguments : List Value) (t : State) : Type 0 where
  pub object : Object
  pub method : MetaMethod
  pub is : IsMember p s.objects o m object method
  pub gives : t ≡ begun s below o object m method arguments method.work

-- ---- updates (Qt 6, "The Property System")

-- the notify signal of a property is emitted, with its present value if the signal has a parameter
pub record Notifies (p : Loaded) (s : State) (below : List Activation) (place : Place) (t : State) : Type 0 where
  pub object : Object
  pub property : MetaProperty
  pub is : IsField p s.objects place.object place.property object property
  pub signal : ℕ
  pub is_signal : property.notify ≡ Some signal
  pub present : Value
  pub is_present : stored s.objects place.object place.property ≡ Some present
  pub method : MetaMethod
  pub is_method : IsMethod p is.life.class signal method
  pub gives : t ≡ begun s below place.object object signal method (take (length method.types) (present ∷ [])) Signal

-- the next property is notified, if its object lives: a dead one notifies nobody; with none left the update ends
abbrev pub UpdateRule : Loaded → State → List Activation → State → List Place → Type 0
UpdateRule p s below t [] = t ≡ record s { stack = below }
UpdateRule p s below t (place ∷ places) =
    MatchOption (life_of s.objects place.object) (t ≡ record s { stack = Update places ∷ below }) (λ l. Notifies p s (Update places ∷ below) place t)

-- ---- bodies

-- this is written down, and nothing is pushed
abbrev pub told : State → List Activation → EntryKind → State
told s stack what = record s { stack = stack; trace = s.trace ++ At (length stack) what ∷ [] }

-- what is done is written down, or it is refused, which changes nothing else
abbrev pub answered : State → State → List Activation → EntryKind → Result (Unit {0}) Refusal → State
answered s done stack what (Ok _) = told done stack what
answered s done stack what (Err r) = told s stack (entry_kind.Refused (refusal_number r))

-- a statement connects: its signal and method are judged as they are spelled; `destroyed()` is kept and written down as
-- `destroyed(QObject*)`
pub record Connects (p : Loaded) (s : State) (stack : List Activation) (ends : Endpoints) (how : ConnectionType) (t : State) : Type 0 where
  pub spelled : AreThere p s.objects ends
  pub kept : AreThere p s.objects (kept_ends ends)
  pub answer : Result (Unit {0}) Refusal
  pub judged : may_connect p s.connected (found_ends spelled) spelled.signal.sig spelled.method.sig how answer
  pub gives : t ≡ answered s (with_connection s (kept_ends ends) how) stack (entry_kind.Connected (names_of kept) how) answer

-- a statement disconnects: the connections are removed
pub record Disconnects (p : Loaded) (s : State) (stack : List Activation) (ends : Endpoints) (t : State) : Type 0 where
  pub kept : AreThere p s.objects (kept_ends ends)
  pub answer : Result (Unit {0}) Refusal
  pub judged : Check NoConnection (IsTrue (are_joined (kept_ends ends) s.connected)) answer
  pub gives : t ≡ answered s (without_connections s (kept_ends ends)) stack (entry_kind.Disconnected (names_of kept)) answer

-- A native's answer is taken, and written down; its actions come next. Which one it is, is the native's choice.
pub record Answers (p : Loaded) (natives : NativeAnswers) (s : State) (o m : ℕ) (arguments : List Value) (effects : MetaEffects)
    (rest : List Step) (below : List Activation) (t : State) : Type 0 where
  pub actions : List Action
  pub may : MayAnswer p natives s.objects o m arguments effects actions
  pub lines : List ShownAction
  pub are_shown : AllZip (IsShownAs p s.objects o effects) actions lines
  pub gives : t ≡ told s (Body o m arguments (map (Act effects) actions ++ rest) ∷ below) (entry_kind.Answered lines)

-- this is done by a step of the body of method m of object o, over what is left of the body and what is below it
abbrev pub Does : Loaded → NativeAnswers → State → ℕ → ℕ → List Value → List Step → List Activation → Operation → State → Type 0
Does p natives s o m arguments rest below (Write what) t = Writes p s (Body o m arguments rest ∷ below) what t
Does p natives s o m arguments rest below (Begin x n given) t = Begins p s (Body o m arguments rest ∷ below) x n given t
Does p natives s o m arguments rest below (Choose block) t = t ≡ record s { stack = Body o m arguments (map Run block ++ rest) ∷ below }
Does p natives s o m arguments rest below (Connect ends how) t = Connects p s (Body o m arguments rest ∷ below) ends how t
Does p natives s o m arguments rest below (Disconnect ends) t = Disconnects p s (Body o m arguments rest ∷ below) ends t
Does p natives s o m arguments rest below (Delete x) t = t ≡ deleting s (Body o m arguments rest ∷ below) x
Does p natives s o m arguments rest below (Schedule x) t = Schedules s (Body o m arguments rest ∷ below) x t (life_of s.objects x)
Does p natives s o m arguments rest below (TakeAnswer effects) t = Answers p natives s o m arguments effects rest below t
Does p natives s o m arguments rest below Nothing t = t ≡ told s (Body o m arguments rest ∷ below) entry_kind.OnNull

-- the next step is carried out, unless it lacks a value; with none left the body ends
abbrev pub BodyRule : Loaded → NativeAnswers → State → ℕ → ℕ → List Value → List Activation → State → List Step → Type 0
BodyRule p natives s o m arguments below t [] = t ≡ record s { stack = below }
BodyRule p natives s o m arguments below t (step ∷ rest) =
    MatchOption (operation_of_step s.objects o arguments step) ⊥ (λ what. Does p natives s o m arguments rest below what t)

-- ---- emissions

-- a call of a method is appended to the items of this event loop; the stack stays as it is
pub record Posts (s : State) (stack : List Activation) (home o : ℕ) (x : Object) (m : ℕ) (method : MetaMethod) (arguments : List Value) (t : State) : Type 0 where
  pub name : List ℕ
  pub is_loop : HasName s.queues.loops name home
  pub gives : t ≡ record s {
    queues = posted_to home (Call o m arguments) s.queues;
    stack = stack;
    trace = s.trace ++ At (length stack) (entry_kind.Posted name x.name method.sig.name (all_shown s.objects arguments)) ∷ [];
  }

-- a method begins at once, or a call of it is posted to a loop
abbrev pub Arrives : State → List Activation → ℕ → ℕ → Object → ℕ → MetaMethod → List Value → State → Bool → Type 0
Arrives s stack home o x m method arguments t true = t ≡ begun s stack o x m method arguments method.work
Arrives s stack home o x m method arguments t false = Posts s stack home o x m method arguments t

-- a connection is used, so that a single-shot one is removed, and its method is called at the receiver, with as many arguments
-- as it declares
pub record Uses (p : Loaded) (s : State) (below : List Activation) (c : Connection) (arguments : List Value) (t : State) : Type 0 where
  pub receiver : Object
  pub method : MetaMethod
  pub is : IsMember p s.objects c.receiver c.method receiver method
  pub home : ℕ
  pub lives_in : home_of s.objects c.receiver ≡ Some home
  pub arrives :
      Arrives (record s { connected = after_use c s.connected }) below home c.receiver receiver c.method method (take (length method.types) arguments) t
      (reaches_at_once c.kind home (running s.turn))

-- ---- turns of event loops

-- an item is delivered: the call begins, if its object lives, or the deletion
abbrev pub Delivers : Loaded → State → State → Item → Type 0
Delivers p s t (Call o m arguments) = MatchOption (life_of s.objects o) (t ≡ s) (λ l. Begins p s [] o m arguments t)
Delivers p s t (Deletion o) = t ≡ deleting s [] o

-- ---- one rule

-- What the activation on top does next; where there is none, what the turn does: the first item that was posted before it
-- began is taken and delivered; with none left the turn ends, and outside a turn nothing follows. An emission uses the next
-- connection; with none left, and where the object is blocked, it ends.
abbrev pub RuleAt : Loaded → NativeAnswers → State → State → List Activation → Type 0
RuleAt p natives s t [] =
    MatchOption s.turn ⊥
    (λ turn. MatchOption (find (is_before turn.limit) (items_at s.queues.loops turn.home)) (t ≡ record s { turn = None })
    (λ first. Delivers p (record s { queues = taken_before turn.home turn.limit s.queues }) t first.item))
RuleAt p natives s t (Body o m arguments left ∷ below) = BodyRule p natives s o m arguments below t left
RuleAt p natives s t (Emit o g arguments used last ∷ below) =
    MatchOption (next_used s.objects s.connected.connections o g used last) (t ≡ record s { stack = below })
    (λ c. Uses p s (Emit o g arguments c.number last ∷ below) c arguments t)
RuleAt p natives s t (Update places ∷ below) = UpdateRule p s below t places
RuleAt p natives s t (Destroy next torn ∷ below) = DestroyRule s below t next torn

-- t follows s by one rule, where natives may answer so
abbrev pub Rule : Loaded → NativeAnswers → State → State → Type 0
Rule p natives s t = RuleAt p natives s t s.stack

-- ---- parts of these, for proofs

-- a step is carried out, and `rest` follows it
pub record StepRule (p : Loaded) (natives : NativeAnswers) (s : State) (o m : ℕ) (arguments : List Value)
    (step : Step) (rest : List Step) (below : List Activation) (t : State) : Type 0 where
  pub what : Operation
  pub is : operation_of_step s.objects o arguments step ≡ Some what
  pub does : Does p natives s o m arguments rest below what t

-- a connection is made, or refused
abbrev pub linked : State → List Activation → Endpoints → ConnectionType → Named (List ℕ) → Result (Unit {0}) Refusal → State
linked s stack ends how names answer = answered s (with_connection s ends how) stack (entry_kind.Connected names how) answer

-- the connections are removed, or that is refused
abbrev pub unlinked : State → List Activation → Endpoints → Named (List ℕ) → Result (Unit {0}) Refusal → State
unlinked s stack ends names answer = answered s (without_connections s ends) stack (entry_kind.Disconnected names) answer

-- a call of a method is appended to the items of the event loop of this name
abbrev pub posted : State → List Activation → List ℕ → ℕ → ℕ → Object → ℕ → MetaMethod → List Value → State
posted s stack name home o x m method arguments = record s {
  queues = posted_to home (Call o m arguments) s.queues;
  stack = stack;
  trace = s.trace ++ At (length stack) (entry_kind.Posted name x.name method.sig.name (all_shown s.objects arguments)) ∷ [];
}

-- this item is delivered, or the turn ends
abbrev pub Serves : Loaded → State → State → Turn → Option Posted → Type 0
Serves p s t turn found =
    MatchOption found (t ≡ record s { turn = None })
    (λ first. Delivers p (record s { queues = taken_before turn.home turn.limit s.queues }) t first.item)

-- outside a turn nothing follows
abbrev pub TurnRule : Loaded → State → State → Option Turn → Type 0
TurnRule p s t found = MatchOption found ⊥ (λ turn. Serves p s t turn (find (is_before turn.limit) (items_at s.queues.loops turn.home)))

-- the notify signal is emitted if the property's object lives
abbrev pub NotifiesIf : Loaded → State → List Activation → Place → State → Option Life → Type 0
NotifiesIf p s below place t life = MatchOption life (t ≡ record s { stack = below }) (λ l. Notifies p s below place t)

-- the next connection is used
abbrev pub EmitRule : Loaded → State → ℕ → ℕ → List Value → ℕ → List Activation → State → Option Connection → Type 0
EmitRule p s o g arguments last below t next =
    MatchOption next (t ≡ record s { stack = below }) (λ c. Uses p s (Emit o g arguments c.number last ∷ below) c arguments t)

-- a call begins, if its object lives
abbrev pub BeginsIf : Loaded → State → ℕ → ℕ → List Value → State → Option Life → Type 0
BeginsIf p s o m arguments t life = MatchOption life (t ≡ s) (λ l. Begins p s [] o m arguments t)

-- a connection is used: a single-shot one is removed
abbrev pub with_used : State → Connection → State
with_used s c = record s { connected = after_use c s.connected }
