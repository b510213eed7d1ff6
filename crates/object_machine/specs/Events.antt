-- The events of a script: what each asks for, in this order, and what it does (docs/machine.md, "Events").
use Rattle.std.specs.Prelude.{◌≡◌, ◌≢◌, ℕ, ◌+◌, ◌<◌, Bool, true, false, IsTrue, List, [], ◌∷◌, ◌++◌, length, slice_get, Option, None, Some, MatchOption, Result}
use Rattle.basic_types.specs.{declared.value.Value.{Value}, declared.value.Value.TheVariants.{Ref}, declared.sig.Sig.{Sig}}
use Rattle.syntax_trees.specs.{Literals.{literal_value}, declared.connection.Endpoints.{Endpoints as Named}}
use Rattle.meta_model.specs.{declared.object.MetaMethod.{MetaMethod}, declared.object.Work.TheVariants.{Signal}, Loaded.{Loaded}, Members.{IsMethod, HasSig, IsClass, Owns, IsProperty}, declared.object.MetaObject.{MetaObject}, declared.object.MetaProperty.{MetaProperty}, declared.site.MetaSite.{MetaSite}, declared.qobject.TheConstants.{OBJECT_NAME_CHANGED}}
use Rattle.object_tree.specs.{declared.life.Life.{Life}, declared.object.Object.{Object}, Objects.{IsNamed, life_of, IsFree, change_life}, Creating.{fresh, initial_values, most_objects}, Adopting.{IsAdopted}, Family.{Above}, Typed.{ReadsAs, ReadAs}}
use Rattle.event_loops.specs.Queues.{IsTaken, with_loop, IsNamed as IsLoop, Loop}
use Rattle.binding_graph.specs.{declared.binding.Binding.{Binding}, Places.{property_of}}
use Rattle.prop_bindings.specs.{Calls.{CoversBinding, binding_of}, Fits.{InOneLoop}}
use Rattle.delete_later.specs.Moving.{IsMoved, IsBoundOut}
use Rattle.script_lang.specs.declared.event.Event.{Event}
use Rattle.script_lang.specs.declared.event.Event.TheVariants as event
use Rattle.script_lang.specs.declared.event.Input.{Input}
use Rattle.script_lang.specs.declared.event.Input.TheVariants as input
use Rattle.trace_entries.specs.{declared.refusal.Refusal.{Refusal}, declared.refusal.Refusal.TheVariants.{NoObject, Dead, NoMember, LoopExists, NoLoop, NameUsed, NoClass, TooManyObjects, NotOwned, Cycle, OtherLoop, BadArgs, BadSource, HasParent, Bound, NoConnection}}
use Rattle.machine_state.specs.{Accepting.{accepted}, State.{State}, Connections.{are_joined}, Worlds.{store_of, with_store, with_connection, without_connections}, Turns.{main}, Telling.{Alone}}
use Rattle.machine_rules.specs.{Judgement.{Numbered, Find, Gives, ◌>>=◌, Check, Becomes}, declared.ends.FoundEnds.{FoundEnds}, Connecting.{kept_ends, may_connect}, Settling.{Writes, Installs}, Rules.{Begins}, Destroying.{deleting, Schedules}}
use Rattle.object_machine.specs.{declared.invoking.Invocation.{Invocation}, declared.invoking.Invocation.TheVariants.{Emit, Call}}

-- ---- the objects that events name

-- the object that has, or had, the name, and the life that it lives
abbrev pub living : List Object → List ℕ → Result (Numbered Life) Refusal → Type 0
living objects name =
    Find NoObject (IsNamed objects name) >>= λ o.
    Find Dead (λ l. life_of objects o ≡ Some l) >>= λ l.
    Gives (record { number = o; it = l })

-- each of these is judged so, in their order
abbrev pub each : {X Y : Type 0} → (X → Result Y Refusal → Type 0) → List X → Result (List Y) Refusal → Type 0
each judge [] = Gives []
each judge (x ∷ xs) = judge x >>= λ y. each judge xs >>= λ ys. Gives (y ∷ ys)

-- ---- the values that a script writes: a literal, or the name of a living object

abbrev pub value : List Object → Input → Result Value Refusal → Type 0
value objects (input.Literal l) = Gives (literal_value l)
value objects (input.Object name) = living objects name >>= λ o. Gives (Ref (Some o.number))

-- ---- what a connect or a disconnect names (Qt 6, "Signals & Slots")

-- the objects and their methods, with the classes of the objects
abbrev pub find_ends : Loaded → List Object → Named (List ℕ) → Result FoundEnds Refusal → Type 0
find_ends p objects e =
    living objects e.sender >>= λ a.
    living objects e.receiver >>= λ b.
    Find NoMember (λ (g : ℕ). (is : HasSig p a.it.class e.signal g) × (is.method.work ≡ Signal)) >>= λ g.
    Find NoMember (HasSig p b.it.class e.method) >>= λ m.
    Gives (record {
      from = a.it.class;
      to = b.it.class;
      ends = kept_ends (record { sender = a.number; signal = g; receiver = b.number; method = m });
    })

-- ---- what a `bind` names

-- The binding that is asked for: the site is there and has as many formal sources as objects are named; the objects live;
-- the site covers them, and they live in one event loop.
abbrev pub may_bind : Loaded → State → List ℕ → List ℕ → List (List ℕ) → Result Binding Refusal → Type 0
may_bind p s site target sources =
    Find BadSource (λ (n : Numbered MetaSite). (slice_get p.sites n.number ≡ Some n.it) × (n.it.name ≡ site)) >>= λ n.
    Check BadSource (length sources ≡ length n.it.formals) >>= λ _.
    living s.objects target >>= λ o.
    each (λ name. living s.objects name >>= λ x. Gives x.number) sources >>= λ xs.
    Check BadSource (CoversBinding p s.objects n.it o.number xs) >>= λ _.
    Check OtherLoop (InOneLoop s.objects o.number xs) >>= λ _.
    Gives (binding_of n.it n.number o.number xs)

-- ---- two pairs of events

-- What an event may ask of a method. `QObject`'s own signals come first in every class: only the runtime emits these.
abbrev pub May : Invocation → ℕ → MetaMethod → Type 0
May Emit m method = (OBJECT_NAME_CHANGED < m) × (method.work ≡ Signal)
May Call m method = method.work ≢ Signal

-- the class's method of this name and number of parameters, of which the event may ask this
pub record IsAskedOf (p : Loaded) (class : ℕ) (invocation : Invocation) (name : List ℕ) (count : ℕ)
    (m : Numbered MetaMethod) : Type 0 where
  pub is : IsMethod p class m.number m.it
  pub named : m.it.sig.name ≡ name
  pub counted : length m.it.sig.types ≡ count
  pub may : May invocation m.number m.it

-- `emit O.M(V,..)` and `call O.M(V,..)`: the method begins
abbrev pub invoke : Loaded → State → Invocation → List ℕ → List ℕ → List Input → Result State Refusal → Type 0
invoke p s invocation name called inputs =
    living s.objects name >>= λ o.
    Find NoMember (IsAskedOf p o.it.class invocation called (length inputs)) >>= λ m.
    each (value s.objects) inputs >>= λ vs.
    Check BadArgs (ReadAs p s.objects vs m.it.types) >>= λ _.
    Becomes (Begins p (accepted s) s.stack o.number m.number vs)

-- `block O` and `unblock O` (Qt 6, `QObject::blockSignals`): the object's emissions call nothing, or call again
abbrev pub block : State → List ℕ → Bool → Result State Refusal → Type 0
block s name on =
    living s.objects name >>= λ o.
    Gives (record (accepted s) { objects = change_life o.number (λ (l : Life). record l { blocked = on }) s.objects })

-- ---- all events

-- what becomes of an event: a state, or a refusal
abbrev pub judged : Loaded → State → Event → Result State Refusal → Type 0
-- `loop L` (Qt 6, "Threads and QObjects": each thread has an event loop of its own): a loop more, in which nothing waits
judged p s (event.Loop name) =
    Check LoopExists (¬ IsTaken s.queues.loops name) >>= λ _.
    Gives (record (accepted s) { queues = with_loop name s.queues })
-- `turn L` (Qt 6, `QEventLoop::processEvents`): a turn of the loop begins, which delivers what waits in it by now
judged p s (event.Turn name) =
    Find NoLoop (IsLoop s.queues.loops name) >>= λ home.
    Gives (record (accepted s) { turn = Some (record { home = home; limit = s.queues.posted + 1 }) })
-- `new O C` and `new O C L`: an object of the class, in the loop that is named or in `main`, with its first values
judged p s (event.New name class loop) =
    Check NameUsed (IsFree s.objects name) >>= λ _.
    Find NoClass (λ (c : Numbered MetaObject). IsClass p c.number c.it × (c.it.name ≡ class)) >>= λ c.
    Find NoLoop (λ (home : ℕ). MatchOption loop (home ≡ main) (λ name. IsLoop s.queues.loops name home)) >>= λ home.
    Check TooManyObjects (length s.objects < most_objects) >>= λ _.
    Gives (record (accepted s) { objects = s.objects ++ fresh name c.number home (initial_values c.it) ∷ [] })
-- `adopt P O` (Qt 6, `QObject::setParent`): the first object becomes the second's parent
judged p s (event.Adopt parent child) =
    living s.objects parent >>= λ a.
    living s.objects child >>= λ c.
    Check NotOwned (Owns p a.it.class c.it.class) >>= λ _.
    Check Cycle (¬ Above s.objects c.number a.number) >>= λ _.
    Check OtherLoop (a.it.home ≡ c.it.home) >>= λ _.
    Becomes (IsAdopted a.number c.number c.it s.objects) >>= λ objects.
    Gives (record (accepted s) { objects = objects })
-- `move O L` (Qt 6, `QObject::moveToThread`): the object and its living descendants live in the loop, and what waits for
-- them does so there, unless a binding would join objects of two loops. No emission is under way, as an event is taken
-- where nothing is going on: what `auto` does later goes by the loop in which the receiver lives then.
judged p s (event.Move name loop) =
    living s.objects name >>= λ o.
    Find NoLoop (IsLoop s.queues.loops loop) >>= λ home.
    Check HasParent (o.it.parent ≡ None) >>= λ _.
    Check Bound (¬ ((o.it.home ≢ home) × IsBoundOut o.number (store_of s))) >>= λ _.
    Becomes (IsMoved o.number home (store_of s)) >>= λ store.
    Gives (with_store (accepted s) store)
-- `connect A S B M kind [unique] [single]` (Qt 6, "Signals & Slots"): a connection with the next number
judged p s (event.Connect e how) =
    find_ends p s.objects e >>= λ f.
    may_connect p s.connected f e.signal e.method how >>= λ _.
    Gives (with_connection (accepted s) f.ends how)
-- `disconnect A S B M` (Qt 6, `QObject::disconnect`): all connections between the two are removed, of whatever kind
judged p s (event.Disconnect e) =
    find_ends p s.objects e >>= λ f.
    Check NoConnection (IsTrue (are_joined f.ends s.connected)) >>= λ _.
    Gives (without_connections (accepted s) f.ends)
-- `set O.P V` (Qt 6, "The Property System"): the property is written, and all values follow
judged p s (event.Set name property i) =
    living s.objects name >>= λ o.
    Find NoMember (λ (q : Numbered MetaProperty). IsProperty p o.it.class q.number q.it × (q.it.name ≡ property)) >>= λ q.
    value s.objects i >>= λ v.
    Check BadArgs (ReadsAs p s.objects v q.it.kind) >>= λ _.
    Becomes (Writes p (accepted s) s.stack (Alone (property_of o.number q.number) v))
judged p s (event.Emit name signal inputs) = invoke p s Emit name signal inputs
judged p s (event.Call name slot inputs) = invoke p s Call name slot inputs
-- `bind N O X ..` (Qt 6, "Qt Bindable Properties"): the binding is installed, in place of the property's old one, and all
-- values follow
judged p s (event.Bind site target sources) =
    may_bind p s site target sources >>= λ b.
    Becomes (Installs p (accepted s) s.stack b)
judged p s (event.Block name) = block s name true
judged p s (event.Unblock name) = block s name false
-- `delete O` (Qt 6, `QObject::~QObject`: the object is destroyed, and all its children): the deletion of the object begins
judged p s (event.Delete name) =
    living s.objects name >>= λ o.
    Gives (deleting (accepted s) s.stack o.number)
-- `later O` (Qt 6, `QObject::deleteLater`): the object is scheduled to be deleted by the event loop in which it lives,
-- unless it is already
judged p s (event.Later name) =
    living s.objects name >>= λ o.
    Becomes (λ t. Schedules (accepted s) s.stack o.number t (Some o.it))

-- ---- parts of these, for proofs

-- the living objects of these names, in their order
abbrev pub all_living : List Object → List (List ℕ) → Result (List ℕ) Refusal → Type 0
all_living objects names = each (λ name. living objects name >>= λ x. Gives x.number) names

abbrev pub values : List Object → List Input → Result (List Value) Refusal → Type 0
values objects inputs = each (value objects) inputs

-- the class's signal of this signature
abbrev pub IsSignalOf : Loaded → ℕ → Sig → ℕ → Type 0
IsSignalOf p class sig g = (is : HasSig p class sig g) × (is.method.work ≡ Signal)

-- the loop of this name; where none is named, `main`
abbrev pub IsHome : List Loop → Option (List ℕ) → ℕ → Type 0
IsHome loops name home = MatchOption name (home ≡ main) (λ known. IsLoop loops known home)
