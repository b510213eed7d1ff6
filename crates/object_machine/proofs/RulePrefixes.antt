-- A rule reads nothing of the trace and only adds to it, so what was written before may be in front of it or not.
use Rattle.std.{proofs.Common.{◌≡◌, ℕ, suc, List, [], ◌∷◌, ◌++◌, length, map, take, Bool, true, false, Option, None, Some, Result, Ok, Err, ap, sym, ◌∙◌, append_assoc}, specs.List.{find}}
use Rattle.basic_types.specs.declared.value.Value.{Value}
use Rattle.syntax_trees.specs.{declared.connection.ConnectionType.{ConnectionType}, declared.connection.Endpoints.{Endpoints as Named}}
use Rattle.meta_model.specs.{Loaded.{Loaded}, declared.object.MetaMethod.{MetaMethod}, declared.object.Work.{Work}, declared.object.Work.TheVariants.{Signal}, QObject.{destroyed}, declared.qobject.TheConstants.{DESTROYED}}
use Rattle.connections.specs.declared.connection.Connection.{Connection}
use Rattle.event_loops.specs.{Queues.{taken_before, posted_to, is_before, items_at}, declared.item.Item.{Item}, declared.item.Item.TheVariants.{Call, Deletion}, declared.item.Posted.{Posted}}
use Rattle.object_tree.specs.{Objects.{life_of}, declared.life.Life.{Life}, declared.object.Object.{Object}}
use Rattle.binding_graph.specs.{declared.binding.Binding.{Binding}, declared.place.Place.{Place}}
use Rattle.delete_later.specs.{Ending.{died_in}, Scheduling.{scheduled_with}}
use Rattle.machine_state.specs.{Connections.{is_living, next_used}, Objects.{all_shown}, State.{Step, Act, State, Activation, Body, Emit, Update, Destroy}, Telling.{Assigning}, Turns.{running, reaches_at_once}, Worlds.{store_of, with_store, with_connection, without_connections}, declared.endpoints.Endpoints.{Endpoints}, declared.turn.Turn.{Turn}}
use Rattle.trace_entries.specs.{declared.entry.Entry.{Entry}, declared.entry.Entry.TheVariants.{At}, declared.entry.EntryKind.{EntryKind}, declared.refusal.Refusal.{Refusal}}
use Rattle.trace_entries.specs.declared.entry.EntryKind.TheVariants as entry_kind
use Rattle.trace_entries.specs.declared.entry.Shown.TheVariants as show
use Rattle.basic_types.specs.declared.value.Value.TheVariants as value
use Rattle.machine_rules.specs.{Destroying.{Dies, NextRule, ChildRule, DestroyRule, TellsSchedule, scheduled_now, scheduled_before, not_living, Schedules, living_child}, Natives.{NativeAnswers}, Operations.{Operation, Write, Begin, Choose, Connect, Disconnect, Delete, Schedule, TakeAnswer, Nothing}, Rules.{top_of, begin_entry, begun, Begins, Notifies, NotifiesIf, UpdateRule, told, linked, Connects, unlinked, Disconnects, Does, BodyRule, StepRule, Arrives, with_used, Uses, EmitRule, BeginsIf, Delivers, Serves, TurnRule, RuleAt}, Settling.{Settles, Writes, Installs, notified}}
use Rattle.object_machine.specs.Laws.{in_front, ReadsNoTrace}
use Rattle.machine_rules.proofs.Doing.{step-of, step-rule}

module _ (front : List Entry) where
  -- a state with another trace
  abbrev with_trace : State → List Entry → State
  with_trace s trace = record s { trace = trace }

  -- lines that are added behind a trace are added behind what is in front of it
  added : {t : State} (u : State) (trace lines : List Entry) → t ≡ with_trace u (trace ++ lines) → in_front front t ≡ with_trace u ((front ++ trace) ++ lines)
  added u trace lines e = ap (in_front front) e ∙ ap (with_trace u) (sym (append_assoc front trace lines))

  begun-front : {t : State} (s : State) (below : List Activation) (o : ℕ) (x : Object) (m : ℕ) (method : MetaMethod) (arguments : List Value) (work : Work) → t ≡ begun s below o x m method arguments work →
      in_front front t ≡ begun (in_front front s) below o x m method arguments work
  begun-front s below o x m method arguments work e =
      added (record s { stack = top_of o m arguments s.connected.last work ∷ below }) s.trace (begin_entry (suc (length below)) x m method.sig.name (all_shown s.objects arguments) work ∷ []) e

  told-front : {t : State} (s : State) (stack : List Activation) (what : EntryKind) → t ≡ told s stack what → in_front front t ≡ told (in_front front s) stack what
  told-front s stack what e = added (record s { stack = stack }) s.trace (At (length stack) what ∷ []) e

  linked-front : {t : State} (s : State) (stack : List Activation) (ends : Endpoints) (how : ConnectionType) (names : Named (List ℕ)) (answer : Result (Unit {0}) Refusal) → t ≡ linked s stack ends how names answer →
      in_front front t ≡ linked (in_front front s) stack ends how names answer
  linked-front s stack ends how names (Ok _) e = told-front (with_connection s ends how) stack _ e
  linked-front s stack ends how names (Err r) e = told-front s stack _ e

  unlinked-front : {t : State} (s : State) (stack : List Activation) (ends : Endpoints) (names : Named (List ℕ)) (answer : Result (Unit {0}) Refusal) → t ≡ unlinked s stack ends names answer →
      in_front front t ≡ unlinked (in_front front s) stack ends names answer
  unlinked-front s stack ends names (Ok _) e = told-front (without_connections s ends) stack _ e
  unlinked-front s stack ends names (Err r) e = told-front s stack _ e

  schedule-front : {s : State} {depth x : ℕ} {life : Option Life} {lines : List Entry} → TellsSchedule s depth x life lines → TellsSchedule (in_front front s) depth x life lines
  schedule-front (scheduled_now unmarked loop name) = scheduled_now unmarked loop name
  schedule-front (scheduled_before marked) = scheduled_before marked
  schedule-front not_living = not_living

  settles-front : {p : Loaded} {s t : State} {below : List Activation} {Tells : List Entry → Type 0} {objects : List Object} {bindings : List Binding} {changed : List Place} → Settles p s below Tells objects bindings changed t →
      Settles p (in_front front s) below Tells objects bindings changed (in_front front t)
  settles-front {p} {s} {below = below} {objects = objects} {bindings = bindings} {changed = changed} x = record {
    lines = x.lines;
    told = x.told;
    gives = added (record s { objects = objects; bindings = bindings; stack = Update (notified p objects changed) ∷ below }) s.trace x.lines x.gives;
  }

  module _ (p : Loaded) (s t : State) where
    pub begins-front : {below : List Activation} {o m : ℕ} {arguments : List Value} → Begins p s below o m arguments t → Begins p (in_front front s) below o m arguments (in_front front t)
    begins-front {below} {o} {m} {arguments} x = record {
      object = x.object;
      method = x.method;
      is = x.is;
      gives = begun-front s below o x.object m x.method arguments x.method.work x.gives;
    }

    pub writes-front : {below : List Activation} {what : Assigning} → Writes p s below what t → Writes p (in_front front s) below what (in_front front t)
    writes-front x = record { there = x.there; objects = x.objects; changed = x.changed; written = x.written; settles = settles-front x.settles }

    pub installs-front : {below : List Activation} {b : Binding} → Installs p s below b t → Installs p (in_front front s) below b (in_front front t)
    installs-front x = record {
      there = x.there;
      objects = x.objects;
      changed = x.changed;
      installed = x.installed;
      settles = settles-front x.settles;
    }

    pub schedules-front : {stack : List Activation} {x : ℕ} {life : Option Life} → Schedules s stack x t life → Schedules (in_front front s) stack x (in_front front t) life
    schedules-front {stack} {x} {life} y = record {
      lines = y.lines;
      told = schedule-front y.told;
      gives = added (record (with_store s (scheduled_with life x (store_of s))) { stack = stack }) s.trace y.lines y.gives;
    }

    -- ---- updates

    notifies-front : {below : List Activation} {place : Place} → Notifies p s below place t → Notifies p (in_front front s) below place (in_front front t)
    notifies-front {below} {place} x = record {
      object = x.object;
      property = x.property;
      is = x.is;
      signal = x.signal;
      is_signal = x.is_signal;
      present = x.present;
      is_present = x.is_present;
      method = x.method;
      is_method = x.is_method;
      gives = begun-front s below place.object x.object x.signal x.method (take (length x.method.types) (x.present ∷ [])) Signal x.gives;
    }

    notifies-if-front : (below : List Activation) (place : Place) (life : Option Life) → NotifiesIf p s below place t life → NotifiesIf p (in_front front s) below place (in_front front t) life
    notifies-if-front below place None x = ap (in_front front) x
    notifies-if-front below place (Some l) x = notifies-front x

    update-front : (below : List Activation) (places : List Place) → UpdateRule p s below t places → UpdateRule p (in_front front s) below (in_front front t) places
    update-front below [] x = ap (in_front front) x
    update-front below (place ∷ places) x = notifies-if-front (Update places ∷ below) place (life_of s.objects place.object) x

    -- ---- bodies

    connects-front : {stack : List Activation} {ends : Endpoints} {how : ConnectionType} → Connects p s stack ends how t → Connects p (in_front front s) stack ends how (in_front front t)
    connects-front {stack} {ends} {how} x = record {
      spelled = x.spelled;
      kept = x.kept;
      answer = x.answer;
      judged = x.judged;
      gives = linked-front s stack _ how _ x.answer x.gives;
    }

    disconnects-front : {stack : List Activation} {ends : Endpoints} → Disconnects p s stack ends t → Disconnects p (in_front front s) stack ends (in_front front t)
    disconnects-front {stack} {ends} x = record {
      kept = x.kept;
      answer = x.answer;
      judged = x.judged;
      gives = unlinked-front s stack _ _ x.answer x.gives;
    }

    does-front : (natives : NativeAnswers) (o m : ℕ) (arguments : List Value) (rest : List Step) (below : List Activation) (what : Operation) → Does p natives s o m arguments rest below what t →
        Does p natives (in_front front s) o m arguments rest below what (in_front front t)
    does-front natives o m arguments rest below (Write what) x = writes-front x
    does-front natives o m arguments rest below (Begin y n given) x = begins-front x
    does-front natives o m arguments rest below (Choose block) x = ap (in_front front) x
    does-front natives o m arguments rest below (Connect ends how) x = connects-front x
    does-front natives o m arguments rest below (Disconnect ends) x = disconnects-front x
    does-front natives o m arguments rest below (Delete y) x = ap (in_front front) x
    does-front natives o m arguments rest below (Schedule y) x = schedules-front x
    does-front natives o m arguments rest below (TakeAnswer effects) x = record {
      actions = x.actions;
      may = x.may;
      lines = x.lines;
      are_shown = x.are_shown;
      gives = told-front s (Body o m arguments (map (Act effects) x.actions ++ rest) ∷ below) (entry_kind.Answered x.lines) x.gives;
    }
    does-front natives o m arguments rest below Nothing x = told-front s (Body o m arguments rest ∷ below) entry_kind.OnNull x

    body-front : (natives : NativeAnswers) (o m : ℕ) (arguments : List Value) (below : List Activation) (left : List Step) → BodyRule p natives s o m arguments below t left →
        BodyRule p natives (in_front front s) o m arguments below (in_front front t) left
    body-front natives o m arguments below [] x = ap (in_front front) x
    body-front natives o m arguments below (step ∷ rest) rule =
        let x = step-of p natives s o m arguments step rest below t rule in
        let after : StepRule p natives (in_front front s) o m arguments step rest below (in_front front t) = record { what = x.what; is = x.is; does = does-front natives o m arguments rest below x.what x.does } in
        step-rule p natives (in_front front s) o m arguments step rest below (in_front front t) after

    -- ---- emissions

    arrives-front : (stack : List Activation) (home o : ℕ) (x : Object) (m : ℕ) (method : MetaMethod) (arguments : List Value) (at_once : Bool) → Arrives s stack home o x m method arguments t at_once →
        Arrives (in_front front s) stack home o x m method arguments (in_front front t) at_once
    arrives-front stack home o x m method arguments true y = begun-front s stack o x m method arguments method.work y
    arrives-front stack home o x m method arguments false y = record {
      name = y.name;
      is_loop = y.is_loop;
      gives = added (record s { queues = posted_to home (Call o m arguments) s.queues; stack = stack }) s.trace (At (length stack) (entry_kind.Posted y.name x.name method.sig.name (all_shown s.objects arguments)) ∷ []) y.gives;
    }

    dies-front : {stack : List Activation} {x : ℕ} → Dies s stack x t → Dies (in_front front s) stack x (in_front front t)
    dies-front {stack} {x} y = record {
      name = y.name;
      named = y.named;
      gives = added (record (with_store s (died_in x (store_of s))) { stack = Emit x DESTROYED (value.Ref None ∷ []) 0 s.connected.last ∷ stack }) s.trace
          (At (length stack) (entry_kind.Died y.name) ∷ At (suc (length stack)) (entry_kind.Emitted y.name destroyed.name (show.Null ∷ []) false) ∷ []) y.gives;
    }

    -- ---- deletions

    next-front : (below : List Activation) (x : ℕ) (torn : List ℕ) (lives : Bool) → NextRule s below t x torn lives → NextRule (in_front front s) below (in_front front t) x torn lives
    next-front below x torn true y = dies-front y
    next-front below x torn false y = ap (in_front front) y

    child-front : (below : List Activation) (parent : ℕ) (torn : List ℕ) (child : Option ℕ) → ChildRule s below t parent torn child → ChildRule (in_front front s) below (in_front front t) parent torn child
    child-front below parent torn (Some x) y = dies-front y
    child-front below parent torn None y = ap (in_front front) y

    destroy-front : (below : List Activation) (next : Option ℕ) (torn : List ℕ) → DestroyRule s below t next torn → DestroyRule (in_front front s) below (in_front front t) next torn
    destroy-front below (Some x) torn y = next-front below x torn (is_living s.objects x) y
    destroy-front below None [] y = ap (in_front front) y
    destroy-front below None (parent ∷ torn) y = child-front below parent torn (living_child s parent) y

    -- ---- turns

    begins-if-front : (o m : ℕ) (arguments : List Value) (life : Option Life) → BeginsIf p s o m arguments t life → BeginsIf p (in_front front s) o m arguments (in_front front t) life
    begins-if-front o m arguments None x = ap (in_front front) x
    begins-if-front o m arguments (Some l) x = begins-front x

    delivers-front : (item : Item) → Delivers p s t item → Delivers p (in_front front s) (in_front front t) item
    delivers-front (Call o m arguments) x = begins-if-front o m arguments (life_of s.objects o) x
    delivers-front (Deletion o) x = ap (in_front front) x

  uses-front : (p : Loaded) (s t : State) {below : List Activation} {c : Connection} {arguments : List Value} → Uses p s below c arguments t → Uses p (in_front front s) below c arguments (in_front front t)
  uses-front p s t {below} {c} {arguments} x = record {
    receiver = x.receiver;
    method = x.method;
    is = x.is;
    home = x.home;
    lives_in = x.lives_in;
    arrives = arrives-front p (with_used s c) t below x.home c.receiver x.receiver c.method x.method (take (length x.method.types) arguments) (reaches_at_once c.kind x.home (running s.turn)) x.arrives;
  }

  emit-front : (p : Loaded) (s t : State) (o g : ℕ) (arguments : List Value) (last : ℕ) (below : List Activation) (next : Option Connection) → EmitRule p s o g arguments last below t next →
      EmitRule p (in_front front s) o g arguments last below (in_front front t) next
  emit-front p s t o g arguments last below None x = ap (in_front front) x
  emit-front p s t o g arguments last below (Some c) x = uses-front p s t x

  serves-front : (p : Loaded) (s t : State) (turn : Turn) (first : Option Posted) → Serves p s t turn first → Serves p (in_front front s) (in_front front t) turn first
  serves-front p s t turn None x = ap (in_front front) x
  serves-front p s t turn (Some first) x = delivers-front p (record s { queues = taken_before turn.home turn.limit s.queues }) t first.item x

  turn-front : (p : Loaded) (s t : State) (turn : Option Turn) → TurnRule p s t turn → TurnRule p (in_front front s) (in_front front t) turn
  turn-front p s t None x = x
  turn-front p s t (Some turn) x = serves-front p s t turn (find (is_before turn.limit) (items_at s.queues.loops turn.home)) x

  rule-at-front : (natives : NativeAnswers) (p : Loaded) (s t : State) (stack : List Activation) → RuleAt p natives s t stack → RuleAt p natives (in_front front s) (in_front front t) stack
  rule-at-front natives p s t [] x = turn-front p s t s.turn x
  rule-at-front natives p s t (Body o m arguments left ∷ below) x = body-front p s t natives o m arguments below left x
  rule-at-front natives p s t (Emit o g arguments used last ∷ below) x = emit-front p s t o g arguments last below (next_used s.objects s.connected.connections o g used last) x
  rule-at-front natives p s t (Update places ∷ below) x = update-front p s t below places x
  rule-at-front natives p s t (Destroy next torn ∷ below) x = destroy-front p s t below next torn x

pub reads-no-trace : (natives : NativeAnswers) → ReadsNoTrace natives
reads-no-trace natives p front s t x = rule-at-front front natives p s t s.stack x
