-- A dead object's emissions: once its deletion is over, no connection leads from it, and before that none but its
-- `destroyed` goes on (`specs/code/Sound.antt`, `MayBeHeard`).
use Rattle.machine_state.{specs.Telling.{Assigning}, specs.declared.endpoints.Endpoints.{Endpoints}, specs.declared.turn.Turn.{Turn}, specs.declared.world.World.{World}, specs.Connections.{after_use, is_living, joins_these, next_used, parted}, specs.State.{Step, State, Activation, Body, Emit, Update, Destroy}, specs.Turns.{running, reaches_at_once}, proofs.Due.{all-removed, all-used}}
use Rattle.trace_entries.specs.{declared.entry.Entry.{Entry}, declared.refusal.Refusal.{Refusal}}
use Rattle.std.{proofs.Common.{◌≡◌, ◌≢◌, ◌⊎◌, inl, inr, ⊎_elim, ℕ, eqb, ◌||◌, not, Bool, true, false, cond, List, [], ◌∷◌, ◌++◌, length, filter, take, Result, Ok, Err, Option, None, Some, refl, sym, ◌∙◌, subst}, specs.List.{find}, proofs.lemmas.Bool.{cases_eq, eqb-false}}
use Rattle.basic_types.specs.declared.value.Value.{Value}
use Rattle.syntax_trees.specs.{declared.connection.ConnectionType.{ConnectionType}, declared.connection.Endpoints.{Endpoints as Named}}
use Rattle.meta_model.specs.{declared.qobject.TheConstants.{DESTROYED}, declared.object.MetaMethod.{MetaMethod}, declared.object.Work.{Work}, declared.object.Work.TheVariants.{Signal, Slot, Native}, Loaded.{Loaded}}
use Rattle.connections.specs.{declared.connection.Connection.{Connection}, Connected.{Connected, touches, removed}}
use Rattle.event_loops.specs.{declared.item.Item.{Item}, declared.item.Item.TheVariants.{Call, Deletion}, declared.item.Posted.{Posted}, Queues.{Queues, items_at, is_before, taken_before}}
use Rattle.object_tree.specs.{declared.life.Life.{Life}, declared.object.Object.{Object}, Family.{without_life}, Objects.{life_of, change_life, scheduled}}
use Rattle.binding_graph.specs.{declared.binding.Binding.{Binding}, declared.place.Place.{Place}}
use Rattle.prop_bindings.specs.Changes.{DifferInValues}
use Rattle.machine_rules.{specs.Connecting.{AreThere, kept_ends, names_of}, specs.Destroying.{Dies, forgotten, NextRule, ChildRule, DestroyRule, living_child, Schedules}, specs.Natives.{NativeAnswers}, specs.Operations.{Operation, Write, Begin, Choose, Connect, Disconnect, Delete, Schedule, TakeAnswer, Nothing}, specs.Rules.{Rule, RuleAt, BodyRule, Does, EmitRule, UpdateRule, NotifiesIf, TurnRule, Serves, Delivers, Arrives, Begins, BeginsIf, begun, with_used, linked, unlinked}, specs.Settling.{Settles, Writes, Installs}, specs.There.{IsMember, IsDead}, specs.code.Going.{GoodRules, done, then}, specs.Reaches.{Reaches}, specs.code.Sound.{IsUnheard, MayBeHeard, MayBeHeardIn}, proofs.Doing.{step-of}, proofs.Differing.{differ-spared}, proofs.Dying.{lives-not-dead, other-seen, scheduled-seen}, proofs.Keeps.{some-stack, some-top, some-by}, proofs.Lists.{all-snoc}, proofs.Scheduling.{schedule-cases}}

-- ---- a stack

-- each emission of a stack is `destroyed`, or of an object from which no connection leads once it is dead, or of one of these,
-- whose deletions go on above
abbrev pub AllHeard : List Object → List Connection → (ℕ → Type 0) → List Activation → Type 0
AllHeard objects connections Over [] = Unit {0}
AllHeard objects connections Over (Body o m arguments left ∷ below) = AllHeard objects connections Over below
AllHeard objects connections Over (Emit o g arguments used last ∷ below) =
    ((g ≡ DESTROYED) ⊎ (Over o ⊎ (IsDead objects o → IsUnheard o connections))) × AllHeard objects connections Over below
AllHeard objects connections Over (Update places ∷ below) = AllHeard objects connections Over below
AllHeard objects connections Over (Destroy None torn ∷ below) = AllHeard objects connections Over below
AllHeard objects connections Over (Destroy (Some x) torn ∷ below) = AllHeard objects connections (λ k. (k ≡ x) ⊎ Over k) below

-- no deletion goes on above the top
abbrev pub nobody : ℕ → Type 0
nobody o = ⊥

abbrev pub Heard : State → Type 0
Heard s = AllHeard s.objects s.connected.connections nobody s.stack

abbrev pub Quiet : List Object → List Connection → (ℕ → Type 0) → ℕ → Type 0
Quiet objects connections Over o = Over o ⊎ (IsDead objects o → IsUnheard o connections)

widened : (objects : List Object) (connections : List Connection) (Over : ℕ → Type 0) (x o : ℕ) → Quiet objects connections Over o → Quiet objects connections (λ k. (k ≡ x) ⊎ Over k) o
widened objects connections Over x o (inl over) = inl (inr over)
widened objects connections Over x o (inr quiet) = inr quiet

all-heard : (old new : List Object) (before after : List Connection) (Over Still : ℕ → Type 0) → ((o : ℕ) → Quiet old before Over o → Quiet new after Still o) → (stack : List Activation) → AllHeard old before Over stack → AllHeard new after Still stack
all-heard old new before after Over Still each [] all = tt
all-heard old new before after Over Still each (Body o m arguments left ∷ below) all = all-heard old new before after Over Still each below all
all-heard old new before after Over Still each (Emit o g arguments used last ∷ below) all = (by_signal all.0, all-heard old new before after Over Still each below all.1)
  where
    by_signal : (g ≡ DESTROYED) ⊎ Quiet old before Over o → (g ≡ DESTROYED) ⊎ Quiet new after Still o
    by_signal (inl last_one) = inl last_one
    by_signal (inr quiet) = inr (each o quiet)
all-heard old new before after Over Still each (Update places ∷ below) all = all-heard old new before after Over Still each below all
all-heard old new before after Over Still each (Destroy None torn ∷ below) all = all-heard old new before after Over Still each below all
all-heard old new before after Over Still each (Destroy (Some x) torn ∷ below) all =
    all-heard old new before after (λ k. (k ≡ x) ⊎ Over k) (λ k. (k ≡ x) ⊎ Still k) wider below all
  where
    wider : (o : ℕ) → Quiet old before (λ k. (k ≡ x) ⊎ Over k) o → Quiet new after (λ k. (k ≡ x) ⊎ Still k) o
    wider o (inl (inl same)) = inl (inl same)
    wider o (inl (inr over)) = widened new after Still x o (each o (inl over))
    wider o (inr quiet) = widened new after Still x o (each o (inr quiet))

-- as long as no object dies, and no connection more leads from one that is dead
still-heard : (old new : List Object) (before after : List Connection) → ((o : ℕ) → IsDead new o → IsDead old o) → ((o : ℕ) → IsDead new o → IsUnheard o before → IsUnheard o after) → (stack : List Activation) → AllHeard old before nobody stack → AllHeard new after nobody stack
still-heard old new before after spared fewer stack all = all-heard old new before after nobody nobody keeps stack all
  where
    keeps : (o : ℕ) → Quiet old before nobody o → Quiet new after nobody o
    keeps o (inl over) = inl over
    keeps o (inr quiet) = inr (λ gone. fewer o gone (quiet (spared o gone)))

-- an object's death
death-heard : (objects : List Object) (connections : List Connection) (x : ℕ) (stack : List Activation) (Over : ℕ → Type 0) → ((o : ℕ) → Over o → o ≡ x) → AllHeard objects connections Over stack → AllHeard (without_life x objects) connections (λ k. (k ≡ x) ⊎ ⊥) stack
death-heard objects connections x stack Over only all = all-heard objects (without_life x objects) connections connections Over (λ k. (k ≡ x) ⊎ ⊥) each stack all
  where
    each : (o : ℕ) → Quiet objects connections Over o → Quiet (without_life x objects) connections (λ k. (k ≡ x) ⊎ ⊥) o
    each o (inl over) = inl (inl (only o over))
    each o (inr quiet) = ⊎_elim
        (λ (same : o ≡ x). inl (inl same))
        (λ (other : o ≢ x). inr (λ gone. quiet (sym (other-seen objects x o other) ∙ gone)))
        (cases_eq o x)

-- nothing leads from an object whose connections are removed
unheard-removed : (x : ℕ) (connections : List Connection) → IsUnheard x (filter (λ c. not (touches x c)) connections)
unheard-removed x [] = tt
unheard-removed x (c ∷ connections) = by_sender (eqb c.sender x) refl (unheard-removed x connections)
  where
    left : List Connection
    left = filter (λ d. not (touches x d)) connections

    by_receiver : (b : Bool) → c.sender ≢ x → IsUnheard x left → IsUnheard x (cond (not b) (c ∷ left) left)
    by_receiver true apart rest = rest
    by_receiver false apart rest = (apart, rest)

    by_sender : (b : Bool) → eqb c.sender x ≡ b → IsUnheard x left → IsUnheard x (cond (not (b || eqb c.receiver x)) (c ∷ left) left)
    by_sender true is rest = rest
    by_sender false is rest = by_receiver (eqb c.receiver x) (eqb-false c.sender x is) rest

-- .. nor from one from which nothing led, where connections are removed
fewer-removed : (o : ℕ) (test : Connection → Bool) (connected : Connected) → IsUnheard o connected.connections → IsUnheard o (removed test connected).connections
fewer-removed o test connected none = all-removed (λ (d : Connection). d.sender ≢ o) test connected none

fewer-used : (o : ℕ) (c : Connection) (connected : Connected) → IsUnheard o connected.connections → IsUnheard o (after_use c connected).connections
fewer-used o c connected none = all-used (λ (d : Connection). d.sender ≢ o) c connected none

-- ---- rules

-- a state that is known to be another one
heard-as : {t u : State} → t ≡ u → Heard u → Heard t
heard-as e h = subst (λ (v : State). Heard v) (sym e) h

-- what begins is of a living object
begun-heard : {p : Loaded} {t : State} (u : State) (below : List Activation) (o : ℕ) (x : Object) (m : ℕ) (method : MetaMethod) (arguments : List Value) (work : Work) → IsMember p u.objects o m x method → t ≡ begun u below o x m method arguments work → AllHeard u.objects u.connected.connections nobody below → Heard t
begun-heard u below o x m method arguments Signal is e lower = heard-as e (inr (inr (λ gone. absurd (lives-not-dead is.lives gone))), lower)
begun-heard u below o x m method arguments (Slot statements) is e lower = heard-as e lower
begun-heard u below o x m method arguments (Native effects) is e lower = heard-as e lower

arrives-heard : {p : Loaded} (t u : State) (stack : List Activation) (home o : ℕ) (x : Object) (m : ℕ) (method : MetaMethod) (arguments : List Value) (b : Bool) → IsMember p u.objects o m x method → Arrives u stack home o x m method arguments t b → AllHeard u.objects u.connected.connections nobody stack → Heard t
arrives-heard t u stack home o x m method arguments true is r lower = begun-heard u stack o x m method arguments method.work is r lower
arrives-heard t u stack home o x m method arguments false is r lower = heard-as r.gives lower

module _ (p : Loaded) (s t : State) where
  abbrev In : List Activation → Type 0
  In stack = AllHeard s.objects s.connected.connections nobody stack

  settles-heard : {below : List Activation} {Tells : List Entry → Type 0} {objects : List Object} {bindings : List Binding} {changed : List Place} → DifferInValues s.objects objects → Settles p s below Tells objects bindings changed t → In below → Heard t
  settles-heard {below} {objects = objects} differ x lower =
      heard-as x.gives (still-heard s.objects objects s.connected.connections s.connected.connections (differ-spared s.objects objects differ) (λ o gone none. none) below lower)

  pub begins-heard : {below : List Activation} {o m : ℕ} {arguments : List Value} → Begins p s below o m arguments t → In below → Heard t
  begins-heard {below} {o} {m} {arguments} b lower = begun-heard s below o b.object m b.method arguments b.method.work b.is b.gives lower

  pub writes-heard : {below : List Activation} {what : Assigning} → Writes p s below what t → In below → Heard t
  writes-heard w lower = settles-heard w.written.objects w.settles lower

  pub installs-heard : {below : List Activation} {b : Binding} → Installs p s below b t → In below → Heard t
  installs-heard x lower = settles-heard x.installed.objects x.settles lower

  linked-heard : (stack : List Activation) {ends : Endpoints} (there : AreThere p s.objects ends) (how : ConnectionType) (names : Named (List ℕ)) (answer : Result (Unit {0}) Refusal) → In stack → Heard (linked s stack ends how names answer)
  linked-heard stack there how names (Ok _) all =
      still-heard s.objects s.objects s.connected.connections _ (λ o gone. gone) (λ o gone none. all-snoc (λ (d : Connection). d.sender ≢ o) s.connected.connections _ none
      (λ same. lives-not-dead there.sends.lives (subst (λ (k : ℕ). IsDead s.objects k) (sym same) gone))) stack all
  linked-heard stack there how names (Err k) all = all

  unlinked-heard : (stack : List Activation) (ends : Endpoints) (names : Named (List ℕ)) (answer : Result (Unit {0}) Refusal) → In stack → Heard (unlinked s stack ends names answer)
  unlinked-heard stack ends names (Ok _) all = still-heard s.objects s.objects s.connected.connections (parted ends s.connected).connections (λ o gone. gone) (λ o gone none. fewer-removed o (joins_these ends) s.connected none) stack all
  unlinked-heard stack ends names (Err k) all = all

  pub schedules-heard : (stack : List Activation) (x : ℕ) (life : Option Life) → Schedules s stack x t life → In stack → Heard t
  schedules-heard stack x life r all = elim (schedule-cases life r) [
    | inl e ↦ heard-as e all
    | inr d ↦ heard-as d.gives (still-heard s.objects (change_life x scheduled s.objects) s.connected.connections s.connected.connections (λ o gone. sym (scheduled-seen s.objects x o) ∙ gone) (λ o gone none. none) stack all)
  ]

  does-heard : (natives : NativeAnswers) (o m : ℕ) (arguments : List Value) (rest : List Step) (below : List Activation) (d : Operation) → In below → Does p natives s o m arguments rest below d t → Heard t
  does-heard natives o m arguments rest below (Write what) lower does = writes-heard does lower
  does-heard natives o m arguments rest below (Begin y n given) lower does = begins-heard does lower
  does-heard natives o m arguments rest below (Choose block) lower does = heard-as does lower
  does-heard natives o m arguments rest below (Connect ends how) lower does = heard-as does.gives (linked-heard (Body o m arguments rest ∷ below) does.kept how (names_of does.kept) does.answer lower)
  does-heard natives o m arguments rest below (Disconnect ends) lower does = heard-as does.gives (unlinked-heard (Body o m arguments rest ∷ below) (kept_ends ends) (names_of does.kept) does.answer lower)
  does-heard natives o m arguments rest below (Delete x) lower does = heard-as does (widen-heard lower)
    where
      widen-heard : In below → AllHeard s.objects s.connected.connections (λ k. (k ≡ x) ⊎ ⊥) below
      widen-heard all = all-heard s.objects s.objects s.connected.connections s.connected.connections nobody (λ k. (k ≡ x) ⊎ ⊥) (λ k quiet. widened s.objects s.connected.connections nobody x k quiet) below all
  does-heard natives o m arguments rest below (Schedule x) lower does = schedules-heard (Body o m arguments rest ∷ below) x (life_of s.objects x) does lower
  does-heard natives o m arguments rest below (TakeAnswer effects) lower does = heard-as does.gives lower
  does-heard natives o m arguments rest below Nothing lower does = heard-as does lower

  body-heard : (natives : NativeAnswers) (o m : ℕ) (arguments : List Value) (below : List Activation) (left : List Step) → In below → BodyRule p natives s o m arguments below t left → Heard t
  body-heard natives o m arguments below [] lower r = heard-as r lower
  body-heard natives o m arguments below (x ∷ rest) lower rule =
      let r = step-of p natives s o m arguments x rest below t rule in
      does-heard natives o m arguments rest below r.what lower r.does

  emission-heard : (o g : ℕ) (arguments : List Value) (last : ℕ) (below : List Activation) (found : Option Connection) → ((n : ℕ) → In (Emit o g arguments n last ∷ below)) → EmitRule p s o g arguments last below t found → Heard t
  emission-heard o g arguments last below None all r = heard-as r (all 0).1
  emission-heard o g arguments last below (Some c) all r =
      arrives-heard t (with_used s c) (Emit o g arguments c.number last ∷ below) r.home c.receiver r.receiver c.method r.method (take (length r.method.types) arguments) (reaches_at_once c.kind r.home (running s.turn)) r.is r.arrives
      (still-heard s.objects s.objects s.connected.connections (after_use c s.connected).connections (λ k gone. gone) (λ k gone none. fewer-used k c s.connected none) (Emit o g arguments c.number last ∷ below) (all c.number))

  update-heard : (below : List Activation) (places : List Place) → In below → UpdateRule p s below t places → Heard t
  update-heard below [] lower r = heard-as r lower
  update-heard below (place ∷ places) lower r = by_life (life_of s.objects place.object) r
    where
      by_life : (life : Option Life) → NotifiesIf p s (Update places ∷ below) place t life → Heard t
      by_life None e = heard-as e lower
      by_life (Some l) n = heard-as n.gives (inr (inr (λ gone. absurd (lives-not-dead n.is.lives gone))), lower)

  -- an object dies, with its deletion on top
  dies-heard : {x : ℕ} (torn : List ℕ) (below : List Activation) (Over : ℕ → Type 0) → ((o : ℕ) → Over o → o ≡ x) → AllHeard s.objects s.connected.connections Over below → Dies s (Destroy (Some x) torn ∷ below) x t → Heard t
  dies-heard {x} torn below Over only lower d = heard-as d.gives (inl refl, death-heard s.objects s.connected.connections x below Over only lower)

  -- .. and is forgotten
  forgotten-heard : (x : ℕ) (torn : List ℕ) (below : List Activation) → In (Destroy (Some x) torn ∷ below) → t ≡ record (forgotten s x) { stack = Destroy None (x ∷ torn) ∷ below } → Heard t
  forgotten-heard x torn below all e = heard-as e (all-heard s.objects s.objects s.connected.connections (removed (touches x) s.connected).connections (λ k. (k ≡ x) ⊎ ⊥) nobody each below all)
    where
      each : (o : ℕ) → Quiet s.objects s.connected.connections (λ k. (k ≡ x) ⊎ ⊥) o → Quiet s.objects (removed (touches x) s.connected).connections nobody o
      each o (inl (inl same)) = inr (λ gone. subst (λ (k : ℕ). IsUnheard k (removed (touches x) s.connected).connections) (sym same) (unheard-removed x s.connected.connections))
      each o (inl (inr none)) = absurd none
      each o (inr quiet) = inr (λ gone. fewer-removed o (touches x) s.connected (quiet gone))

  destroy-heard : (below : List Activation) (next : Option ℕ) (torn : List ℕ) → In (Destroy next torn ∷ below) → DestroyRule s below t next torn → Heard t
  destroy-heard below (Some x) torn all r = by_life (is_living s.objects x) r
    where
      only : (o : ℕ) → (o ≡ x) ⊎ ⊥ → o ≡ x
      only o (inl same) = same
      only o (inr none) = absurd none

      by_life : (b : Bool) → NextRule s below t x torn b → Heard t
      by_life true d = dies-heard torn below (λ k. (k ≡ x) ⊎ ⊥) only all d
      by_life false e = forgotten-heard x torn below all e
  destroy-heard below None [] all r = heard-as r all
  destroy-heard below None (parent ∷ torn) all r = by_child (living_child s parent) r
    where
      by_child : (child : Option ℕ) → ChildRule s below t parent torn child → Heard t
      by_child (Some x) d = dies-heard (parent ∷ torn) below nobody (λ o none. absurd none) all d
      by_child None e = heard-as e all

  -- ---- where nothing is going on

  delivers-heard : (queues : Queues) (item : Item) → s.stack ≡ [] → Delivers p (record s { queues = queues }) t item → Heard t
  delivers-heard queues (Call o m arguments) empty r = by_life (life_of s.objects o) r
    where
      by_life : (life : Option Life) → BeginsIf p (record s { queues = queues }) o m arguments t life → Heard t
      by_life None e = heard-as e (subst In (sym empty) tt)
      by_life (Some l) b = begun-heard (record s { queues = queues }) [] o b.object m b.method arguments b.method.work b.is b.gives tt
  delivers-heard queues (Deletion o) empty e = heard-as e tt

  turn-heard : (found : Option Turn) → s.stack ≡ [] → TurnRule p s t found → Heard t
  turn-heard None empty r = absurd r
  turn-heard (Some turn) empty r = by_first (find (is_before turn.limit) (items_at s.queues.loops turn.home)) r
    where
      by_first : (first : Option Posted) → Serves p s t turn first → Heard t
      by_first None e = heard-as e (subst In (sym empty) tt)
      by_first (Some q) d = delivers-heard (taken_before turn.home turn.limit s.queues) q.item empty d

  rule-at-heard : (natives : NativeAnswers) (stack : List Activation) → s.stack ≡ stack → In stack → RuleAt p natives s t stack → Heard t
  rule-at-heard natives [] is all r = turn-heard s.turn is r
  rule-at-heard natives (Body o m arguments left ∷ below) is all r = body-heard natives o m arguments below left all r
  rule-at-heard natives (Emit o g arguments used last ∷ below) is all r = emission-heard o g arguments last below (next_used s.objects s.connected.connections o g used last) (λ n. all) r
  rule-at-heard natives (Update places ∷ below) is all r = update-heard below places all r
  rule-at-heard natives (Destroy next torn ∷ below) is all r = destroy-heard below next torn all r

  -- each rule keeps it
  pub rule-heard : (natives : NativeAnswers) → Heard s → Rule p natives s t → Heard t
  rule-heard natives all r = rule-at-heard natives s.stack refl all r

pub rules-heard : {p : Loaded} {natives : NativeAnswers} {d : ℕ} {s t : State} {n k : ℕ} → GoodRules p natives d s n t k → Heard s → Heard t
rules-heard done all = all
rules-heard {p} {natives} (then {s = s} {m = m} r good rest) all = rules-heard rest (rule-heard p s m natives all r)

-- ---- over some stack

-- what is heard, over some stack that shows this
some-heard : (objects : List Object) (connections : List Connection) (Over : ℕ → Type 0) (shown : List (Option ℕ)) → AllHeard objects connections Over ((some-stack shown).0)
some-heard objects connections Over shown = some-by (λ (l : List Activation). AllHeard objects connections Over l) tt step shown
  where
    step : (body : Option ℕ) (rest : List Activation) → AllHeard objects connections Over rest → AllHeard objects connections Over (some-top body ∷ rest)
    step None rest all = all
    step (Some o) rest all = all

pub heard-over : (objects : List Object) (connections : List Connection) (Over : ℕ → Type 0) (stack : List Activation) (shown : List (Option ℕ)) → AllHeard objects connections Over stack → AllHeard objects connections Over (stack ++ (some-stack shown).0)
heard-over objects connections Over [] shown all = some-heard objects connections Over shown
heard-over objects connections Over (Body o m arguments left ∷ below) shown all = heard-over objects connections Over below shown all
heard-over objects connections Over (Emit o g arguments used last ∷ below) shown all = (all.0, heard-over objects connections Over below shown all.1)
heard-over objects connections Over (Update places ∷ below) shown all = heard-over objects connections Over below shown all
heard-over objects connections Over (Destroy None torn ∷ below) shown all = heard-over objects connections Over below shown all
heard-over objects connections Over (Destroy (Some x) torn ∷ below) shown all = heard-over objects connections (λ k. (k ≡ x) ⊎ Over k) below shown all

-- what may be heard of an emission on top
pub may-be-heard : (objects : List Object) (connections : List Connection) (o g : ℕ) → (g ≡ DESTROYED) ⊎ Quiet objects connections nobody o → MayBeHeard objects connections o g
may-be-heard objects connections o g (inl last_one) = inl last_one
may-be-heard objects connections o g (inr (inl none)) = absurd none
may-be-heard objects connections o g (inr (inr quiet)) = inr quiet

pub heard-top : (objects : List Object) (connections : List Connection) (o g : ℕ) → MayBeHeard objects connections o g → (g ≡ DESTROYED) ⊎ Quiet objects connections nobody o
heard-top objects connections o g (inl last_one) = inl last_one
heard-top objects connections o g (inr quiet) = inr (inr quiet)

-- an emission on top goes on as it may
pub reaches-heard : {p : Loaded} {natives : NativeAnswers} {d : ℕ} {h : List (Option ℕ)} {w v : World} {o g : ℕ} {arguments given : List Value} {used last more end : ℕ} → Reaches p natives d h w (Emit o g arguments used last ∷ []) v (Emit o g given more end ∷ []) → MayBeHeardIn w o g → MayBeHeardIn v o g
reaches-heard {h = h} {w = w} {v = v} {o = o} {g = g} {arguments = arguments} {used = used} {last = last} x may =
    let q = some-stack h in
    let first = heard-over w.store.tree w.store.connections.connections nobody (Emit o g arguments used last ∷ []) h (heard-top w.store.tree w.store.connections.connections o g may, tt) in
    may-be-heard v.store.tree v.store.connections.connections o g (rules-heard (x.runs q.0 q.1) first).0
