-- After a rule that is well properties and bindings agree, if they did before it.
use Rattle.std.{proofs.Common.{◌≡◌, ℕ, Bool, true, false, not, cond, List, [], ◌∷◌, length, take, All, Result, Ok, Err, Option, Some, None, sym, ap, ◌∙◌, subst, inl, inr}, proofs.lemmas.List.Elements.{All-push}, specs.List.{find}}
use Rattle.basic_types.specs.declared.value.Value.{Value}
use Rattle.syntax_trees.specs.{declared.connection.ConnectionType.{ConnectionType}, declared.connection.Endpoints.{Endpoints as Named}}
use Rattle.meta_model.specs.{declared.object.MetaMethod.{MetaMethod}, declared.object.Work.{Work}, declared.object.Work.TheVariants.{Signal, Slot, Native}, Loaded.{Loaded}, Members.{IsClass}, Sound.{IsPlain}}
use Rattle.connections.specs.declared.connection.Connection.{Connection}
use Rattle.event_loops.specs.{declared.item.Item.{Item}, declared.item.Item.TheVariants.{Call, Deletion}, declared.item.Posted.{Posted}, Queues.{items_at, is_before, taken_before}}
use Rattle.object_tree.{specs.declared.life.Life.{Life}, specs.declared.object.Object.{Object}, specs.Objects.{life_of}, specs.Typed.{AreTyped}, proofs.Changing.{life-of-lives}}
use Rattle.binding_graph.{specs.declared.binding.Binding.{Binding}, specs.declared.place.Place.{Place}, specs.Bindings.{binding_at, without, without_all, replaced}, specs.Places.{same_place}, proofs.Apart.{apart-replaced}, proofs.Replaced.{without-at, push-none}, proofs.Places.{same_place-refl}}
use Rattle.prop_bindings.{specs.Changes.{places_in}, specs.Fits.{IsFit, IsInOneLoop, Agree}, proofs.Fitting.{all-stay}, proofs.Alive.{lives-on}, proofs.Homes.{joined-stays, all-joined}, proofs.Leaving.{agree-fewer, left_agree}}
use Rattle.machine_state.specs.{Telling.{Assigning, writes_of}, declared.endpoints.Endpoints.{Endpoints}, declared.turn.Turn.{Turn}, Connections.{is_living, next_used}, State.{Step, State, Activation, Body, Emit, Update, Destroy}, Turns.{running, reaches_at_once}}
use Rattle.trace_entries.specs.declared.refusal.Refusal.{Refusal}
use Rattle.machine_rules.{specs.Connecting.{kept_ends, names_of}, specs.Destroying.{Dies, NextRule, ChildRule, DestroyRule, living_child, Schedules}, specs.Operations.{Operation, Write, Begin, Choose, Connect, Disconnect, Delete, Schedule, TakeAnswer, Nothing}, specs.Good.{IsWell, IsAcyclic}, specs.Rules.{RuleAt, BodyRule, Does, EmitRule, UpdateRule, NotifiesIf, TurnRule, Serves, Delivers, Arrives, BeginsIf, begun, with_used, linked, unlinked}, specs.code.Going.{GoodRules, done, then}, specs.Settling.{Writes, Installs}, specs.There.{IsField}, proofs.Doing.{step-of}, proofs.Fields.{old-there, stored-reads}, proofs.Differing.{scheduled-agree}, specs.Natives.{NativeAnswers}, proofs.Scheduling.{schedule-cases}}

-- a binding that replaces another stands
replaced-at : (bs : List Binding) (b : Binding) → binding_at (replaced bs b) b.target ≡ Some b
replaced-at bs b =
    push-none (without b.target bs) b b.target (without-at b.target bs) ∙ ap (λ (x : Bool). cond x (Some b) None) (same_place-refl b.target)

module _ {p : Loaded} {s t : State} (agree : Agree p s.objects s.bindings) (well : IsWell p s t) where
  -- it is a state in which they do
  agree-at : (u : State) → t ≡ u → Agree p u.objects u.bindings → Agree p t.objects t.bindings
  agree-at u e before = let In : State → Type 0 = λ v. Agree p v.objects v.bindings in subst In (sym e) before

  pub begun-agrees : (u : State) (below : List Activation) (o : ℕ) (x : Object) (m : ℕ) (method : MetaMethod) (arguments : List Value) (work : Work) → Agree p u.objects u.bindings → t ≡ begun u below o x m method arguments work → Agree p t.objects t.bindings
  begun-agrees u below o x m method arguments Signal before e = agree-at _ e before
  begun-agrees u below o x m method arguments (Slot statements) before e = agree-at _ e before
  begun-agrees u below o x m method arguments (Native effects) before e = agree-at _ e before

  -- what is left of the bindings agrees with the old values
  left-agrees : (places : List Place) (bs : List Binding) → Agree p s.objects bs → Agree p s.objects (without_all places bs)
  left-agrees [] bs before = before
  left-agrees (at ∷ places) bs before =
      let keep : Binding → Bool = λ b. not (same_place b.target at) in
      left-agrees places (without at bs) (agree-fewer p s.objects keep bs before)

  -- a write settles the values
  pub writes-agrees : {below : List Activation} {what : Assigning} → Writes p s below what t → Agree p t.objects t.bindings
  writes-agrees {what = what} x =
      let cs : List Binding = without_all (places_in (writes_of what)) s.bindings in
      let typed : AreTyped p x.objects = subst (λ (v : State). AreTyped p v.objects) x.settles.gives well.values in
      let left : Agree p s.objects cs = left-agrees (places_in (writes_of what)) s.bindings agree in
      agree-at _ x.settles.gives (record {
        typed = typed;
        fit = all-stay p s.objects x.objects agree.typed typed x.written.objects cs left.fit;
        one_loop = all-joined s.objects x.objects x.written.objects cs left.one_loop;
        apart = left.apart;
        acyclic = left.acyclic;
        settled = x.written.settled;
      })

  -- the target of a binding that was installed has its expression's value
  pub bound-fits : {below : List Activation} {b : Binding} (x : Installs p s below b t) → AreTyped p x.objects → IsPlain x.there.property.kind → IsFit p x.objects b
  bound-fits {b = b} x typed plain =
      let on = lives-on s.objects x.objects x.installed.objects b.target.object x.there.is.life (life-of-lives x.there.is.lives) in
      let field : IsField p x.objects b.target.object b.target.property on.object x.there.property = record {
        life = on.life;
        lives = on.lives;
        class = x.there.is.class;
        is_class = subst (λ (k : ℕ). IsClass p k x.there.is.class) (sym on.same) x.there.is.is_class;
        is_property = x.there.is.is_property;
      } in
      let there = old-there field typed in
      record {
        value = there.0;
        is = sym (x.installed.settled b.target b (replaced-at s.bindings b)) ∙ there.1;
        typed = record {
          object = on.object;
          life = on.life;
          lives = on.lives;
          property = x.there.property;
          is_property = record { class = field.class; is_class = field.is_class; is = field.is_property };
          reads = stored-reads field typed there.1;
        };
        plain = plain;
      }

  -- .. and so does a bind, within one event loop, to a property of a value type that closes no chain
  pub installs-agrees : {below : List Activation} {b : Binding} → IsAcyclic t → (x : Installs p s below b t) → IsPlain x.there.property.kind → IsInOneLoop s.objects b → Agree p t.objects t.bindings
  installs-agrees {b = b} acyclic x plain within =
      let keep : Binding → Bool = λ z. not (same_place z.target b.target) in
      let typed : AreTyped p x.objects = subst (λ (v : State). AreTyped p v.objects) x.settles.gives well.values in
      let left : Agree p s.objects (without b.target s.bindings) = agree-fewer p s.objects keep s.bindings agree in
      let stay : All (IsFit p x.objects) (without b.target s.bindings) = all-stay p s.objects x.objects agree.typed typed x.installed.objects (without b.target s.bindings) left.fit in
      agree-at _ x.settles.gives (record {
        typed = typed;
        fit = All-push (IsFit p x.objects) (without b.target s.bindings) b stay (bound-fits x typed plain);
        one_loop = All-push (IsInOneLoop x.objects) (without b.target s.bindings) b (all-joined s.objects x.objects x.installed.objects (without b.target s.bindings) left.one_loop) (joined-stays s.objects x.objects x.installed.objects b within);
        apart = apart-replaced s.bindings b agree.apart;
        acyclic = subst (λ (v : State). IsAcyclic v) x.settles.gives acyclic;
        settled = x.installed.settled;
      })

  linked-agrees : (stack : List Activation) (ends : Endpoints) (how : ConnectionType) (names : Named (List ℕ)) (answer : Result (Unit {0}) Refusal) → t ≡ linked s stack ends how names answer → Agree p t.objects t.bindings
  linked-agrees stack ends how names (Ok _) e = agree-at _ e agree
  linked-agrees stack ends how names (Err k) e = agree-at _ e agree

  unlinked-agrees : (stack : List Activation) (ends : Endpoints) (names : Named (List ℕ)) (answer : Result (Unit {0}) Refusal) → t ≡ unlinked s stack ends names answer → Agree p t.objects t.bindings
  unlinked-agrees stack ends names (Ok _) e = agree-at _ e agree
  unlinked-agrees stack ends names (Err k) e = agree-at _ e agree

  -- what is left once an object is dead
  dies-agrees : {stack : List Activation} {x : ℕ} → Dies s stack x t → Agree p t.objects t.bindings
  dies-agrees {x = x} d = agree-at _ d.gives (left_agree p s.bindings s.objects x agree)

  destroy-agrees : (below : List Activation) (next : Option ℕ) (torn : List ℕ) → DestroyRule s below t next torn → Agree p t.objects t.bindings
  destroy-agrees below (Some x) torn r = by_life (is_living s.objects x) r
    where
      by_life : (b : Bool) → NextRule s below t x torn b → Agree p t.objects t.bindings
      by_life true d = dies-agrees d
      by_life false e = agree-at _ e agree
  destroy-agrees below None [] r = agree-at _ r agree
  destroy-agrees below None (parent ∷ torn) r = by_child (living_child s parent) r
    where
      by_child : (child : Option ℕ) → ChildRule s below t parent torn child → Agree p t.objects t.bindings
      by_child (Some x) d = dies-agrees d
      by_child None e = agree-at _ e agree

  pub schedules-agrees : (stack : List Activation) (x : ℕ) (life : Option Life) → Schedules s stack x t life → Agree p t.objects t.bindings
  schedules-agrees stack x life r = elim (schedule-cases life r) [
    | inl e ↦ agree-at _ e agree
    | inr d ↦ agree-at _ d.gives (scheduled-agree p s.objects s.bindings x agree)
  ]

  does-agrees : (natives : NativeAnswers) (o m : ℕ) (arguments : List Value) (rest : List Step) (below : List Activation) (d : Operation) → Does p natives s o m arguments rest below d t → Agree p t.objects t.bindings
  does-agrees natives o m arguments rest below (Write what) does = writes-agrees does
  does-agrees natives o m arguments rest below (Begin x n given) does = begun-agrees s (Body o m arguments rest ∷ below) x does.object n does.method given does.method.work agree does.gives
  does-agrees natives o m arguments rest below (Choose block) does = agree-at _ does agree
  does-agrees natives o m arguments rest below (Connect ends how) does = linked-agrees (Body o m arguments rest ∷ below) (kept_ends ends) how (names_of does.kept) does.answer does.gives
  does-agrees natives o m arguments rest below (Disconnect ends) does = unlinked-agrees (Body o m arguments rest ∷ below) (kept_ends ends) (names_of does.kept) does.answer does.gives
  does-agrees natives o m arguments rest below (Delete x) does = agree-at _ does agree
  does-agrees natives o m arguments rest below (Schedule x) does = schedules-agrees (Body o m arguments rest ∷ below) x (life_of s.objects x) does
  does-agrees natives o m arguments rest below (TakeAnswer effects) does = agree-at _ does.gives agree
  does-agrees natives o m arguments rest below Nothing does = agree-at _ does agree

  body-agrees : (natives : NativeAnswers) (o m : ℕ) (arguments : List Value) (below : List Activation) (left : List Step) → BodyRule p natives s o m arguments below t left → Agree p t.objects t.bindings
  body-agrees natives o m arguments below [] r = agree-at _ r agree
  body-agrees natives o m arguments below (x ∷ rest) rule =
      let r = step-of p natives s o m arguments x rest below t rule in
      does-agrees natives o m arguments rest below r.what r.does

  arrives-agrees : (u : State) (stack : List Activation) (home o : ℕ) (x : Object) (m : ℕ) (method : MetaMethod) (arguments : List Value) (b : Bool) → Agree p u.objects u.bindings → Arrives u stack home o x m method arguments t b → Agree p t.objects t.bindings
  arrives-agrees u stack home o x m method arguments true before r = begun-agrees u stack o x m method arguments method.work before r
  arrives-agrees u stack home o x m method arguments false before r = agree-at _ r.gives before

  emission-agrees : (o g : ℕ) (arguments : List Value) (last : ℕ) (below : List Activation) (found : Option Connection) → EmitRule p s o g arguments last below t found → Agree p t.objects t.bindings
  emission-agrees o g arguments last below None r = agree-at _ r agree
  emission-agrees o g arguments last below (Some c) r =
      arrives-agrees (with_used s c) (Emit o g arguments c.number last ∷ below) r.home c.receiver r.receiver c.method r.method (take (length r.method.types) arguments) (reaches_at_once c.kind r.home (running s.turn)) agree r.arrives

  update-agrees : (below : List Activation) (places : List Place) → UpdateRule p s below t places → Agree p t.objects t.bindings
  update-agrees below [] r = agree-at _ r agree
  update-agrees below (place ∷ places) r = by_life (life_of s.objects place.object) r
    where
      by_life : (life : Option Life) → NotifiesIf p s (Update places ∷ below) place t life → Agree p t.objects t.bindings
      by_life None e = agree-at _ e agree
      by_life (Some l) n = begun-agrees s (Update places ∷ below) place.object n.object n.signal n.method (take (length n.method.types) (n.present ∷ [])) Signal agree n.gives

  delivers-agrees : (u : State) (item : Item) → Agree p u.objects u.bindings → Delivers p u t item → Agree p t.objects t.bindings
  delivers-agrees u (Call o m arguments) before r = by_life (life_of u.objects o) r
    where
      by_life : (life : Option Life) → BeginsIf p u o m arguments t life → Agree p t.objects t.bindings
      by_life None e = agree-at _ e before
      by_life (Some l) b = begun-agrees u [] o b.object m b.method arguments b.method.work before b.gives
  delivers-agrees u (Deletion o) before e = agree-at _ e before

  turn-agrees : (found : Option Turn) → TurnRule p s t found → Agree p t.objects t.bindings
  turn-agrees None r = absurd r
  turn-agrees (Some turn) r = by_first (find (is_before turn.limit) (items_at s.queues.loops turn.home)) r
    where
      by_first : (first : Option Posted) → Serves p s t turn first → Agree p t.objects t.bindings
      by_first None e = agree-at _ e agree
      by_first (Some q) d = delivers-agrees (record s { queues = taken_before turn.home turn.limit s.queues }) q.item agree d

  pub rule-agrees : (natives : NativeAnswers) (stack : List Activation) → RuleAt p natives s t stack → Agree p t.objects t.bindings
  rule-agrees natives [] r = turn-agrees s.turn r
  rule-agrees natives (Body o m arguments left ∷ below) r = body-agrees natives o m arguments below left r
  rule-agrees natives (Emit o g arguments used last ∷ below) r = emission-agrees o g arguments last below (next_used s.objects s.connected.connections o g used last) r
  rule-agrees natives (Update places ∷ below) r = update-agrees below places r
  rule-agrees natives (Destroy next torn ∷ below) r = destroy-agrees below next torn r

-- .. and so after runs of rules
pub rules-settled : {p : Loaded} {natives : NativeAnswers} {d : ℕ} {s t : State} {n k : ℕ} → GoodRules p natives d s n t k → Agree p s.objects s.bindings → Agree p t.objects t.bindings
rules-settled done agree = agree
rules-settled {natives = natives} (then {s = s} r good rest) agree = rules-settled rest (rule-agrees agree good.well natives s.stack r)
