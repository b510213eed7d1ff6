-- Each rule keeps what a run of a checked program keeps, and spares every object that has a body.
use Rattle.std.{proofs.Common.{◌≡◌, ◌≢◌, ◌⊎◌, inl, inr, ℕ, suc, ◌-◌, ◌<◌, ◌||◌, eqb, Bool, true, false, IsTrue, List, [], ◌∷◌, ◌++◌, map, not, take, length, Option, Some, None, refl, sym, ap, ◌∙◌, subst, arith}, specs.List.{AllByRecursion, find}, proofs.lemmas.Bool.{cases_eq, eqb-true, cases_Bool}, proofs.lemmas.Option.{same_Some}}
use Rattle.basic_types.specs.{declared.value.Value.{Value}}
use Rattle.meta_model.specs.{declared.object.MetaMethod.{MetaMethod}, declared.object.Work.{Work}, declared.object.Work.TheVariants.{Signal, Slot, Native}, declared.qobject.TheConstants.{DESTROYED}, Loaded.{Loaded}, Members.{Below}, Sound.{IsSound}}
use Rattle.connections.specs.{declared.connection.Connection.{Connection}, Connected.{touches}}
use Rattle.event_loops.specs.{declared.item.Item.{Item}, declared.item.Item.TheVariants.{Call, Deletion}, declared.item.Posted.{Posted}, Queues.{Queues, items_at, is_before, taken_before}}
use Rattle.object_tree.specs.{declared.life.Life.{Life}, declared.object.Object.{Object}, Family.{children_of, without_life}, Objects.{Lives, class_of, life_of, change_life, scheduled}, Typed.{ReadAs}}
use Rattle.binding_graph.{specs.declared.binding.Binding.{Binding}, specs.declared.place.Place.{Place}, specs.Bindings.{binding_at, without_all, Settled}, specs.Places.{In, same_place}}
use Rattle.prop_bindings.specs.{declared.plans.assignment.Assignment.{Assignment}, Changes.{DifferInValues, AreChanged, in_order, once, places_in}, Fits.{Agree}, Values.{values_in}}
use Rattle.effect_scan.{specs.declared.node.Node.{Node}, specs.declared.node.Member.TheVariants.{Method, Property, Destruction}, specs.Nodes.{node, named}, specs.Destroying.{Closure, itself, child}, specs.Edges.{MayLead, by_wire, by_notify, by_destruction}, proofs.Relating.{is_class}}
use Rattle.certificate_lang.specs.{declared.certificate.Line.{Line}, declared.certificate.Certificate.{Certificate}}
use Rattle.rank_check.specs.Valid.{IsLineOf, Destroys, IsValid}
use Rattle.machine_state.{specs.Telling.{Assigning, writes_of}, specs.declared.turn.Turn.{Turn}, specs.Connections.{is_living, next_used}, specs.State.{Step, Run, Act, State, Activation, Body, Emit, Update, Destroy}, specs.Turns.{running, reaches_at_once}, proofs.Due.{found-among, all-removed, all-used, used-due, used-among}}
use Rattle.trace_entries.specs.{declared.entry.Entry.{Entry}}
use Rattle.machine_rules.{specs.Destroying.{Dies, NextRule, ChildRule, DestroyRule, living_child, Schedules, deleting}, specs.Operations.{Operation, Write, Begin, Choose, Connect, Disconnect, Delete, Schedule, TakeAnswer, Nothing, operation_of_step}, specs.Good.{ArgumentsFit, TopFits, IsWell, Spares, has_body}, specs.Natives.{NativeAnswers}, specs.Rules.{Rule, RuleAt, BodyRule, Does, EmitRule, UpdateRule, NotifiesIf, TurnRule, Serves, Delivers, Arrives, BeginsIf, begun, with_used}, specs.Settling.{Settles, Writes}, specs.code.Sound.{AllWait, Waits}, specs.There.{HasField, IsDead, IsMember}, proofs.Doing.{step-of}, proofs.Differing.{differ-stay, differ-spared}, proofs.Dying.{died-stay, scheduled-stay, scheduled-seen, other-seen}, proofs.Fields.{member-method}, proofs.Keeps.{class-of-lives}, proofs.Lists.{all-append, all-filtered}, proofs.Waiting.{first-waits}, proofs.Scheduling.{schedule-cases}}
use Rattle.object_machine.proofs.{CheckedRuns.Invariant.{Falls, IsNoHigher, Level, NodeLevel, FallsTo, IsStepOf, asks, BodyStands, EmitStands, IsFollower, IsTorn, DestroyStands, Stacked, IsOwned, IsWired, IsSited, IsCovered, Holds}, CheckedRuns.Nodes.{named-node, end-node, body-named, late-named, named-again}, CheckedRuns.Ladder.{higher-none, no-higher-self, level-at, level-of, at-node, falls-along, falls-to, line-from, line-unique}, CheckedRuns.Worlds.{Leaves, classes-left, differ-leaves, scheduled-leaves, died-leaves, SparedIn, stacked-still}, CheckedRuns.Followers.{IsKnown, followers}, CheckedRuns.Leading.{Draws, leads-drawn, does-led}, CheckedRuns.Staying.{left-runs, left-acts, steps-append, body-with, still-sited, fewer-bound, known-targets, not-queued, spared-as, begun-objects, update-objects, emission-objects, bound-by, Stays, known-member, linked-stays, unlinked-stays}}

module _ {p : Loaded} {certificate : Certificate} (valid : IsValid p certificate) (sound : IsSound p) (classes : ℕ → Option ℕ) where
  abbrev pub Covered : State → Type 0
  Covered s = IsCovered p classes s.objects s.connected.connections s.bindings

  abbrev pub Held : State → Type 0
  Held s = Holds p certificate classes s

  -- ---- a method begins

  body-held : (u : State) (below : List Activation) {o m : ℕ} {x : Object} {method : MetaMethod} {arguments : List Value} {left : List Step} (levels : List (Level certificate)) (r : NodeLevel p certificate) (is : IsMember p u.objects o m x method) →
      r.node ≡ node (is.life).class (Method (named m)) → FallsTo p levels r.line → Stacked p classes u.objects below levels → method.work ≢ Signal → ArgumentsFit p u.objects o m arguments → AllByRecursion (IsStepOf method.work) left →
      Stacked p classes u.objects (Body o m arguments left ∷ below) (level-of valid r ∷ levels)
  body-held u below {o = o} {m = m} {method = method} {arguments = arguments} levels r is at falls st bodied fit steps =
      let same : fit.method ≡ method = member-method fit.is is in (
        at-node valid r (record {
          class = (is.life).class;
          lives = class-of-lives u.objects o is.lives;
          at = at ∙ ap (λ (n : ℕ). node (is.life).class (Method n)) (body-named sound (is.life).class m method is.is_method bodied);
          method = method;
          is = is.is_method;
          bodied = bodied;
          typed = subst (λ (k : MetaMethod). ReadAs p u.objects arguments k.types) same fit.typed;
          steps = steps;
        }),
        falls,
        st,
      )

  pub begun-held : (u t : State) (n : ℕ) (below : List Activation) (o : ℕ) (x : Object) (m : ℕ) (method : MetaMethod) (arguments : List Value) (work : Work) (levels : List (Level certificate)) (r : NodeLevel p certificate) → Covered u → (is : IsMember p u.objects o m x method) → method.work ≡ work →
      r.node ≡ node (is.life).class (Method (named m)) → FallsTo p levels r.line → Stacked p classes u.objects below levels → n < suc (length below) → (n < length t.stack → TopFits p t.objects t.stack) → t ≡ begun u below o x m method arguments work → Held t
  begun-held u t n below o x m method arguments Signal levels r covered is work_is at falls st higher fits e =
      let Family : State → Type 0 = λ v. Held v in
      subst Family (sym e) (record { covered = covered; levels = level-of valid r ∷ levels; stacked = (at-node valid r (record { class = (is.life).class; is = known-member sound classes u covered is; at = at }), falls, st) })
  begun-held u t n below o x m method arguments (Slot statements) levels r covered is work_is at falls st higher fits e =
      let Family : State → Type 0 = λ v. (n < length v.stack → TopFits p v.objects v.stack) → Held v in
      subst Family (sym e) (λ top. record { covered = covered; levels = level-of valid r ∷ levels; stacked = body-held u below levels r is at falls st (λ bad. absurd (cc (sym work_is ∙ bad))) (top higher) (left-runs method.work statements statements work_is (λ s i. i)) }) fits
  begun-held u t n below o x m method arguments (Native effects) levels r covered is work_is at falls st higher fits e =
      let Family : State → Type 0 = λ v. (n < length v.stack → TopFits p v.objects v.stack) → Held v in
      subst Family (sym e) (λ top. record { covered = covered; levels = level-of valid r ∷ levels; stacked = body-held u below levels r is at falls st (λ bad. absurd (cc (sym work_is ∙ bad))) (top higher) (asks work_is, tt) }) fits

  -- ---- no body of an object that a deletion may end

  no-body : (objects : List Object) (x d : ℕ) (line : Line) (stack : List Activation) (levels : List (Level certificate)) → classes x ≡ Some d → ((o c : ℕ) → class_of objects o ≡ Some c → classes o ≡ Some c) → FallsTo p levels line → Stacked p classes objects stack levels → IsTrue (has_body x stack) → ¬ Destroys p line d
  no-body objects x d line [] levels is known falls st body = absurd (cc body)
  no-body objects x d line (a ∷ stack) [] is known falls st body = absurd st
  no-body objects x d line (Emit o g arguments used last ∷ stack) (r ∷ levels) is known falls st body = falls.set d (no-body objects x d r.line stack levels is known st.1 st.2 body)
  no-body objects x d line (Update places ∷ stack) (r ∷ levels) is known falls st body = falls.set d (no-body objects x d r.line stack levels is known st.1 st.2 body)
  no-body objects x d line (Destroy next torn ∷ stack) (r ∷ levels) is known falls st body = falls.set d (no-body objects x d r.line stack levels is known st.1 st.2 body)
  no-body objects x d line (Body o m arguments left ∷ stack) (r ∷ levels) is known falls st body =
      falls.set d (by_object (cases_Bool (eqb o x)) (λ more. no-body objects x d r.line stack levels is known st.1 st.2 more))
    where
      by_object : (eqb o x ≡ true) ⊎ (eqb o x ≡ false) → (IsTrue (has_body x stack) → ¬ Destroys p r.line d) → ¬ Destroys p r.line d
      by_object (inr other) more = more (ap (λ (b : Bool). b || has_body x stack) (sym other) ∙ body)
      by_object (inl same_object) more =
          let b = (st.0).stands in
          let same : b.class ≡ d = same_Some b.class d (sym (known o b.class b.lives) ∙ ap classes (eqb-true o x same_object) ∙ is) in
          let spared = valid.sets.spared (node b.class (Method m)) r.line (record { number = m; from = refl; body = record { method = b.method; is = b.is; runs = b.bodied } }) (subst (λ (z : Node). IsLineOf p certificate z r.line) b.at (st.0).is) in
          subst (λ (c : ℕ). ¬ Destroys p r.line c) same spared

  -- ---- values are settled

  pub settles-held : {s t : State} (below : List Activation) (levels : List (Level certificate)) (level : Level certificate) (written : List Place) {Tells : List Entry → Type 0} (objects : List Object) (bindings : List Binding) (changed : List Place) →
      Covered s → Agree p s.objects s.bindings → Stacked p classes s.objects below levels → FallsTo p levels level.line → AllByRecursion (IsFollower p certificate classes level.line) written →
      DifferInValues s.objects objects → AllByRecursion (IsSited p classes) bindings → Settled (binding_at bindings) (values_in objects) →
      ((q : Place) (b : Binding) → ¬ In q written → binding_at bindings q ≡ Some b → binding_at s.bindings q ≡ Some b) →
      ((q : Place) → ¬ In q written → binding_at bindings q ≡ None → values_in objects q ≡ values_in s.objects q) →
      AreChanged s.objects objects (in_order written s.bindings) changed →
      Settles p s below Tells objects bindings changed t → Held t
  settles-held {s} {t} below levels level written objects bindings changed covered agree st falls low differ sited settled same kept changes settles =
      let left : Leaves p classes s.objects objects = differ-leaves s.objects objects differ in
      let targets = known-targets p classes (without_all written s.bindings) (still-sited p classes written s.bindings covered.sited) in
      let notifies = followers valid sound classes (binding_at s.bindings) (binding_at bindings) (λ q b e. bound-by (IsSited p classes) bindings sited q b e) s.objects objects differ written level.line low agree.settled settled same kept
      (in_order written s.bindings) changed (all-append (IsKnown classes) (once written) (map (λ (b : Binding). b.target) (without_all written s.bindings)) (known-once level.line written low) targets) changes in
      let Family : State → Type 0 = λ v. Held v in
      subst Family (sym settles.gives) (record {
        covered = record { known = classes-left left covered.known; owned = left.children covered.owned; wired = covered.wired; sited = sited };
        levels = level ∷ levels;
        stacked = (notifies, falls, stacked-still p classes s.objects objects (differ-stay s.objects objects differ) below levels (λ o body gone. differ-spared s.objects objects differ o gone) st);
      })
    where
      known-once : (line : Line) (ps : List Place) → AllByRecursion (IsFollower p certificate classes line) ps → AllByRecursion (IsKnown classes) (once ps)
      known-once line [] all = tt
      known-once line (q ∷ ps) all = (((all.0).class, (all.0).is), all-filtered (IsKnown classes) (λ r. not (same_place r q)) (once ps) (known-once line ps all.1))

  -- properties are written that are no higher than the level
  pub writes-held : {s t : State} (below : List Activation) (levels : List (Level certificate)) (level : Level certificate) (what : Assigning) → Covered s → Agree p s.objects s.bindings → Stacked p classes s.objects below levels → FallsTo p levels level.line →
      AllByRecursion (IsFollower p certificate classes level.line) (places_in (writes_of what)) → Writes p s below what t → Held t
  writes-held {s} below levels level what covered agree st falls low w =
      let places : List Place = places_in (writes_of what) in
      settles-held below levels level places w.objects (without_all places s.bindings) w.changed covered agree st falls low w.written.objects (still-sited p classes places s.bindings covered.sited) w.written.settled
      (λ z b other e. fewer-bound places s.bindings z b e) (λ z other none. w.written.kept z none other) w.written.changes w.settles

  -- a property of a class, at the level of its node
  pub alone-low : (place : Place) (class : ℕ) (r : NodeLevel p certificate) → classes place.object ≡ Some class → r.node ≡ node class (Property place.property) → AllByRecursion (IsFollower p certificate classes r.line) (place ∷ [])
  alone-low place class r is at =
      let line_is = subst (λ (z : Node). IsLineOf p certificate z r.line) at r.is in
      (record { class = class; is = is; no_higher = λ line here. subst (λ (l : Line). IsNoHigher p r.line l) (line-unique _ r.line line valid line_is here) no-higher-self }, tt)

  -- ---- an object dies

  dies-held : {s t : State} (below : List Activation) (levels : List (Level certificate)) (r : NodeLevel p certificate) (c x : ℕ) (torn : List ℕ) → Covered s → Stacked p classes s.objects below levels → FallsTo p levels r.line → r.node ≡ node c Destruction → IsTorn p classes c x → AllByRecursion (IsTorn p classes c) torn → Dies s (Destroy (Some x) torn ∷ below) x t → Held t × SparedIn below s.objects t.objects
  dies-held {s} {t} below levels r c x torn covered st falls at this all d =
      let line_is = subst (λ (z : Node). IsLineOf p certificate z r.line) at r.is in
      let after_it : List Object = without_life x s.objects in
      let left : Leaves p classes s.objects after_it = died-leaves s.objects x in
      let next = falls-to valid sound (node this.class (Method DESTROYED)) line_is (by_destruction (record { from = refl; to = refl; closure = this.closed })) in
      let destroyed = valid.sets.closures (node c Destruction) r.line this.class refl line_is this.closed in
      let spared : SparedIn below s.objects after_it = λ o body gone. elim (cases_eq o x) [
        | inl same ↦ absurd (no-body s.objects x this.class r.line below levels this.is (covered.known).lives falls st (subst (λ (k : ℕ). IsTrue (has_body k below)) same body) destroyed)
        | inr other ↦ sym (other-seen s.objects x o other) ∙ gone
      ] in
      let Family : State → Type 0 = λ v. Held v × SparedIn below s.objects v.objects in
      subst Family (sym d.gives) (
        record {
          covered = record { known = classes-left left covered.known; owned = left.children covered.owned; wired = covered.wired; sited = all-filtered (IsSited p classes) _ s.bindings covered.sited };
          levels = level-of valid next.0 ∷ level-of valid r ∷ levels;
          stacked = (at-node valid next.0 (record { class = this.class; is = this.is; at = next.1 }), next.2, (at-node valid r (record { class = c; at = at; coming = this; gone = all }), falls, stacked-still p classes s.objects after_it (died-stay s.objects x d.named) below levels spared st));
        },
        spared,
      )

  -- what a rule that changes no object does
  abbrev pub Goes : State → List Activation → State → Type 0
  Goes s stack t = Held t × SparedIn stack s.objects t.objects

  same-spared : (objects : List Object) (stack : List Activation) → SparedIn stack objects objects
  same-spared objects stack o body gone = gone

  destroy-goes : (s t : State) (below : List Activation) (levels : List (Level certificate)) (r : NodeLevel p certificate) (next : Option ℕ) (torn : List ℕ) → Covered s → DestroyStands p classes next torn r.node → FallsTo p levels r.line → Stacked p classes s.objects below levels → DestroyRule s below t next torn → Goes s below t
  destroy-goes s t below levels r (Some x) torn covered d falls st rule = by_life (is_living s.objects x) rule
    where
      by_life : (b : Bool) → NextRule s below t x torn b → Goes s below t
      by_life true dies = dies-held below levels r d.class x torn covered st falls d.at d.coming d.gone dies
      by_life false e =
          let Family : State → Type 0 = λ v. Goes s below v in
          subst Family (sym e) (
            record {
              covered = record { known = covered.known; owned = covered.owned; wired = all-removed (IsWired p classes) (touches x) s.connected covered.wired; sited = covered.sited };
              levels = level-of valid r ∷ levels;
              stacked = (at-node valid r (record { class = d.class; at = d.at; coming = tt; gone = (d.coming, d.gone) }), falls, st);
            },
            same-spared s.objects below,
          )
  destroy-goes s t below levels r None [] covered d falls st rule =
      let Family : State → Type 0 = λ v. Goes s below v in
      subst Family (sym rule) (record { covered = covered; levels = levels; stacked = st }, same-spared s.objects below)
  destroy-goes s t below levels r None (parent ∷ torn) covered d falls st rule = by_child (living_child s parent) refl rule
    where
      by_child : (found : Option ℕ) → living_child s parent ≡ found → ChildRule s below t parent torn found → Goes s below t
      by_child None is e =
          let Family : State → Type 0 = λ v. Goes s below v in
          subst Family (sym e) (record { covered = covered; levels = level-of valid r ∷ levels; stacked = (at-node valid r (record { class = d.class; at = d.at; coming = tt; gone = (d.gone).1 }), falls, st) }, same-spared s.objects below)
      by_child (Some x) is dies =
          let owned = found-among (IsOwned p classes parent) (is_living s.objects) (children_of s.objects parent) x (covered.owned parent) is in
          let up = (d.gone).0 in
          let same : up.class ≡ owned.above = same_Some _ _ (sym up.is ∙ owned.is_above) in
          dies-held below levels r d.class x (parent ∷ torn) covered st falls d.at (record { class = owned.below; is = owned.is_below; closed = child (subst (λ (k : ℕ). Closure p d.class k) same up.closed) owned.owns }) d.gone dies

  -- ---- updates

  update-goes : (s t : State) (below : List Activation) (levels : List (Level certificate)) (r : Level certificate) (places : List Place) → Covered s → IsWell p s t → length s.stack ≡ suc (length below) → AllByRecursion (IsFollower p certificate classes r.line) places → FallsTo p levels r.line → Stacked p classes s.objects below levels → UpdateRule p s below t places → Held t
  update-goes s t below levels r [] covered well high all falls st e =
      let Family : State → Type 0 = λ v. Held v in
      subst Family (sym e) (record { covered = covered; levels = levels; stacked = st })
  update-goes s t below levels r (place ∷ places) covered well high all falls st rule = by_life (life_of s.objects place.object) rule
    where
      by_life : (life : Option Life) → NotifiesIf p s (Update places ∷ below) place t life → Held t
      by_life None e =
          let Family : State → Type 0 = λ v. Held v in
          subst Family (sym e) (record { covered = covered; levels = r ∷ levels; stacked = (all.1, falls, st) })
      by_life (Some l) n =
          let follower = all.0 in
          let at_class : follower.class ≡ (n.is).life.class = same_Some _ _ (sym follower.is ∙ (covered.known).lives place.object (n.is).life.class (class-of-lives s.objects place.object (n.is).lives)) in
          let up = line-from valid sound (node (n.is).life.class (Property place.property)) (node (n.is).life.class (Method (named n.signal))) (by_notify (record { number = place.property; property = n.property; is = record { class = (n.is).class; is_class = (n.is).is_class; is = (n.is).is_property }; from = refl; signal = n.signal; notifies = n.is_signal; to = refl })) in
          let next = falls-to valid sound (node (n.is).life.class (Method (named n.signal))) up.1 (by_notify (record { number = place.property; property = n.property; is = record { class = (n.is).class; is_class = (n.is).is_class; is = (n.is).is_property }; from = refl; signal = n.signal; notifies = n.is_signal; to = refl })) in
          let no_higher = follower.no_higher up.0 (subst (λ (c : ℕ). IsLineOf p certificate (node c (Property place.property)) up.0) (sym at_class) up.1) in
          let Family : State → Type 0 = λ v. Held v in
          subst Family (sym n.gives) (record {
            covered = covered;
            levels = level-of valid next.0 ∷ r ∷ levels;
            stacked = (at-node valid next.0 (record { class = (n.is).life.class; is = (covered.known).lives place.object (n.is).life.class (class-of-lives s.objects place.object (n.is).lives); at = next.1 }), higher-none no_higher next.2, (all.1, falls, st));
          })

  -- ---- emissions

  emission-goes : (s t : State) (below : List Activation) (levels : List (Level certificate)) (r : NodeLevel p certificate) (o g : ℕ) (arguments : List Value) (used last : ℕ) → Covered s → IsWell p s t → length s.stack ≡ suc (length below) → EmitStands classes o g r.node → FallsTo p levels r.line → Stacked p classes s.objects below levels →
      (found : Option Connection) → next_used s.objects s.connected.connections o g used last ≡ found → EmitRule p s o g arguments last below t found → Held t
  emission-goes s t below levels r o g arguments used last covered well high emits falls st None is e =
      let Family : State → Type 0 = λ v. Held v in
      subst Family (sym e) (record { covered = covered; levels = levels; stacked = st })
  emission-goes s t below levels r o g arguments used last covered well high emits falls st (Some c) is u =
      by_way (reaches_at_once c.kind u.home (running s.turn)) refl u.arrives
    where
      after_it : State
      after_it = with_used s c

      covered_used : Covered after_it
      covered_used = record { known = covered.known; owned = covered.owned; wired = all-used (IsWired p classes) c s.connected covered.wired; sited = covered.sited }

      wired : IsWired p classes c
      wired = used-among (IsWired p classes) s.objects s.connected.connections o g used last c covered.wired is

      due : (c.sender ≡ o) × (c.signal ≡ g)
      due = (used-due s.objects s.connected.connections o g used last c is).0

      stands : Stacked p classes s.objects (Emit o g arguments c.number last ∷ below) (level-of valid r ∷ levels)
      stands = (at-node valid r emits, falls, st)

      by_way : (b : Bool) → reaches_at_once c.kind u.home (running s.turn) ≡ b → Arrives after_it (Emit o g arguments c.number last ∷ below) u.home c.receiver u.receiver c.method u.method (take (length (u.method).types) arguments) t b → Held t
      by_way false late x =
          let Family : State → Type 0 = λ v. Held v in
          subst Family (sym x.gives) (record { covered = covered_used; levels = level-of valid r ∷ levels; stacked = stands })
      by_way true once x =
          let life = (u.is).life in
          let sender : wired.sender ≡ emits.class = same_Some _ _ (sym wired.is_sender ∙ ap classes due.0 ∙ emits.is) in
          let receiver : wired.receiver ≡ life.class = same_Some _ _ (sym wired.is_receiver ∙ known-member sound classes s covered u.is) in
          let signal : named g ≡ named (wired.wire).signal = ap named (sym due.1 ∙ wired.signal) ∙ named-again (wired.wire).signal in
          let late : named c.method ≡ c.method = subst (λ (m : ℕ). named m ≡ m) (sym wired.method) (late-named (wired.wire).method ((sound.wires wired.wire wired.declared).called)) in
          let line_is = subst (λ (z : Node). IsLineOf p certificate z r.line) emits.at r.is in
          let leads : MayLead p (node emits.class (Method (named g))) (node life.class (Method (named c.method))) = by_wire (record {
            wire = wired.wire;
            declared = wired.declared;
            at_once = λ queued. not-queued c.kind u.home (running s.turn) once (wired.kind ∙ queued);
            from = record { below = subst (λ (k : ℕ). Below p k (wired.wire).sender) sender wired.above_sender; is = ap Method signal };
            to = record { below = subst (λ (k : ℕ). Below p k (wired.wire).receiver) receiver wired.above_receiver; is = ap Method (late ∙ wired.method) };
          }) in
          let next = falls-to valid sound (node life.class (Method (named c.method))) line_is leads in
          begun-held after_it t (length s.stack) (Emit o g arguments c.number last ∷ below) c.receiver u.receiver c.method u.method (take (length (u.method).types) arguments) (u.method).work (level-of valid r ∷ levels) next.0 covered_used u.is refl next.1 next.2 stands (omega (arith, high)) well.arguments x

  -- ---- connections

  stays-goes : {s t : State} {stack : List Activation} (levels : List (Level certificate)) → Stacked p classes s.objects stack levels → Stays p classes s stack t → Goes s stack t
  stays-goes {s} {t} {stack} levels st stays = (
    record {
      covered = stays.covered;
      levels = levels;
      stacked = subst (λ (l : List Activation). Stacked p classes t.objects l levels) (sym stays.is_stack) (subst (λ (objects : List Object). Stacked p classes objects stack levels) (sym stays.same) st);
    },
    spared-as stack s.objects t.objects stays.same,
  )

  -- ---- an object is scheduled

  pub schedules-held : (s t : State) (stack : List Activation) (levels : List (Level certificate)) (x : ℕ) (life : Option Life) → Covered s → Stacked p classes s.objects stack levels → Schedules s stack x t life → Goes s stack t
  schedules-held s t stack levels x life covered st rule =
      let Family : State → Type 0 = λ v. Goes s stack v in
      elim (schedule-cases life rule) [
        | inl e ↦ subst Family (sym e) (record { covered = covered; levels = levels; stacked = st }, same-spared s.objects stack)
        | inr d ↦
            let new : List Object = change_life x scheduled s.objects in
            let left : Leaves p classes s.objects new = scheduled-leaves s.objects x in
            let spared : SparedIn stack s.objects new = λ o body gone. sym (scheduled-seen s.objects x o) ∙ gone in
            subst Family (sym d.gives) (
              record {
                covered = record { known = classes-left left covered.known; owned = left.children covered.owned; wired = covered.wired; sited = covered.sited };
                levels = levels;
                stacked = stacked-still p classes s.objects new (scheduled-stay s.objects x) stack levels spared st;
              },
              spared,
            )
      ]

  -- ---- bodies

  pub deletes-held : (s t : State) (stack : List Activation) (levels : List (Level certificate)) (r : NodeLevel p certificate) (x class : ℕ) → Covered s → Stacked p classes s.objects stack levels → FallsTo p levels r.line → r.node ≡ node class Destruction → classes x ≡ Some class → Closure p class class → t ≡ deleting s stack x → Goes s stack t
  deletes-held s t stack levels r x class covered st falls at is closed e =
      let Family : State → Type 0 = λ v. Goes s stack v in
      subst Family (sym e) (
        record {
          covered = covered;
          levels = level-of valid r ∷ levels;
          stacked = (at-node valid r (record { class = class; at = at; coming = record { class = class; is = is; closed = closed }; gone = tt }), falls, st);
        },
        same-spared s.objects stack,
      )

  -- ---- what a step writes

  -- the level of what is written from a body: a rank below its node's, with the same destroy set
  abbrev below-it : NodeLevel p certificate → Level certificate
  below-it r = let low = valid.bounded.ranks r.line r.is.stands in record { line = record r.line { rank = r.line.rank - 1 }; low = omega (arith, low) }

  falls-below : (r : NodeLevel p certificate) → (y : Node) × MayLead p r.node y → Falls p r.line (below-it r).line
  falls-below r leads =
      let next = falls-to valid sound leads.0 r.is leads.1 in
      let fall = (next.2).rank in
      record { rank = omega (arith, fall); set = λ d none. none }

  -- a property to which the body's node may lead is no higher
  written-low : (objects : List Object) (known : (o class : ℕ) → class_of objects o ≡ Some class → classes o ≡ Some class) (r : NodeLevel p certificate) {o m : ℕ} {arguments : List Value} {left : List Step} (b : BodyStands p objects o m arguments left r.node) (step : Step) (writes : List Assignment) → AllByRecursion (λ (a : Assignment). (z : Object) (k : Life) → Lives objects a.place.object z k → Draws p b.class b.method step (node k.class (Property a.place.property))) writes → AllByRecursion (HasField p objects) (places_in writes) → AllByRecursion (IsFollower p certificate classes (below-it r).line) (places_in writes)
  written-low objects known r b step [] leads there = tt
  written-low objects known r b step (a ∷ writes) leads there =
      let field = there.0 in
      let life = (field.is).life in
      let lead = leads-drawn b (leads.0 field.object life (field.is).lives) in (
        record {
          class = life.class;
          is = known a.place.object life.class (class-of-lives objects a.place.object (field.is).lives);
          no_higher = λ line at. let fall = falls-along valid lead r.is at in let rank = fall.rank in record { rank = omega (arith, rank); set = fall.set };
        },
        written-low objects known r b step writes leads.1 there.1,
      )

  does-goes : (natives : NativeAnswers) (s t : State) (below : List Activation) (levels : List (Level certificate)) (r : NodeLevel p certificate) (o m : ℕ) (arguments : List Value) (y : Step) (rest : List Step) → Covered s → Agree p s.objects s.bindings → IsWell p s t → length s.stack ≡ suc (length below) →
      BodyStands p s.objects o m arguments (y ∷ rest) r.node → FallsTo p levels r.line → Stacked p classes s.objects below levels → (d : Operation) → operation_of_step s.objects o arguments y ≡ Some d → Does p natives s o m arguments rest below d t → Goes s (Body o m arguments rest ∷ below) t
  does-goes natives s t below levels r o m arguments y rest covered agree well high b falls st d is does = by_operation d is does
    where
      stack : List Activation
      stack = Body o m arguments rest ∷ below

      higher : List (Level certificate)
      higher = level-of valid r ∷ levels

      stands : Stacked p classes s.objects stack higher
      stands = (at-node valid r (body-with b rest (b.steps).1), falls, st)

      told-goes : {v : State} → t ≡ v → Goes s stack v → Goes s stack t
      told-goes e h = let Family : State → Type 0 = λ w. Goes s stack w in subst Family (sym e) h

      by_operation : (d : Operation) → operation_of_step s.objects o arguments y ≡ Some d → Does p natives s o m arguments rest below d t → Goes s stack t
      by_operation (Write what) is does =
          let led = does-led (valid.typed) sound agree.typed b y (Write what) (b.steps).0 is in
          let spared : SparedIn stack s.objects t.objects = λ k body gone. differ-spared s.objects does.objects does.written.objects k (subst (λ (v : State). IsDead v.objects k) does.settles.gives gone) in
          (writes-held stack higher (below-it r) what covered agree stands (falls-below r (led.0.0, leads-drawn b led.0.1)) (written-low s.objects (covered.known).lives r b y (writes_of what) led.1 does.there) does, spared)
      by_operation (Begin x n given) is does =
          let life = (does.is).life in
          let led = does-led (valid.typed) sound agree.typed b y (Begin x n given) (b.steps).0 is in
          let next = falls-to valid sound (node life.class (Method n)) r.is (leads-drawn b (led.0 does.object life (does.is).lives)) in (
            begun-held s t (length s.stack) stack x does.object n does.method given (does.method).work higher next.0 covered does.is refl (next.1 ∙ ap (λ (k : ℕ). node life.class (Method k)) (sym led.1)) next.2 stands (omega (arith, high)) well.arguments does.gives,
            spared-as stack s.objects t.objects (begun-objects s t stack x does.object n does.method given (does.method).work does.gives),
          )
      by_operation (Choose block) is does =
          let led = does-led (valid.typed) sound agree.typed b y (Choose block) (b.steps).0 is in
          told-goes does (record { covered = covered; levels = higher; stacked = (at-node valid r (body-with b (map Run block ++ rest) (steps-append (IsStepOf (b.method).work) (map Run block) rest (left-runs (b.method).work led.0 block led.1 led.2) (b.steps).1)), falls, st) }, same-spared s.objects stack)
      by_operation (Connect ends how) is does = stays-goes {s = s} {t = t} higher stands (linked-stays sound classes s t stack ends how covered does)
      by_operation (Disconnect ends) is does = stays-goes {s = s} {t = t} higher stands (unlinked-stays sound classes s t stack ends covered does)
      by_operation (Delete x) is does =
          let led = does-led (valid.typed) sound agree.typed b y (Delete x) (b.steps).0 is in
          let z = led.0 in
          let next = falls-to valid sound (node (z.1).class Destruction) r.is (leads-drawn b (led.1 z.0 z.1 z.2)) in
          deletes-held s t stack higher next.0 x (z.1).class covered stands next.2 next.1 ((covered.known).lives x (z.1).class (class-of-lives s.objects x z.2)) (itself (agree.typed x z.0 z.1 z.2).is_class) does
      by_operation (Schedule x) is does = schedules-held s t stack higher x (life_of s.objects x) covered stands does
      by_operation (TakeAnswer effects) is does =
          let native = does-led (valid.typed) sound agree.typed b y (TakeAnswer effects) (b.steps).0 is in
          told-goes does.gives (record { covered = covered; levels = higher; stacked = (at-node valid r (body-with b (map (Act effects) does.actions ++ rest) (steps-append (IsStepOf (b.method).work) (map (Act effects) does.actions) rest (left-acts (b.method).work effects does.actions native) (b.steps).1)), falls, st) }, same-spared s.objects stack)
      by_operation Nothing is does = told-goes does (record { covered = covered; levels = higher; stacked = stands }, same-spared s.objects stack)

  body-goes : (natives : NativeAnswers) (s t : State) (below : List Activation) (levels : List (Level certificate)) (r : NodeLevel p certificate) (o m : ℕ) (arguments : List Value) (left : List Step) → Covered s → Agree p s.objects s.bindings → IsWell p s t → length s.stack ≡ suc (length below) →
      BodyStands p s.objects o m arguments left r.node → FallsTo p levels r.line → Stacked p classes s.objects below levels → BodyRule p natives s o m arguments below t left → Held t × SparedIn (Body o m arguments left ∷ below) s.objects t.objects
  body-goes natives s t below levels r o m arguments [] covered agree well high b falls st e =
      let Family : State → Type 0 = λ v. Held v × SparedIn (Body o m arguments [] ∷ below) s.objects v.objects in
      subst Family (sym e) (record { covered = covered; levels = levels; stacked = st }, same-spared s.objects (Body o m arguments [] ∷ below))
  body-goes natives s t below levels r o m arguments (y ∷ rest) covered agree well high b falls st rule =
      let x = step-of p natives s o m arguments y rest below t rule in
      let g = does-goes natives s t below levels r o m arguments y rest covered agree well high b falls st x.what x.is x.does in
      (g.0, g.1)

  -- ---- turns

  delivers-held : (s t : State) (queues : Queues) (item : Item) → Covered s → Stacked p {certificate = certificate} classes s.objects s.stack [] → length s.stack ≡ 0 → IsWell p s t → Waits p s.objects item → Delivers p (record s { queues = queues }) t item → Held t
  delivers-held s t queues (Call o m arguments) covered st low well waits rule = by_life (life_of s.objects o) rule
    where
      u : State
      u = record s { queues = queues }

      by_life : (life : Option Life) → BeginsIf p u o m arguments t life → Held t
      by_life None e =
          let Family : State → Type 0 = λ v. Held v in
          subst Family (sym e) (record { covered = covered; levels = []; stacked = st })
      by_life (Some l) b =
          let life = (b.is).life in
          let r = level-at valid (node life.class (Method (named m))) (named-node sound life.class m b.method (b.is).is_method) in
          begun-held u t (length s.stack) [] o b.object m b.method arguments (b.method).work [] r.0 covered b.is refl r.1 tt tt (omega (arith, low)) well.arguments b.gives
  delivers-held s t queues (Deletion o) covered st low well waits rule =
      let known = (covered.known).each o waits in
      let class = is_class p known.0 known.2 in
      let r = level-at valid (node known.0 Destruction) (end-node sound known.0 class.0 class.1) in
      (deletes-held (record s { queues = queues }) t [] [] r.0 o known.0 covered tt tt r.1 known.1 (itself class.1) rule).0

  turn-held : (s t : State) → Covered s → Stacked p {certificate = certificate} classes s.objects s.stack [] → length s.stack ≡ 0 → IsWell p s t → AllWait p s.objects s.queues.loops → (turn : Option Turn) → TurnRule p s t turn → Held t
  turn-held s t covered st low well waiting None rule = absurd rule
  turn-held s t covered st low well waiting (Some turn) rule = by_first (find (is_before turn.limit) (items_at s.queues.loops turn.home)) refl rule
    where
      by_first : (found : Option Posted) → find (is_before turn.limit) (items_at s.queues.loops turn.home) ≡ found → Serves p s t turn found → Held t
      by_first None is e =
          let Family : State → Type 0 = λ v. Held v in
          subst Family (sym e) (record { covered = covered; levels = []; stacked = st })
      by_first (Some q) is d =
          delivers-held s t (taken_before turn.home turn.limit s.queues) q.item covered st low well (first-waits p s.objects s.queues.loops turn.home turn.limit q waiting is) d

  -- ---- all rules

  rule-at : (natives : NativeAnswers) (s t : State) (stack : List Activation) (levels : List (Level certificate)) → s.stack ≡ stack → Covered s → Agree p s.objects s.bindings → AllWait p s.objects s.queues.loops → IsWell p s t → Stacked p classes s.objects stack levels → RuleAt p natives s t stack → Held t × SparedIn stack s.objects t.objects
  rule-at natives s t [] [] is covered agree waiting well st rule =
      (turn-held s t covered (subst (λ (l : List Activation). Stacked p {certificate = certificate} classes s.objects l []) (sym is) st) (ap (λ (l : List Activation). length l) is) well waiting s.turn rule, λ o body gone. absurd (cc body))
  rule-at natives s t [] (r ∷ levels) is covered agree waiting well st rule = absurd st
  rule-at natives s t (a ∷ below) [] is covered agree waiting well st rule = absurd st
  rule-at natives s t (Body o m arguments left ∷ below) (r ∷ levels) is covered agree waiting well st rule =
      body-goes natives s t below levels (record { node = (st.0).node; line = r.line; is = (st.0).is }) o m arguments left covered agree well (ap (λ (l : List Activation). length l) is) (st.0).stands st.1 st.2 rule
  rule-at natives s t (Emit o g arguments used last ∷ below) (r ∷ levels) is covered agree waiting well st rule = (
    emission-goes s t below levels (record { node = (st.0).node; line = r.line; is = (st.0).is }) o g arguments used last covered well (ap (λ (l : List Activation). length l) is) (st.0).stands st.1 st.2 (next_used s.objects s.connected.connections o g used last) refl rule,
    spared-as (Emit o g arguments used last ∷ below) s.objects t.objects (emission-objects p s t o g arguments last below (next_used s.objects s.connected.connections o g used last) rule),
  )
  rule-at natives s t (Update places ∷ below) (r ∷ levels) is covered agree waiting well st rule =
      (update-goes s t below levels r places covered well (ap (λ (l : List Activation). length l) is) st.0 st.1 st.2 rule, spared-as (Update places ∷ below) s.objects t.objects (update-objects p s t below places rule))
  rule-at natives s t (Destroy next torn ∷ below) (r ∷ levels) is covered agree waiting well st rule =
      let g = destroy-goes s t below levels (record { node = (st.0).node; line = r.line; is = (st.0).is }) next torn covered (st.0).stands st.1 st.2 rule in (g.0, λ o body gone. g.1 o body gone)

  -- each rule keeps it, and spares every object that has a body
  pub rule-held : (natives : NativeAnswers) (s t : State) → Held s → Agree p s.objects s.bindings → AllWait p s.objects s.queues.loops → IsWell p s t → Rule p natives s t → Held t × Spares s t
  rule-held natives s t held agree waiting well rule = rule-at natives s t s.stack held.levels refl held.covered agree waiting well held.stacked rule
