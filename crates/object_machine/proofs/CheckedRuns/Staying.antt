-- What certificates have no part in: what is left of a body, of bindings and of objects, and a world that stays covered.
use Rattle.std.{proofs.Common.{◌≡◌, ◌≢◌, inl, inr, ℕ, ◌+◌, ◌<◌, cond, Bool, true, false, List, [], ◌∷◌, ◌++◌, map, take, length, Result, Ok, Err, Option, Some, None, slice_get, refl, sym, ap, ◌∙◌, subst, arith}, specs.List.{AllByRecursion}, proofs.lemmas.Bool.{cases_lt}, proofs.lemmas.Option.{same_Some, none-some}}
use Rattle.basic_types.specs.{declared.kind.Kind.{Kind}, declared.kind.Kind.TheVariants.{Auto, Direct, Queued}, declared.value.Value.{Value}}
use Rattle.syntax_trees.specs.declared.connection.ConnectionType.{ConnectionType}
use Rattle.meta_model.proofs.InLists.{covered_by}
use Rattle.meta_model.specs.{declared.effects.MetaEffects.{MetaEffects}, declared.object.MetaMethod.{MetaMethod}, declared.object.Statement.{Statement}, declared.object.Work.{Work}, declared.object.Work.TheVariants.{Signal, Slot, Native}, Loaded.{Loaded}, Members.{IsMethod, Covers}, Sound.{IsSound}}
use Rattle.connections.specs.declared.connection.Connection.{Connection}
use Rattle.native_slots.specs.declared.action.Action.{Action}
use Rattle.object_tree.specs.{declared.life.Life.{Life}, declared.object.Object.{Object}, Objects.{life_of, change_life, scheduled}}
use Rattle.binding_graph.{specs.declared.binding.Binding.{Binding}, specs.declared.place.Place.{Place}, specs.Bindings.{binding_at, without, without_all}, specs.Places.{same_place}, proofs.Replaced.{without-fewer}, proofs.Places.{decide_place, same_place-refl}}
use Rattle.effect_scan.specs.{declared.node.Node.{Node}, Nodes.{named}, Effects.{Occurs, here as first, after}}
use Rattle.machine_state.{specs.declared.endpoints.Endpoints.{Endpoints}, specs.Connections.{joins_these}, specs.State.{Step, Run, Act, State, Activation, Emit, Update}, specs.Turns.{running, reaches_at_once}, proofs.Due.{all-removed}}
use Rattle.trace_entries.specs.declared.refusal.Refusal.{Refusal}
use Rattle.machine_rules.{specs.Connecting.{kept_ends, names_of, named_signal, found_ends, may_connect}, specs.Destroying.{Schedules}, specs.Judgement.{holds as so, goes_on}, specs.Rules.{EmitRule, UpdateRule, NotifiesIf, Arrives, begun, with_used, linked, unlinked, Connects, Disconnects}, specs.There.{IsDead, IsMember}, proofs.Inherited.{method-below}, proofs.Keeps.{class-of-lives}, proofs.Lists.{all-filtered, all-snoc}, proofs.Scheduling.{schedule-cases}}
use Rattle.object_machine.proofs.CheckedRuns.{Invariant.{IsStepOf, runs, acts, BodyStands, IsWired, IsSited, AreClasses, IsCovered}, Worlds.{Leaves, classes-left, scheduled-leaves, SparedIn}, Followers.{IsKnown}}

-- ---- bodies

-- what is left of a body, from the statements that are part of it
pub left-runs : (work : Work) (body rest : List Statement) → work ≡ Slot body → ((s : Statement) → Occurs s rest → Occurs s body) → AllByRecursion (IsStepOf work) (map Run rest)
left-runs work body [] e within = tt
left-runs work body (s ∷ rest) e within = (runs e (within s first), left-runs work body rest e (λ t i. within t (after i)))

pub left-acts : (work : Work) (effects : MetaEffects) (actions : List Action) → work ≡ Native effects → AllByRecursion (IsStepOf work) (map (Act effects) actions)
left-acts work effects [] e = tt
left-acts work effects (it ∷ actions) e = (acts e, left-acts work effects actions e)

pub steps-append : (P : Step → Type 0) (front rest : List Step) → AllByRecursion P front → AllByRecursion P rest → AllByRecursion P (front ++ rest)
steps-append P [] rest a b = b
steps-append P (x ∷ front) rest a b = (a.0, steps-append P front rest a.1 b)

-- a body with less left to do
pub body-with : {p : Loaded} {objects : List Object} {o m : ℕ} {arguments : List Value} {left : List Step} {x : Node} (b : BodyStands p objects o m arguments left x) (rest : List Step) → AllByRecursion (IsStepOf (b.method).work) rest → BodyStands p objects o m arguments rest x
body-with b rest steps = record { class = b.class; lives = b.lives; at = b.at; method = b.method; is = b.is; bodied = b.bodied; typed = b.typed; steps = steps }

-- ---- bindings

-- the binding of a property is one of the list, and the property is its target
pub bound-by : (P : Binding → Type 0) (bs : List Binding) → AllByRecursion P bs → (q : Place) (b : Binding) → binding_at bs q ≡ Some b → P b × (b.target ≡ q)
bound-by P [] all q b some = absurd (none-some b some)
bound-by P (x ∷ xs) all q b some = elim (decide_place x.target q) [
  | inl e ↦
      let here : same_place x.target q ≡ true = subst (λ (z : Place). same_place x.target z ≡ true) e (same_place-refl x.target) in
      let same : x ≡ b = same_Some x b (sym (ap (λ (y : Bool). cond y (Some x) (binding_at xs q)) here) ∙ some) in
      (subst P same all.0, ap (λ (z : Binding). z.target) (sym same) ∙ e)
  | inr f ↦ bound-by P xs all.1 q b (sym (ap (λ (y : Bool). cond y (Some x) (binding_at xs q)) f) ∙ some)
]

-- bindings that are left once properties are written
pub still-sited : (p : Loaded) (classes : ℕ → Option ℕ) (places : List Place) (bs : List Binding) → AllByRecursion (IsSited p classes) bs → AllByRecursion (IsSited p classes) (without_all places bs)
still-sited p classes [] bs all = all
still-sited p classes (at ∷ places) bs all = still-sited p classes places (without at bs) (all-filtered (IsSited p classes) _ bs all)

pub fewer-bound : (places : List Place) (bs : List Binding) (q : Place) (b : Binding) → binding_at (without_all places bs) q ≡ Some b → binding_at bs q ≡ Some b
fewer-bound [] bs q b is = is
fewer-bound (at ∷ places) bs q b is = without-fewer at bs q b (fewer-bound places (without at bs) q b is)

pub known-targets : (p : Loaded) (classes : ℕ → Option ℕ) (bs : List Binding) → AllByRecursion (IsSited p classes) bs → AllByRecursion (IsKnown classes) (map (λ (b : Binding). b.target) bs)
known-targets p classes [] all = tt
known-targets p classes (b ∷ bs) all = (((all.0).target.class, (all.0).target.is), known-targets p classes bs all.1)

-- ---- objects

-- objects that are the same are spared
pub spared-as : (stack : List Activation) (old new : List Object) → new ≡ old → SparedIn stack old new
spared-as stack old new e o body gone = subst (λ (l : List Object). IsDead l o) e gone

-- a method begins, and objects are as they were
pub begun-objects : (u t : State) (below : List Activation) (o : ℕ) (x : Object) (m : ℕ) (method : MetaMethod) (arguments : List Value) (work : Work) → t ≡ begun u below o x m method arguments work → t.objects ≡ u.objects
begun-objects u t below o x m method arguments Signal e = ap (λ (v : State). v.objects) e
begun-objects u t below o x m method arguments (Slot statements) e = ap (λ (v : State). v.objects) e
begun-objects u t below o x m method arguments (Native effects) e = ap (λ (v : State). v.objects) e

pub update-objects : (p : Loaded) (s t : State) (below : List Activation) (places : List Place) → UpdateRule p s below t places → t.objects ≡ s.objects
update-objects p s t below [] e = ap (λ (v : State). v.objects) e
update-objects p s t below (place ∷ places) rule = by_life (life_of s.objects place.object) rule
  where
    by_life : (life : Option Life) → NotifiesIf p s (Update places ∷ below) place t life → t.objects ≡ s.objects
    by_life None e = ap (λ (v : State). v.objects) e
    by_life (Some l) n = ap (λ (v : State). v.objects) n.gives

pub emission-objects : (p : Loaded) (s t : State) (o g : ℕ) (arguments : List Value) (last : ℕ) (below : List Activation) (found : Option Connection) → EmitRule p s o g arguments last below t found → t.objects ≡ s.objects
emission-objects p s t o g arguments last below None e = ap (λ (v : State). v.objects) e
emission-objects p s t o g arguments last below (Some c) u = by_way (reaches_at_once c.kind u.home (running s.turn)) u.arrives
  where
    by_way : (b : Bool) → Arrives (with_used s c) (Emit o g arguments c.number last ∷ below) u.home c.receiver u.receiver c.method u.method (take (length (u.method).types) arguments) t b → t.objects ≡ s.objects
    by_way true e = begun-objects (with_used s c) t (Emit o g arguments c.number last ∷ below) c.receiver u.receiver c.method u.method (take (length (u.method).types) arguments) (u.method).work e
    by_way false x = ap (λ (v : State). v.objects) x.gives

-- as many objects were made as have classes
no-more : (p : Loaded) (classes : ℕ → Option ℕ) (old new : List Object) → AreClasses p classes old → AreClasses p classes new → ¬ (length old < length new)
no-more p classes old new before now more =
    let one = now.each (length old) more in
    let low = before.inside (length old) one.0 one.1 in
    omega (arith, low)

pub same-count : (p : Loaded) (classes : ℕ → Option ℕ) (old new : List Object) → AreClasses p classes old → AreClasses p classes new → length old ≡ length new
same-count p classes old new before now = elim (cases_lt (length old) (length new)) [
  | inl more ↦ absurd (no-more p classes old new before now more)
  | inr least ↦ elim (cases_lt (length new) (length old)) [
    | inl fewer ↦ absurd (no-more p classes new old now before fewer)
    | inr most ↦ omega (arith, least, most)
  ]
]

-- what is queued waits
pub not-queued : (kind : Kind) (home runner : ℕ) → reaches_at_once kind home runner ≡ true → kind ≢ Queued
not-queued Direct home runner e bad = absurd (cc bad)
not-queued Auto home runner e bad = absurd (cc bad)
not-queued Queued home runner e bad = absurd (cc e)

-- ---- the world

-- the world of a state is covered
abbrev pub Covered : Loaded → (ℕ → Option ℕ) → State → Type 0
Covered p classes s = IsCovered p classes s.objects s.connected.connections s.bindings

-- it is, with this stack, and objects are as they were
pub record Stays (p : Loaded) (classes : ℕ → Option ℕ) (s : State) (stack : List Activation) (t : State) : Type 0 where
  pub covered : Covered p classes t
  pub same : t.objects ≡ s.objects
  pub is_stack : t.stack ≡ stack

-- one signature is one method of a class
one-signature : {p : Loaded} {c i j : ℕ} {a b : MetaMethod} → IsSound p → IsMethod p c i a → IsMethod p c j b → a.sig ≡ b.sig → i ≡ j
one-signature {p} {c} {i} {j} {a} {b} sound x y e =
    let same_class = same_Some _ _ (sym (x.is_class).is ∙ (y.is_class).is) in
    (sound.classes c y.class y.is_class).distinct_methods i j a b (ap (λ k. slice_get k.methods i) (sym same_class) ∙ x.is) y.is (ap (λ s. s.name) e) (ap (λ s. length s.types) e)

module _ {p : Loaded} (sound : IsSound p) (classes : ℕ → Option ℕ) where
  pub known-member : (s : State) {o m : ℕ} {x : Object} {method : MetaMethod} → Covered p classes s → (is : IsMember p s.objects o m x method) → classes o ≡ Some (is.life).class
  known-member s {o} covered is = (covered.known).lives o (is.life).class (class-of-lives s.objects o is.lives)

  -- ---- connections

  pub wired-by : (from to a b g m number : ℕ) (signal method : MetaMethod) (kind : Kind) (single : Bool) → classes a ≡ Some from → classes b ≡ Some to → IsMethod p from g signal → IsMethod p to m method → Covers p from signal.sig to method.sig kind →
      IsWired p classes (record { number = number; sender = a; signal = named_signal g; receiver = b; method = m; kind = kind; single = single })
  wired-by from to a b g m number signal method kind single is_from is_to has_signal has_method wired =
      let covers = covered_by wired in
      let by = covers.by in
      let same_signal : g ≡ (covers.wire).signal = one-signature sound has_signal (method-below sound by.sender (by.from).is) (sym (by.from).signed) in
      let same_method : m ≡ (covers.wire).method = one-signature sound has_method (method-below sound by.receiver (by.to).is) (sym (by.to).signed) in
      record {
        wire = covers.wire;
        declared = covers.declared;
        sender = from;
        is_sender = is_from;
        above_sender = by.sender;
        signal = ap named same_signal;
        receiver = to;
        is_receiver = is_to;
        above_receiver = by.receiver;
        method = same_method;
        kind = sym by.same_kind;
      }

  stays-as : {s t u : State} {stack : List Activation} → t ≡ u → Stays p classes s stack u → Stays p classes s stack t
  stays-as {s} {stack = stack} e stays = let Family : State → Type 0 = λ v. Stays p classes s stack v in subst Family (sym e) stays

  pub linked-stays : (s t : State) (stack : List Activation) (ends : Endpoints) (how : ConnectionType) → Covered p classes s → Connects p s stack ends how t → Stays p classes s stack t
  linked-stays s t stack ends how covered x = by_answer x.answer x.judged x.gives
    where
      by_answer : (answer : Result (Unit {0}) Refusal) → may_connect p s.connected (found_ends x.spelled) (x.spelled).signal.sig (x.spelled).method.sig how answer → t ≡ linked s stack (kept_ends ends) how (names_of x.kept) answer → Stays p classes s stack t
      by_answer (Err k) judged e = stays-as e (record { covered = covered; same = refl; is_stack = refl })
      by_answer (Ok _) (goes_on _ (so covers) rest) e =
          let there = x.spelled in
          let wired = wired-by (there.sends).life.class (there.receives).life.class ends.sender ends.receiver ends.signal ends.method (s.connected.last + 1) there.signal there.method how.kind how.single (known-member s covered there.sends) (known-member s covered there.receives) (there.sends).is_method (there.receives).is_method covers in
          stays-as e (record {
            covered = record { known = covered.known; owned = covered.owned; wired = all-snoc (IsWired p classes) s.connected.connections _ covered.wired wired; sited = covered.sited };
            same = refl;
            is_stack = refl;
          })

  pub unlinked-stays : (s t : State) (stack : List Activation) (ends : Endpoints) → Covered p classes s → Disconnects p s stack ends t → Stays p classes s stack t
  unlinked-stays s t stack ends covered x = by_answer x.answer x.gives
    where
      by_answer : (answer : Result (Unit {0}) Refusal) → t ≡ unlinked s stack (kept_ends ends) (names_of x.kept) answer → Stays p classes s stack t
      by_answer (Err k) e = stays-as e (record { covered = covered; same = refl; is_stack = refl })
      by_answer (Ok _) e = stays-as e (record {
        covered = record { known = covered.known; owned = covered.owned; wired = all-removed (IsWired p classes) (joins_these (kept_ends ends)) s.connected covered.wired; sited = covered.sited };
        same = refl;
        is_stack = refl;
      })

  -- ---- an object is scheduled

  pub schedules-covered : (s t : State) (stack : List Activation) (x : ℕ) (life : Option Life) → Covered p classes s → Schedules s stack x t life → Covered p classes t × (t.stack ≡ stack)
  schedules-covered s t stack x life covered rule =
      let Family : State → Type 0 = λ v. Covered p classes v × (v.stack ≡ stack) in
      elim (schedule-cases life rule) [
        | inl e ↦ subst Family (sym e) (covered, refl)
        | inr d ↦
            let left : Leaves p classes s.objects (change_life x scheduled s.objects) = scheduled-leaves s.objects x in
            subst Family (sym d.gives) (record { known = classes-left left covered.known; owned = left.children covered.owned; wired = covered.wired; sited = covered.sited }, refl)
      ]
