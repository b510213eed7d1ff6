-- What each event leaves to be done in a covered world, whatever a certificate says; a new object gets its class.
use Rattle.std.{proofs.Common.{◌≡◌, ◌≢◌, inl, inr, ℕ, ◌+◌, ◌<◌, eqb, cond, Bool, true, false, List, [], ◌∷◌, ◌++◌, length, length-append, Ok, Option, Some, None, slice_get, refl, sym, ap, ◌∙◌, subst, arith}, specs.List.{AllByRecursion, AllZip}, specs.Option.{option_map, option_and_then}, proofs.lemmas.Bool.{cases_eq, eq-eqb, ne_eqb}, proofs.lemmas.Option.{none-some, slice_get_within}}
use Rattle.basic_types.specs.{declared.sig.Sig.{Sig}, declared.value.Value.{Value}}
use Rattle.syntax_trees.specs.{declared.connection.ConnectionType.{ConnectionType}, declared.connection.Endpoints.{Endpoints as Named}}
use Rattle.script_lang.specs.{declared.event.Event.{Event}, declared.event.Event.TheVariants.{Loop, Turn, New, Adopt, Move, Connect, Disconnect, Set, Bind, Emit as EmitEvent, Call as CallEvent, Block, Unblock, Delete as DeleteEvent, Later as LaterEvent}, declared.event.Input.{Input}}
use Rattle.meta_model.specs.{declared.object.MetaObject.{MetaObject}, Loaded.{Loaded}, Members.{IsClass, Covers}, Sound.{IsSound}}
use Rattle.connections.specs.declared.connection.Connection.{Connection}
use Rattle.object_tree.{specs.declared.life.Life.{Life}, specs.declared.object.Object.{Object}, specs.Creating.{begun as begun_life, fresh, initial_values}, specs.Family.{children_in, parent_of, leaves, joined_by, put_under, moved}, specs.Moving.{in_loop, all_in_loop}, specs.Objects.{change, change_life, with_life, blocked}, proofs.Changing.{part-change, life-part, length-change, get-change_other}, proofs.TypedObjects.{get-appended, class-same, shape-moved}}
use Rattle.delete_later.specs.declared.store.Store.{Store}
use Rattle.binding_graph.{specs.declared.binding.Binding.{Binding}, specs.declared.place.Place.{Place}, specs.Places.{property_of}}
use Rattle.prop_bindings.specs.{Calls.{IsOf as IsLivingOf}, Fits.{Agree}}
use Rattle.machine_state.{specs.Accepting.{accepted}, specs.Connections.{joins_these}, specs.State.{State, IsIdle}, specs.Worlds.{with_store}, proofs.Due.{all-removed}, specs.Telling.{Alone}}
use Rattle.machine_rules.{specs.declared.ends.FoundEnds.{FoundEnds}, specs.Judgement.{Numbered, found as finds, holds as so, becomes, goes_on}, specs.Destroying.{deleting}, specs.Rules.{Begins}, specs.Settling.{Writes, Installs}, proofs.Lists.{all-snoc, all-weaken}}
use Rattle.object_machine.{specs.declared.invoking.Invocation.{Invocation}, specs.declared.invoking.Invocation.TheVariants.{Emit as EmitIt, Call as CallIt}, specs.Events.{judged, may_bind, block, find_ends, invoke}, specs.code.Judgement.{IsLiving}, proofs.CheckedRuns.Invariant.{AreClasses, AreOwned, IsOwned, IsWired, IsOf, IsSited, IsCovered}, proofs.Changes.{adopted-by, length-moved}, proofs.Judged.{given-is}, proofs.Judging.Naming.{living-is, living-object}, proofs.Moving.{moved-by}, proofs.CheckedRuns.Worlds.{Leaves, classes-left, all-changed, all-left}, proofs.CheckedRuns.Staying.{Covered, wired-by, schedules-covered}}

-- ---- objects change

-- the life of one changes, but for its class
life-leaves : {p : Loaded} {classes : ℕ → Option ℕ} (objects : List Object) (x : ℕ) (f : Life → Life) → ((l : Life) → (f l).class ≡ l.class) → Leaves p classes objects (change_life x f objects)
life-leaves {p} {classes} objects x f same = record {
  living = λ o class is. sym (part-change (λ (there : Option Object). option_map (λ (l : Life). l.class) (option_and_then (λ (y : Object). y.life) there)) x o (with_life f) objects
      (λ y. life-part (option_map (λ (l : Life). l.class)) f (λ l. ap Some (same l)) y.life)) ∙ is;
  count = length-change x (with_life f) objects;
  children = λ owned o. subst (λ (l : List ℕ). AllByRecursion (IsOwned p classes o) l) (sym (part-change children_in x o (with_life f) objects (λ y. refl))) (owned o);
}

-- some move to another event loop
in-loop-leaves : {p : Loaded} {classes : ℕ → Option ℕ} (home : ℕ) (os : List ℕ) (objects : List Object) → Leaves p classes objects (all_in_loop os home objects)
in-loop-leaves home [] objects = record { living = λ o class is. is; count = refl; children = λ owned. owned }
in-loop-leaves home (o ∷ os) objects =
    let one = life-leaves objects o (in_loop home) (λ l. refl) in
    let more = in-loop-leaves home os (change_life o (in_loop home) objects) in
    record { living = λ k class is. one.living k class (more.living k class is); count = more.count ∙ one.count; children = λ owned. more.children (one.children owned) }

-- one moves under a parent that may own it
moved-leaves : {p : Loaded} {classes : ℕ → Option ℕ} (objects : List Object) (a c : ℕ) → IsOwned p classes a c → Leaves p classes objects (moved a c objects)
moved-leaves {p} {classes} objects a c owns = record {
  living = λ o class is. sym (class-same objects (moved a c objects) o (shape-moved a c objects o)) ∙ is;
  count = length-moved a c objects;
  children = λ owned k. subst (λ (l : List ℕ). AllByRecursion (IsOwned p classes k) l)
      (sym (part-change children_in c k (with_life (put_under a)) (leaves (parent_of objects c) c (change a (joined_by c) objects)) (λ y. refl)))
      (all-left (IsOwned p classes k) (parent_of objects c) c k (change a (joined_by c) objects)
      (elim (cases_eq k a) [
        | inl same ↦ all-changed (IsOwned p classes k) a k (joined_by c) objects (λ x h. all-snoc (IsOwned p classes k) x.children c h (subst (λ (j : ℕ). IsOwned p classes j c) (sym same) owns)) (owned k)
        | inr other ↦ subst (λ (there : Option Object). AllByRecursion (IsOwned p classes k) (children_in there)) (sym (get-change_other a k (joined_by c) objects other)) (owned k)
      ]));
}

-- ---- an object is created

-- it has this class from now on
abbrev pub with-class : ℕ → ℕ → (ℕ → Option ℕ) → ℕ → Option ℕ
with-class n class classes o = cond (eqb o n) (Some class) (classes o)

with-new : (n class : ℕ) (classes : ℕ → Option ℕ) → with-class n class classes n ≡ Some class
with-new n class classes = ap (λ (b : Bool). cond b (Some class) (classes n)) (eq-eqb n n refl)

with-old : (n class : ℕ) (classes : ℕ → Option ℕ) (o : ℕ) → o ≢ n → with-class n class classes o ≡ classes o
with-old n class classes o other = ap (λ (b : Bool). cond b (Some class) (classes o)) (ne_eqb o n other)

module _ {p : Loaded} (classes : ℕ → Option ℕ) (objects : List Object) (known : AreClasses p classes objects) (class : ℕ) where
  abbrev pub after-all : ℕ → Option ℕ
  after-all = with-class (length objects) class classes

  still : (o c : ℕ) → classes o ≡ Some c → after-all o ≡ Some c
  still o c is = with-old (length objects) class classes o (λ same. let low = known.inside o c is in omega (arith, low, same)) ∙ is

  owned-still : (a c : ℕ) → IsOwned p classes a c → IsOwned p after-all a c
  owned-still a c x = record { above = x.above; is_above = still a x.above x.is_above; below = x.below; is_below = still c x.below x.is_below; owns = x.owns }

  wired-still : (c : Connection) → IsWired p classes c → IsWired p after-all c
  wired-still c x = record {
    wire = x.wire;
    declared = x.declared;
    sender = x.sender;
    is_sender = still c.sender x.sender x.is_sender;
    above_sender = x.above_sender;
    signal = x.signal;
    receiver = x.receiver;
    is_receiver = still c.receiver x.receiver x.is_receiver;
    above_receiver = x.above_receiver;
    method = x.method;
    kind = x.kind;
  }

  of-still : (o formal : ℕ) → IsOf p classes o formal → IsOf p after-all o formal
  of-still o formal x = record { class = x.class; is = still o x.class x.is; below = x.below }

  all-of-still : (os formals : List ℕ) → AllZip (IsOf p classes) os formals → AllZip (IsOf p after-all) os formals
  all-of-still [] [] all = all
  all-of-still [] (f ∷ fs) all = absurd all
  all-of-still (o ∷ os) [] all = absurd all
  all-of-still (o ∷ os) (f ∷ fs) all = (of-still o f all.0, all-of-still os fs all.1)

  sited-still : (b : Binding) → IsSited p classes b → IsSited p after-all b
  sited-still b x = record { site = x.site; declared = x.declared; formula = x.formula; property = x.property; target = of-still b.target.object (x.site).class x.target; sources = all-of-still b.sources (x.site).formals x.sources }

  module _ (inside : class < length p.classes) (z : Object) (l : Life) (alive : z.life ≡ Some l) (is : l.class ≡ class) (childless : z.children ≡ []) where
    class-in-new : (there : Option Object) (o c : ℕ) → slice_get (objects ++ z ∷ []) o ≡ there → option_map (λ (m : Life). m.class) (option_and_then (λ (y : Object). y.life) there) ≡ Some c → after-all o ≡ Some c
    class-in-new None o c at e = absurd (none-some c e)
    class-in-new (Some x) o c at e = elim (get-appended objects z x o at) [
      | inl old ↦ still o c (known.lives o c (ap (λ (there : Option Object). option_map (λ (m : Life). m.class) (option_and_then (λ (y : Object). y.life) there)) old ∙ e))
      | inr last ↦
          let mine : Some l.class ≡ Some c = sym (ap (option_map (λ (m : Life). m.class)) (ap (λ (y : Object). y.life) (sym last.1) ∙ alive)) ∙ e in
          ap after-all last.0 ∙ with-new (length objects) class classes ∙ ap Some (sym is) ∙ mine
    ]

    children-in-new : (there : Option Object) (o : ℕ) → slice_get (objects ++ z ∷ []) o ≡ there → AreOwned p classes objects → AllByRecursion (IsOwned p after-all o) (children_in there)
    children-in-new None o at owned = tt
    children-in-new (Some x) o at owned = elim (get-appended objects z x o at) [
      | inl old ↦ all-weaken (IsOwned p classes o) (IsOwned p after-all o) x.children (λ c h. owned-still o c h) (subst (λ (there : Option Object). AllByRecursion (IsOwned p classes o) (children_in there)) old (owned o))
      | inr last ↦ subst (λ (ks : List ℕ). AllByRecursion (IsOwned p after-all o) ks) (sym (ap (λ (y : Object). y.children) (sym last.1) ∙ childless)) tt
    ]

    pub created-covered : (connections : List Connection) (bindings : List Binding) → IsCovered p classes objects connections bindings → IsCovered p after-all (objects ++ z ∷ []) connections bindings
    created-covered connections bindings covered = record {
      known = record {
        lives = λ o c e. class-in-new (slice_get (objects ++ z ∷ []) o) o c refl e;
        each = λ o low. elim (cases_eq o (length objects)) [
          | inl same ↦ (class, ap after-all same ∙ with-new (length objects) class classes, inside)
          | inr other ↦ let count = length-append objects (z ∷ []) in let old = known.each o (omega (arith, low, count, other)) in (old.0, still o old.0 old.1, old.2)
        ];
        inside = λ o c e. let count = length-append objects (z ∷ []) in elim (cases_eq o (length objects)) [
          | inl same ↦ omega (arith, same, count)
          | inr other ↦ let low = known.inside o c (sym (with-old (length objects) class classes o other) ∙ e) in omega (arith, low, count)
        ];
      };
      owned = λ o. children-in-new (slice_get (objects ++ z ∷ []) o) o refl covered.owned;
      wired = all-weaken (IsWired p classes) (IsWired p after-all) connections wired-still covered.wired;
      sited = all-weaken (IsSited p classes) (IsSited p after-all) bindings sited-still covered.sited;
    }

-- ---- events

-- what an event leaves to be done, where nothing else is active: nothing, a write, a bind, a call or a deletion
pub data Comes (p : Loaded) (classes : ℕ → Option ℕ) (s t : State) : Type 0 where
  rests : (now : ℕ → Option ℕ) → Covered p now t → t.stack ≡ [] → Comes p classes s t
  sets : (place : Place) (v : Value) → Writes p (accepted s) s.stack (Alone place v) t → Comes p classes s t
  binds : (b : Binding) → IsSited p classes b → Installs p (accepted s) s.stack b t → Comes p classes s t
  begins : (o m : ℕ) (given : List Value) → Begins p (accepted s) s.stack o m given t → Comes p classes s t
  deletes : (x class : ℕ) → classes x ≡ Some class → (c : MetaObject) → IsClass p class c → t ≡ deleting (accepted s) s.stack x → Comes p classes s t

module _ {p : Loaded} (sound : IsSound p) (s : State) (idle : IsIdle s) (classes : ℕ → Option ℕ) (covered : Covered p classes s) (agree : Agree p s.objects s.bindings) where
  -- nothing is left
  rests-as : {t u : State} (now : ℕ → Option ℕ) → t ≡ u → Covered p now u → u.stack ≡ [] → Comes p classes s t
  rests-as now e is empty = rests now (let Family : State → Type 0 = λ v. Covered p now v in subst Family (sym e) is) (ap (λ (v : State). v.stack) e ∙ empty)

  -- objects change, and no class or child is new
  changed-covered : (objects : List Object) → Leaves p classes s.objects objects → IsCovered p classes objects s.connected.connections s.bindings
  changed-covered objects left = record { known = classes-left left covered.known; owned = left.children covered.owned; wired = covered.wired; sited = covered.sited }

  known-living : {name : List ℕ} (o : Numbered Life) → IsLiving s.objects name o → classes o.number ≡ Some (o.it).class
  known-living o is = (covered.known).lives o.number (o.it).class (ap (option_map (λ (l : Life). l.class)) is.lives)

  invoked-comes : (t : State) (a : Invocation) (name called : List ℕ) (inputs : List Input) → invoke p s a name called inputs (Ok t) → Comes p classes s t
  invoked-comes t a name called inputs (goes_on o lives (goes_on m asked (goes_on vs given (goes_on _ fit (becomes b))))) = begins o.number m.number vs b

  blocked-comes : {t : State} (name : List ℕ) (on : Bool) → block s name on (Ok t) → Comes p classes s t
  blocked-comes name on (goes_on o lives given) = rests-as classes (given-is given) (changed-covered (change_life o.number (blocked on) s.objects) (life-leaves s.objects o.number (blocked on) (λ l. refl))) idle.empty

  -- a connection is covered
  connection-wired : (e : Named (List ℕ)) (how : ConnectionType) (n : ℕ) (f : FoundEnds) → find_ends p s.objects e (Ok f) → Covers p f.from e.signal f.to e.method how.kind →
      IsWired p classes (record { number = n; sender = f.ends.sender; signal = f.ends.signal; receiver = f.ends.receiver; method = f.ends.method; kind = how.kind; single = how.single })
  connection-wired e how n f (goes_on a sender (goes_on b receiver (goes_on g (finds signal) (goes_on m (finds method) given)))) covers =
      let Covered_by : FoundEnds → Type 0 = λ k. Covers p k.from e.signal k.to e.method how.kind in
      let Wired_as : FoundEnds → Type 0 = λ k. IsWired p classes (record { number = n; sender = k.ends.sender; signal = k.ends.signal; receiver = k.ends.receiver; method = k.ends.method; kind = how.kind; single = how.single }) in
      let found_covers = subst Covered_by (given-is given) covers in
      let Signal_sig : Sig → Type 0 = λ z. Covers p (a.it).class z (b.it).class e.method how.kind in
      let Method_sig : Sig → Type 0 = λ z. Covers p (a.it).class ((signal.0).method).sig (b.it).class z how.kind in
      let spelled = subst Method_sig (sym method.signed) (subst Signal_sig (sym (signal.0).signed) found_covers) in
      subst Wired_as (sym (given-is given))
      (wired-by sound classes (a.it).class (b.it).class a.number b.number g m n (signal.0).method method.method how.kind how.single (known-living a (living-is sender)) (known-living b (living-is receiver)) (signal.0).is method.is spelled)

  -- a binding is covered
  sources-of : (os formals : List ℕ) → AllZip (IsLivingOf p s.objects) os formals → AllZip (IsOf p classes) os formals
  sources-of [] [] all = all
  sources-of [] (f ∷ fs) all = absurd all
  sources-of (o ∷ os) [] all = absurd all
  sources-of (o ∷ os) (f ∷ fs) all = (record { class = (all.0).class; is = (covered.known).lives o (all.0).class (all.0).is; below = (all.0).below }, sources-of os fs all.1)

  pub binding-sited : (site target : List ℕ) (sources : List (List ℕ)) (b : Binding) → may_bind p s site target sources (Ok b) → IsSited p classes b
  binding-sited site target sources b (goes_on n (finds is) (goes_on _ count (goes_on o lives (goes_on xs all (goes_on _ (so covers) (goes_on _ one given)))))) =
      let Sited : Binding → Type 0 = λ z. IsSited p classes z in
      let target_is = covers.of_target in
      subst Sited (sym (given-is given)) (record {
        site = n.it;
        declared = is.0;
        formula = refl;
        property = refl;
        target = record { class = target_is.class; is = (covered.known).lives o.number target_is.class target_is.is; below = target_is.below };
        sources = sources-of xs (n.it).formals covers.of_sources;
      })

  pub event-comes : {t : State} (e : Event) → judged p s e (Ok t) → Comes p classes s t
  event-comes (Loop name) (goes_on _ free given) = rests-as classes (given-is given) covered idle.empty
  event-comes (Turn name) (goes_on home is given) = rests-as classes (given-is given) covered idle.empty
  event-comes (New name class loop) (goes_on _ free (goes_on c (finds is) (goes_on home lives (goes_on _ room given)))) =
      let z : Object = fresh name c.number home (initial_values c.it) in
      let l : Life = begun_life c.number home (initial_values c.it) in
      rests-as (with-class (length s.objects) c.number classes) (given-is given)
      (created-covered classes s.objects covered.known c.number (slice_get_within p.classes c.number c.it (is.0).is) z l refl refl refl s.connected.connections s.bindings covered) idle.empty
  event-comes {t} (Adopt parent child) (goes_on a is_parent (goes_on c is_child (goes_on _ (so owns) (goes_on _ over (goes_on _ home (goes_on objects (becomes x) given)))))) =
      let owned : IsOwned p classes a.number c.number = record { above = (a.it).class; is_above = known-living a (living-is is_parent); below = (c.it).class; is_below = known-living c (living-is is_child); owns = owns } in
      rests-as classes (given-is given)
      (adopted-by (λ (l : List Object). IsCovered p classes l s.connected.connections s.bindings) covered (changed-covered (moved a.number c.number s.objects) (moved-leaves s.objects a.number c.number owned)) x) idle.empty
  event-comes (Move name loop) (goes_on o lives (goes_on home is (goes_on _ root (goes_on _ alone (goes_on store (becomes x) given))))) =
      rests-as classes (given-is given)
      (moved-by (λ (stores : Store). Covered p classes (with_store (accepted s) stores)) covered (λ os alone. changed-covered (all_in_loop os home s.objects) (in-loop-leaves home os s.objects)) x) idle.empty
  event-comes (Connect e how) (goes_on f both (goes_on _ (goes_on _ (so covers) rest) given)) =
      rests-as classes (given-is given)
      (record { known = covered.known; owned = covered.owned; wired = all-snoc (IsWired p classes) s.connected.connections _ covered.wired (connection-wired e how (s.connected.last + 1) f both covers); sited = covered.sited }) idle.empty
  event-comes (Disconnect e) (goes_on f both (goes_on _ is given)) =
      rests-as classes (given-is given)
      (record { known = covered.known; owned = covered.owned; wired = all-removed (IsWired p classes) (joins_these f.ends) s.connected covered.wired; sited = covered.sited }) idle.empty
  event-comes (Set name property i) (goes_on o lives (goes_on q _ (goes_on v _ (goes_on _ fits (becomes w))))) = sets (property_of o.number q.number) v w
  event-comes (Bind site target sources) (goes_on b may (becomes x)) = binds b (binding-sited site target sources b may) x
  event-comes {t} (EmitEvent name signal inputs) x = invoked-comes t EmitIt name signal inputs x
  event-comes {t} (CallEvent name slot inputs) x = invoked-comes t CallIt name slot inputs x
  event-comes (Block name) x = blocked-comes name true x
  event-comes (Unblock name) x = blocked-comes name false x
  event-comes (DeleteEvent name) (goes_on o lives given) =
      let it = living-object o (living-is lives) in
      deletes o.number (o.it).class (known-living o (living-is lives)) _ (agree.typed o.number it.0 o.it it.1).is_class (given-is given)
  event-comes {t} (LaterEvent name) (goes_on o lives (becomes x)) =
      let later = schedules-covered sound classes (accepted s) t s.stack o.number (Some o.it) covered x in
      rests classes later.0 (later.1 ∙ idle.empty)
