-- Deaths keep what a run keeps, and spare every object that has a body (docs/settling-proof.md, "Each rule keeps it").
use Rattle.std.{proofs.Common.{◌≡◌, ◌⊎◌, inl, inr, ℕ, ◌||◌, eqb, Bool, true, false, IsTrue, List, [], ◌∷◌, Option, Some, None, slice_get, refl, sym, ap, ◌∙◌, subst}, specs.List.{AllByRecursion}, specs.Option.{option_map, option_and_then}, proofs.lemmas.Bool.{cases_eq, cases_Bool, eqb-true, eq-eqb}, proofs.lemmas.Option.{same_Some, none-some}}
use Rattle.basic_types.specs.declared.value.Value.{Value}
use Rattle.basic_types.specs.declared.value.Value.TheVariants as value
use Rattle.meta_model.specs.{declared.qobject.TheConstants.{DESTROYED}, Loaded.{Loaded}, Sound.{IsSound}}
use Rattle.connections.specs.Connected.{touches}
use Rattle.object_tree.{specs.declared.life.Life.{Life}, specs.declared.object.Object.{Object}, specs.Family.{children_of, parent_of, leaves, dead, without_life}, specs.Objects.{class_of, change_life, with_life, scheduled}, proofs.Changing.{get-change_other, part-change, life-part}, proofs.Families.{leaves-part}}
use Rattle.effect_scan.specs.{declared.node.Node.{Node}, declared.node.Member.TheVariants.{Method, Destruction}, Nodes.{node}, Destroying.{child, Closure}, Edges.{MayLead, by_destruction}}
use Rattle.machine_state.{specs.Connections.{is_living}, specs.State.{Step, State, Activation, Body, Emit, Update, Destroy}, proofs.Due.{found-among, all-removed}}
use Rattle.machine_rules.{specs.Destroying.{Dies, NextRule, ChildRule, DestroyRule, living_child, Schedules}, specs.Good.{has_body}, specs.code.Keeps.{StayThere}, specs.There.{IsDead}, proofs.Dying.{lives-not-dead, died-dead, died-stay, other-seen, scheduled-stay, scheduled-seen}, proofs.Keeps.{lives-of-class, values-stay}, proofs.Lists.{all-filtered}, proofs.Scheduling.{schedule-cases}}
use Rattle.settling.specs.{declared.certificate.SettlingLine.{SettlingLine}, declared.certificate.SettlingCertificate.{SettlingCertificate}, Valid.{IsLineOf, Destroys, IsValid}}
use Rattle.object_machine.proofs.CheckedRuns.{Invariant.{BodyStands, IsTorn, DestroyStands, IsOwned, IsWired, IsSited}, Worlds.{Leaves, classes-left, died-leaves, scheduled-leaves, SparedIn}}
use Rattle.settled_runs.{specs.Levels.{Level, AreCosts, FallsTo, IsWell}, specs.Written.{HaveWritten}, specs.Deaths.{MayHaveDied}, proofs.Edges.{line-after}, proofs.Dying.{still-alike, still-falls, deaths-keep}, proofs.Pushing.{free, begins-over}, proofs.Invariant.{DeletionStands, Stands, Stacked}, proofs.Begun.{Covered, Held}}

-- ---- what stands stands still

body-still : {p : Loaded} {old new : List Object} {o m : ℕ} {arguments : List Value} {left : List Step} {x : Node} → StayThere old new → (IsDead new o → IsDead old o) → BodyStands p old o m arguments left x → BodyStands p new o m arguments left x
body-still {p} {old} {new} {o} {m} {arguments} stay spared b = record {
  class = b.class;
  lives = elim (stay.living o b.class b.lives) [
    | inl same ↦ same
    | inr gone ↦ absurd (lives-not-dead (lives-of-class old o b.class b.lives).2 (spared gone))
  ];
  at = b.at;
  method = b.method;
  is = b.is;
  bodied = b.bodied;
  typed = values-stay p stay arguments (b.method).types b.typed;
  steps = b.steps;
}

own-body : (o : ℕ) (other : Bool) → IsTrue (eqb o o || other)
own-body o other = by_test (eqb o o) (eq-eqb o o refl)
  where
    by_test : (b : Bool) → b ≡ true → IsTrue (b || other)
    by_test true e = refl
    by_test false e = absurd (cc e)

lower-body : (one other : Bool) → IsTrue other → IsTrue (one || other)
lower-body true other h = refl
lower-body false other h = h

spared-below : (old new : List Object) (a : Activation) (below : List Activation) → SparedIn (a ∷ below) old new → SparedIn below old new
spared-below old new (Body o m arguments left) below spared k body gone = spared k (lower-body (eqb o k) (has_body k below) body) gone
spared-below old new (Emit o g arguments used last) below spared k body gone = spared k body gone
spared-below old new (Update places) below spared k body gone = spared k body gone
spared-below old new (Destroy next torn) below spared k body gone = spared k body gone

module _ (p : Loaded) (cost : ℕ → ℕ) (classes : ℕ → Option ℕ) {certificate : SettlingCertificate} {old new : List Object} (stay : StayThere old new) where
  stands-still : (a : Activation) (below : List Activation) (level : Level certificate) → SparedIn (a ∷ below) old new → Stands p cost classes old a level → Stands p cost classes new a level
  stands-still (Body o m arguments left) below level spared st = record {
    node = st.node;
    is = st.is;
    stands = body-still stay (spared o (own-body o (has_body o below))) st.stands;
    is_inside = st.is_inside;
    is_strict = st.is_strict;
    carries = λ carried within a first. still-alike old new (stay.dead) a carried.value (st.carries carried within a first);
    alone = st.alone;
  }
  stands-still (Emit o g arguments used last) below level spared st = record {
    node = st.node;
    is = st.is;
    stands = st.stands;
    is_inside = st.is_inside;
    is_strict = st.is_strict;
    carries = λ carried within a first. still-alike old new (stay.dead) a carried.value (st.carries carried within a first);
    alone = st.alone;
  }
  stands-still (Update places) below level spared st = st
  stands-still (Destroy next torn) below level spared st = st

  pub stacked-still : (stack : List Activation) (levels : List (Level certificate)) → SparedIn stack old new → Stacked p cost classes old stack levels → Stacked p cost classes new stack levels
  stacked-still [] [] spared st = tt
  stacked-still [] (level ∷ levels) spared st = absurd st
  stacked-still (a ∷ stack) [] spared st = absurd st
  stacked-still (a ∷ stack) (level ∷ levels) spared st = (
    stands-still a stack level spared st.0,
    st.1,
    still-falls old new (stay.dead) p cost classes levels level st.2,
    stacked-still stack levels (spared-below old new a stack spared) st.3,
  )

-- ---- values of what lives

abbrev value-at : ℕ → Option Object → Option Value
value-at q there = option_and_then (λ (l : Life). slice_get l.values q) (option_and_then (λ (y : Object). y.life) there)

pub may-have-died : (objects : List Object) (x : ℕ) {name : List ℕ} → option_map (λ (y : Object). y.name) (slice_get objects x) ≡ Some name → MayHaveDied objects (without_life x objects)
may-have-died objects x named = record {
  dead = (died-stay objects x named).dead;
  living = λ q. elim (cases_eq q.object x) [
    | inl same ↦ inl (subst (λ (o : ℕ). IsDead (without_life x objects) o) (sym same) (died-dead objects x named))
    | inr other ↦ inr (
        ap (value-at q.property) (get-change_other x q.object dead (leaves (parent_of objects x) x objects) other)
        ∙ leaves-part (value-at q.property) (parent_of objects x) x q.object objects (λ y. refl))
  ];
}

pub scheduled-only : (objects : List Object) (x : ℕ) → MayHaveDied objects (change_life x scheduled objects)
scheduled-only objects x = record {
  dead = (scheduled-stay objects x).dead;
  living = λ q. inr (part-change (value-at q.property) x q.object (with_life scheduled) objects (λ y. life-part (option_and_then (λ (l : Life). slice_get l.values q.property)) scheduled (λ l. refl) y.life));
}

module _ {p : Loaded} {certificate : SettlingCertificate} (sound : IsSound p) (valid : IsValid p certificate) (cost : ℕ → ℕ) (costs : AreCosts p certificate cost) (classes : ℕ → Option ℕ) where
  -- no body of an object that a deletion may end
  no-body : (objects : List Object) (x d : ℕ) (upper : Level certificate) (stack : List Activation) (levels : List (Level certificate)) → classes x ≡ Some d → ((o c : ℕ) → class_of objects o ≡ Some c → classes o ≡ Some c)
      → FallsTo p cost objects levels upper → Stacked p cost classes objects stack levels → IsTrue (has_body x stack) → ¬ Destroys p upper.line d
  no-body objects x d upper [] levels is known falls st body = absurd (cc body)
  no-body objects x d upper (a ∷ stack) [] is known falls st body = absurd st
  no-body objects x d upper (Emit o g arguments used last ∷ stack) (r ∷ levels) is known falls st body = falls.set d (no-body objects x d r stack levels is known st.2 st.3 body)
  no-body objects x d upper (Update places ∷ stack) (r ∷ levels) is known falls st body = falls.set d (no-body objects x d r stack levels is known st.2 st.3 body)
  no-body objects x d upper (Destroy next torn ∷ stack) (r ∷ levels) is known falls st body = falls.set d (no-body objects x d r stack levels is known st.2 st.3 body)
  no-body objects x d upper (Body o m arguments left ∷ stack) (r ∷ levels) is known falls st body =
      falls.set d (by_object (cases_Bool (eqb o x)) (λ more. no-body objects x d r stack levels is known st.2 st.3 more))
    where
      by_object : (eqb o x ≡ true) ⊎ (eqb o x ≡ false) → (IsTrue (has_body x stack) → ¬ Destroys p r.line d) → ¬ Destroys p r.line d
      by_object (inr other) more = more (ap (λ (b : Bool). b || has_body x stack) (sym other) ∙ body)
      by_object (inl same_object) more =
          let b = (st.0).stands in
          let same : b.class ≡ d = same_Some b.class d (sym (known o b.class b.lives) ∙ ap classes (eqb-true o x same_object) ∙ is) in
          let spared = valid.sets.spared (node b.class (Method m)) r.line (record { number = m; from = refl; body = record { method = b.method; is = b.is; runs = b.bodied } }) (subst (λ (z : Node). IsLineOf p certificate z r.line) b.at (st.0).is) in
          subst (λ (c : ℕ). ¬ Destroys p r.line c) same spared

  -- an object dies, and its `destroyed` is emitted
  dies-held : {s t : State} (below : List Activation) (level : Level certificate) (levels : List (Level certificate)) (c x : ℕ) (torn : List ℕ) → Covered sound valid cost classes s → Stacked p cost classes s.objects below levels → HaveWritten s.objects (level ∷ levels)
      → (line_is : IsLineOf p certificate (node c Destruction) level.line) → level.within ≡ None → level.wrote ≡ None → IsWell p classes level → FallsTo p cost s.objects levels level → IsTorn p classes c x → AllByRecursion (IsTorn p classes c) torn
      → Dies s (Destroy (Some x) torn ∷ below) x t → Held sound valid cost classes t × SparedIn below s.objects t.objects
  dies-held {s} {t} below level levels c x torn covered st written line_is outside alone well falls this all d =
      let after_it : List Object = without_life x s.objects in
      let left : Leaves p classes s.objects after_it = died-leaves s.objects x in
      let died : MayHaveDied s.objects after_it = may-have-died s.objects x d.named in
      let leads : MayLead p (node c Destruction) (node this.class (Method DESTROYED)) = by_destruction (record { from = refl; to = refl; closure = this.closed }) in
      let line = line-after valid sound leads in
      let destroyed = valid.sets.closures (node c Destruction) level.line this.class refl line_is this.closed in
      let spared : SparedIn below s.objects after_it = λ o body gone. elim (cases_eq o x) [
        | inl same ↦ absurd (no-body s.objects x this.class level below levels this.is (covered.known).lives falls st (subst (λ (k : ℕ). IsTrue (has_body k below)) same body) destroyed)
        | inr other ↦ sym (other-seen s.objects x o other) ∙ gone
      ] in
      let b = begins-over sound valid cost costs classes after_it level levels (value.Ref None ∷ []) leads line_is line.1 (λ h. absurd (cc h.is)) (free outside) (λ carried within member hands. absurd (none-some carried (sym outside ∙ within))) in
      let Family : State → Type 0 = λ v. Held sound valid cost classes v × SparedIn below s.objects v.objects in
      subst Family (sym d.gives) (
        record {
          covered = record { known = classes-left left covered.known; owned = left.children covered.owned; wired = covered.wired; sited = all-filtered (IsSited p classes) _ s.bindings covered.sited };
          levels = b.level ∷ level ∷ levels;
          stacked = (
            record {
              node = node this.class (Method DESTROYED);
              is = subst (λ (l : SettlingLine). IsLineOf p certificate (node this.class (Method DESTROYED)) l) (sym b.line_is) line.1;
              stands = record { class = this.class; is = this.is; at = refl };
              is_inside = b.is_inside;
              is_strict = b.is_strict;
              carries = b.carries;
              alone = b.alone;
            },
            b.well,
            b.falls_to,
            (
              record { node = node c Destruction; is = line_is; stands = record { class = c; at = refl; coming = this; gone = all }; free = outside; alone = alone },
              well,
              still-falls s.objects after_it (died.dead) p cost classes levels level falls,
              stacked-still p cost classes (died-stay s.objects x d.named) below levels spared st,
            ),
          );
          written = (λ k q within wrote. absurd (none-some q (sym b.alone ∙ wrote)), (deaths-keep died p cost classes (level ∷ levels)).written written);
        },
        spared,
      )

  -- the deletion goes on with the next object, or ends
  pub destroy-held : (s t : State) (below : List Activation) (level : Level certificate) (levels : List (Level certificate)) (next : Option ℕ) (torn : List ℕ) → Covered sound valid cost classes s → DeletionStands p level (DestroyStands p classes next torn) → IsWell p classes level
      → FallsTo p cost s.objects levels level → Stacked p cost classes s.objects below levels → HaveWritten s.objects (level ∷ levels) → DestroyRule s below t next torn → Held sound valid cost classes t × SparedIn below s.objects t.objects
  destroy-held s t below level levels (Some x) torn covered d well falls st written rule = by_life (is_living s.objects x) rule
    where
      by_life : (b : Bool) → NextRule s below t x torn b → Held sound valid cost classes t × SparedIn below s.objects t.objects
      by_life true dies =
          dies-held below level levels (d.stands).class x torn covered st written (subst (λ (z : Node). IsLineOf p certificate z level.line) (d.stands).at d.is) d.free d.alone well falls (d.stands).coming (d.stands).gone dies
      by_life false e =
          let Family : State → Type 0 = λ v. Held sound valid cost classes v × SparedIn below s.objects v.objects in
          subst Family (sym e) (
            record {
              covered = record { known = covered.known; owned = covered.owned; wired = all-removed (IsWired p classes) (touches x) s.connected covered.wired; sited = covered.sited };
              levels = level ∷ levels;
              stacked = (
                record { node = d.node; is = d.is; stands = record { class = (d.stands).class; at = (d.stands).at; coming = tt; gone = ((d.stands).coming, (d.stands).gone) }; free = d.free; alone = d.alone },
                well,
                falls,
                st,
              );
              written = written;
            },
            λ o body gone. gone,
          )
  destroy-held s t below level levels None [] covered d well falls st written rule =
      let Family : State → Type 0 = λ v. Held sound valid cost classes v × SparedIn below s.objects v.objects in
      subst Family (sym rule) (record { covered = covered; levels = levels; stacked = st; written = written.1 }, λ o body gone. gone)
  destroy-held s t below level levels None (parent ∷ torn) covered d well falls st written rule = by_child (living_child s parent) refl rule
    where
      by_child : (found : Option ℕ) → living_child s parent ≡ found → ChildRule s below t parent torn found → Held sound valid cost classes t × SparedIn below s.objects t.objects
      by_child None is e =
          let Family : State → Type 0 = λ v. Held sound valid cost classes v × SparedIn below s.objects v.objects in
          subst Family (sym e) (
            record {
              covered = covered;
              levels = level ∷ levels;
              stacked = (
                record { node = d.node; is = d.is; stands = record { class = (d.stands).class; at = (d.stands).at; coming = tt; gone = (d.stands).gone.1 }; free = d.free; alone = d.alone },
                well,
                falls,
                st,
              );
              written = written;
            },
            λ o body gone. gone,
          )
      by_child (Some x) is dies =
          let owned = found-among (IsOwned p classes parent) (is_living s.objects) (children_of s.objects parent) x (covered.owned parent) is in
          let up = (d.stands).gone.0 in
          let same : up.class ≡ owned.above = same_Some _ _ (sym up.is ∙ owned.is_above) in
          dies-held below level levels (d.stands).class x (parent ∷ torn) covered st written (subst (λ (z : Node). IsLineOf p certificate z level.line) (d.stands).at d.is) d.free d.alone well falls
          (record { class = owned.below; is = owned.is_below; closed = child (subst (λ (k : ℕ). Closure p (d.stands).class k) same up.closed) owned.owns }) (d.stands).gone dies

  -- an object is scheduled: nothing that stands is another
  pub schedule-held : (s t : State) (stack : List Activation) (levels : List (Level certificate)) (x : ℕ) (life : Option Life) → Covered sound valid cost classes s → Stacked p cost classes s.objects stack levels → HaveWritten s.objects levels
      → Schedules s stack x t life → Held sound valid cost classes t × SparedIn stack s.objects t.objects
  schedule-held s t stack levels x life covered st written rule =
      let Family : State → Type 0 = λ v. Held sound valid cost classes v × SparedIn stack s.objects v.objects in
      elim (schedule-cases life rule) [
        | inl e ↦ subst Family (sym e) (record { covered = covered; levels = levels; stacked = st; written = written }, λ o body gone. gone)
        | inr d ↦
            let new : List Object = change_life x scheduled s.objects in
            let left : Leaves p classes s.objects new = scheduled-leaves s.objects x in
            let died : MayHaveDied s.objects new = scheduled-only s.objects x in
            let spared : SparedIn stack s.objects new = λ o body gone. sym (scheduled-seen s.objects x o) ∙ gone in
            subst Family (sym d.gives) (
              record {
                covered = record { known = classes-left left covered.known; owned = left.children covered.owned; wired = covered.wired; sited = covered.sited };
                levels = levels;
                stacked = stacked-still p cost classes (scheduled-stay s.objects x) stack levels spared st;
                written = (deaths-keep died p cost classes levels).written written;
              },
              spared,
            )
      ]
