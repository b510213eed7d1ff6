-- A step of a body keeps what a run keeps, and spares every object that has a body (docs/settling-proof.md, "Each rule keeps it").
use Rattle.std.{proofs.Common.{◌≡◌, inl, inr, ℕ, suc, ◌<◌, List, [], ◌∷◌, ◌++◌, map, length, Option, Some, None, slice_get, refl, sym, ap, ◌∙◌, subst, arith}, specs.List.{AllByRecursion}, proofs.lemmas.Option.{same_Some, none-some}}
use Rattle.basic_types.specs.declared.value.Value.{Value}
use Rattle.meta_model.specs.{Loaded.{Loaded}, Sound.{IsSound}}
use Rattle.object_tree.{specs.declared.life.Life.{Life}, specs.declared.object.Object.{Object}, specs.Objects.{Lives, life_of}, specs.Seen.{seen}}
use Rattle.binding_graph.specs.{declared.place.Place.{Place}, Places.{In}}
use Rattle.prop_bindings.specs.{declared.plans.assignment.Assignment.{Assignment}, Changes.{places_in}, Fits.{Agree}}
use Rattle.effect_scan.specs.{declared.node.Node.{Node}, declared.node.Member.TheVariants.{Method, Property, Destruction}, Nodes.{node}, Destroying.{itself}}
use Rattle.rank_check.proofs.Elements.{element_at}
use Rattle.machine_state.specs.{State.{Step, Run, Act, State, Activation, Body}, Telling.{Assigning, Alone, Grouped, writes_of}}
use Rattle.machine_rules.{specs.Good.{IsWell as IsGiven}, specs.Natives.{NativeAnswers}, specs.Operations.{Operation, Write, Begin, Choose, Connect, Disconnect, Delete, Schedule, TakeAnswer, Nothing, operation_of_step}, specs.Destroying.{deleting}, specs.Rules.{Begins as Starts, BodyRule, Does}, specs.Settling.{Writes}, specs.There.{HasField, IsDead}, proofs.Differing.{differ-spared}, proofs.Doing.{step-of}, proofs.Keeps.{class-of-lives}}
use Rattle.settling.specs.{declared.certificate.SettlingLine.{SettlingLine}, declared.certificate.SettlingCertificate.{SettlingCertificate}, Sets.{IsIn, AreTogether}, Hands.{HandOn}, Valid.{IsLineOf, IsValid}}
use Rattle.object_machine.proofs.CheckedRuns.{Invariant.{IsStepOf, BodyStands, DestroyStands}, Worlds.{SparedIn}}
use Rattle.object_machine.proofs.CheckedRuns.Leading.{Draws, leads-drawn, does-led}
use Rattle.object_machine.proofs.CheckedRuns.Staying.{left-runs, left-acts, steps-append, body-with, spared-as, begun-objects, Stays, linked-stays, unlinked-stays}
use Rattle.settled_runs.{specs.Writes.{IsAtNode, IsLineAt, IsNoHigher}, specs.Levels.{Carried, Level, AreCosts, FallsTo, IsWell}, specs.Written.{HasWritten, HaveWritten}, proofs.Edges.{one-node, line-at, line-after}, proofs.Memberships.{edge-cases, exits, destroy-falls, source-above}, proofs.Pushing.{StandsIn, free, bound, CarriesFirst, left-by, begins-over, update-outside}, proofs.Invariant.{MethodStands, DeletionStands, Stacked}, proofs.Begun.{Covered, Held, fits-begun, begun-held}, proofs.Deleting.{schedule-held}, proofs.Dying.{seen-again}, proofs.Carrying.{KeepsPlaces, places-same, places-died, schedule-died}, proofs.Writing.{write-held, write-stays, write-places}, proofs.Stacks.{levels-of}, proofs.Stepping.{GivesJust, hands-drawn, first-of, does-with, gives-just}, proofs.Within.{within-places, within-held}}

-- a level that wrote nothing has nothing that must stay
none-written : (objects : List Object) {certificate : SettlingCertificate} (level : Level certificate) → level.wrote ≡ None → HasWritten objects level
none-written objects level alone c q within wrote = absurd (none-some q (sym alone ∙ wrote))

module _ {p : Loaded} {certificate : SettlingCertificate} (sound : IsSound p) (valid : IsValid p certificate) (cost : ℕ → ℕ) (costs : AreCosts p certificate cost) (classes : ℕ → Option ℕ) where
  -- what is kept, every object that has a body there is spared, and places of the sets of these levels keep what they have, or
  -- come to read as what the set carries
  abbrev pub Goes : State → List Activation → List (Level certificate) → State → Type 0
  Goes s stack levels t = Held sound valid cost classes t × SparedIn stack s.objects t.objects × KeepsPlaces p classes s.objects t.objects levels

  goes-as : (s : State) (stack : List Activation) (levels : List (Level certificate)) {t u : State} → t ≡ u → Goes s stack levels u → Goes s stack levels t
  goes-as s stack levels e goes = let Family : State → Type 0 = λ v. Goes s stack levels v in subst Family (sym e) goes

  -- a deletion is in no set
  no-carrier : (c : ℕ) (k : ℕ) → ¬ IsIn p certificate k (node c Destruction)
  no-carrier c k is = (valid.rounds is.set (element_at certificate.sets k is.set is.stands)).carries (node c Destruction) is.member

  free-of : (c : ℕ) {level : Level certificate} → StandsIn p (node c Destruction) level → level.within ≡ None
  free-of c (free within) = within
  free-of c (bound {carried = carried} member within) = absurd (no-carrier c carried.set member)

  -- what stays as it is but for its connections
  stays-goes : {s t : State} {stack : List Activation} (levels : List (Level certificate)) → Stacked p cost classes s.objects stack levels → HaveWritten s.objects levels → Stays p classes s stack t → Goes s stack levels t
  stays-goes {s} {t} {stack} levels st written stays = (
    record {
      covered = stays.covered;
      levels = levels;
      stacked = subst (λ (l : List Activation). Stacked p cost classes t.objects l levels) (sym stays.is_stack) (subst (λ (objects : List Object). Stacked p cost classes objects stack levels) (sym stays.same) st);
      written = subst (λ (objects : List Object). HaveWritten objects levels) (sym stays.same) written;
    },
    spared-as stack s.objects t.objects stays.same,
    places-same p classes levels s.objects t.objects stays.same,
  )

  module _ (s t : State) (below : List Activation) (level : Level certificate) (levels : List (Level certificate)) (o m : ℕ) (arguments : List Value) (y : Step) (rest : List Step)
      (covered : Covered sound valid cost classes s) (agree : Agree p s.objects s.bindings) (given : IsGiven p s t) (high : length s.stack ≡ suc (length below))
      (ms : MethodStands p s.objects arguments level (BodyStands p s.objects o m arguments (y ∷ rest))) (well : IsWell p classes level) (falls : FallsTo p cost s.objects levels level)
      (st : Stacked p cost classes s.objects below levels) (written : HaveWritten s.objects (level ∷ levels)) where
    abbrev b : BodyStands p s.objects o m arguments (y ∷ rest) ms.node
    b = ms.stands

    -- with this left to do
    standing : (left : List Step) → AllByRecursion (IsStepOf (b.method).work) left → Stacked p cost classes s.objects (Body o m arguments left ∷ below) (level ∷ levels)
    standing left steps = (
      record { node = ms.node; is = ms.is; stands = body-with b left steps; is_inside = ms.is_inside; is_strict = ms.is_strict; carries = ms.carries; alone = ms.alone },
      well,
      falls,
      st,
    )

    stands : Stacked p cost classes s.objects (Body o m arguments rest ∷ below) (level ∷ levels)
    stands = standing rest (b.steps).1

    -- the world is as it was, and this is left
    left-goes : (left : List Step) → AllByRecursion (IsStepOf (b.method).work) left → (u : State) → t ≡ u → Covered sound valid cost classes u → u.objects ≡ s.objects → u.stack ≡ Body o m arguments left ∷ below → Goes s (Body o m arguments rest ∷ below) (level ∷ levels) t
    left-goes left steps u e kept same is_stack = goes-as s (Body o m arguments rest ∷ below) (level ∷ levels) e (
      record {
        covered = kept;
        levels = level ∷ levels;
        stacked = subst (λ (l : List Activation). Stacked p cost classes u.objects l (level ∷ levels)) (sym is_stack) (subst (λ (objects : List Object). Stacked p cost classes objects (Body o m arguments left ∷ below) (level ∷ levels)) (sym same) (standing left steps));
        written = subst (λ (objects : List Object). HaveWritten objects (level ∷ levels)) (sym same) written;
      },
      spared-as (Body o m arguments rest ∷ below) s.objects u.objects same,
      places-same p classes (level ∷ levels) s.objects u.objects same,
    )

    -- ---- what is handed on

    -- the node is in the set of the level, where it is in one
    record IsHere (k : ℕ) : Type 0 where
      carried : Carried
      within : level.within ≡ Some carried
      same : carried.set ≡ k
      value : Value
      first : slice_get arguments 0 ≡ Some value
      reads : seen s.objects value ≡ seen s.objects carried.value

    here-in : (k : ℕ) → IsIn p certificate k ms.node → IsHere k
    here-in k member =
        let first = first-of b ((valid.rounds member.set (element_at certificate.sets k member.set member.stands)).carries ms.node member.member) in
        let own = ms.is_strict first.0 first.1 k member in
        record { carried = own.0; within = own.1; same = by_inside own.0 own.1 ms.is_inside; value = first.0; first = first.1; reads = ms.carries own.0 own.1 first.0 first.1 }
      where
        by_inside : (c : Carried) → level.within ≡ Some c → StandsIn p ms.node level → c.set ≡ k
        by_inside c within (free none) = absurd (none-some c (sym none ∙ within))
        by_inside c within (bound {carried = d} there is) =
            ap (λ (e : Carried). e.set) (same_Some _ _ (sym within ∙ is)) ∙ valid.nothing_else.apart d.set k ms.node there member

    -- what is done within a set is done with its value
    done-with : {z : Node} (d : Operation) → operation_of_step s.objects o arguments y ≡ Some d → Draws p b.class b.method y z → HandOn p ms.node z → (a : Value) → slice_get arguments 0 ≡ Some a → GivesJust (seen s.objects a) d
    done-with d is draws hands a first = gives-just (does-with s.objects o arguments a y d first (hands-drawn b draws hands) is)

    -- ---- a method begins

    begin-goes : (x n : ℕ) (passed : List Value) → operation_of_step s.objects o arguments y ≡ Some (Begin x n passed) → Starts p s (Body o m arguments rest ∷ below) x n passed t → Goes s (Body o m arguments rest ∷ below) (level ∷ levels) t
    begin-goes x n passed is does =
        let life = (does.is).life in
        let led = does-led (valid.typed) sound agree.typed b y (Begin x n passed) (b.steps).0 is in
        let draws = led.0 does.object life (does.is).lives in
        let leads = leads-drawn b draws in
        let line = line-after valid sound leads in
        let same = begun-objects s t (Body o m arguments rest ∷ below) x does.object n does.method passed (does.method).work does.gives in
        let typed = fits-begun sound valid cost classes s t (length s.stack) (Body o m arguments rest ∷ below) x does.object n does.method passed (does.method).work does.is (omega (arith, high)) given.arguments does.gives in (
          begun-held sound valid cost classes s t (Body o m arguments rest ∷ below) x does.object n does.method passed (does.method).work (level ∷ levels) covered does.is refl (ap (λ (k : ℕ). node life.class (Method k)) (sym led.1)) line.1
              (begins-over sound valid cost costs classes s.objects level levels passed leads ms.is line.1 (λ h. absurd (cc h.is)) ms.is_inside (λ c within there hands. handed draws c within there hands)) typed stands written does.gives,
          spared-as (Body o m arguments rest ∷ below) s.objects t.objects same,
          places-same p classes (level ∷ levels) s.objects t.objects same,
        )
      where
        handed : {z : Node} → Draws p b.class b.method y z → (c : Carried) → level.within ≡ Some c → IsIn p certificate c.set z → HandOn p ms.node z → CarriesFirst s.objects c passed
        handed draws c within there hands = by_inside ms.is_inside
          where
            by_inside : StandsIn p ms.node level → CarriesFirst s.objects c passed
            by_inside (free none) = absurd (none-some c (sym none ∙ within))
            by_inside (bound {carried = d} member at) =
                let here = here-in d.set member in
                let same : here.carried ≡ c = same_Some _ _ (sym here.within ∙ within) in
                let just : passed ≡ seen s.objects here.value ∷ [] = done-with (Begin x n passed) is draws hands here.value here.first in
                λ a first.
                let value : a ≡ seen s.objects here.value = same_Some _ _ (sym first ∙ ap (λ (l : List Value). slice_get l 0) just) in
                ap (seen s.objects) value ∙ seen-again s.objects s.objects (λ k gone. gone) here.value ∙ here.reads ∙ ap (λ (e : Carried). seen s.objects e.value) same

    -- ---- an object is deleted

    delete-goes : (x : ℕ) → operation_of_step s.objects o arguments y ≡ Some (Delete x) → t ≡ deleting s (Body o m arguments rest ∷ below) x → Goes s (Body o m arguments rest ∷ below) (level ∷ levels) t
    delete-goes x is e =
        let led = does-led (valid.typed) sound agree.typed b y (Delete x) (b.steps).0 is in
        let z = led.0 in
        let class = (z.1).class in
        let leads = leads-drawn b (led.1 z.0 z.1 z.2) in
        let line = line-after valid sound leads in
        let up = begins-over sound valid cost costs classes s.objects level levels [] leads ms.is line.1 (λ h. absurd (cc h.is)) ms.is_inside (λ c within there hands. absurd (no-carrier class c.set there)) in
        let deletion : DeletionStands p up.level (DestroyStands p classes (Some x) []) = record {
          node = node class Destruction;
          is = subst (λ (l : SettlingLine). IsLineOf p certificate (node class Destruction) l) (sym up.line_is) line.1;
          stands = record { class = class; at = refl; coming = record { class = class; is = (covered.known).lives x class (class-of-lives s.objects x z.2); closed = itself (agree.typed x z.0 z.1 z.2).is_class }; gone = tt };
          free = free-of class up.is_inside;
          alone = up.alone;
        } in
        goes-as s (Body o m arguments rest ∷ below) (level ∷ levels) e (
          record {
            covered = covered;
            levels = up.level ∷ level ∷ levels;
            stacked = (deletion, up.well, up.falls_to, stands);
            written = (none-written s.objects up.level up.alone, written);
          },
          λ k body gone. gone,
          places-same p classes (level ∷ levels) s.objects s.objects refl,
        )

    -- ---- properties are written

    -- the node of what is written is led to
    record IsLedTo (w : Place) : Type 0 where
      node : Node
      at : IsAtNode classes w node
      draws : Draws p b.class b.method y node

    led-to : (writes : List Assignment) → AllByRecursion (λ (a : Assignment). (z : Object) (k : Life) → Lives s.objects a.place.object z k → Draws p b.class b.method y (node k.class (Property a.place.property))) writes
        → AllByRecursion (HasField p s.objects) (places_in writes) → (w : Place) → In w (places_in writes) → IsLedTo w
    led-to [] led there w i = absurd i
    led-to (a ∷ writes) led there w i = by_place (λ more. led-to writes led.1 there.1 w more) i
      where
        own : IsLedTo a.place
        own =
            let field = (there.0).is in
            let life = field.life in
            record {
              node = node life.class (Property a.place.property);
              at = record { class = life.class; is = (covered.known).lives a.place.object life.class (class-of-lives s.objects a.place.object field.lives); at = refl };
              draws = led.0 (there.0).object life field.lives;
            }

        by_place : (In w (places_in writes) → IsLedTo w) → In w (places_in (a ∷ writes)) → IsLedTo w
        by_place further (inl same) = subst (λ (q : Place). IsLedTo q) same own
        by_place further (inr more) = further more

    -- what is kept where objects come to be these
    abbrev WrittenTo : List Object → Type 0
    WrittenTo objects = Held sound valid cost classes t × KeepsPlaces p classes s.objects objects (level ∷ levels)

    write-goes : (what : Assigning) → operation_of_step s.objects o arguments y ≡ Some (Write what) → Writes p s (Body o m arguments rest ∷ below) what t → Goes s (Body o m arguments rest ∷ below) (level ∷ levels) t
    write-goes what is w = let held = by_writes what is w in (held.0, spared, subst (λ (objects : List Object). KeepsPlaces p classes s.objects objects (level ∷ levels)) (sym (ap (λ (u : State). u.objects) w.settles.gives)) held.1)
      where
        spared : SparedIn (Body o m arguments rest ∷ below) s.objects t.objects
        spared k body gone = differ-spared s.objects w.objects w.written.objects k (subst (λ (v : State). IsDead v.objects k) w.settles.gives gone)

        -- the body's rank isn't 0
        above-by : (z : Node) → Draws p b.class b.method y z → 0 < level.line.rank
        above-by z draws =
            let leads = leads-drawn b draws in source-above sound valid leads ms.is (line-after valid sound leads).1

        -- what is written has left the set of the level, if it is in one
        apart-held : (what : Assigning) (above : 0 < level.line.rank) (w : Writes p s (Body o m arguments rest ∷ below) what t) → ((q : Place) → In q (places_in (writes_of what)) → IsLedTo q)
            → ((q : Place) → In q (places_in (writes_of what)) → (z : Node) → IsAtNode classes q z → ¬ AreTogether p certificate ms.node z) → WrittenTo w.objects
        apart-held what above w led apart =
            let up = update-outside sound valid cost costs classes s.objects level levels well above in
            let low : (q : Place) (other : SettlingLine) → In q (places_in (writes_of what)) → IsLineAt p certificate classes q other → IsNoHigher p (up.level).line other = λ q other i there.
            let to = led q i in
            let leads = leads-drawn b to.draws in
            let line = line-at valid there to.at in
            let exit = exits sound valid leads ms.is line (apart q i to.node to.at) in
            up.low other exit.falls (left-by sound valid cost costs classes s.objects level ms.is_inside refl exit) (destroy-falls sound valid leads ms.is line) in
            let are = levels-of p cost classes s.objects (Body o m arguments rest ∷ below) (level ∷ levels) stands in (
              write-held sound valid cost classes (Body o m arguments rest ∷ below) (level ∷ levels) up.level what up.free up.alone up.falls_to low covered agree stands w
                  (write-stays sound valid cost classes costs what level levels are written covered agree w (up.level).line low up.leaves),
              write-places sound valid cost classes costs what level levels are written covered agree w (up.level).line low up.leaves,
            )

        by_writes : (what : Assigning) → operation_of_step s.objects o arguments y ≡ Some (Write what) → (w : Writes p s (Body o m arguments rest ∷ below) what t) → WrittenTo w.objects
        by_writes (Grouped sets) is w =
            let led = does-led (valid.typed) sound agree.typed b y (Write (Grouped sets)) (b.steps).0 is in
            apart-held (Grouped sets) (above-by led.0.0 led.0.1) w (led-to (writes_of (Grouped sets)) led.1 w.there)
            (λ q i z at together.
            let to = led-to (writes_of (Grouped sets)) led.1 w.there q i in
            let here = here-in together.0 together.1 in
            absurd (done-with (Write (Grouped sets)) is to.draws (valid.edges.within ms.node to.node (subst (λ (n : Node). AreTogether p certificate ms.node n) (one-node at to.at) together) (leads-drawn b to.draws)) here.value here.first))
        by_writes (Alone place v) is w =
            let led = does-led (valid.typed) sound agree.typed b y (Write (Alone place v)) (b.steps).0 is in
            let to = led-to (writes_of (Alone place v)) led.1 w.there place (inl refl) in
            let leads = leads-drawn b to.draws in
            let line = line-after valid sound leads in
            elim (edge-cases sound valid leads ms.is line.1) [
              | inl turn ↦
                  let here = here-in turn.0 (turn.1).from in
                  let just : v ≡ seen s.objects here.value = done-with (Write (Alone place v)) is to.draws (turn.1).hands here.value here.first in
                  let from_in = subst (λ (k : ℕ). IsIn p certificate k ms.node) (sym here.same) (turn.1).from in
                  let to_in = subst (λ (k : ℕ). IsIn p certificate k to.node) (sym here.same) (turn.1).to in
                  let reading = ap (seen s.objects) just ∙ seen-again s.objects s.objects (λ k gone. gone) here.value ∙ here.reads in (
                    within-held sound valid cost costs classes (Body o m arguments rest ∷ below) level levels place v here.carried leads ms.is line.1 from_in here.within to.at to_in reading covered agree stands written w agree.typed,
                    within-places sound valid cost costs classes (Body o m arguments rest ∷ below) level levels place v here.carried leads ms.is line.1 from_in here.within to.at to_in reading covered agree stands written w,
                  )
              | inr exit ↦ apart-held (Alone place v) (above-by led.0.0 led.0.1) w (led-to (writes_of (Alone place v)) led.1 w.there)
                  (λ q i z at together. exit.apart (subst (λ (n : Node). AreTogether p certificate ms.node n) (one-node at (one-place to.at q i)) together))
            ]
          where
            one-place : {x : Node} → IsAtNode classes place x → (q : Place) → In q (place ∷ []) → IsAtNode classes q x
            one-place {x} at q (inl same) = subst (λ (r : Place). IsAtNode classes r x) same at
            one-place at q (inr none) = absurd none

    -- ---- all that a step does

    does-goes : (natives : NativeAnswers) (d : Operation) → operation_of_step s.objects o arguments y ≡ Some d → Does p natives s o m arguments rest below d t → Goes s (Body o m arguments rest ∷ below) (level ∷ levels) t
    does-goes natives (Write what) is does = write-goes what is does
    does-goes natives (Begin x n passed) is does = begin-goes x n passed is does
    does-goes natives (Choose block) is does =
        let led = does-led (valid.typed) sound agree.typed b y (Choose block) (b.steps).0 is in
        left-goes (map Run block ++ rest) (steps-append (IsStepOf (b.method).work) (map Run block) rest (left-runs (b.method).work led.0 block led.1 led.2) (b.steps).1) _ does covered refl refl
    does-goes natives (Connect ends how) is does = stays-goes {s = s} {t = t} (level ∷ levels) stands written (linked-stays sound classes s t (Body o m arguments rest ∷ below) ends how covered does)
    does-goes natives (Disconnect ends) is does = stays-goes {s = s} {t = t} (level ∷ levels) stands written (unlinked-stays sound classes s t (Body o m arguments rest ∷ below) ends covered does)
    does-goes natives (Delete x) is does = delete-goes x is does
    does-goes natives (Schedule x) is does =
        let held = schedule-held sound valid cost costs classes s t (Body o m arguments rest ∷ below) (level ∷ levels) x (life_of s.objects x) covered stands written does in
        (held.0, held.1, places-died p classes (level ∷ levels) s.objects t.objects (schedule-died s t (Body o m arguments rest ∷ below) x (life_of s.objects x) does))
    does-goes natives (TakeAnswer effects) is does =
        let native = does-led (valid.typed) sound agree.typed b y (TakeAnswer effects) (b.steps).0 is in
        left-goes (map (Act effects) does.actions ++ rest) (steps-append (IsStepOf (b.method).work) (map (Act effects) does.actions) rest (left-acts (b.method).work effects does.actions native) (b.steps).1) _ does.gives covered refl refl
    does-goes natives Nothing is does = left-goes rest (b.steps).1 _ does covered refl refl

  -- the next step is carried out; with none left the body ends
  pub body-goes : (natives : NativeAnswers) (s t : State) (below : List Activation) (level : Level certificate) (levels : List (Level certificate)) (o m : ℕ) (arguments : List Value) (left : List Step)
      → Covered sound valid cost classes s → Agree p s.objects s.bindings → IsGiven p s t → length s.stack ≡ suc (length below)
      → MethodStands p s.objects arguments level (BodyStands p s.objects o m arguments left) → IsWell p classes level → FallsTo p cost s.objects levels level
      → Stacked p cost classes s.objects below levels → HaveWritten s.objects (level ∷ levels) → BodyRule p natives s o m arguments below t left → Goes s (Body o m arguments left ∷ below) (level ∷ levels) t
  body-goes natives s t below level levels o m arguments [] covered agree given high ms well falls st written e =
      goes-as s (Body o m arguments [] ∷ below) (level ∷ levels) e (record { covered = covered; levels = levels; stacked = st; written = written.1 }, λ k body gone. gone, places-same p classes (level ∷ levels) s.objects s.objects refl)
  body-goes natives s t below level levels o m arguments (y ∷ rest) covered agree given high ms well falls st written rule =
      let r = step-of p natives s o m arguments y rest below t rule in
      does-goes s t below level levels o m arguments y rest covered agree given high ms well falls st written natives r.what r.is r.does
