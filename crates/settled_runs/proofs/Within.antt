-- A write of a property of a set, from within it, keeps what a run keeps (docs/settling-proof.md, "Each rule keeps it").
use Rattle.std.{proofs.Common.{◌≡◌, ◌≢◌, ◌⊎◌, inl, inr, ℕ, suc, ◌+◌, eqb, cond, Bool, true, List, [], ◌∷◌, ◌≤◌, filter, map, is_some, Option, Some, None, slice_get, refl, sym, ap, ◌∙◌, subst, arith}, specs.List.{AllByRecursion}, specs.Option.{option_map}, proofs.lemmas.Bool.{cases_Bool, eqb-true}, proofs.lemmas.Option.{same_Some, none-some}, proofs.lemmas.List.Elements.{All-contains}}
use Rattle.basic_types.specs.declared.value.Value.{Value}
use Rattle.basic_types.specs.declared.value.Value.TheVariants as value
use Rattle.meta_model.specs.{declared.object.MetaObject.{MetaObject}, declared.object.MetaProperty.{MetaProperty}, declared.object.ValueType.{ValueType}, Loaded.{Loaded}, Members.{IsProperty, Below}, Sound.{IsSound, IsSoundSource}, Sites.{paths_in}}
use Rattle.meta_model.specs.declared.object.ValueType.TheVariants as type
use Rattle.meta_model.proofs.InLists.{place_in}
use Rattle.rank_check.proofs.Elements.{element_at}
use Rattle.object_tree.specs.{declared.object.Object.{Object}, Seen.{seen}, Typed.{AreTyped}}
use Rattle.binding_graph.{specs.declared.binding.Binding.{Binding}, specs.declared.place.Place.{Place}, specs.Bindings.{binding_at, without_all, Reads}, specs.Places.{In}, proofs.Places.{decide_in}}
use Rattle.prop_bindings.{specs.Changes.{ReadsAlike, AreChanged, one_changed, one_stayed}, specs.Fits.{Agree}, specs.Values.{values_in}, proofs.Alike.{sort_of, sort_for, reads-sort}}
use Rattle.effect_scan.specs.{declared.node.Node.{Node}, declared.node.Member.TheVariants.{Property}, Nodes.{node}, Edges.{MayLead}}
use Rattle.machine_state.specs.{State.{State, Activation}, Telling.{Alone}}
use Rattle.machine_rules.{specs.Settling.{Writes, signal_at}, specs.code.Keeps.{StayThere}, specs.There.{HasField}, proofs.Differing.{differ-stay, differ-spared}, proofs.Dying.{lives-not-dead}, proofs.Fields.{class-unique, old-there, stored-reads}, proofs.Inherited.{property-below}, proofs.Keeps.{class-of-lives}, proofs.Lists.{all-filtered, all-weaken}}
use Rattle.settling.specs.{declared.certificate.SettlingLine.{SettlingLine}, declared.certificate.SettlingCertificate.{SettlingCertificate}, Sets.{IsIn}, Valid.{IsLineOf, IsValid}}
use Rattle.object_machine.proofs.CheckedRuns.{Invariant.{IsSited}, Worlds.{Leaves, classes-left, differ-leaves}, Followers.{IsKnown}}
use Rattle.object_machine.proofs.CheckedRuns.Staying.{still-sited, known-targets}
use Rattle.settled_runs.{specs.Writes.{IsAtNode, IsLineAt, IsDrawn, AreWritten, IsNoHigher}, specs.Levels.{Carried, Level, written_in, if_within, and_place, AreCosts, Leaves as LeavesSet, FallsTo, IsPlaceIn, IsWell}, specs.Written.{reads, IsOver, HaveWritten, AreOnlyWritten}, proofs.Edges.{one-node, one-line, line-at}, proofs.Unwritten.{followers-low, followers-leave, nothing-follows}, proofs.Keeping.{written-once, written-stay-within, others-stay}, proofs.Carrying.{KeepsPlaces}, proofs.OneValue.{carry-one}, proofs.Dying.{still-falls}, proofs.Deleting.{stacked-still}, proofs.Pushing.{update-within, update-idle}, proofs.Invariant.{IsFollower, UpdateStands, outside, wrote, Stacked}, proofs.Begun.{Covered, Held}, proofs.Settling.{only-written, reads-alike, changed-each}, proofs.Stacks.{levels-of}, proofs.Writing.{are-written}}

-- ---- values that read alike

-- a value of another sort than references reads as it is stored
seen-plain : (objects : List Object) (v : Value) → sort_of v ≢ value.Ref None → seen objects v ≡ v
seen-plain objects (value.Int n) other = refl
seen-plain objects (value.Bool b) other = refl
seen-plain objects (value.Text t) other = refl
seen-plain objects (value.Ref r) other = absurd (other refl)

sort-seen : (objects : List Object) (v : Value) → sort_of (seen objects v) ≡ sort_of v
sort-seen objects (value.Int n) = refl
sort-seen objects (value.Bool b) = refl
sort-seen objects (value.Text t) = refl
sort-seen objects (value.Ref r) = refl

-- .. so two that read alike are one
plain-alike : (old new : List Object) (v w : Value) → sort_of v ≢ value.Ref None → seen new w ≡ seen old v → w ≡ v
plain-alike old new v w other e =
    let sort : sort_of w ≡ sort_of v = sym (sort-seen new w) ∙ ap sort_of e ∙ sort-seen old v in
    sym (seen-plain new w (λ bad. other (sym sort ∙ bad))) ∙ e ∙ seen-plain old v other

-- a property of a class is one
one-property : {p : Loaded} {c q : ℕ} {a b : MetaProperty} → IsProperty p c q a → IsProperty p c q b → a ≡ b
one-property {q = q} x y = same_Some _ _ (sym x.is ∙ ap (λ (k : MetaObject). slice_get k.properties q) (class-unique x.is_class y.is_class) ∙ y.is)

-- a type is of references or not
decide-kind : (kind : ValueType) → ((c : ℕ) × (constant : Bool) × (kind ≡ type.Reference c constant)) ⊎ (sort_for kind ≢ value.Ref None)
decide-kind type.Int = inr (λ e. cc e)
decide-kind type.Bool = inr (λ e. cc e)
decide-kind type.Text = inr (λ e. cc e)
decide-kind (type.Reference c constant) = inl (c, constant, refl)

-- ---- what levels wrote

-- a place that the levels of a set wrote was written by one of them
pub record WroteThere (k : ℕ) {certificate : SettlingCertificate} (levels : List (Level certificate)) (q : Place) : Type 0 where
  pub number : ℕ
  pub level : Level certificate
  pub at : slice_get levels number ≡ Some level
  pub own : Carried
  pub within : level.within ≡ Some own
  pub same : own.set ≡ k
  pub wrote : level.wrote ≡ Some q

wrote-there : (k : ℕ) {certificate : SettlingCertificate} (levels : List (Level certificate)) (q : Place) → In q (written_in k levels) → WroteThere k levels q
wrote-there k [] q i = absurd i
wrote-there k {certificate} (level ∷ levels) q i = by_level (λ j. wrote-there k levels q j) level.within refl i
  where
    further : WroteThere k levels q → WroteThere k (level ∷ levels) q
    further found = record { number = suc found.number; level = found.level; at = found.at; own = found.own; within = found.within; same = found.same; wrote = found.wrote }

    by_place : (In q (written_in k levels) → WroteThere k levels q) → (c : Carried) → level.within ≡ Some c → eqb c.set k ≡ true → (place : Option Place) → level.wrote ≡ place → In q (and_place place (written_in k levels)) → WroteThere k (level ∷ levels) q
    by_place more c within same None is_wrote j = further (more j)
    by_place more c within same (Some place) is_wrote (inl here) = record { number = 0; level = level; at = refl; own = c; within = within; same = eqb-true c.set k same; wrote = is_wrote ∙ ap Some here }
    by_place more c within same (Some place) is_wrote (inr rest) = further (more rest)

    by_level : (In q (written_in k levels) → WroteThere k levels q) → (w : Option Carried) → level.within ≡ w → In q (if_within k w (and_place level.wrote (written_in k levels))) → WroteThere k (level ∷ levels) q
    by_level more None within j = absurd j
    by_level more (Some c) within j = elim (cases_Bool (eqb c.set k)) [
      | inl same ↦ by_place more c within same level.wrote refl (subst (λ (b : Bool). In q (cond b (and_place level.wrote (written_in k levels)) [])) same j)
      | inr differs ↦ absurd (subst (λ (b : Bool). In q (cond b (and_place level.wrote (written_in k levels)) [])) differs j)
    ]

-- what reads as it did is as it was
keeps-reading : (old new : List Object) {certificate : SettlingCertificate} (levels : List (Level certificate)) → AreOnlyWritten old new → ((q : Place) → reads new q ≡ reads old q) → HaveWritten old levels → HaveWritten new levels
keeps-reading old new [] only alike have = tt
keeps-reading old new (l ∷ levels) only alike have = (
  λ c q is wrote. elim (have.0 c q is wrote) [
    | inl over ↦ inl (only.over_alike q over)
    | inr has ↦ inr (alike q ∙ has ∙ ap Some (sym (only.seen_alike c.value)))
  ],
  keeps-reading old new levels only alike have.1,
)

module _ {p : Loaded} {certificate : SettlingCertificate} (sound : IsSound p) (valid : IsValid p certificate) (cost : ℕ → ℕ) (costs : AreCosts p certificate cost) (classes : ℕ → Option ℕ) where
  -- what a binding reads is of no type of references
  plain-read : {read bound : Place} {class : ℕ} {property : MetaProperty} → IsDrawn p classes read bound → classes read.object ≡ Some class → IsProperty p class read.property property → (c : ℕ) (constant : Bool) → property.kind ≢ type.Reference c constant
  plain-read {read} {class = class} {property = property} drawn is has c constant reference =
      let site = drawn.site in
      let from = drawn.is_from in
      let at = place_in p.sites site.site site.declared in
      let source = All-contains (IsSoundSource p (site.site).formals) (paths_in (site.site).formula) site.source (sound.sites at.0 site.site at.1).sources site.reads in
      let same_class : source.class ≡ site.class = same_Some _ _ (sym source.formal ∙ site.formal) in
      let here : drawn.from ≡ node class (Property read.property) = from.at ∙ ap (λ (k : ℕ). node k (Property read.property)) (same_Some _ _ (sym from.is ∙ is)) in
      let below : Below p class site.class = subst (λ (k : ℕ). Below p k site.class) (ap (λ (n : Node). n.class) here) (site.from).below in
      let member : Property read.property ≡ Property (site.source).property = sym (ap (λ (n : Node). n.member) here) ∙ (site.from).is in
      let number : read.property ≡ (site.source).property = cc member in
      let plain = source.is_plain in
      let inherited : IsProperty p class read.property plain.property =
      subst (λ (q : ℕ). IsProperty p class q plain.property) (sym number) (property-below sound (subst (λ (k : ℕ). Below p class k) (sym same_class) below) plain.is) in
      plain.plain c constant (ap (λ (k : MetaProperty). k.kind) (one-property inherited has) ∙ reference)

  -- what reads as it did has the value that it had, or is read by no binding
  alike-or-unread : (s : State) (new : List Object) (after : Place → Option Binding) (place : Place) → Covered sound valid cost classes s → AreTyped p s.objects → (field : HasField p s.objects place) → ((q m : Place) (b : Binding) → after q ≡ Some b → Reads b m → IsDrawn p classes m q)
      → (w : Value) → values_in new place ≡ Some w → ReadsAlike s.objects new place → (values_in new place ≡ values_in s.objects place) ⊎ ((q : Place) (b : Binding) → after q ≡ Some b → ¬ Reads b place)
  alike-or-unread s new after place covered typed field drawn w is alike =
      let life = (field.is).life in
      let was = old-there field.is typed in
      let sort : sort_of was.0 ≡ sort_for (field.property).kind = reads-sort p s.objects was.0 (field.property).kind (stored-reads field.is typed was.1) in
      elim (decide-kind (field.property).kind) [
        | inl reference ↦ inr (λ q b bound reading.
            plain-read (drawn q place b bound reading) ((covered.known).lives place.object life.class (class-of-lives s.objects place.object (field.is).lives))
            (record { class = (field.is).class; is_class = (field.is).is_class; is = (field.is).is_property }) reference.0 reference.1 reference.2)
        | inr plain ↦
            let same : w ≡ was.0 = plain-alike s.objects new was.0 w (λ bad. plain (sym sort ∙ bad))
            (same_Some _ _ (sym (ap (option_map (seen new)) is) ∙ alike ∙ ap (option_map (seen s.objects)) was.1)) in
            inl (is ∙ ap Some same ∙ sym was.1)
      ]

  -- a property of the set of the level is written, with what reads as the set's value
  module _ {s t : State} (below : List Activation) (level : Level certificate) (levels : List (Level certificate)) (place : Place) (v : Value) (carried : Carried) {x z : Node} {line : SettlingLine}
      (leads : MayLead p x z) (from : IsLineOf p certificate x level.line) (to : IsLineOf p certificate z line) (member : IsIn p certificate carried.set x) (within : level.within ≡ Some carried)
      (at : IsAtNode classes place z) (target : IsIn p certificate carried.set z) (reads_v : seen s.objects v ≡ seen s.objects carried.value)
      (covered : Covered sound valid cost classes s) (agree : Agree p s.objects s.bindings) (st : Stacked p cost classes s.objects below (level ∷ levels)) (written : HaveWritten s.objects (level ∷ levels))
      (w : Writes p s below (Alone place v) t) where
    stay : StayThere s.objects w.objects
    stay = differ-stay s.objects w.objects w.written.objects

    only : AreOnlyWritten s.objects w.objects
    only = only-written w.written.objects

    are : AreWritten p classes (binding_at s.bindings) (binding_at (without_all (place ∷ []) s.bindings)) (values_in s.objects) (values_in w.objects) (place ∷ [])
    are = are-written sound valid cost classes below (Alone place v) covered agree w

    abbrev there : IsPlaceIn p certificate classes carried.set place
    there = record { node = z; at = at; is = target }

    -- the value that is written, and how it reads
    has : values_in w.objects place ≡ Some v
    has = w.written.written.0

    has-read : reads w.objects place ≡ Some (seen s.objects carried.value)
    has-read = ap (option_map (seen w.objects)) has ∙ ap Some (only.seen_alike v ∙ reads_v)

    -- those that may change else
    known : AllByRecursion (IsKnown classes) (map (λ (b : Binding). b.target) (without_all (place ∷ []) s.bindings))
    known = known-targets p classes (without_all (place ∷ []) s.bindings) (still-sited p classes (place ∷ []) s.bindings covered.sited)

    sited : AllByRecursion (IsSited p classes) (without_all (place ∷ []) s.bindings)
    sited = still-sited p classes (place ∷ []) s.bindings covered.sited

    -- what else changes has left the set
    leaves-at : (q : Place) {y : Node} → IsAtNode classes q y → q ≢ place → values_in w.objects q ≢ values_in s.objects q → (upper : SettlingLine) → IsLineOf p certificate y upper → IsNoHigher p line upper × (upper.step + cost carried.set ≤ line.step)
    leaves-at q {y} at_q other changed upper is =
        let own = costs carried.set target.set target.stands in
        let here : IsLineAt p certificate classes q upper = record { node = y; at = at_q; is = is } in
        let left = followers-leave sound valid are target.set own.0 at target.member (element_at certificate.sets carried.set target.set target.stands) to q upper here other changed in (
          followers-low sound valid are line (λ r lower i there_r. itself r lower i there_r) q upper here changed,
          omega (arith, left, own.1),
        )
      where
        one : (r : Place) → In r (place ∷ []) → IsAtNode classes r z
        one r (inl same) = subst (λ (q : Place). IsAtNode classes q z) same at
        one r (inr none) = absurd none

        itself : (r : Place) (lower : SettlingLine) → In r (place ∷ []) → IsLineAt p certificate classes r lower → IsNoHigher p line lower
        itself r lower i there_r =
            let same : line ≡ lower = one-line valid z line lower to (line-at valid there_r (one r i)) in
            subst (λ (l : SettlingLine). IsNoHigher p line l) same (record { rank = omega arith; step = omega arith; set = λ d none. none })

    -- what else changes follows
    follows : (top : Level certificate) → top.within ≡ Some carried → top.line ≡ line → (q : Place) → IsKnown classes q → q ≢ place → (¬ ReadsAlike s.objects w.objects q) → IsFollower p cost classes top q
    follows top is_within is_line q of other changed =
        let at_q : IsAtNode classes q (node of.0 (Property q.property)) = record { class = of.0; is = of.1; at = refl } in
        let differs : values_in w.objects q ≢ values_in s.objects q = λ e. changed (reads-alike s.objects w.objects q w.written.objects e) in
        record {
          node = node of.0 (Property q.property);
          at = at_q;
          low = λ upper is. subst (λ (l : SettlingLine). IsNoHigher p l upper) (sym is_line) (leaves-at q at_q other differs upper is).0;
          leaves = λ upper is. subst (λ (c : Option Carried). LeavesSet cost c top.line upper) (sym is_within) (subst (λ (l : SettlingLine). upper.step + cost carried.set ≤ l.step) (sym is_line) (leaves-at q at_q other differs upper is).1);
        }

    -- the level of the update
    record Top (changed : List Place) : Type 0 where
      top : Level certificate
      stands : UpdateStands p cost classes changed top
      well : IsWell p classes top
      falls : FallsTo p cost s.objects (level ∷ levels) top
      kept : HaveWritten w.objects (top ∷ level ∷ levels)

    -- the place reads otherwise than before
    place-changed : (changed : List Place) → (¬ ReadsAlike s.objects w.objects place) → AreChanged s.objects w.objects (map (λ (b : Binding). b.target) (without_all (place ∷ []) s.bindings)) changed → Top (place ∷ changed)
    place-changed changed other more =
        let differs : reads s.objects place ≢ Some (seen s.objects carried.value) = λ e. other (has-read ∙ sym e) in
        let lives : ¬ IsOver s.objects place = λ over. lives-not-dead ((w.there.0).is).lives over in
        let levels_are = levels-of p cost classes s.objects below (level ∷ levels) st in
        let fresh : ¬ In place (written_in carried.set (level ∷ levels)) = λ i.
        let found = wrote-there carried.set (level ∷ levels) place i in
        written-once p cost classes s.objects costs level levels levels_are written carried place within lives differs found.number found.level found.own found.at found.within found.same found.wrote in
        let up = update-within sound valid cost costs classes s.objects level levels carried place leads from to member within there refl fresh in
        let top : Level certificate = up.0 in
        record {
          top = top;
          stands = wrote up.2 up.3 (record { there = there; is = subst (λ (l : SettlingLine). IsLineOf p certificate z l) (sym up.1) to }) (
            inl refl,
            all-weaken (λ (q : Place). IsKnown classes q × (¬ ReadsAlike s.objects w.objects q)) (λ q. (q ≡ place) ⊎ IsFollower p cost classes top q) changed (each top up.2 up.1)
                (changed-each (IsKnown classes) (map (λ (b : Binding). b.target) (without_all (place ∷ []) s.bindings)) changed known more),
          );
          well = up.4;
          falls = up.5;
          kept = (
            λ c q is_within is_wrote.
                let same_set : carried ≡ c = same_Some _ _ (sym up.2 ∙ is_within) in
                let same_place : place ≡ q = same_Some _ _ (sym up.3 ∙ is_wrote) in
                inr (ap (reads w.objects) (sym same_place) ∙ has-read ∙ ap Some (sym (only.seen_alike carried.value)) ∙ ap (λ (d : Carried). Some (seen w.objects d.value)) same_set),
            written-stay-within sound valid cost costs classes s.objects w.objects only level levels levels_are written are carried within there lives differs,
          );
        }
      where
        each : (top : Level certificate) → top.within ≡ Some carried → top.line ≡ line → (q : Place) → IsKnown classes q × (¬ ReadsAlike s.objects w.objects q) → (q ≡ place) ⊎ IsFollower p cost classes top q
        each top is_within is_line q other_q = elim (decide_in q (place ∷ [])) [
          | inl here ↦ elim here [ inl same ↦ inl (sym same) | inr none ↦ absurd none ]
          | inr out ↦ inr (follows top is_within is_line q other_q.0 (λ same. out (inl (sym same))) other_q.1)
        ]

    -- it reads as before, so nothing changes
    place-stayed : (changed : List Place) → AreTyped p s.objects → ReadsAlike s.objects w.objects place → AreChanged s.objects w.objects (map (λ (b : Binding). b.target) (without_all (place ∷ []) s.bindings)) changed → Top changed
    place-stayed changed typed alike more =
        let up = update-idle sound valid cost costs classes s.objects level levels carried leads from to member target within in
        let top : Level certificate = up.0 in
        record {
          top = top;
          stands = outside up.2 (all-weaken (λ (q : Place). IsKnown classes q × (¬ ReadsAlike s.objects w.objects q)) (λ q. IsFollower p cost classes top q) changed (λ q other. absurd (other.1 (all-alike q)))
              (changed-each (IsKnown classes) (map (λ (b : Binding). b.target) (without_all (place ∷ []) s.bindings)) changed known more));
          well = up.3;
          falls = up.4;
          kept = (λ c q is_within is_wrote. absurd (none-some q (sym up.2 ∙ is_wrote)), keeps-reading s.objects w.objects (level ∷ levels) only all-alike written);
        }
      where
        still : (q : Place) → In q (place ∷ []) → (values_in w.objects q ≡ values_in s.objects q) ⊎ ((r : Place) (b : Binding) → binding_at (without_all (place ∷ []) s.bindings) r ≡ Some b → ¬ Reads b q)
        still q (inl same) = subst (λ (r : Place). (values_in w.objects r ≡ values_in s.objects r) ⊎ ((u : Place) (b : Binding) → binding_at (without_all (place ∷ []) s.bindings) u ≡ Some b → ¬ Reads b r)) same
            (alike-or-unread s w.objects (binding_at (without_all (place ∷ []) s.bindings)) place covered typed w.there.0 (λ u m b is reading. are.drawn u m b is reading) v has alike)
        still q (inr none) = absurd none

        all-alike : (q : Place) → ReadsAlike s.objects w.objects q
        all-alike q = elim (decide_in q (place ∷ [])) [
          | inl here ↦ elim here [ inl same ↦ subst (λ (r : Place). ReadsAlike s.objects w.objects r) same alike | inr none ↦ absurd none ]
          | inr out ↦ reads-alike s.objects w.objects q w.written.objects (nothing-follows sound valid are still q out)
        ]

    by-changes : (changed : List Place) → AreTyped p s.objects → AreChanged s.objects w.objects (place ∷ map (λ (b : Binding). b.target) (without_all (place ∷ []) s.bindings)) changed → Top changed
    by-changes changed typed (one_changed {changed = rest} other more) = place-changed rest other more
    by-changes changed typed (one_stayed alike more) = place-stayed changed typed alike more

    filtered : (f : Place → Bool) (changed : List Place) (top : Level certificate) → UpdateStands p cost classes changed top → UpdateStands p cost classes (filter f changed) top
    filtered f changed top (outside alone all) = outside alone (all-filtered (λ q. IsFollower p cost classes top q) f changed all)
    filtered f changed top (wrote {written = place_of} is_within is_wrote there_at all) = wrote is_within is_wrote there_at (all-filtered (λ q. (q ≡ place_of) ⊎ IsFollower p cost classes top q) f changed all)

    -- the place has what the set carries, and others of sets keep what they have
    pub within-places : KeepsPlaces p classes s.objects w.objects (level ∷ levels)
    within-places j l c q at_l is there_q = elim (decide_in q (place ∷ [])) [
      | inl here ↦ elim here [
        | inl same ↦ inr (inr (record { has = ap (reads w.objects) (sym same) ∙ has-read ∙ ap Some (carried-one c is (sym same) there_q); alike = only.seen_alike }))
        | inr none ↦ absurd none
      ]
      | inr out ↦ inr (inl (others-stay sound valid cost costs classes s.objects w.objects only level levels (levels-of p cost classes s.objects below (level ∷ levels) st) written are carried within there j l c q at_l is there_q (λ same. out (inl (sym same)))))
    ]
      where
        carried-one : (c : Carried) → l.within ≡ Some c → q ≡ place → IsPlaceIn p certificate classes c.set q → seen s.objects carried.value ≡ seen s.objects c.value
        carried-one c is same there_q =
            let one = valid.nothing_else.apart carried.set c.set z target (subst (λ (x : Node). IsIn p certificate c.set x) (one-node there_q.at (subst (λ (r : Place). IsAtNode classes r z) (sym same) at)) there_q.is) in
            carry-one p cost classes s.objects costs (level ∷ levels) (levels-of p cost classes s.objects below (level ∷ levels) st) 0 j level l carried c refl at_l within is one

    pub within-held : AreTyped p s.objects → Held sound valid cost classes t
    within-held typed =
        let up = by-changes w.changed typed w.written.changes in
        let left : Leaves p classes s.objects w.objects = differ-leaves s.objects w.objects w.written.objects in
        let Family : State → Type 0 = λ u. Held sound valid cost classes u in
        subst Family (sym w.settles.gives) (record {
          covered = record { known = classes-left left covered.known; owned = left.children covered.owned; wired = covered.wired; sited = sited };
          levels = up.top ∷ level ∷ levels;
          stacked = (
            filtered (λ q. is_some (signal_at p w.objects q)) w.changed up.top up.stands,
            up.well,
            still-falls s.objects w.objects (stay.dead) p cost classes (level ∷ levels) up.top up.falls,
            stacked-still p cost classes stay below (level ∷ levels) (λ o body gone. differ-spared s.objects w.objects w.written.objects o gone) st,
          );
          written = up.kept;
        })
