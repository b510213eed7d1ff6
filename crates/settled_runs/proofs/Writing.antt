-- A write that leaves a set, or is in none, keeps what a run keeps; so does one of an event (docs/settling-proof.md, "Each rule keeps it").
use Rattle.std.{proofs.Common.{◌≡◌, inl, inr, ℕ, List, [], ◌∷◌, map, not, Option, Some, None, refl, subst, arith}, specs.List.{AllByRecursion}}
use Rattle.meta_model.specs.{Loaded.{Loaded}, Sound.{IsSound}}
use Rattle.object_tree.specs.{declared.object.Object.{Object}, Objects.{class_of}}
use Rattle.binding_graph.{specs.declared.binding.Binding.{Binding}, specs.declared.place.Place.{Place}, specs.Bindings.{binding_at, without_all}, specs.Places.{In, same_place}}
use Rattle.prop_bindings.specs.{Changes.{once, places_in}, Fits.{Agree}, Values.{values_in}}
use Rattle.effect_scan.specs.{declared.node.Node.{Node}}
use Rattle.machine_state.specs.{State.{State, Activation}, Telling.{Assigning, writes_of}}
use Rattle.machine_rules.{specs.Settling.{Writes}, specs.There.{HasField}, proofs.Keeps.{class-of-lives}, proofs.Lists.{all-append, all-filtered}}
use Rattle.settling.specs.{declared.certificate.SettlingLine.{SettlingLine}, declared.certificate.SettlingCertificate.{SettlingCertificate}, Valid.{IsLineOf, IsValid}}
use Rattle.object_machine.proofs.CheckedRuns.{Followers.{IsKnown}}
use Rattle.object_machine.proofs.CheckedRuns.Staying.{still-sited, fewer-bound, known-targets}
use Rattle.settled_runs.{specs.Writes.{IsAtNode, IsLineAt, AreWritten, IsNoHigher}, specs.Levels.{Level, AreCosts, Leaves, FallsTo, AreLevels}, specs.Written.{HaveWritten}, proofs.Edges.{one-line, line-at}, proofs.Keeping.{left-stays, written-stay}, proofs.Carrying.{KeepsPlaces}, proofs.Drawn.{all-drawn}, proofs.Settling.{only-written, outside-held}, proofs.Invariant.{Stacked}, proofs.Begun.{Covered, Held}}

module _ {p : Loaded} {certificate : SettlingCertificate} (sound : IsSound p) (valid : IsValid p certificate) (cost : ℕ → ℕ) (classes : ℕ → Option ℕ) where
  -- properties of objects of known classes
  pub known-once : (objects : List Object) → ((o class : ℕ) → class_of objects o ≡ Some class → classes o ≡ Some class) → (ps : List Place) → AllByRecursion (HasField p objects) ps → AllByRecursion (IsKnown classes) (once ps)
  known-once objects known [] all = tt
  known-once objects known (q ∷ ps) all =
      let field = (all.0).is in
      ((field.life.class, known q.object field.life.class (class-of-lives objects q.object field.lives)), all-filtered (IsKnown classes) (λ r. not (same_place r q)) (once ps) (known-once objects known ps all.1))

  -- what is written is all that changes but by bindings
  pub are-written : {s t : State} (below : List Activation) (what : Assigning) → Covered sound valid cost classes s → Agree p s.objects s.bindings → (w : Writes p s below what t)
      → AreWritten p classes (binding_at s.bindings) (binding_at (without_all (places_in (writes_of what)) s.bindings)) (values_in s.objects) (values_in w.objects) (places_in (writes_of what))
  are-written {s} below what covered agree w =
      let places : List Place = places_in (writes_of what) in
      record {
        drawn = λ q m b is reads. all-drawn (without_all places s.bindings) (still-sited p classes places s.bindings covered.sited) q m b is reads;
        settled_old = agree.settled;
        settled_new = w.written.settled;
        same = λ q b other e. fewer-bound places s.bindings q b e;
        kept = λ q other none. w.written.kept q none other;
      }

  -- what levels wrote stays, where the writes leave the set of the highest, if it is in one
  pub write-stays : AreCosts p certificate cost → {s t : State} {below : List Activation} (what : Assigning) (top : Level certificate) (levels : List (Level certificate)) → AreLevels p cost classes s.objects (top ∷ levels) → HaveWritten s.objects (top ∷ levels)
      → Covered sound valid cost classes s → Agree p s.objects s.bindings → (w : Writes p s below what t) (line : SettlingLine) → ((q : Place) (other : SettlingLine) → In q (places_in (writes_of what)) → IsLineAt p certificate classes q other → IsNoHigher p line other)
      → Leaves cost top.within top.line line → HaveWritten w.objects (top ∷ levels)
  write-stays costs {s} {below = below} what top levels are have covered agree w line low leaves =
      written-stay sound valid cost costs classes s.objects w.objects (only-written w.written.objects) top levels are have (are-written below what covered agree w) line low leaves

  -- places of the sets of levels keep their values then
  pub write-places : AreCosts p certificate cost → {s t : State} {below : List Activation} (what : Assigning) (top : Level certificate) (levels : List (Level certificate)) → AreLevels p cost classes s.objects (top ∷ levels) → HaveWritten s.objects (top ∷ levels)
      → Covered sound valid cost classes s → Agree p s.objects s.bindings → (w : Writes p s below what t) (line : SettlingLine) → ((q : Place) (other : SettlingLine) → In q (places_in (writes_of what)) → IsLineAt p certificate classes q other → IsNoHigher p line other)
      → Leaves cost top.within top.line line → KeepsPlaces p classes s.objects w.objects (top ∷ levels)
  write-places costs {s} {below = below} what top levels are have covered agree w line low leaves j l c q at is there =
      inr (inl (left-stays sound valid cost costs classes s.objects w.objects (only-written w.written.objects) top levels are have (are-written below what covered agree w) line low leaves j l c q at is there))

  -- properties are written that are no higher than a level that is in no set
  pub write-held : {s t : State} (below : List Activation) (levels : List (Level certificate)) (level : Level certificate) (what : Assigning) → level.within ≡ None → level.wrote ≡ None → FallsTo p cost s.objects levels level
      → ((w : Place) (other : SettlingLine) → In w (places_in (writes_of what)) → IsLineAt p certificate classes w other → IsNoHigher p level.line other) → Covered sound valid cost classes s → Agree p s.objects s.bindings
      → Stacked p cost classes s.objects below levels → (w : Writes p s below what t) → HaveWritten w.objects levels → Held sound valid cost classes t
  write-held {s} below levels level what free alone falls low covered agree st w kept_written =
      let places : List Place = places_in (writes_of what) in
      let sited = still-sited p classes places s.bindings covered.sited in
      outside-held sound valid cost classes below levels level places w.objects (without_all places s.bindings) w.changed free alone falls low covered agree st kept_written w.written.objects sited w.written.settled
      (λ z b other e. fewer-bound places s.bindings z b e) (λ z other none. w.written.kept z none other)
      (all-append (IsKnown classes) (once places) (map (λ (b : Binding). b.target) (without_all places s.bindings)) (known-once s.objects (covered.known).lives places w.there) (known-targets p classes (without_all places s.bindings) sited))
      w.written.changes w.settles

  -- one property is written where nothing is active
  pub first-write-held : {s t : State} (what : Assigning) (place : Place) → places_in (writes_of what) ≡ place ∷ [] → {x : Node} {line : SettlingLine} → IsAtNode classes place x → IsLineOf p certificate x line → Covered sound valid cost classes s
      → Agree p s.objects s.bindings → Writes p s [] what t → Held sound valid cost classes t
  first-write-held {s} what place only {x} {line} at is covered agree w =
      let level : Level certificate = record { line = line; low = valid.bounded.ranks line is.stands; small = valid.bounded.steps line is.stands; within = None; wrote = None } in
      write-held [] [] level what refl refl tt low covered agree tt w tt
    where
      itself : IsNoHigher p line line
      itself = record { rank = omega arith; step = omega arith; set = λ d none. none }

      low : (w : Place) (other : SettlingLine) → In w (places_in (writes_of what)) → IsLineAt p certificate classes w other → IsNoHigher p line other
      low w other here there = elim (subst (λ (ps : List Place). In w ps) only here) [
        | inl e ↦
            let own = line-at valid there (subst (λ (q : Place). IsAtNode classes q x) e at) in
            subst (λ (l : SettlingLine). IsNoHigher p line l) (one-line valid x line other is own) itself
        | inr none ↦ absurd none
      ]
