-- How properties are written.
use Rattle.std.{proofs.Common.{◌≡◌, IsErrAnd, inl, inr, ℕ, zero, suc, ◌+◌, ◌-◌, ◌<◌, List, [], ◌∷◌, ◌++◌, length, take, drop, slice_get, Bool, true, false, Result, Ok, Err, Option, None, Some, refl, sym, ap, ◌∙◌, subst, arith, length-append}, specs.Prelude.{◌↔◌, IfOk, IfErr, IfSome, IsTrue}, specs.List.{AllByRecursion, Contains}, proofs.lemmas.List.Elements.{All-contains, All-from_recursion, Contains-append_right}, proofs.lemmas.Option.{same_Some}}
use Rattle.basic_types.specs.declared.value.Value.{Value}
use Rattle.meta_model.specs.{declared.object.MetaObject.{MetaObject}, declared.object.MetaProperty.{MetaProperty}, Loaded.{Loaded}, Members.{IsClass}}
use Rattle.object_tree.{specs.declared.life.Life.{Life}, specs.declared.object.Object.{Object}, specs.Objects.{Lives, life_of}, proofs.Changing.{life-of-lives, lives-of-life}, specs.Typed.{ReadsAs}}
use Rattle.binding_graph.specs.{declared.binding.Binding.{Binding}, declared.place.Place.{Place}, Bindings.{without_all}}
use Rattle.prop_bindings.specs.{declared.plans.assignment.Assignment.{Assignment}, Calls.{AllFit}, Changes.{IsWritten, one, places_in}, Fits.{FitsAt}}
use Rattle.trace_entries.specs.{declared.fault.Fault.{Fault}, declared.fault.Fault.TheVariants.{BadType}}
use Rattle.machine_state.specs.{code.Trying.{IsUnplanned}, declared.world.World.{World}, State.{State, Activation, Update}, Telling.{Assigning, Alone, Grouped, IsAssigningTold, writes_of}, Worlds.{at}, code.Changing.{noted, HasWritten}}
use Rattle.machine_rules.{specs.Operations.{Operation, Write, TakeAnswer}, specs.Reaches.{Reaches, StopsIn, RunsTo, Sets}, specs.Faults.{WritesDeep}, specs.code.Lacking.{IsAfterFit, LacksFirst}, specs.Next.{DoesNext, WritesIll}, specs.Settling.{Settles, Writes, notified}, specs.code.Sound.{AgreeIn}, specs.There.{HasField, IsField, LacksField}, specs.Writing.{MayWrite, IsUnfit, FitsOrNot, IsUnwritten, missing, ill, unfit, deep}, proofs.ReachingFitting.{fits-field, fits-read}, proofs.Differing.{differ-spared}, proofs.Fields.{field-at, life-unique}, proofs.ReachedStates.{none-spared, reaches-high, ends-after, ends-left, ends-lifted, ends-unchanged, stops-as, stops-stuck, stops-ill-write, stops-deep-write}, specs.Natives.{NativeAnswers}, specs.Good.{shows}}
use Rattle.run_context.{specs.code.Activating.{MayNest}, proofs.Linking.{not-true}}
use Rattle.rule_interpreter.proofs.Beginning.{one-more}

-- ---- properties are written

-- what fits has a property there
fit-there : (p : Loaded) (objects : List Object) (writes : List Assignment) → AllFit p objects writes → AllByRecursion (HasField p objects) (places_in writes)
fit-there p objects [] fit = tt
fit-there p objects (a ∷ rest) fit = (record { object = (fit.0).object; property = (fit.0).property; is = fits-field fit.0 }, fit-there p objects rest fit.1)

-- what the world's call did is a write
writes-there : {p : Loaded} {n : ℕ} {what : Assigning} {changed : List Place} {v : World} (w : World) (stack over : List Activation) → AllFit p w.store.tree (writes_of what) → HasWritten p n what w (noted w) changed v → n ≡ suc (length over) →
    Writes p (at w stack) over what (at v (Update (notified p v.store.tree changed) ∷ over))
writes-there {p} {n} {what} {changed} {v} w stack over fit h depth_is =
    let places : List Place = places_in (writes_of what) in
    let top : List Activation = Update (notified p v.store.tree changed) ∷ over in
    let With : List Binding → Type 0 = λ cs. IsWritten w.store.bindings cs w.store.tree v.store.tree (writes_of what) changed in
    let Told : ℕ → Type 0 = λ d. IsAssigningTold p v.store.tree d what changed h.lines in
    let state_of : List Binding → State = λ cs. record (at w stack) { objects = v.store.tree; bindings = cs; stack = top; trace = w.trace ++ h.lines } in
    let settles : Settles p (at w stack) over (IsAssigningTold p v.store.tree (suc (length over)) what changed) v.store.tree (without_all places w.store.bindings) changed (at v top) = record {
      lines = h.lines;
      told = subst Told depth_is h.are_told;
      gives = ap (λ (u : World). at u top) h.gives ∙ ap state_of h.writes.bindings;
    } in
    record {
      there = fit-there p w.store.tree (writes_of what) fit;
      objects = v.store.tree;
      changed = changed;
      written = subst With h.writes.bindings h.writes;
      settles = settles;
    }

-- a step does one thing
one-operation : (s : State) {c d : Operation} → DoesNext s c → DoesNext s d → c ≡ d
one-operation s {c} {d} m n =
    let both : Some c ≡ Some d = sym m ∙ n in
    cc both

-- what is written next and fits is of no wrong type
written-fits : {p : Loaded} {natives : NativeAnswers} {what : Assigning} {w : World} {from to : List Activation} → Sets p natives w from to what → AllFit p w.store.tree (writes_of what) → (below : List Activation) → ¬ WritesIll p (at w (from ++ below))
written-fits {what = what} {w = w} {from = from} sets fit below bad =
    let same : Write bad.what ≡ Write what = one-operation (at w (from ++ below)) bad.next (sets.next below) in
    let is : bad.what ≡ what = cc same in
    let among : Contains (writes_of what) bad.set = subst (λ (k : Assigning). Contains (writes_of k) bad.set) is bad.among in
    bad.ill (fits-read (writes_of what) fit bad.set among bad.there.is)

-- .. by one rule
pub reaches-written : {p : Loaded} {natives : NativeAnswers} {d : ℕ} {h active : List (Option ℕ)} {what : Assigning} {w v : World} {from to : List Activation} {changed : List Place} →
    active ≡ shows to ++ h → Sets p natives w from to what → 0 < w.left → MayWrite p d active w.store.tree (writes_of what) → HasWritten p (length active + 1) what w (noted w) changed v → AgreeIn p v →
    Reaches p natives d h w from v (Update (notified p v.store.tree changed) ∷ to)
reaches-written {p} {natives} {d} {h} {active} {what} {w} {v} {from} {to} over sets some may written agree =
    let less : v.left ≡ w.left - 1 = ap (λ (u : World). u.left) written.gives in
    reaches-high over
    (λ below e. sets.gives below _ (writes-there w (from ++ below) (to ++ below) may.fit written (one-more to below over e)))
    (λ below e. written-fits sets may.fit below)
    (λ below e. none-spared w.store.tree v.store.tree (from ++ below) (differ-spared w.store.tree v.store.tree written.writes.objects))
    (λ below. tt) may.room agree less some

-- .. and its update runs
pub ends-written : {p : Loaded} {natives : NativeAnswers} {d : ℕ} {h active : List (Option ℕ)} {what : Assigning} {w v u : World} {from to : List Activation} {changed : List Place} {r : Result (Unit {0}) Fault} →
    active ≡ shows to ++ h → Sets p natives w from to what → 0 < w.left → MayWrite p d active w.store.tree (writes_of what) → HasWritten p (length active + 1) what w (noted w) changed v → AgreeIn p v →
    RunsTo p natives d active v (Update (notified p v.store.tree changed) ∷ []) u [] r → RunsTo p natives d h w from u to r
ends-written over sets some may written agree rest = ends-after (reaches-written over sets some may written agree) (ends-lifted over rest)

-- ---- properties aren't written

-- it is one of them
pub after-among : {p : Loaded} {objects : List Object} {writes : List Assignment} {set : Assignment} → IsAfterFit p objects writes set → Contains writes set
after-among {set = set} a = subst (λ (xs : List Assignment). Contains xs set) (sym a.are) (Contains-append_right a.front (set ∷ a.back) set (0, omega arith, refl))

-- one that is there is one of all
lacks-there : {p : Loaded} {objects : List Object} (writes : List Assignment) (set : Assignment) → Contains writes set → LacksField p objects set.place.object set.place.property → AllByRecursion (HasField p objects) (places_in writes) → ⊥
lacks-there {p} {objects} writes set among none all =
    let field : HasField p objects set.place = All-contains (λ (a : Assignment). HasField p objects a.place) writes set (All-from_recursion (λ (a : Assignment). HasField p objects a.place) writes (placed writes all)) among in
    none field.object field.property field.is
  where
    placed : (xs : List Assignment) → AllByRecursion (HasField p objects) (places_in xs) → AllByRecursion (λ (a : Assignment). HasField p objects a.place) xs
    placed [] h = tt
    placed (x ∷ xs) h = (h.0, placed xs h.1)

pub stops-unwritten : {p : Loaded} {natives : NativeAnswers} {d : ℕ} {h active : List (Option ℕ)} {what : Assigning} {w : World} {from to : List Activation} {f : Fault} →
    active ≡ shows to ++ h → Sets p natives w from to what → 0 < w.left → IsUnwritten p d active w.store.tree (writes_of what) f → StopsIn p natives d h w from w f
stops-unwritten {p} {natives} {what = what} {w = w} {from = from} over sets some (unfit {set = set} among (missing none)) =
    stops-stuck sets.goes_on some
    (λ below t r. lacks-there (writes_of what) set (after-among among) none (sets.only below t r).there)
    (λ below other next.
    let same : Write what ≡ Write other = one-operation (at w (from ++ below)) (sets.next below) next in
    let is : what ≡ other = cc same in
    subst (λ (k : Assigning). LacksFirst p w.store.tree (writes_of k)) is (record { set = set; after = among; lacks = none }))
    (λ below effects next. let same : Write what ≡ TakeAnswer effects = one-operation (at w (from ++ below)) (sets.next below) next in absurd (cc same))
stops-unwritten {p} {natives} {what = what} {w = w} {from = from} over sets some (unfit {set = set} among (ill {x = x} {property = property} f not)) =
    stops-ill-write some (λ below.
    let is : WritesIll p (at w (from ++ below)) = record { what = what; next = sets.next below; set = set; among = after-among among; there = record { object = x; property = property; is = f }; ill = not } in
    is)
stops-unwritten {p} {natives} {d} {active = active} {what = what} {w = w} {from = from} {to = to} over sets some (deep fit high) =
    stops-deep-write some (λ below e.
    let is : WritesDeep p d (at w (from ++ below)) = record {
      what = what;
      next = sets.next below;
      fit = fit;
      deep = omega (arith, high, one-more to below over e, length-append from below, length-append to below, sets.as_high);
    } in
    is)

-- what doesn't fit has no such property, or isn't of its type
pub unfit-at : (p : Loaded) (objects : List Object) (at : Place) (v : Value) → (¬ FitsAt p objects at v) → IsUnfit p objects (record { place = at; value = v })
unfit-at p objects at v not = by_life (life_of objects at.object) refl
  where
    by_property : (x : Object) (l : Life) (class : MetaObject) → Lives objects at.object x l → IsClass p l.class class → (found : Option MetaProperty) → slice_get class.properties at.property ≡ found → IsUnfit p objects (record { place = at; value = v })
    by_property x l class lives is_class None none = missing (λ y property f. let both : None ≡ Some property = sym none ∙ field-at class lives is_class f in absurd (cc both))
    by_property x l class lives is_class (Some property) found =
        let field : IsField p objects at.object at.property x property = record { life = l; lives = lives; class = class; is_class = is_class; is_property = found } in
        ill field (λ reads. not (record { object = x; life = l; lives = lives; property = property; is_property = record { class = class; is_class = is_class; is = found }; reads = reads }))

    by_class : (x : Object) (l : Life) → Lives objects at.object x l → (found : Option MetaObject) → slice_get p.classes l.class ≡ found → IsUnfit p objects (record { place = at; value = v })
    by_class x l lives None none = missing (λ y property f.
        let same : f.life ≡ l = life-unique f.lives lives in
        let both : None ≡ Some f.class = sym none ∙ ap (λ (k : Life). slice_get p.classes k.class) (sym same) ∙ f.is_class.is in
        absurd (cc both))
    by_class x l lives (Some class) found = by_property x l class lives (record { is = found }) (slice_get class.properties at.property) refl

    by_life : (found : Option Life) → life_of objects at.object ≡ found → IsUnfit p objects (record { place = at; value = v })
    by_life None none = missing (λ y property f. let both : None ≡ Some f.life = sym none ∙ life-of-lives f.lives in absurd (cc both))
    by_life (Some l) found = let there = lives-of-life objects at.object l found in by_class there.0 l there.1 (slice_get p.classes l.class) refl

-- .. and isn't written
pub ends-unplanned : {p : Loaded} {natives : NativeAnswers} {d : ℕ} {h active : List (Option ℕ)} {at : Place} {v : Value} {w u : World} {from to : List Activation} {f : Fault} (r : Result (Unit {0}) Fault) →
    active ≡ shows to ++ h → Sets p natives w from to (Alone at v) → 0 < w.left → IsUnplanned p w.store.tree at v f × (u ≡ w) → IsErrAnd r (λ y. y ≡ f) → RunsTo p natives d h w from u to r
ends-unplanned {p} {natives} {d} {h} {active} {at} {v} {w} {u} {from} {to} {f} r over sets some why failed = elim why.0 [
  | inl wrong ↦
      let Stopped : World → Type 0 = λ z. StopsIn p natives d h w from z f in
      let unwritten : IsUnwritten p d active w.store.tree (one at v) BadType = unfit (record { front = []; back = []; are = refl; fit = tt }) (unfit-at p w.store.tree at v wrong.1) in
      ends-left r (subst Stopped (sym why.1) (stops-as wrong.0 (stops-unwritten over sets some unwritten))) failed
  | inr short ↦ ends-unchanged r sets.goes_on some (short, why.1) failed
]

-- ---- whether a value may be a property's

-- a living object's property that has the type of the value, or of another one
pub fits-or-not : {p : Loaded} {objects : List Object} {at : Place} (v : Value) {x : Object} {property : MetaProperty} (b : Bool) → IsField p objects at.object at.property x property → (IsTrue b ↔ ReadsAs p objects v property.kind) → FitsOrNot p objects at v b
fits-or-not v {x} {property} true f typed = record {
  object = x;
  life = f.life;
  lives = f.lives;
  property = property;
  is_property = record { class = f.class; is_class = f.is_class; is = f.is_property };
  reads = typed.0 refl;
}
fits-or-not v false f typed = ill f (λ h. not-true _ refl (typed.1 h))

pub fits-one : {p : Loaded} {objects : List Object} {at : Place} {v : Value} {b : Bool} → FitsOrNot p objects at v b → b ≡ true → FitsAt p objects at v
fits-one {p} {objects} {at} {v} fits is = subst (FitsOrNot p objects at v) is fits

pub unfit-one : {p : Loaded} {objects : List Object} {at : Place} {v : Value} {b : Bool} → FitsOrNot p objects at v b → b ≡ false → IsUnfit p objects (record { place = at; value = v })
unfit-one {p} {objects} {at} {v} fits is = subst (FitsOrNot p objects at v) is fits

-- whether the activations may nest decides
pub written-may : (p : Loaded) (d : ℕ) (active : List (Option ℕ)) (objects : List Object) (writes : List Assignment) (r : Result (Unit {0}) Fault) → AllFit p objects writes → MayNest d (length active) r → IfOk r (λ _. MayWrite p d active objects writes)
written-may p d active objects writes (Ok _) fit nests = record { fit = fit; room = nests }
written-may p d active objects writes (Err k) fit nests = tt

pub unwritten-deep : (p : Loaded) (d : ℕ) (active : List (Option ℕ)) (objects : List Object) (writes : List Assignment) (r : Result (Unit {0}) Fault) → AllFit p objects writes → MayNest d (length active) r → IfErr r (λ k. IsUnwritten p d active objects writes k)
unwritten-deep p d active objects writes (Ok _) fit nests = tt
unwritten-deep p d active objects writes (Err k) fit nests =
    let Named : Fault → Type 0 = λ y. IsUnwritten p d active objects writes y in
    subst Named (sym nests.1) (deep fit nests.0)

-- ---- the sets of a group

-- one more that is fit
pub more-fit : (p : Loaded) (objects : List Object) (sets : List (Option Assignment)) (set : Option Assignment) → AllFit p objects (writes_of (Grouped sets)) → IfSome set (λ (a : Assignment). FitsAt p objects a.place a.value) → AllFit p objects (writes_of (Grouped (sets ++ set ∷ [])))
more-fit p objects [] None all fits = tt
more-fit p objects [] (Some a) all fits = (fits, tt)
more-fit p objects (None ∷ sets) set all fits = more-fit p objects sets set all fits
more-fit p objects (Some b ∷ sets) set all fits = (all.0, more-fit p objects sets set all.1 fits)

-- what they write, cut at one of them
pub cut-at : (sets : List (Option Assignment)) (i : ℕ) (a : Assignment) → slice_get sets i ≡ Some (Some a) → writes_of (Grouped sets) ≡ writes_of (Grouped (take i sets)) ++ a ∷ writes_of (Grouped (drop (suc i) sets))
cut-at [] i a is = absurd (cc is)
cut-at (s ∷ sets) zero a is =
    let same : s ≡ Some a = same_Some s (Some a) is in
    ap (λ (x : Option Assignment). writes_of (Grouped (x ∷ sets))) same
cut-at (None ∷ sets) (suc i) a is = cut-at sets i a is
cut-at (Some b ∷ sets) (suc i) a is = ap (λ (more : List Assignment). b ∷ more) (cut-at sets i a is)
