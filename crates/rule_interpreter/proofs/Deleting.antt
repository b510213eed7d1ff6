-- How deletions are carried out.
use Rattle.std.{proofs.Common.{◌≡◌, ◌≢◌, ⊎_elim, inl, inr, ℕ, zero, suc, ◌+◌, ◌-◌, ◌<◌, ◌≤◌, eqb, ◌||◌, Bool, true, false, IsTrue, List, [], ◌∷◌, ◌++◌, length, take, reverse, cond, Result, Ok, Err, Option, Some, None, slice_get, refl, sym, ap, ◌∙◌, subst, arith, length-append}, specs.Prelude.{is_some, MatchOption}, specs.List.{find}, specs.Option.{option_map}, proofs.lemmas.Bool.{cases_eq, eqb-true}, proofs.lemmas.List.{reverse-append}}
use Rattle.basic_types.specs.declared.value.Value.TheVariants as value
use Rattle.meta_model.specs.{declared.qobject.TheConstants.{DESTROYED}, Loaded.{Loaded}, Sound.{IsSound}}
use Rattle.basic_types.specs.Values.{null_has}
use Rattle.object_tree.{specs.declared.life.Life.{Life}, specs.declared.object.Object.{Object}, specs.Family.{children_of, IsChild, without_life}, specs.Objects.{life_of, name_of}, proofs.Changing.{life-of-lives}}
use Rattle.machine_rules.{specs.code.Sound.{AgreeIn, SendsThese}, specs.Destroying.{deleting, Dies, NextRule, ChildRule}, specs.Good.{EmissionFits, of_dead, has_body, IsWell, Spares, shows}, specs.code.Keeps.{KeepsWorld}, specs.Reaches.{Reaches, StopsIn, RunsTo, Deletes, Kills, Forgets}, specs.Rules.{Rule}, specs.There.{IsDead}, proofs.Dying.{dead-no-life, died-dead, other-seen}, proofs.Delivered.{has-life}, proofs.Declared.{emission-sends}, proofs.Stacks.{high}, proofs.ReachedStates.{none-spared, reaches-low, reaches-pushed, stops-as, stops-memory, stops-steps, stops-deep, stops-fatal, no-update-fits, ends-after, ends-lifted, not-idle}, specs.Natives.{NativeAnswers}}
use Rattle.prop_bindings.proofs.Leaving.{left_agree}
use Rattle.delete_later.specs.Ending.{last_of, next_in, first_child_of, IsNext, NoneIsNext}
use Rattle.trace_entries.specs.{declared.entry.Entry.{Entry}, declared.entry.Entry.TheVariants.{At}, declared.entry.EntryKind.TheVariants.{Died}, declared.fault.Fault.{Fault}, declared.fault.Fault.TheVariants.{TooDeep, InUse}}
use Rattle.machine_state.specs.{declared.world.World.{World}, Connections.{is_living}, State.{State, Activation, Body, Emit, Update, Destroy}, Worlds.{at}, code.Changing.{ticked, dying, ending, Ticks}}
use Rattle.rule_interpreter.{specs.code.Active.{shows_body}, proofs.Beginning.{one-more}}
use Rattle.run_context.specs.code.Activating.{entry_of_destroyed}

-- ---- a deletion begins

-- .. and is carried out
pub ends-deleting : {p : Loaded} {natives : NativeAnswers} {d x : ℕ} {h active : List (Option ℕ)} {w v u : World} {from to : List Activation} {r : Result (Unit {0}) Fault} → active ≡ shows to ++ h → Deletes p natives w from to x → length active < d → AgreeIn p w → Ticks w v (Ok tt) → RunsTo p natives d active v (Destroy (Some x) [] ∷ []) u [] r → RunsTo p natives d h w from u to r
ends-deleting {p} {natives} {d} {x} {h} {active} {w} {v} {u} {from} {to} over deletes room agree ticks rest =
    let Family : World → Type 0 = λ k. Reaches p natives d h w from k (Destroy (Some x) [] ∷ to) in
    let went : Reaches p natives d h w from (ticked w) (Destroy (Some x) [] ∷ to) =
    reaches-pushed over (λ places is. cc is) (λ below e. deletes.gives below) (λ below e. none-spared w.store.tree w.store.tree (from ++ below) (λ o gone. gone)) (λ below. tt) room agree refl ticks.0 in
    ends-after (subst Family (sym ticks.1) went) (ends-lifted over rest)

-- .. or activations would nest too deep
pub stops-deleting : {p : Loaded} {natives : NativeAnswers} {d x : ℕ} {h active : List (Option ℕ)} {w : World} {from to : List Activation} → active ≡ shows to ++ h → Deletes p natives w from to x → AgreeIn p w → 0 < w.left → d ≤ length active → StopsIn p natives d h w from w TooDeep
stops-deleting {p} {natives} {d} {x} {h} {active} {w} {from} {to} over deletes agree some deep =
    stops-deep some (λ below e. (
      deleting (at w (from ++ below)) (to ++ below) x,
      deletes.gives below,
      record { arguments = λ higher. tt; values = agree.typed },
      none-spared w.store.tree w.store.tree (from ++ below) (λ o gone. gone),
      agree,
      no-update-fits p natives (at w (from ++ below)) _ (Destroy (Some x) []) (to ++ below) (deletes.gives below) refl (λ places is. cc is),
      omega (arith, one-more to below over e, deep),
    ))

-- ---- an object dies

-- the world in which it has died, where the deletion is the last of so many activations
abbrev pub died_world : World → ℕ → ℕ → List ℕ → World
died_world w depth x name = dying w (At depth (Died name) ∷ entry_of_destroyed (depth + 1) name ∷ []) x

abbrev pub announced : World → ℕ → Activation
announced w x = Emit x DESTROYED (value.Ref None ∷ []) 0 w.store.connections.last

dies-there : {n x : ℕ} {name : List ℕ} (w : World) (stack over : List Activation) → name_of w.store.tree x ≡ Some name → n ≡ length over → Dies (at w stack) over x (at (died_world w n x name) (announced w x ∷ over))
dies-there {n} {x} {name} w stack over named depth_is =
    let more : n + 1 ≡ suc (length over) = omega (arith, depth_is) in
    let with_depths : ℕ → ℕ → State = λ i k. at (dying w (At i (Died name) ∷ entry_of_destroyed k name ∷ []) x) (announced w x ∷ over) in
    record {
      name = name;
      named = named;
      gives = ap (λ (i : ℕ). with_depths i (n + 1)) depth_is ∙ ap (λ (k : ℕ). with_depths (length over) k) more;
    }

-- its `destroyed` fits
pub death-fits : (p : Loaded) (objects : List Object) (x : ℕ) {name : List ℕ} → name_of objects x ≡ Some name → EmissionFits p (without_life x objects) x DESTROYED (value.Ref None ∷ [])
death-fits p objects x named = of_dead (died-dead objects x named) refl (null_has, tt)

-- where no body of it is active, none that has a body dies
unbodied-spared : (objects : List Object) (x : ℕ) (stack : List Activation) → has_body x stack ≡ false → (o : ℕ) → IsTrue (has_body o stack) → IsDead (without_life x objects) o → IsDead objects o
unbodied-spared objects x stack none o body gone = ⊎_elim
    (λ (same : o ≡ x). let active : has_body x stack ≡ true = ap (λ (k : ℕ). has_body k stack) (sym same) ∙ body in let no : true ≡ false = sym active ∙ none in absurd (cc no))
    (λ (other : o ≢ x). sym (other-seen objects x o other) ∙ gone)
    (cases_eq o x)

body-shown : (x : ℕ) (stack : List Activation) → has_body x stack ≡ shows_body x (shows stack)
body-shown x [] = refl
body-shown x (Body o m arguments left ∷ below) = ap (λ (b : Bool). eqb o x || b) (body-shown x below)
body-shown x (Emit o g arguments used last ∷ below) = body-shown x below
body-shown x (Update places ∷ below) = body-shown x below
body-shown x (Destroy next torn ∷ below) = body-shown x below

bodiless : (x : ℕ) {active : List (Option ℕ)} (below : List Activation) → shows below ≡ active → shows_body x active ≡ false → has_body x below ≡ false
bodiless x below e none = body-shown x below ∙ ap (shows_body x) e ∙ none

died-next : {p : Loaded} {natives : NativeAnswers} {w : World} {next : Option ℕ} {before torn : List ℕ} {x n : ℕ} {name : List ℕ} (below : List Activation) → Kills p natives w next before torn x → name_of w.store.tree x ≡ Some name → n ≡ suc (length below) → Rule p natives (at w (Destroy next before ∷ below)) (at (died_world w n x name) (announced w x ∷ Destroy (Some x) torn ∷ below))
died-next {p} {natives} {w} {next} {before} {torn} {x} below kills named depth_is = kills.gives below _ (dies-there w (Destroy next before ∷ below) (Destroy (Some x) torn ∷ below) named depth_is)

module _ {p : Loaded} {natives : NativeAnswers} {d : ℕ} {active : List (Option ℕ)} {w : World} {next : Option ℕ} {before torn : List ℕ} {x : ℕ} {name : List ℕ} (kills : Kills p natives w next before torn x) (named : name_of w.store.tree x ≡ Some name) (agree : AgreeIn p w) (some : 0 < w.left) where
  -- it dies by one rule
  pub reaches-died : {v : World} {n last : ℕ} → shows_body x active ≡ false → suc (length active) < d → n ≡ suc (length active) → last ≡ w.store.connections.last → v ≡ died_world w n x name → Reaches p natives d active w (Destroy next before ∷ []) v (Emit x DESTROYED (value.Ref None ∷ []) 0 last ∷ Destroy (Some x) torn ∷ [])
  reaches-died {v} {n} {last} none room n_is last_is v_is =
      let target : World = died_world w n x name in
      let Family : World → ℕ → Type 0 = λ u l. Reaches p natives d active w (Destroy next before ∷ []) u (Emit x DESTROYED (value.Ref None ∷ []) 0 l ∷ Destroy (Some x) torn ∷ []) in
      let went : Family target w.store.connections.last =
      reaches-pushed {active = None ∷ active} {from = Destroy next before ∷ []} {to = Destroy (Some x) torn ∷ []} refl (λ places is. cc is)
      (λ below e. died-next below kills named (omega (arith, n_is, high below e)))
      (λ below e. unbodied-spared w.store.tree x (Destroy next before ∷ below) (bodiless x below e none))
      (λ below. death-fits p w.store.tree x named)
      (omega (arith, room)) (left_agree p w.store.bindings w.store.tree x agree) refl some in
      subst (λ (u : World). Family u last) (sym v_is) (subst (λ (l : ℕ). Family target l) (sym last_is) went)

  -- a body of it is active
  pub stops-in-use : is_living w.store.tree x ≡ true → shows_body x active ≡ true → StopsIn p natives d active w (Destroy next before ∷ []) w InUse
  stops-in-use lives bodied = stops-fatal some (λ below e.
      let s : State = at w (Destroy next before ∷ below) in
      let t : State = at (died_world w (suc (length below)) x name) (announced w x ∷ Destroy (Some x) torn ∷ below) in
      let well : IsWell p s t = record { arguments = λ higher. death-fits p w.store.tree x named; values = (left_agree p w.store.bindings w.store.tree x agree).typed } in
      let body : has_body x below ≡ true = body-shown x below ∙ ap (shows_body x) e ∙ bodied in
      let fatal : ¬ Spares s t = λ spares. living-dead w.store.tree x lives (spares x body (died-dead w.store.tree x named)) in
      (t, died-next below kills named refl, well, fatal))
    where
      living-dead : (objects : List Object) (o : ℕ) → is_living objects o ≡ true → IsDead objects o → ⊥
      living-dead objects o lives gone = let none : is_some (life_of objects o) ≡ false = ap (λ (life : Option Life). is_some life) (dead-no-life objects o gone) in let no : true ≡ false = sym lives ∙ none in absurd (cc no)

  -- activations would nest too deep
  pub stops-announcing : shows_body x active ≡ false → d ≤ suc (length active) → StopsIn p natives d active w (Destroy next before ∷ []) w TooDeep
  stops-announcing none deep = stops-deep some (λ below e.
      let s : State = at w (Destroy next before ∷ below) in
      let t : State = at (died_world w (suc (length below)) x name) (announced w x ∷ Destroy (Some x) torn ∷ below) in
      let well : IsWell p s t = record { arguments = λ higher. death-fits p w.store.tree x named; values = (left_agree p w.store.bindings w.store.tree x agree).typed } in
      (t, died-next below kills named refl, well, unbodied-spared w.store.tree x (Destroy next before ∷ below) (bodiless x below e none), left_agree p w.store.bindings w.store.tree x agree, no-update-fits p natives s t (announced w x) (Destroy (Some x) torn ∷ below) (died-next below kills named refl) refl (λ places is. cc is), omega (arith, high below e, deep)))

-- what lives has a name
pub living-name : (objects : List Object) (o : ℕ) → is_living objects o ≡ true → (name : List ℕ) × (name_of objects o ≡ Some name)
living-name objects o lives =
    let there = has-life objects o lives in
    (there.0.name, ap (option_map (λ (x : Object). x.name)) there.2.is)

-- the lines that are written down where it dies
pub died-as : {v : World} {n k : ℕ} {name a : List ℕ} {line : Entry} (w : World) (x : ℕ) → v ≡ dying w (At n (Died a) ∷ line ∷ []) x → a ≡ name → line ≡ entry_of_destroyed (n + 1) name → n ≡ k → v ≡ died_world w k x name
died-as {v} {n} {k} {name} {a} {line} w x v_is a_is line_is n_is =
    v_is
    ∙ ap (λ (l : List ℕ). dying w (At n (Died l) ∷ line ∷ []) x) a_is
    ∙ ap (λ (e : Entry). dying w (At n (Died name) ∷ e ∷ []) x) line_is
    ∙ ap (λ (i : ℕ). dying w (At i (Died name) ∷ entry_of_destroyed (i + 1) name ∷ []) x) n_is

-- .. in a world that is known to be that one
pub died-emits : {p : Loaded} {v : World} (w : World) (n x : ℕ) {name : List ℕ} → IsSound p → name_of w.store.tree x ≡ Some name → v ≡ died_world w n x name → SendsThese p v.store.tree x DESTROYED (value.Ref None ∷ [])
died-emits {p} w n x program named v_is =
    subst (λ (u : World). SendsThese p u.store.tree x DESTROYED (value.Ref None ∷ [])) (sym v_is) (emission-sends program (death-fits p w.store.tree x named))

pub died-gone : {v : World} (w : World) (n x : ℕ) {name : List ℕ} → name_of w.store.tree x ≡ Some name → v ≡ died_world w n x name → IsDead v.store.tree x
died-gone w n x named v_is = subst (λ (u : World). IsDead u.store.tree x) (sym v_is) (died-dead w.store.tree x named)

-- what has died stays dead
pub dead-after : {p : Loaded} {w v : World} (x : ℕ) → IsDead w.store.tree x → KeepsWorld p w v → is_living v.store.tree x ≡ false
dead-after {v = v} x gone keeps = ap (λ (life : Option Life). is_some life) (dead-no-life v.store.tree x (keeps.objects.dead x gone))

-- ---- the rules of a deletion

-- the object that is deleted may die by the first rule, if it lives
pub kills-first : {p : Loaded} {natives : NativeAnswers} (w : World) (x : ℕ) (torn : List ℕ) → is_living w.store.tree x ≡ true → Kills p natives w (Some x) torn torn x
kills-first w x torn lives = record {
  gives = λ below t dies.
      let Next : Bool → Type 0 = λ b. NextRule (at w (Destroy (Some x) torn ∷ below)) below t x torn b in
      subst Next (sym lives) dies;
}

-- .. and so may a child
pub kills-child : {p : Loaded} {natives : NativeAnswers} (w : World) (parent child : ℕ) (torn : List ℕ) → find (is_living w.store.tree) (children_of w.store.tree parent) ≡ Some child → Kills p natives w None (parent ∷ torn) (parent ∷ torn) child
kills-child w parent child torn found = record {
  gives = λ below t dies.
      let Next : Option ℕ → Type 0 = λ c. ChildRule (at w (Destroy None (parent ∷ torn) ∷ below)) below t parent torn c in
      subst Next (sym found) dies;
}

module _ {p : Loaded} {natives : NativeAnswers} {d : ℕ} {active : List (Option ℕ)} {w v : World} (room : length active < d) (agree : AgreeIn p w) where
  -- a dead object is forgotten
  pub reaches-forgotten : (x : ℕ) (torn : List ℕ) → is_living w.store.tree x ≡ false → 0 < w.left → v ≡ ending w x → Reaches p natives d active w (Destroy (Some x) torn ∷ []) v (Destroy None (x ∷ torn) ∷ [])
  reaches-forgotten x torn gone some v_is =
      let target : World = ending w x in
      let Family : World → Type 0 = λ u. Reaches p natives d active w (Destroy (Some x) torn ∷ []) u (Destroy None (x ∷ torn) ∷ []) in
      subst Family (sym v_is) (reaches-low {b = Destroy None (x ∷ torn) ∷ []}
      (λ below e. let Next : Bool → Type 0 = λ b. NextRule (at w (Destroy (Some x) torn ∷ below)) below (at target (Destroy None (x ∷ torn) ∷ below)) x torn b in subst Next (sym gone) refl)
      (λ o dead. dead) (omega arith) (omega (arith, room)) agree refl some)

  -- one without children left isn't torn down any more
  pub reaches-torn : (parent : ℕ) (torn : List ℕ) → find (is_living w.store.tree) (children_of w.store.tree parent) ≡ None → Ticks w v (Ok tt) → Reaches p natives d active w (Destroy None (parent ∷ torn) ∷ []) v (Destroy None torn ∷ [])
  reaches-torn parent torn none ticks =
      let Family : World → Type 0 = λ u. Reaches p natives d active w (Destroy None (parent ∷ torn) ∷ []) u (Destroy None torn ∷ []) in
      subst Family (sym ticks.1) (reaches-low {b = Destroy None torn ∷ []}
      (λ below e. let Next : Option ℕ → Type 0 = λ c. ChildRule (at w (Destroy None (parent ∷ torn) ∷ below)) below (at (ticked w) (Destroy None torn ∷ below)) parent torn c in subst Next (sym none) refl)
      (λ o dead. dead) (omega arith) (omega (arith, room)) agree refl ticks.0)

-- it isn't forgotten, since no rule is left or memory was refused
pub stops-forgetting : {p : Loaded} {natives : NativeAnswers} {d : ℕ} {active : List (Option ℕ)} {w v : World} {a : Activation} (x : ℕ) (torn after : List ℕ) (f : Fault) → Forgets w torn x v after (Err f) → StopsIn p natives d active w (a ∷ []) v f
stops-forgetting {p} {natives} {d} {active} {w} {v} {a} x torn after f forgets =
    let Family : World → Type 0 = λ u. StopsIn p natives d active w (a ∷ []) u f in
    subst Family (sym forgets.0) (elim forgets.1 [
      | inl undue ↦ stops-as undue.1 (stops-steps undue.0)
      | inr short ↦ stops-as short.1 (stops-memory (not-idle w a) short.0)
    ])

-- ---- the list of those that are torn down

-- a list that isn't empty has a last element
pub ends-with : (xs : List ℕ) → 0 < length xs → (front : List ℕ) × (last : ℕ) × (xs ≡ front ++ last ∷ [])
ends-with [] some = absurd (omega (arith, some))
ends-with (x ∷ []) some = ([], x, refl)
ends-with (x ∷ y ∷ ys) some =
    let more = ends-with (y ∷ ys) (omega arith) in
    (x ∷ more.0, more.1, ap (λ (l : List ℕ). x ∷ l) more.2)

reverse-last : (front : List ℕ) (last : ℕ) → reverse (front ++ last ∷ []) ≡ last ∷ reverse front
reverse-last front last = reverse-append front (last ∷ [])

-- .. which is the latest
pub turned : (xs front : List ℕ) (last : ℕ) → xs ≡ front ++ last ∷ [] → reverse xs ≡ last ∷ reverse front
turned xs front last e = ap (λ (l : List ℕ). reverse l) e ∙ reverse-last front last

get-last : (front : List ℕ) (last : ℕ) → slice_get (front ++ last ∷ []) (length front) ≡ Some last
get-last [] last = refl
get-last (x ∷ front) last = get-last front last

pub last-is : (xs front : List ℕ) (last : ℕ) → xs ≡ front ++ last ∷ [] → last_of xs ≡ Some last
last-is xs front last e =
    let long : length xs - 1 ≡ length front = omega (arith, ap (λ (l : List ℕ). length l) e, length-append front (last ∷ [])) in
    ap (λ (l : List ℕ). slice_get l (length xs - 1)) e ∙ ap (λ (n : ℕ). slice_get (front ++ last ∷ []) n) long ∙ get-last front last

take-front : (front : List ℕ) (last : ℕ) → take (length front) (front ++ last ∷ []) ≡ front
take-front [] last = refl
take-front (x ∷ front) last = ap (λ (l : List ℕ). x ∷ l) (take-front front last)

-- what is left where it is taken off
pub popped-is : (xs rest front : List ℕ) (last : ℕ) → xs ≡ front ++ last ∷ [] → rest ≡ take (length xs - 1) xs → rest ≡ front
popped-is xs rest front last e rest_is =
    let long : length xs - 1 ≡ length front = omega (arith, ap (λ (l : List ℕ). length l) e, length-append front (last ∷ [])) in
    rest_is ∙ ap (λ (n : ℕ). take n xs) long ∙ ap (λ (l : List ℕ). take (length front) l) e ∙ take-front front last

-- ---- the child that dies next

-- the first of a list that passes, where the first element does, or there is none
found-first : (test : ℕ → Bool) (xs : List ℕ) (first : Option ℕ) → first ≡ slice_get xs 0 → ((x : ℕ) → first ≡ Some x → test x ≡ true) → find test xs ≡ first
found-first test [] first e passes = sym e
found-first test (x ∷ xs) first e passes =
    let here : test x ≡ true = passes x e in
    let At : Bool → Type 0 = λ b. cond b (Some x) (find test xs) ≡ first in
    subst At (sym here) (sym e)

pub child-lives : (objects : List Object) (parent o : ℕ) → IsChild objects parent o → is_living objects o ≡ true
child-lives objects parent o child = ap (λ (life : Option Life). is_some life) (life-of-lives child.lives)

-- what the code finds is the first living child of the latest that is torn down
pub next-child : (objects : List Object) (torn front : List ℕ) (parent : ℕ) (found : Option ℕ) → torn ≡ front ++ parent ∷ [] → found ≡ next_in objects torn → MatchOption found (NoneIsNext objects torn) (IsNext objects torn) → find (is_living objects) (children_of objects parent) ≡ found
next-child objects torn front parent found e is lives =
    let last : last_of torn ≡ Some parent = last-is torn front parent e in
    let first : found ≡ slice_get (children_of objects parent) 0 = is ∙ ap (first_child_of objects) last in
    found-first (is_living objects) (children_of objects parent) found first (by_found found lives last)
  where
    by_found : (found : Option ℕ) → MatchOption found (NoneIsNext objects torn) (IsNext objects torn) → last_of torn ≡ Some parent → (x : ℕ) → found ≡ Some x → is_living objects x ≡ true
    by_found None none last x k = absurd (cc k)
    by_found (Some y) some last x k =
        let same : y ≡ x = cc k in
        subst (λ (o : ℕ). is_living objects o ≡ true) same (child-lives objects some.parent y some.child)

module _ {p : Loaded} {natives : NativeAnswers} (w : World) (torn : List ℕ) (some : 0 < length torn) (found : Option ℕ) (is : found ≡ next_in w.store.tree torn) (lives : MatchOption found (NoneIsNext w.store.tree torn) (IsNext w.store.tree torn)) where
  -- .. it may die by the next rule
  pub kills-next : (child : ℕ) → found ≡ Some child → Kills p natives w None (reverse torn) (reverse torn) child
  kills-next child e =
      let q = ends-with torn some in
      let Over : List ℕ → Type 0 = λ l. Kills p natives w None l l child in
      subst Over (sym (turned torn q.0 q.1 q.2)) (kills-child w q.1 child (reverse q.0) (next-child w.store.tree torn q.0 q.1 found q.2 is lives ∙ e))

  -- .. or the latest has none left
  pub reaches-next : {d : ℕ} {active : List (Option ℕ)} {v : World} (rest : List ℕ) → length active < d → AgreeIn p w → found ≡ None → rest ≡ take (length torn - 1) torn → Ticks w v (Ok tt) → Reaches p natives d active w (Destroy None (reverse torn) ∷ []) v (Destroy None (reverse rest) ∷ [])
  reaches-next {d} {active} {v} rest room agree e rest_is ticks =
      let q = ends-with torn some in
      let From : List ℕ → List ℕ → Type 0 = λ l m. Reaches p natives d active w (Destroy None l ∷ []) v (Destroy None (reverse m) ∷ []) in
      let went : From (q.1 ∷ reverse q.0) q.0 = reaches-torn room agree q.1 (reverse q.0) (next-child w.store.tree torn q.0 q.1 found q.2 is lives ∙ e) ticks in
      subst (λ (l : List ℕ). From l rest) (sym (turned torn q.0 q.1 q.2)) (subst (λ (m : List ℕ). From (q.1 ∷ reverse q.0) m) (sym (popped-is torn rest q.0 q.1 q.2 rest_is)) went)

-- a dead object is forgotten, and is the latest that is torn down
pub reaches-latest : {p : Loaded} {natives : NativeAnswers} {d : ℕ} {active : List (Option ℕ)} {w v : World} (x : ℕ) (torn after : List ℕ) → length active < d → AgreeIn p w → is_living w.store.tree x ≡ false → Forgets w torn x v after (Ok tt) → Reaches p natives d active w (Destroy (Some x) (reverse torn) ∷ []) v (Destroy None (reverse after) ∷ [])
reaches-latest {p} {natives} {d} {active} {w} {v} x torn after room agree gone forgets =
    let To : List ℕ → Type 0 = λ l. Reaches p natives d active w (Destroy (Some x) (reverse torn) ∷ []) v (Destroy None l ∷ []) in
    subst To (sym (turned after torn x forgets.2)) (reaches-forgotten room agree x (reverse torn) gone forgets.0 forgets.1)

-- by which a rule is used
pub forgets-fewer : {v : World} (w : World) (x : ℕ) (torn after : List ℕ) → Forgets w torn x v after (Ok tt) → v.left < w.left
forgets-fewer w x torn after forgets = omega (arith, forgets.0, ap (λ (u : World). u.left) forgets.1)

-- ---- the end of the list

pub nonempty : (b : Bool) (n : ℕ) (xs : List ℕ) → b ≡ eqb n 0 → b ≡ false → n ≡ length xs → 0 < length xs
nonempty b zero xs e f long = let no : true ≡ false = sym e ∙ f in absurd (cc no)
nonempty b (suc n) xs e f long = omega (arith, long)

pub none-left : (b : Bool) (n : ℕ) (xs : List ℕ) → b ≡ eqb n 0 → b ≡ true → n ≡ length xs → reverse xs ≡ []
none-left b n [] e f long = refl
none-left b n (x ∷ xs) e f long = let none : n ≡ 0 = eqb-true n 0 (sym e ∙ f) in absurd (omega (arith, long, none))
