-- How turns of event loops are carried out.
use Rattle.std.{proofs.Common.{◌≡◌, ℕ, ◌+◌, ◌-◌, ◌<◌, List, [], ◌∷◌, Result, Ok, Err, Option, Some, None, inl, inr, refl, sym, ap, ◌∙◌, subst, arith}, specs.Result.{IsErrAnd}}
use Rattle.basic_types.specs.declared.value.Value.{Value}
use Rattle.meta_model.specs.{declared.object.Work.{Work}, Loaded.{Loaded}}
use Rattle.event_loops.specs.{declared.item.Item.{Item}, declared.item.Item.TheVariants.{Call, Deletion}, declared.item.Posted.{Posted}, Queues.{taken_before}}
use Rattle.object_tree.{specs.declared.life.Life.{Life}, specs.Objects.{life_of}, proofs.Changing.{life-of-lives}}
use Rattle.trace_entries.specs.{declared.entry.Entry.{Entry}, declared.fault.Fault.{Fault}, declared.fault.Fault.TheVariants.{Steps, Memory}}
use Rattle.machine_state.specs.{declared.turn.Turn.{Turn}, declared.world.World.{World}, State.{State, Activation, Destroy, IsIdle}, Worlds.{at}, code.Changing.{with_queues, taking, taking_unwritten, turn_ended}, Connections.{is_living}}
use Rattle.machine_rules.{specs.Good.{ArgumentsFit, shows}, specs.Reaches.{DoesWork, Reaches, StopsIn, RunsTo, Advances}, specs.Rules.{Rule, TurnRule, Serves, Delivers, Begins, BeginsIf, top_of}, specs.code.Going.{done}, specs.code.Sound.{Waits, IsSoundWorld, AgreeIn}, proofs.Keeps.{reaches-keeps}, proofs.ReachedStates.{none-spared, reaches-low, reaches-pushed, reaches-then, stops-after, ends-unchanged}, proofs.Delivered.{has-life}, proofs.Declared.{living-fits}, proofs.Waiting.{length-change, housed-same, all-taken, first-waits}, specs.Natives.{NativeAnswers}}
use Rattle.run_context.specs.code.Activating.{IsActivated, IsBarred}
use Rattle.rule_interpreter.{specs.code.Delivering.{first_due, IsFirst, IsCalled}, proofs.Beginning.{begun_world, begins-there, top-fits, top-other}, proofs.Bodies.{advances-left}}

-- ---- while a turn goes on

-- .. something is going on
pub turn-goes-on : {turn : Turn} (w : World) → w.turn ≡ Some turn → (below : List Activation) → ¬ IsIdle (at w below)
turn-goes-on {turn} w is below idle = let both : Some turn ≡ None = sym is ∙ idle.no_turn in absurd (cc both)

-- .. and no rule is left
pub stops-turn : {p : Loaded} {natives : NativeAnswers} {d : ℕ} {w : World} {turn : Turn} → w.turn ≡ Some turn → w.left ≡ 0 → StopsIn p natives d [] w [] w Steps
stops-turn {w = w} is none = record { stops = λ below e. (below, done, (none, turn-goes-on w is below)) }

-- .. or its next call doesn't begin
pub advances-barred : {p : Loaded} {natives : NativeAnswers} {d : ℕ} {w : World} {turn : Turn} {f : Fault} (r : Result (Unit {0}) Fault) → w.turn ≡ Some turn → 0 < d → 0 < w.left → IsBarred d 0 f → IsErrAnd r (λ y. y ≡ f) → Advances p natives d [] w [] w [] r
advances-barred {w = w} {f = f} r is room some why barred = elim why [
  | inl deep ↦ absurd (omega (arith, deep.0, room))
  | inr short ↦ advances-left f r (ends-unchanged r (turn-goes-on w is) some (short, refl) barred) barred
]

-- .. or it isn't taken
pub advances-unchanged : {p : Loaded} {natives : NativeAnswers} {d : ℕ} {w v : World} {turn : Turn} {f : Fault} (r : Result (Unit {0}) Fault) → w.turn ≡ Some turn → 0 < w.left → (f ≡ Memory) × (v ≡ w) → IsErrAnd r (λ y. y ≡ f) → Advances p natives d [] w [] v [] r
advances-unchanged {w = w} {f = f} r is some same failed = advances-left f r (ends-unchanged r (turn-goes-on w is) some same failed) failed

-- a stack that shows nothing is empty
none-below : (below : List Activation) → shows below ≡ [] → below ≡ []
none-below [] e = refl
none-below (a ∷ below) e = absurd (cc e)

-- what the turn does is the rule of an empty stack
turn-rule : (p : Loaded) (natives : NativeAnswers) (w : World) (t : State) {turn : Turn} (first : Option Posted) → w.turn ≡ Some turn → first ≡ first_due w turn → Serves p (at w []) t turn first → Rule p natives (at w []) t
turn-rule p natives w t {turn} first is found serves =
    let Next : Option Turn → Type 0 = λ x. TurnRule p (at w []) t x in
    let First : Option Posted → Type 0 = λ f. Serves p (at w []) t turn f in
    subst Next (sym is) (subst First found serves)

-- ---- its rules

-- with nothing left the turn ends
pub reaches-ended : {p : Loaded} {natives : NativeAnswers} {d : ℕ} {w v : World} {turn : Turn} → w.turn ≡ Some turn → None ≡ first_due w turn → AgreeIn p w → 0 < w.left → v ≡ turn_ended w → Reaches p natives d [] w [] v []
reaches-ended {p} {natives} {d} {w} {v} is none agree some v_is =
    let target : World = turn_ended w in
    let Over : List Activation → Type 0 = λ l. Rule p natives (at w l) (at target l) in
    let Family : World → Type 0 = λ u. Reaches p natives d [] w [] u [] in
    let ends : Rule p natives (at w []) (at target []) = turn-rule p natives w (at target []) None is none refl in
    subst Family (sym v_is) (reaches-low {a = []} {b = []} (λ below e. subst Over (sym (none-below below e)) ends) (λ o gone. gone) (omega arith) (omega arith) agree refl some)

-- the first item that the turn may deliver is taken, and its call begins
pub reaches-served : {p : Loaded} {natives : NativeAnswers} {d o m : ℕ} {w v : World} {turn : Turn} {arguments : List Value} {line : Entry} {work : Work} {last : ℕ} →
    w.turn ≡ Some turn → IsFirst w turn (Call o m arguments) → IsActivated p d 0 w o m arguments line work last → ArgumentsFit p w.store.tree o m arguments → AgreeIn p w → 0 < w.left → v ≡ taking w (line ∷ []) turn.home turn.limit →
    Reaches p natives d [] w [] v (top_of o m arguments last work ∷ [])
reaches-served {p} {natives} {d} {o} {m} {w} {v} {turn} {arguments} {line} {work} {last} is first begun fit agree some v_is =
    let took : World = with_queues w (taken_before turn.home turn.limit w.store.loops) in
    let target : World = begun_world took (0 + 1) begun.object m begun.method arguments in
    let stack : List Activation = top_of o m arguments w.store.connections.last begun.method.work ∷ [] in
    let begins : Begins p (at took []) [] o m arguments (at target stack) = begins-there took arguments [] [] begun.is (omega arith) in
    let Of : Item → Type 0 = λ i. Delivers p (at took []) (at target stack) i in
    let If : Option Life → Type 0 = λ life. BeginsIf p (at took []) o m arguments (at target stack) life in
    let rule : Rule p natives (at w []) (at target stack) = turn-rule p natives w (at target stack) (Some first.posted) is first.found (subst Of (sym first.is) (subst If (sym (life-of-lives begun.is.lives)) begins)) in
    let Over : List Activation → Type 0 = λ l. Rule p natives (at w l) (at target (top_of o m arguments w.store.connections.last begun.method.work ∷ l)) in
    let went : Reaches p natives d [] w [] target stack = reaches-pushed {active = []} {from = []} {to = []} refl (λ places. top-other o m w.store.connections.last arguments places begun.method.work) (λ below e. subst Over (sym (none-below below e)) rule) (λ below e. none-spared w.store.tree w.store.tree below (λ k gone. gone)) (λ below. top-fits w.store.connections.last begun.method.work below fit) begun.room agree refl some in
    let Pushed : World → Work → ℕ → Type 0 = λ u k l. Reaches p natives d [] w [] u (top_of o m arguments l k ∷ []) in
    let target_is : v ≡ target = v_is ∙ ap (λ (y : Entry). taking w (y ∷ []) turn.home turn.limit) begun.is_line in
    subst (λ (u : World). Pushed u work last) (sym target_is) (subst (λ (k : Work). Pushed target k last) (sym begun.is_work) (subst (λ (l : ℕ). Pushed target begun.method.work l) (sym begun.is_last) went))

-- .. a call of a dead object begins nothing
pub reaches-passed : {p : Loaded} {natives : NativeAnswers} {d o m : ℕ} {w v : World} {turn : Turn} {arguments : List Value} → w.turn ≡ Some turn → IsFirst w turn (Call o m arguments) → None ≡ life_of w.store.tree o → AgreeIn p w → 0 < w.left → v ≡ taking_unwritten w turn.home turn.limit → Reaches p natives d [] w [] v []
reaches-passed {p} {natives} {d} {o} {m} {w} {v} {turn} {arguments} is first gone agree some v_is =
    let took : World = with_queues w (taken_before turn.home turn.limit w.store.loops) in
    let target : World = taking_unwritten w turn.home turn.limit in
    let If : Option Life → Type 0 = λ life. BeginsIf p (at took []) o m arguments (at target []) life in
    let Of : Item → Type 0 = λ i. Delivers p (at took []) (at target []) i in
    let rule : Rule p natives (at w []) (at target []) = turn-rule p natives w (at target []) (Some first.posted) is first.found (subst Of (sym first.is) (subst If gone refl)) in
    let Over : List Activation → Type 0 = λ l. Rule p natives (at w l) (at target l) in
    let Family : World → Type 0 = λ u. Reaches p natives d [] w [] u [] in
    subst Family (sym v_is) (reaches-low {a = []} {b = []} (λ below e. subst Over (sym (none-below below e)) rule) (λ k gone. gone) (omega arith) (omega arith) agree refl some)

-- .. a deletion begins
pub reaches-deleting : {p : Loaded} {natives : NativeAnswers} {d o : ℕ} {w v : World} {turn : Turn} → w.turn ≡ Some turn → IsFirst w turn (Deletion o) → 0 < d → AgreeIn p w → 0 < w.left → v ≡ taking_unwritten w turn.home turn.limit → Reaches p natives d [] w [] v (Destroy (Some o) [] ∷ [])
reaches-deleting {p} {natives} {d} {o} {w} {v} {turn} is first room agree some v_is =
    let took : World = with_queues w (taken_before turn.home turn.limit w.store.loops) in
    let target : World = taking_unwritten w turn.home turn.limit in
    let stack : List Activation = Destroy (Some o) [] ∷ [] in
    let Of : Item → Type 0 = λ i. Delivers p (at took []) (at target stack) i in
    let rule : Rule p natives (at w []) (at target stack) = turn-rule p natives w (at target stack) (Some first.posted) is first.found (subst Of (sym first.is) refl) in
    let Over : List Activation → Type 0 = λ l. Rule p natives (at w l) (at target (Destroy (Some o) [] ∷ l)) in
    let Family : World → Type 0 = λ u. Reaches p natives d [] w [] u (Destroy (Some o) [] ∷ []) in
    subst Family (sym v_is) (reaches-pushed {active = []} {from = []} {to = []} refl (λ places is. cc is) (λ below e. subst Over (sym (none-below below e)) rule) (λ below e. none-spared w.store.tree w.store.tree below (λ k gone. gone)) (λ below. tt) room agree refl some)

-- .. and is carried out
pub advances-served : {p : Loaded} {natives : NativeAnswers} {d : ℕ} {active : List (Option ℕ)} {w v u : World} {from : List Activation} (r : Result (Unit {0}) Fault) → active ≡ [] → Reaches p natives d [] w [] v from → v.left ≡ w.left - 1 → 0 < w.left → RunsTo p natives d active v from u [] r → Advances p natives d [] w [] u [] r
advances-served {p} {natives} {d} {v = v} {u = u} {from = from} (Ok _) none went less some ends =
    let Shown : List (Option ℕ) → Type 0 = λ l. Reaches p natives d l v from u [] in
    let more : Reaches p natives d [] v from u [] = subst Shown none ends.cases in
    record { cases = (reaches-then went more, omega (arith, (reaches-keeps more).fewer, less, some)) }
advances-served {p} {natives} {d} {v = v} {u = u} {from = from} (Err f) none went less some ends =
    let Shown : List (Option ℕ) → Type 0 = λ l. StopsIn p natives d l v from u f in
    record { cases = stops-after went (subst Shown none ends.cases) }

-- ---- what is delivered

-- what waits first fits
first-fits : {p : Loaded} {w : World} {turn : Turn} {what : Item} → IsSoundWorld p w → IsFirst w turn what → Waits p w.store.tree what
first-fits {p} {w} {turn} sound first =
    let Fit : Item → Type 0 = λ i. Waits p w.store.tree i in
    subst Fit first.is (first-waits p w.store.tree w.store.loops.loops turn.home turn.limit first.posted sound.is.waiting (sym first.found))

-- .. which is a call of a living object
same-item : {w : World} {turn : Turn} {a b : Item} → IsFirst w turn a → IsFirst w turn b → a ≡ b
same-item first other =
    let both : Some first.posted ≡ Some other.posted = first.found ∙ sym other.found in
    let same : first.posted ≡ other.posted = cc both in
    sym first.is ∙ ap (λ (q : Posted). q.item) same ∙ other.is

pub called-there : {w : World} {turn : Turn} → IsCalled w turn → None ≡ first_due w turn → ⊥
called-there called none = let both : None ≡ Some called.first.posted = none ∙ sym called.first.found in absurd (cc both)

pub called-is : {w : World} {turn : Turn} {o : ℕ} → IsCalled w turn → IsFirst w turn (Deletion o) → ⊥
called-is {o = o} called first =
    let both : Deletion o ≡ Call called.object called.method called.arguments = same-item first called.first in
    absurd (cc both)

pub called-fits : {p : Loaded} {w : World} {turn : Turn} {o m : ℕ} {arguments : List Value} → IsCalled w turn → IsSoundWorld p w → IsFirst w turn (Call o m arguments) → ArgumentsFit p w.store.tree o m arguments
called-fits {w = w} {o = o} {m = m} {arguments = arguments} called sound first =
    let both : Call o m arguments ≡ Call called.object called.method called.arguments = same-item first called.first in
    let same : o ≡ called.object = cc both in
    let there = has-life w.store.tree o (ap (is_living w.store.tree) same ∙ called.lives) in
    living-fits there.2 (first-fits sound first)

-- the world without the first item stays sound
pub taken-sound : {p : Loaded} {v : World} (w : World) (entries : List Entry) (home number : ℕ) → v ≡ taking w entries home number → IsSoundWorld p w → IsSoundWorld p v
taken-sound {p} w entries home number e sound =
    let target : World = taking w entries home number in
    let Family : World → Type 0 = λ u. IsSoundWorld p u in
    subst Family (sym e) (record {
      program = sound.program;
      is = record {
        agree = sound.is.agree;
        joined = sound.is.joined;
        housed = housed-same w.store.tree w.store.tree w.store.loops.loops target.store.loops.loops (λ o. refl) (length-change home _ w.store.loops.loops) sound.is.housed;
        waiting = all-taken p w.store.tree home number w.store.loops.loops sound.is.waiting;
      };
      numbers = omega (arith, sound.numbers);
      room = omega (arith, sound.room);
    })

-- .. and its objects stay there
pub taken-fits : {p : Loaded} {v : World} {o m : ℕ} {arguments : List Value} (w : World) (entries : List Entry) (home number : ℕ) → v ≡ taking w entries home number → ArgumentsFit p w.store.tree o m arguments → ArgumentsFit p v.store.tree o m arguments
taken-fits {p} {o = o} {m = m} {arguments = arguments} w entries home number e fit =
    let Family : World → Type 0 = λ u. ArgumentsFit p u.store.tree o m arguments in
    subst Family (sym e) fit

-- .. what its methods do
pub taken-work : {p : Loaded} {v : World} {o m : ℕ} {work : Work} (w : World) (entries : List Entry) (home number : ℕ) → v ≡ taking w entries home number → DoesWork p w.store.tree o m work → DoesWork p v.store.tree o m work
taken-work {p} {o = o} {m = m} {work = work} w entries home number e does =
    let Family : World → Type 0 = λ u. DoesWork p u.store.tree o m work in
    subst Family (sym e) does
