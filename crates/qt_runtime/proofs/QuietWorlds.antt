-- What an event comes to after which nothing is going on.
use Rattle.std.proofs.Common.{◌≡◌, [], None, Result, Ok, Err, IsErrAnd, refl, sym, subst}
use Rattle.meta_model.specs.Loaded.{Loaded}
use Rattle.script_lang.specs.declared.event.Event.{Event}
use Rattle.trace_entries.specs.declared.fault.Answer.{Answer}
use Rattle.trace_entries.specs.declared.fault.Answer.TheVariants as answer
use Rattle.trace_entries.specs.declared.fault.Fault.{Fault}
use Rattle.trace_entries.specs.declared.fault.Fault.TheVariants.{Memory}
use Rattle.trace_entries.specs.declared.refusal.Refusal.{Refusal}
use Rattle.machine_state.specs.declared.world.World.{World}
use Rattle.machine_state.specs.State.{State}
use Rattle.machine_state.specs.Worlds.{at, after}
use Rattle.machine_state.specs.code.Changing.{Rejects}
use Rattle.prop_bindings.specs.Fits.{Agree}
use Rattle.object_machine.specs.declared.not_accepted.NotAccepted.{NotAccepted}
use Rattle.object_machine.specs.code.Judgement.{IsNotAccepted}
use Rattle.object_machine.specs.code.Judgement as not_accepted
use Rattle.qt_runtime.specs.code.Quiet.{IsRefused, QuietCases, Stops, TookQuietly, short}
use Rattle.object_machine.specs.Events.{judged}

-- the event is accepted, and nothing is going on after it
pub quietly-done : {p : Loaded} {w v : World} (t : State) (e : Event) → judged p (at w []) e (Ok t) → at (after w t) [] ≡ t → Agree p t.objects t.bindings → t.turn ≡ None → v ≡ after w t → TookQuietly p w e v (Ok answer.Done)
quietly-done t e judged empty agree no_turn is = record { cases = record { state = t; accepted = judged; empty = empty; agree = agree; no_turn = no_turn; gives = is } }

-- the run stops, behind a `?`, and nothing has changed
pub quietly-stopped : {p : Loaded} {w v : World} {f : Fault} (e : Event) (r : Result Answer Fault) → Stops p w e f → v ≡ w → IsErrAnd r (λ y. y ≡ f) → TookQuietly p w e v r
quietly-stopped e (Ok a) stops same is = absurd is
quietly-stopped {p} {w} e (Err y) stops same is = record { cases = (subst (Stops p w e) (sym is) stops, same) }

pub quietly-unchanged : {p : Loaded} {w v : World} {f : Fault} (e : Event) (r : Result Answer Fault) → (f ≡ Memory) × (v ≡ w) → IsErrAnd r (λ y. y ≡ f) → TookQuietly p w e v r
quietly-unchanged {p} {w} e r same is = quietly-stopped e r (subst (Stops p w e) (sym same.0) short) same.1 is

pub quietly-short : {p : Loaded} {w : World} (e : Event) (r : Result Answer Fault) → IsErrAnd r (λ y. y ≡ Memory) → TookQuietly p w e w r
quietly-short e r is = quietly-stopped e r short refl is

-- the event is refused
pub quietly-refused : {p : Loaded} {w v : World} (k : Refusal) (e : Event) (r : Result Answer Fault) → judged p (at w []) e (Err k) → Rejects w k v r → TookQuietly p w e v r
quietly-refused {p} {w} {v} k e (Ok a) judged x =
    let Answers : Answer → Type 0 = λ b. QuietCases p w e v (Ok b) in
    record { cases = subst Answers (sym x.0) (record { refusal = k; numbered = refl; why = judged; line = x.1 }) }
quietly-refused {p} {w} k e (Err f) judged x = record { cases = (subst (Stops p w e) (sym x.0) short, x.1) }

-- .. from a world in which nothing had changed
pub quietly-refused-from : {p : Loaded} {w u v : World} (k : Refusal) (e : Event) (r : Result Answer Fault) → judged p (at w []) e (Err k) → u ≡ w → Rejects u k v r → TookQuietly p w e v r
quietly-refused-from {v = v} k e r judged same x =
    let From : World → Type 0 = λ z. Rejects z k v r in
    quietly-refused k e r judged (subst From same x)

-- the event isn't accepted
pub quietly-not-accepted : {p : Loaded} {w v : World} {n : NotAccepted} (e : Event) (r : Result Answer Fault) → IsNotAccepted (judged p (at w []) e) n → IsRefused w n v r → TookQuietly p w e v r
quietly-not-accepted e r (not_accepted.refused {k = k} not) x = quietly-refused k e r not x
quietly-not-accepted {p} {w} e r not_accepted.short x =
    let Answers : Result Answer Fault → Type 0 = λ a. TookQuietly p w e w a in
    let In : World → Type 0 = λ u. TookQuietly p w e u r in
    subst In (sym x.1) (subst Answers (sym x.0) (quietly-short e (Err Memory) refl))
