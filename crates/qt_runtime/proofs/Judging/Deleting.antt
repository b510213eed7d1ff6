-- `delete`.
use Rattle.std.proofs.Common.{◌≡◌, ℕ, ◌<◌, List, [], ◌∷◌, Some, Result, Ok, MatchResult, sym, ap, ◌∙◌, subst, arith}
use Rattle.meta_model.specs.Loaded.{Loaded}
use Rattle.object_tree.specs.declared.life.Life.{Life}
use Rattle.prop_bindings.specs.Fits.{Agree}
use Rattle.script_lang.specs.declared.event.Event.TheVariants.{Delete}
use Rattle.trace_entries.specs.declared.fault.Answer.TheVariants as answer
use Rattle.trace_entries.specs.declared.fault.Fault.{Fault}
use Rattle.machine_state.specs.{declared.world.World.{World}, Accepting.{accepted}, State.{Activation, Destroy}, Worlds.{at}, code.Changing.{accepting}}
use Rattle.machine_rules.specs.{Natives.{NativeAnswers}, Judgement.{Numbered, gives, goes_on}, Reaches.{RunsTo}, code.Sound.{IsSoundWorld}}
use Rattle.object_machine.{specs.declared.not_accepted.NotAccepted.{NotAccepted}, specs.code.Judgement.{IsNotAccepted, IsLiving}, specs.Takes.{accepts}, specs.Events.{judged, living}, proofs.Judged.{then-ends}, proofs.Judging.Naming.{living-ok}, specs.Causes.{Halts}}
use Rattle.qt_runtime.{specs.code.Taking.{Took}, proofs.Taken.{idle, Ready, good-pushed}, proofs.Stopping.{took-run}}

-- what an event that is accepted leaves is sound
pub sound-accepted : {p : Loaded} {v : World} (w : World) → IsSoundWorld p w → v ≡ accepting w → IsSoundWorld p v
sound-accepted {p} w sound v_is =
    let Family : World → Type 0 = λ z. IsSoundWorld p z in
    subst Family (sym v_is) (record { program = sound.program; is = record { agree = sound.is.agree; joined = sound.is.joined; housed = sound.is.housed; waiting = sound.is.waiting }; numbers = omega (arith, sound.numbers); room = omega (arith, sound.room) })

module _ (p : Loaded) (w : World) (name : List ℕ) where
  -- the name isn't accepted
  pub not-deleted : {n : NotAccepted} → IsNotAccepted (living w.store.tree name) n → IsNotAccepted (judged p (at w []) (Delete name)) n
  not-deleted x = then-ends x

  module _ (o : Numbered Life) (lives : IsLiving w.store.tree name o) where
    abbrev deletion : List Activation
    deletion = Destroy (Some o.number) [] ∷ []

    deletes : judged p (at w []) (Delete name) (Ok (at (accepting w) deletion))
    deletes = goes_on o (living-ok o lives) gives

    -- the deletion begins, and is carried to its end, or stops on the way
    pub deleted : {natives : NativeAnswers} {d : ℕ} {m v : World} {r : Result (Unit {0}) Fault} → IsSoundWorld p w → Ready w → 0 < d → m ≡ accepting w → RunsTo p natives d [] m (Destroy (Some o.number) [] ∷ []) v [] r →
        MatchResult r (λ _. Took p natives d w (Delete name) v (Ok answer.Done)) (λ f. Halts p natives d w (Delete name ∷ []) f v)
    deleted {m = m} sound some room m_is ends =
        let Effect : World → Type 0 = λ z. judged p (at w []) (Delete name) (Ok (at z deletion)) in
        let Agrees : World → Type 0 = λ z. Agree p z.store.tree z.store.bindings in
        let effect : judged p (at w []) (Delete name) (Ok (at m deletion)) = subst Effect (sym m_is) deletes in
        took-run (Delete name) sound (accepts (idle w some.no_turn) effect) (good-pushed w m (subst Agrees (sym m_is) sound.is.agree) tt (omega (arith, room))) some.some
        (ap (λ (z : World). z.left) m_is) (ap (λ (z : World). z.turn) m_is ∙ some.no_turn) ends
