-- `turn`.
use Rattle.std.proofs.Common.{ℕ, List, [], None, Result, Ok, Err, OnOk, MatchResult, ◌≡◌, sym, ap, subst, ◌∷◌}
use Rattle.meta_model.specs.Loaded.{Loaded}
use Rattle.event_loops.specs.Queues.{IsNamed, IsTaken}
use Rattle.script_lang.specs.declared.event.Event.TheVariants.{Turn}
use Rattle.trace_entries.specs.declared.fault.Answer.TheVariants as answer
use Rattle.trace_entries.specs.{declared.fault.Fault.{Fault}, declared.refusal.Refusal.TheVariants.{NoLoop}}
use Rattle.machine_state.specs.{declared.world.World.{World}, Accepting.{accepted}, State.{State}, Worlds.{at, begun_turn}, code.Changing.{accepting_turn}}
use Rattle.prop_bindings.specs.Fits.{Agree}
use Rattle.machine_rules.specs.{Natives.{NativeAnswers}, Reaches.{RunsTo}, Judgement.{found, missing, gives, goes_on, ends}, code.Sound.{IsSoundWorld}}
use Rattle.object_machine.specs.{Events.{judged}, Takes.{accepts}, Causes.{Halts}}
use Rattle.qt_runtime.{specs.code.Taking.{Took}, proofs.Taken.{idle, Ready, good-quiet}, proofs.Stopping.{took-turn}}

module _ (p : Loaded) (w : World) (name : List ℕ) where
  pub no-loop : (¬ IsTaken w.store.loops.loops name) → judged p (at w []) (Turn name) (Err NoLoop)
  no-loop none = ends (missing (λ home is. none (home, is.has)))

  -- a turn begins, and is carried to its end, or stops on the way
  pub turned : {natives : NativeAnswers} {d home : ℕ} {v u : World} {r : Result (Unit {0}) Fault} → IsNamed w.store.loops.loops name home → IsSoundWorld p w → Ready w → v ≡ accepting_turn w home → RunsTo p natives d [] v [] u [] r → OnOk r (u.turn ≡ None) →
      MatchResult r (λ _. Took p natives d w (Turn name) u (Ok answer.Done)) (λ f. Halts p natives d w (Turn name ∷ []) f u)
  turned {home = home} {v = v} is sound some v_is went over =
      let target : State = begun_turn (accepted (at w [])) home in
      let begins : judged p (at w []) (Turn name) (Ok target) = goes_on home (found is) gives in
      let Effect : World → Type 0 = λ z. judged p (at w []) (Turn name) (Ok (at z [])) in
      let Agrees : World → Type 0 = λ z. Agree p z.store.tree z.store.bindings in
      let effect : judged p (at w []) (Turn name) (Ok (at v [])) = subst Effect (sym v_is) begins in
      took-turn (Turn name) sound (accepts (idle w some.no_turn) effect) (good-quiet w v (subst Agrees (sym v_is) sound.is.agree)) some.some (ap (λ (z : World). z.left) v_is) went over
