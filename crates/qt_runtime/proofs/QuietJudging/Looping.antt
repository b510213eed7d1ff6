-- `loop`.
use Rattle.std.proofs.Common.{ℕ, List, [], Ok, Err}
use Rattle.meta_model.specs.Loaded.{Loaded}
use Rattle.event_loops.specs.Queues.{IsTaken, HasName, with_loop}
use Rattle.script_lang.specs.declared.event.Event.TheVariants.{Loop}
use Rattle.trace_entries.specs.declared.refusal.Refusal.TheVariants.{LoopExists}
use Rattle.machine_state.specs.declared.world.World.{World}
use Rattle.machine_state.specs.Accepting.{accepted}
use Rattle.machine_state.specs.Worlds.{at}
use Rattle.machine_rules.specs.Judgement.{holds, fails, gives, goes_on, ends}
use Rattle.object_machine.specs.Events.{judged}

module _ (p : Loaded) (w : World) (name : List ℕ) where
  pub loop-exists : (home : ℕ) → HasName w.store.loops.loops name home → judged p (at w []) (Loop name) (Err LoopExists)
  loop-exists home has = ends (fails (λ free. free (home, has)))

  pub loop-added : (¬ IsTaken w.store.loops.loops name) → judged p (at w []) (Loop name) (Ok (record (accepted (at w [])) { queues = with_loop name w.store.loops }))
  loop-added free = goes_on tt (holds free) gives
