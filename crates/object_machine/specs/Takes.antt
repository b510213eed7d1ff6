-- What an event comes to where nothing is going on (docs/machine.md, "Events").
use Rattle.std.specs.Prelude.{◌≡◌, ℕ, [], Ok, Err}
use Rattle.meta_model.specs.Loaded.{Loaded}
use Rattle.script_lang.specs.declared.event.Event.{Event}
use Rattle.trace_entries.specs.declared.fault.Answer.{Answer}
use Rattle.trace_entries.specs.declared.fault.Answer.TheVariants.{Done, Refused}
use Rattle.trace_entries.specs.declared.refusal.Refusal.{Refusal}
use Rattle.trace_entries.specs.Refusals.{refusal_number}
use Rattle.machine_state.specs.Accepting.{refused}
use Rattle.machine_state.specs.State.{State, IsIdle}
use Rattle.machine_state.specs.Worlds.{at, after}
use Rattle.machine_state.specs.declared.world.World.{World}
use Rattle.object_machine.specs.Events.{judged}

-- The event is taken, where nothing is going on, with this answer: it is accepted, or refused for the reason of this number,
-- and then only its line is written.
pub data Takes (p : Loaded) (e : Event) : Answer → State → State → Type 0 where
  accepts : {s t : State} → IsIdle s → judged p s e (Ok t) → Takes p e Done s t
  refuses : {s : State} (r : Refusal) → IsIdle s → judged p s e (Err r) → Takes p e (Refused (refusal_number r)) s (refused s r)

-- In a world, the event is refused for the reason of this number, and only its line is written.
pub record IsRefusedAs (p : Loaded) (w : World) (e : Event) (n : ℕ) (v : World) : Type 0 where
  pub refusal : Refusal
  pub numbered : n ≡ refusal_number refusal
  pub why : judged p (at w []) e (Err refusal)
  pub line : v ≡ after w (refused (at w []) refusal)
