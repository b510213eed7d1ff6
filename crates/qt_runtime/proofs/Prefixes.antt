-- A machine that has let go what it had written down goes on as it would have.
use Rattle.std.proofs.Common.{ℕ, Bool, List}
use Rattle.meta_model.specs.Loaded.{Loaded}
use Rattle.trace_entries.specs.declared.entry.Entry.{Entry}
use Rattle.machine_state.specs.declared.world.World.{World}
use Rattle.qt_runtime.specs.code.Invariant.{MachineInvariant}

-- whatever it has written down
pub invariant-with : {p : Loaded} {depth : ℕ} {w : World} {stopped : Bool} (trace : List Entry) → MachineInvariant p depth w stopped → MachineInvariant p depth (record w { trace = trace }) stopped
invariant-with trace x = record {
  room = x.room;
  keeps = λ goes.
      let kept = x.keeps goes in
      record {
        sound = record { program = kept.sound.program; is = kept.sound.is; numbers = kept.sound.numbers; room = kept.sound.room };
        events = kept.events;
      };
  idle = x.idle;
}
