-- What every machine keeps (docs/machine.md, "What every run keeps").
use Rattle.std.specs.Prelude.{◌≡◌, ℕ, ◌<◌, Bool, false, None}
use Rattle.meta_model.specs.Loaded.{Loaded}
use Rattle.machine_state.specs.declared.world.World.{World}
use Rattle.qt_runtime.specs.code.Quiet.{WorldInvariant}

pub record MachineInvariant (p : Loaded) (depth : ℕ) (w : World) (stopped : Bool) : Type 0 where
  pub room : 0 < depth
  -- unless it has stopped, it keeps its world, and no turn goes on
  pub keeps : stopped ≡ false → WorldInvariant p w
  pub idle : stopped ≡ false → w.turn ≡ None
