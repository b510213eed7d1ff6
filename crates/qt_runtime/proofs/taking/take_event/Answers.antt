use Rattle.std.proofs.Common.{sym, subst}
use Rattle.machine_state.specs.declared.world.World.{World}
use Rattle.qt_runtime.specs.code.Taking.{TookBy}
use Rattle.qt_runtime.proofs.taking.take_event.Goals as goal

-- a sweep leaves the world as it is
pub returns : goal.returns
returns g c =
    let After : World → Type 0 = λ w. TookBy g.N.Answering.gives c.args.interpreter.now c.args.event.now c.args.world.now w c.run_event-result.result in
    subst After (sym c.sweep.ensures) c.run_event-result.ensures
