use Rattle.std.proofs.Common.{[], refl}
use Rattle.event_loops.specs.Queues.{with_loop}
use Rattle.machine_state.specs.Accepting.{accepted}
use Rattle.machine_state.specs.Worlds.{at}
use Rattle.trace_entries.specs.declared.refusal.Refusal.TheVariants.{LoopExists}
use Rattle.qt_runtime.proofs.QuietJudging.Looping.{loop-exists, loop-added}
use Rattle.qt_runtime.proofs.QuietWorlds.{quietly-done, quietly-refused, quietly-unchanged}
use Rattle.qt_runtime.proofs.quiet.events.add_loop.add_loop.Goals as goal

pub returns-in-Some : goal.returns-in-Some
returns-in-Some c =
    quietly-refused LoopExists _ c.reject.result (loop-exists c.args.context.now.meta c.args.world.now c.args.name.now _ c.in-Some.ensures.value) c.reject.ensures

pub returns-in_err-accept_loop-in-None : goal.returns-in_err-accept_loop-in-None
returns-in_err-accept_loop-in-None c = quietly-unchanged _ _ c.in_err-accept_loop-in-None.ensures c.from_residual.ensures.1

pub returns-in_ok-accept_loop-in-None : goal.returns-in_ok-accept_loop-in-None
returns-in_ok-accept_loop-in-None c =
    quietly-done (record (accepted (at c.args.world.now [])) { queues = with_loop c.args.name.now c.args.world.now.store.loops }) _ (loop-added c.args.context.now.meta c.args.world.now c.args.name.now c.in-None.ensures.value) refl
    c.requires.keeps.sound.is.agree c.requires.idle c.in_ok-accept_loop-in-None.ensures
