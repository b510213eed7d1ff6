use Rattle.std.proofs.Common.{[]}
use Rattle.machine_state.specs.Worlds.{at}
use Rattle.object_machine.proofs.Judging.Invoking.{not-invoking}
use Rattle.qt_runtime.proofs.Taken.{took-not-accepted, ready}
use Rattle.qt_runtime.proofs.events.invoke.invoke.Goals as goal

pub returns-in-Err : goal.returns-in-Err
returns-in-Err g c = took-not-accepted _ c.refuse.result c.requires.may.keeps.sound.is.agree (not-invoking c.args.interpreter.now.context.meta (at c.args.world.now []) c.args.invocation c.args.name.now c.args.called.now c.args.inputs.now c.in-Err.ensures.refused) (ready c.requires.left c.requires.may.idle) c.refuse.ensures
