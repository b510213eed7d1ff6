use Rattle.object_machine.proofs.Judging.Binding.{not-bindable}
use Rattle.qt_runtime.proofs.Taken.{took-not-accepted, ready}
use Rattle.qt_runtime.proofs.events.bind.bind.Goals as goal

pub returns-in-Err : goal.returns-in-Err
returns-in-Err g c =
    took-not-accepted _ c.refuse.result c.requires.may.keeps.sound.is.agree (not-bindable c.args.interpreter.now.context.meta c.args.world.now c.args.site.now c.args.target.now c.args.sources.now c.in-Err.ensures.refused) (ready c.requires.left c.requires.may.idle) c.refuse.ensures

pub returns-in-Ok : goal.returns-in-Ok
returns-in-Ok g c = c.install.ensures c.args.site.now c.args.target.now c.args.sources.now c.in-Ok.ensures.asked
