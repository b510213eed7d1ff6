use Rattle.qt_runtime.proofs.QuietJudging.Creating.{no-home, name-taken, no-such-class}
use Rattle.qt_runtime.proofs.quiet.events.create.refusal_without_loop.Goals as goal

pub returns-in-Some : goal.returns-in-Some
returns-in-Some c = λ home none. name-taken c.args.context.now.meta c.args.world.now c.args.name.now c.args.class.now home c.in-Some.ensures

pub returns-in-Some-class : goal.returns-in-Some-class
returns-in-Some-class c = λ home none. no-home c.args.context.now.meta c.args.world.now c.args.name.now c.args.class.now home c.in-None.ensures c.in-Some-class.ensures.value none

pub returns-in-None-class : goal.returns-in-None-class
returns-in-None-class c = λ home none. no-such-class c.args.context.now.meta c.args.world.now c.args.name.now c.args.class.now home c.in-None.ensures c.in-None-class.ensures.value
