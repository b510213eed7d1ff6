use Rattle.std.proofs.Common.{Ok, Err}
use Rattle.qt_runtime.proofs.Pushed.{began, barred-short, sound-begun}
use Rattle.qt_runtime.proofs.Taken.{took-unchanged, took-stopped, ready}
use Rattle.qt_runtime.proofs.events.invoke.begin.Goals as goal

pub returns-in_err-line : goal.returns-in_err-line
returns-in_err-line g c = λ e asks. barred-short e _ c.requires.may.depth (ready c.requires.left c.requires.may.idle) c.in_err-line.ensures.err c.from_residual.ensures.1

pub returns-in_err-accept_with : goal.returns-in_err-accept_with
returns-in_err-accept_with g c = λ e asks. took-unchanged e _ (ready c.requires.left c.requires.may.idle) c.in_err-accept_with.ensures c.from_residual-in_err-accept_with.ensures.1

pub run_callee-requires-clause-sound : goal.run_callee-requires-clause-sound
run_callee-requires-clause-sound g c = sound-begun c.args.world.now _ c.requires.may.keeps.sound c.in_ok-accept_with.ensures

pub returns-in_err-run_callee : goal.returns-in_err-run_callee
returns-in_err-run_callee g c = λ e asks.
    let ends = rw c.nothing.ensures at c.in_err-run_callee.ensures.ends in
    took-stopped e _
    (began {r = Err c.in_err-run_callee.field-0.0} e c.requires.may.keeps.sound c.requires.fit (ready c.requires.left c.requires.may.idle) asks c.in_ok-line.ensures.ok c.in_ok-accept_with.ensures ends)
    c.from_residual-in_err-run_callee.ensures.1

pub returns : goal.returns
returns g c = λ e asks.
    let ends = rw c.nothing.ensures at c.in_ok-run_callee.ensures.ends in
    began {r = Ok tt} e c.requires.may.keeps.sound c.requires.fit (ready c.requires.left c.requires.may.idle) asks c.in_ok-line.ensures.ok c.in_ok-accept_with.ensures ends
