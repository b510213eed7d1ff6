use Rattle.std.proofs.Common.{Ok, Err}
use Rattle.qt_runtime.proofs.Pushed.{judged-written, changed-run, sound-changed}
use Rattle.qt_runtime.proofs.Taken.{took-stopped, took-unchanged, ready}
use Rattle.qt_runtime.proofs.events.assign.write.Goals as goal

pub returns-in_err-changed : goal.returns-in_err-changed
returns-in_err-changed g c = λ e writes. took-unchanged e _ (ready c.requires.left c.requires.may.idle) c.in_err-changed.ensures.value c.from_residual.ensures.1

pub run_update-requires-clause-sound : goal.run_update-requires-clause-sound
run_update-requires-clause-sound g c =
    let has = c.in_ok-changed.ensures.value in
    sound-changed c.args.world.now has.lines c.requires.may.keeps.sound c.in_ok-changed.ensures.agree has.writes.objects has.gives

pub returns-in_err-run_update : goal.returns-in_err-run_update
returns-in_err-run_update g c = λ e writes.
    let has = c.in_ok-changed.ensures.value in
    let ends = rw (c.nothing.ensures, c.as_slice.ensures) at c.in_err-run_update.ensures.ends in
    took-stopped e _
    (changed-run {r = Err c.in_err-run_update.field-0.0} has.lines _ e c.requires.may.keeps.sound c.in_ok-changed.ensures.agree c.requires.may.depth (ready c.requires.left c.requires.may.idle) (judged-written c.args.world.now e writes c.requires.fits has) has.gives ends)
    c.from_residual-in_err-run_update.ensures.1

pub returns : goal.returns
returns g c = λ e writes.
    let has = c.in_ok-changed.ensures.value in
    let ends = rw (c.nothing.ensures, c.as_slice.ensures) at c.in_ok-run_update.ensures.ends in
    changed-run {r = Ok tt} has.lines _ e c.requires.may.keeps.sound c.in_ok-changed.ensures.agree c.requires.may.depth (ready c.requires.left c.requires.may.idle) (judged-written c.args.world.now e writes c.requires.fits has) has.gives ends
