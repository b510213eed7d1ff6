use Rattle.std.proofs.Common.{Ok, Err}
use Rattle.qt_runtime.proofs.Judging.Binding.{judged-bound, binding-stops, binding-refuses}
use Rattle.qt_runtime.proofs.Pushed.{installed, changed-run, sound-changed}
use Rattle.qt_runtime.proofs.Taken.{ready, took-refused-from, took-halted, took-stopped}
use Rattle.qt_runtime.proofs.events.bind.install.Goals as goal

pub run_update-requires-clause-sound : goal.run_update-requires-clause-sound
run_update-requires-clause-sound g c =
    let has = rw c.as_slice-sources.ensures at c.in-Ok.ensures.value in
    sound-changed c.args.world.now has.lines c.requires.may.keeps.sound c.in-Ok.ensures.agree has.binds.installs.objects has.gives

pub returns-in_err-run_update-in-Ok : goal.returns-in_err-run_update-in-Ok
returns-in_err-run_update-in-Ok g c = λ site target sources asks.
    let has = rw c.as_slice-sources.ensures at c.in-Ok.ensures.value in
    let ends = rw (c.nothing.ensures, c.as_slice.ensures) at c.in_err-run_update-in-Ok.ensures.ends in
    took-stopped _ _
    (changed-run {r = Err c.in_err-run_update-in-Ok.field-0.0} has.lines _ _ c.requires.may.keeps.sound c.in-Ok.ensures.agree c.requires.may.depth (ready c.requires.left c.requires.may.idle) (judged-bound asks _ has.binds.may (installed c.args.world.now has)) has.gives ends)
    c.from_residual.ensures.1

pub returns-in_ok-run_update-in-Ok : goal.returns-in_ok-run_update-in-Ok
returns-in_ok-run_update-in-Ok g c = λ site target sources asks.
    let has = rw c.as_slice-sources.ensures at c.in-Ok.ensures.value in
    let ends = rw (c.nothing.ensures, c.as_slice.ensures) at c.in_ok-run_update-in-Ok.ensures.ends in
    changed-run {r = Ok tt} has.lines _ _ c.requires.may.keeps.sound c.in-Ok.ensures.agree c.requires.may.depth (ready c.requires.left c.requires.may.idle) (judged-bound asks _ has.binds.may (installed c.args.world.now has)) has.gives ends

pub returns-in_err-refusal-in-Err : goal.returns-in_err-refusal-in-Err
returns-in_err-refusal-in-Err g c = λ site target sources asks.
    let un = rw c.as_slice-sources.ensures at c.in-Err.ensures.value in
    took-halted _ _ (binding-stops asks c.args.interpreter.now.context.depth (ready c.requires.left c.requires.may.idle) un.0 c.in_err-refusal-in-Err.ensures) un.1 c.from_residual-in_err-refusal-in-Err.ensures.1

pub returns-in_ok-refusal-in-Err : goal.returns-in_ok-refusal-in-Err
returns-in_ok-refusal-in-Err g c = λ site target sources asks.
    let un = rw c.as_slice-sources.ensures at c.in-Err.ensures.value in
    let judged = binding-refuses asks (ready c.requires.left c.requires.may.idle) un.0 c.in_ok-refusal-in-Err.ensures in
    took-refused-from c.in_ok-refusal-in-Err.refusal _ c.reject.result c.requires.may.keeps.sound.is.agree judged (ready c.requires.left c.requires.may.idle) un.1 c.reject.ensures
