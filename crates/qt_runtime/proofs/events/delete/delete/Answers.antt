use Rattle.std.proofs.Common.{Ok, Err}
use Rattle.object_tree.specs.declared.life.Life.{Life}
use Rattle.machine_rules.specs.Judgement.{Numbered}
use Rattle.qt_runtime.proofs.Judging.Deleting.{not-deleted, deleted, sound-accepted}
use Rattle.qt_runtime.proofs.Taken.{took-unchanged, took-stopped, took-not-accepted, ready}
use Rattle.qt_runtime.proofs.events.delete.delete.Goals as goal

pub returns-in-Err : goal.returns-in-Err
returns-in-Err g c =
    took-not-accepted _ c.refuse.result c.requires.may.keeps.sound.is.agree (not-deleted c.args.interpreter.now.context.meta c.args.world.now c.args.name.now c.in-Err.ensures.refused) (ready c.requires.left c.requires.may.idle) c.refuse.ensures

pub returns-in_err-accept : goal.returns-in_err-accept
returns-in_err-accept g c = took-unchanged _ _ (ready c.requires.left c.requires.may.idle) c.in_err-accept.ensures c.from_residual.ensures.1

pub run_deletion-requires-clause-sound : goal.run_deletion-requires-clause-sound
run_deletion-requires-clause-sound g c = sound-accepted c.args.world.now c.requires.may.keeps.sound c.in_ok-accept.ensures

pub returns-in_err-run_deletion : goal.returns-in_err-run_deletion
returns-in_err-run_deletion g c =
    let o : Numbered Life = record { number = c.in-Ok.number; it = c.in-Ok.field-0-1.now } in
    let ends = rw (c.nothing-below.ensures, c.new-object.ensures) at c.in_err-run_deletion.ensures.ends in
    took-stopped _ _
    (deleted c.args.interpreter.now.context.meta c.args.world.now c.args.name.now o c.in-Ok.ensures.found {r = Err c.in_err-run_deletion.field-0.0} c.requires.may.keeps.sound (ready c.requires.left c.requires.may.idle) c.requires.may.depth c.in_ok-accept.ensures ends)
    c.from_residual-in_err-run_deletion.ensures.1

pub returns : goal.returns
returns g c =
    let o : Numbered Life = record { number = c.in-Ok.number; it = c.in-Ok.field-0-1.now } in
    let ends = rw (c.nothing-below.ensures, c.new-object.ensures) at c.in_ok-run_deletion.ensures.ends in
    deleted c.args.interpreter.now.context.meta c.args.world.now c.args.name.now o c.in-Ok.ensures.found {r = Ok tt} c.requires.may.keeps.sound (ready c.requires.left c.requires.may.idle) c.requires.may.depth c.in_ok-accept.ensures ends
