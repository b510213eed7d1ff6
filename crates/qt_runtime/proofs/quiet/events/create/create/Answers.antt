use Rattle.std.proofs.Common.{[], refl}
use Rattle.machine_state.specs.Accepting.{accepted}
use Rattle.machine_state.specs.Worlds.{at}
use Rattle.prop_bindings.proofs.Agreeing.{created_agree}
use Rattle.qt_runtime.proofs.QuietJudging.Creating.{created, creation-stops, creation-refuses}
use Rattle.qt_runtime.proofs.QuietWorlds.{quietly-done, quietly-stopped, quietly-refused, quietly-refused-from}
use Rattle.qt_runtime.proofs.quiet.events.create.create.Goals as goal

pub returns-in-Ok : goal.returns-in-Ok
returns-in-Ok c =
    quietly-done (record (accepted (at c.args.world.now [])) { objects = c.accept_creation.new.world.store.tree }) _ (created c.args.context.now.meta c.args.world.now c.args.name.now c.args.class.now c.args.home.now c.in-Some.home c.in-Some.ensures c.in-Ok.ensures.objects) refl
    (created_agree c.args.context.now.meta c.args.world.now.store.bindings c.args.world.now.store.tree _ c.args.name.now c.args.class.now c.in-Some.home _ c.requires.keeps.sound.is.agree c.in-Ok.ensures.objects) c.requires.idle c.in-Ok.ensures.ok

pub returns-in_err-refusal-in-Err : goal.returns-in_err-refusal-in-Err
returns-in_err-refusal-in-Err c =
    quietly-stopped _ c.from_residual.result (creation-stops c.args.context.now.meta c.args.world.now c.args.name.now c.args.class.now c.args.home.now c.in-Some.home c.in-Some.ensures c.in-Err.ensures.objects.0 c.in_err-refusal-in-Err.ensures) c.in-Err.ensures.err c.from_residual.ensures.1

pub returns-in_ok-refusal-in-Err : goal.returns-in_ok-refusal-in-Err
returns-in_ok-refusal-in-Err c =
    quietly-refused-from c.in_ok-refusal-in-Err.refusal _ c.reject-in-Err.result (creation-refuses c.args.context.now.meta c.args.world.now c.args.name.now c.args.class.now c.args.home.now c.in-Some.home c.in-Some.ensures c.in-Err.ensures.objects.0 c.in_ok-refusal-in-Err.ensures) c.in-Err.ensures.err c.reject-in-Err.ensures

pub returns-in_default : goal.returns-in_default
returns-in_default c =
    quietly-refused c.refusal_without_loop-refusal.result _ c.reject.result (c.refusal_without_loop-refusal.ensures _ c.in_default.ensures) c.reject.ensures
