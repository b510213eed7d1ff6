use Rattle.std.proofs.Common.{Ok, Err}
use Rattle.trace_entries.specs.declared.refusal.Refusal.TheVariants.{NoLoop}
use Rattle.qt_runtime.proofs.Judging.Turning.{no-loop, turned}
use Rattle.qt_runtime.proofs.Pushed.{sound-turn}
use Rattle.qt_runtime.proofs.Taken.{ready, took-refused, took-unchanged, took-stopped}
use Rattle.qt_runtime.proofs.events.turn.turn.Goals as goal

pub returns-in_default : goal.returns-in_default
returns-in_default g c =
    took-refused NoLoop _ c.reject.result c.requires.may.keeps.sound.is.agree (no-loop c.args.interpreter.now.context.meta c.args.world.now c.args.name.now c.in_default.ensures.value) (ready c.requires.left c.requires.may.idle) c.reject.ensures

pub returns-in_err-accept_turn : goal.returns-in_err-accept_turn
returns-in_err-accept_turn g c = took-unchanged _ _ (ready c.requires.left c.requires.may.idle) c.in_err-accept_turn.ensures c.from_residual.ensures.1

pub run_turn-requires-clause-sound : goal.run_turn-requires-clause-sound
run_turn-requires-clause-sound g c = sound-turn c.args.world.now c.in-Some.home c.requires.may.keeps.sound c.in_ok-accept_turn.ensures

pub returns-in_err-run_turn : goal.returns-in_err-run_turn
returns-in_err-run_turn g c =
    took-stopped _ _
    (turned c.args.interpreter.now.context.meta c.args.world.now c.args.name.now {r = Err c.in_err-run_turn.field-0.0} c.in-Some.ensures.named c.requires.may.keeps.sound (ready c.requires.left c.requires.may.idle) c.in_ok-accept_turn.ensures c.in_err-run_turn.ensures.ends tt)
    c.from_residual-in_err-run_turn.ensures.1

pub returns : goal.returns
returns g c =
    turned c.args.interpreter.now.context.meta c.args.world.now c.args.name.now {r = Ok tt} c.in-Some.ensures.named c.requires.may.keeps.sound (ready c.requires.left c.requires.may.idle) c.in_ok-accept_turn.ensures c.in_ok-run_turn.ensures.ends c.in_ok-run_turn.ensures.over
