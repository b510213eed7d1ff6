use Rattle.std.proofs.Common.{[], refl}
use Rattle.object_tree.specs.declared.life.Life.{Life}
use Rattle.machine_state.specs.Accepting.{accepted}
use Rattle.machine_state.specs.Worlds.{at, with_store}
use Rattle.trace_entries.specs.declared.refusal.Refusal.TheVariants.{NoLoop}
use Rattle.machine_rules.specs.Judgement.{Numbered}
use Rattle.qt_runtime.proofs.QuietJudging.Moving.{not-mover, no-such-loop, moves-so, moving-stops, moving-refuses}
use Rattle.qt_runtime.proofs.QuietWorlds.{quietly-done, quietly-stopped, quietly-refused, quietly-refused-from, quietly-not-accepted}
use Rattle.qt_runtime.proofs.quiet.events.move_object.move_object.Goals as goal

pub returns-in-Err : goal.returns-in-Err
returns-in-Err c =
    quietly-not-accepted _ c.refuse.result (not-mover c.args.context.now.meta c.args.world.now c.args.name.now c.args.event_loop.now c.in-Err.ensures.refused) c.refuse.ensures

pub returns-in_default : goal.returns-in_default
returns-in_default c =
    let o : Numbered Life = record { number = c.in-Ok.number; it = c.in-Ok.field-0-1.now } in
    quietly-refused NoLoop _ c.reject.result (no-such-loop c.args.context.now.meta c.args.world.now c.args.name.now c.args.event_loop.now o c.in-Ok.ensures.found c.in_default.ensures.value) c.reject.ensures

pub accept_move-requires-clause-lives : goal.accept_move-requires-clause-lives
accept_move-requires-clause-lives c = rw (c.new-object.ensures, c.in-Ok.ensures.found.lives) refl

pub returns-in-Ok-accept_move : goal.returns-in-Ok-accept_move
returns-in-Ok-accept_move c =
    let o : Numbered Life = record { number = c.in-Ok.number; it = c.in-Ok.field-0-1.now } in
    let is = rw c.new-object.ensures at c.in-Ok-accept_move.ensures.stores in
    quietly-done (with_store (accepted (at c.args.world.now [])) c.accept_move.new.world.store) _
    (moves-so c.args.context.now.meta c.args.world.now c.args.name.now c.args.event_loop.now o c.in-Ok.ensures.found c.in-Some.home c.in-Some.ensures.named is) refl
    (c.in-Ok-accept_move.ensures.agree c.args.context.now.meta c.requires.keeps.sound.is.agree) c.requires.idle c.in-Ok-accept_move.ensures.ok

pub returns-in_err-refusal-in-Err-accept_move : goal.returns-in_err-refusal-in-Err-accept_move
returns-in_err-refusal-in-Err-accept_move c =
    let o : Numbered Life = record { number = c.in-Ok.number; it = c.in-Ok.field-0-1.now } in
    let not = rw c.new-object.ensures at c.in-Err-accept_move.ensures.stores in
    quietly-stopped _ c.from_residual.result
    (moving-stops c.args.context.now.meta c.args.world.now c.args.name.now c.args.event_loop.now o c.in-Ok.ensures.found c.in-Some.home c.in-Some.ensures.named not.0 c.in_err-refusal-in-Err-accept_move.ensures)
    c.in-Err-accept_move.ensures.err c.from_residual.ensures.1

pub returns-in_ok-refusal-in-Err-accept_move : goal.returns-in_ok-refusal-in-Err-accept_move
returns-in_ok-refusal-in-Err-accept_move c =
    let o : Numbered Life = record { number = c.in-Ok.number; it = c.in-Ok.field-0-1.now } in
    let not = rw c.new-object.ensures at c.in-Err-accept_move.ensures.stores in
    quietly-refused-from c.in_ok-refusal-in-Err-accept_move.refusal _ c.reject-in-Err-accept_move.result
    (moving-refuses c.args.context.now.meta c.args.world.now c.args.name.now c.args.event_loop.now o c.in-Ok.ensures.found c.in-Some.home c.in-Some.ensures.named not.0 c.in_ok-refusal-in-Err-accept_move.ensures)
    c.in-Err-accept_move.ensures.err c.reject-in-Err-accept_move.ensures
