use Rattle.std.proofs.Common.{[], refl}
use Rattle.object_tree.specs.declared.life.Life.{Life}
use Rattle.object_tree.specs.Objects.{change_life, blocked}
use Rattle.machine_state.specs.Accepting.{accepted}
use Rattle.machine_state.specs.Worlds.{at}
use Rattle.machine_rules.specs.Judgement.{Numbered}
use Rattle.qt_runtime.proofs.QuietJudging.Blocking.{not-blocking, blocks}
use Rattle.object_machine.proofs.Changes.{agree-blocked}
use Rattle.qt_runtime.proofs.QuietWorlds.{quietly-done, quietly-unchanged, quietly-not-accepted}
use Rattle.qt_runtime.proofs.quiet.events.block.block.Goals as goal

pub returns-in-Err : goal.returns-in-Err
returns-in-Err c =
    quietly-not-accepted _ c.refuse.result (not-blocking c.args.context.now.meta c.args.world.now c.args.name.now c.args.on c.in-Err.ensures.refused) c.refuse.ensures

pub returns-in_err-accept_block : goal.returns-in_err-accept_block
returns-in_err-accept_block c = quietly-unchanged _ _ c.in_err-accept_block.ensures c.from_residual.ensures.1

pub returns : goal.returns
returns c =
    let o : Numbered Life = record { number = c.in-Ok.number; it = c.in-Ok.field-0-1.now } in
    quietly-done (record (accepted (at c.args.world.now [])) { objects = change_life c.in-Ok.number (blocked c.args.on) c.args.world.now.store.tree }) _ (blocks c.args.context.now.meta c.args.world.now c.args.name.now c.args.on o c.in-Ok.ensures.found) refl
    (agree-blocked c.in-Ok.number c.args.on c.requires.keeps.sound.is.agree) c.requires.idle (rw c.new-object.ensures at c.in_ok-accept_block.ensures)
