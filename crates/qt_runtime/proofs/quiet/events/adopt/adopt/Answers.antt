use Rattle.std.proofs.Common.{[], refl}
use Rattle.object_tree.specs.declared.life.Life.{Life}
use Rattle.machine_state.specs.Accepting.{accepted}
use Rattle.machine_state.specs.Worlds.{at}
use Rattle.machine_rules.specs.Judgement.{Numbered}
use Rattle.qt_runtime.proofs.QuietJudging.Adopting.{no-parent, no-child, adopts, adoption-stops, adoption-refuses}
use Rattle.object_machine.proofs.Changes.{agree-adopted}
use Rattle.object_machine.proofs.Judging.Naming.{living-object}
use Rattle.qt_runtime.proofs.QuietWorlds.{quietly-done, quietly-stopped, quietly-refused-from, quietly-not-accepted}
use Rattle.qt_runtime.proofs.quiet.events.adopt.adopt.Goals as goal

pub returns-in-Err : goal.returns-in-Err
returns-in-Err c =
    quietly-not-accepted _ c.refuse.result (no-parent c.args.context.now.meta c.args.world.now c.args.parent.now c.args.child.now c.in-Err.ensures.refused) c.refuse.ensures

pub returns-in-Err-find_living : goal.returns-in-Err-find_living
returns-in-Err-find_living c =
    let a : Numbered Life = record { number = c.in-Ok.number; it = c.in-Ok.field-0-1.now } in
    quietly-not-accepted _ c.refuse-in-Err-find_living.result
    (no-child c.args.context.now.meta c.args.world.now c.args.parent.now c.args.child.now a c.in-Ok.ensures.found c.in-Err-find_living.ensures.refused) c.refuse-in-Err-find_living.ensures

pub returns-in-Ok-accept_adoption : goal.returns-in-Ok-accept_adoption
returns-in-Ok-accept_adoption c =
    let a : Numbered Life = record { number = c.in-Ok.number; it = c.in-Ok.field-0-1.now } in
    let b : Numbered Life = record { number = c.in-Ok-find_living.number; it = c.in-Ok-find_living.field-0-1.now } in
    let above = c.in-Ok.ensures.found in
    let below = c.in-Ok-find_living.ensures.found in
    let owner = living-object a above in
    let owned = living-object b below in
    let is = (rw (c.new-parent.ensures, c.new-child.ensures) at c.in-Ok-accept_adoption.ensures.objects) owner.0 owned.0 a.it b.it owner.1 owned.1 in
    quietly-done (record (accepted (at c.args.world.now [])) { objects = c.accept_adoption.new.world.store.tree }) _ (adopts c.args.context.now.meta c.args.world.now c.args.parent.now c.args.child.now a above b below is.0 is.1) refl
    (agree-adopted c.requires.keeps.sound.is.agree is.1) c.requires.idle c.in-Ok-accept_adoption.ensures.ok

pub returns-in_err-refusal-in-Err-accept_adoption : goal.returns-in_err-refusal-in-Err-accept_adoption
returns-in_err-refusal-in-Err-accept_adoption c =
    let a : Numbered Life = record { number = c.in-Ok.number; it = c.in-Ok.field-0-1.now } in
    let b : Numbered Life = record { number = c.in-Ok-find_living.number; it = c.in-Ok-find_living.field-0-1.now } in
    let above = c.in-Ok.ensures.found in
    let below = c.in-Ok-find_living.ensures.found in
    let owner = living-object a above in
    let owned = living-object b below in
    let is = (rw (c.new-parent.ensures, c.new-child.ensures) at c.in-Err-accept_adoption.ensures.objects) owner.0 owned.0 a.it b.it owner.1 owned.1 in
    quietly-stopped _ c.from_residual.result (adoption-stops c.args.context.now.meta c.args.world.now c.args.parent.now c.args.child.now a above b below is.0 c.in_err-refusal-in-Err-accept_adoption.ensures) c.in-Err-accept_adoption.ensures.err c.from_residual.ensures.1

pub returns-in_ok-refusal-in-Err-accept_adoption : goal.returns-in_ok-refusal-in-Err-accept_adoption
returns-in_ok-refusal-in-Err-accept_adoption c =
    let a : Numbered Life = record { number = c.in-Ok.number; it = c.in-Ok.field-0-1.now } in
    let b : Numbered Life = record { number = c.in-Ok-find_living.number; it = c.in-Ok-find_living.field-0-1.now } in
    let above = c.in-Ok.ensures.found in
    let below = c.in-Ok-find_living.ensures.found in
    let owner = living-object a above in
    let owned = living-object b below in
    let is = (rw (c.new-parent.ensures, c.new-child.ensures) at c.in-Err-accept_adoption.ensures.objects) owner.0 owned.0 a.it b.it owner.1 owned.1 in
    quietly-refused-from c.in_ok-refusal-in-Err-accept_adoption.refusal _ c.reject.result (adoption-refuses c.args.context.now.meta c.args.world.now c.args.parent.now c.args.child.now a above b below is.0 c.in_ok-refusal-in-Err-accept_adoption.ensures) c.in-Err-accept_adoption.ensures.err c.reject.ensures
