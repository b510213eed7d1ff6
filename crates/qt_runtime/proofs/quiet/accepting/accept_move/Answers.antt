use Rattle.std.proofs.Common.{refl, sym, subst}
use Rattle.delete_later.specs.Moving.{StayAgreeing, no_memory}
use Rattle.machine_state.specs.declared.world.World.{World}
use Rattle.qt_runtime.proofs.quiet.accepting.accept_move.Goals as goal

pub returns-in_default-clause-stores : goal.returns-in_default-clause-stores
returns-in_default-clause-stores c = (no_memory, refl)

pub returns-in-Ok-move_tree-clause-agree : goal.returns-in-Ok-move_tree-clause-agree
returns-in-Ok-move_tree-clause-agree c =
    let Agrees : World → Type 0 = λ w. StayAgreeing c.args.world.now.store w.store in
    subst Agrees (sym c.count_event.ensures) c.in-Ok-move_tree.ensures.agree
