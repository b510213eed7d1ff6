use Rattle.std.proofs.Common.{[], ◌∷◌, List, ap, subst}
use Rattle.object_tree.specs.declared.object.Object.{Object}
use Rattle.object_tree.specs.Objects.{change_life, written}
use Rattle.prop_bindings.specs.Changes.{AreChanged}
use Rattle.machine_state.specs.declared.world.World.{World}
use Rattle.machine_state.specs.code.Changing.{accepting_entries}
use Rattle.machine_state.proofs.Alone.{alone-agreeing, alone-has-written}
use Rattle.qt_runtime.proofs.Bound.{counted-over}
use Rattle.machine_state.proofs.Changed.{fits-has}
use Rattle.qt_runtime.proofs.quiet.binding.accept_unread.Goals as goal

pub line_of-requires : goal.line_of-requires
line_of-requires c = record { has = fits-has c.args.meta.now c.args.world.now.store.tree c.requires.agree.typed c.args.place.now c.args.value c.requires.fits }

pub returns-clause-value : goal.returns-clause-value
returns-clause-value c =
    let w = c.args.world.now in
    let at = c.args.place.now in
    let v = c.args.value in
    let line = c.in_ok-line.line in
    let changes = subst (λ (xs : List Object). AreChanged xs (change_life at.object (written at.property v) xs) (at ∷ []) c.write_alone.result) (ap (λ (z : World). z.store.tree) c.count_event.ensures) c.write_alone.ensures.changed in
    alone-has-written c.args.meta.now w at v c.requires.agree c.requires.fits c.requires.unread c.write_alone.result changes 1 line c.in_ok-line.ensures c.write_alone.new.self (accepting_entries w)
    (counted-over w c.count_event.new.world c.write_alone.new.self (change_life at.object (written at.property v)) at (line ∷ []) c.accept.new.self c.in_ok-accept.ensures.ok c.count_event.ensures c.write_alone.ensures.world)

pub returns-clause-agree : goal.returns-clause-agree
returns-clause-agree c =
    let w = c.args.world.now in
    let at = c.args.place.now in
    let v = c.args.value in
    let line = c.in_ok-line.line in
    let changes = subst (λ (xs : List Object). AreChanged xs (change_life at.object (written at.property v) xs) (at ∷ []) c.write_alone.result) (ap (λ (z : World). z.store.tree) c.count_event.ensures) c.write_alone.ensures.changed in
    alone-agreeing c.args.meta.now w at v c.requires.agree c.requires.fits c.requires.unread c.write_alone.result changes c.write_alone.new.self (accepting_entries w (line ∷ []))
    (counted-over w c.count_event.new.world c.write_alone.new.self (change_life at.object (written at.property v)) at (line ∷ []) c.accept.new.self c.in_ok-accept.ensures.ok c.count_event.ensures c.write_alone.ensures.world)
