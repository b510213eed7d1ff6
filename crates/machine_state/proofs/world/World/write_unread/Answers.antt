use Rattle.std.proofs.Common.{◌∙◌, [], ◌∷◌, List, inl, inr, refl, ap, sym}
use Rattle.std.proofs.lemmas.Bool.{false≢true}
use Rattle.object_tree.specs.declared.object.Object.{Object}
use Rattle.object_tree.specs.Objects.{change_life, written}
use Rattle.binding_graph.specs.Bindings.{without}
use Rattle.trace_entries.specs.declared.entry.Entry.{Entry}
use Rattle.machine_state.specs.code.Changing.{noted}
use Rattle.machine_state.proofs.Alone.{alone-agreeing, alone-has-written}
use Rattle.machine_state.proofs.Bound.{noted-over}
use Rattle.machine_state.proofs.Changed.{fits-has}
use Rattle.machine_state.proofs.Trying.{tries-not}
use Rattle.machine_state.proofs.world.World.write_unread.Goals as goal

pub returns-then-not-fits-clause-value : goal.returns-then-not-fits-clause-value
returns-then-not-fits-clause-value c = (inl (refl, λ fits. false≢true (sym c.if-not-fits.true ∙ c.fits.ensures.1 fits)), refl)

pub line_of-requires : goal.line_of-requires
line_of-requires c = record { has = fits-has c.args.meta.now c.args.self.now.store.tree c.requires.agree.typed c.args.place.now c.args.value (c.fits.ensures.0 c.if-not-fits.false) }

pub returns-clause-value : goal.returns-clause-value
returns-clause-value c =
    let w = c.args.self.now in
    let at = c.args.place.now in
    let v = c.args.value in
    let line = c.in_ok-line.line in
    let fits = c.fits.ensures.0 c.if-not-fits.false in
    let new : List Object = change_life at.object (written at.property v) w.store.tree in (
      fits,
      alone-has-written c.args.meta.now w at v c.requires.agree fits c.requires.unread c.write_alone.result c.write_alone.ensures.changed c.args.depth line c.in_ok-line.ensures c.write_alone.new.self (noted w)
          (noted-over w c.write_alone.new.self new (without at w.store.bindings) (line ∷ []) c.push.new.self c.in_ok-push.ensures.ok c.write_alone.ensures.world),
    )

pub returns-clause-agree : goal.returns-clause-agree
returns-clause-agree c =
    let w = c.args.self.now in
    let at = c.args.place.now in
    let v = c.args.value in
    let line = c.in_ok-line.line in
    let new : List Object = change_life at.object (written at.property v) w.store.tree in
    alone-agreeing c.args.meta.now w at v c.requires.agree (c.fits.ensures.0 c.if-not-fits.false) c.requires.unread c.write_alone.result c.write_alone.ensures.changed c.write_alone.new.self (noted w (line ∷ []))
    (noted-over w c.write_alone.new.self new (without at w.store.bindings) (line ∷ []) c.push.new.self c.in_ok-push.ensures.ok c.write_alone.ensures.world)

pub returns-in_err-line-clause-value : goal.returns-in_err-line-clause-value
returns-in_err-line-clause-value c =
    let w = c.args.self.now in
    tries-not c.args.meta.now c.args.depth c.args.place.now c.args.value w w refl c.from_residual.result (inr refl) c.from_residual.ensures.1

pub returns-in_err-push-clause-value : goal.returns-in_err-push-clause-value
returns-in_err-push-clause-value c =
    let w = c.args.self.now in
    tries-not c.args.meta.now c.args.depth c.args.place.now c.args.value w _
    (ap (λ (s : List Entry). record w { trace = s }) c.in_err-push.ensures.err)
    c.from_residual-in_err-push.result (inr refl) c.from_residual-in_err-push.ensures.1
