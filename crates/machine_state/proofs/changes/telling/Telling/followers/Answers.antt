use Rattle.std.proofs.Common.{◌≡◌, ◌+◌, ◌∷◌, List, drop, ap, sym, ◌∙◌, subst, arith}
use Rattle.std.proofs.lemmas.List.{drop_more, drop_all}
use Rattle.binding_graph.specs.declared.place.Place.{Place}
use Rattle.machine_state.specs.Telling.{others}
use Rattle.machine_state.specs.code.Planned.{StandFirst}
use Rattle.machine_state.proofs.Followers.{behind-first, behind-all}
use Rattle.machine_state.proofs.changes.telling.Telling.followers.Goals as goal

pub loop-place-init : goal.loop-place-init
loop-place-init c =
    let written = c.args.written.now in
    let os = others written c.args.self.now.planned.now.changed in
    subst (StandFirst os written) (sym c.changed-rest.ensures) c.requires.first

pub loop-place-preserved : goal.loop-place-preserved
loop-place-preserved c =
    let written = c.args.written.now in
    let os = others written c.args.self.now.planned.now.changed in
    let p = c.place-item.result in
    let left = drop (c.loop-place.place-index + 1) written in
    let whole : drop c.loop-place.place-index written ≡ p ∷ left =
    drop_more written c.loop-place.place-index p c.loop-place-test.true ∙ ap (λ (z : Place). z ∷ left) (sym c.place-item.is) in
    subst (StandFirst os left) (sym c.behind-rest.ensures)
    (behind-first os p left c.loop-place.rest.now (subst (λ (ps : List Place). StandFirst os ps c.loop-place.rest.now) whole c.loop-place.invariant))

pub returns : goal.returns
returns c =
    let written = c.args.written.now in
    let os = others written c.args.self.now.planned.now.changed in
    let none = drop_all c.loop-place.place-index written (omega (arith, c.loop-place-test.false)) in
    behind-all os c.loop-place.rest.now (subst (λ (ps : List Place). StandFirst os ps c.loop-place.rest.now) none c.loop-place.invariant)
