use Rattle.std.proofs.Common.{[], ◌∷◌, sym, subst}
use Rattle.std.specs.List.{AllByRecursion}
use Rattle.std.proofs.lemmas.Result.{on_ok_weaker}
use Rattle.binding_graph.specs.declared.place.Place.{Place}
use Rattle.prop_bindings.specs.Plans.{after}
use Rattle.machine_state.specs.Telling.{HasValue}
use Rattle.machine_state.specs.code.Planned.{AddsFollowers}
use Rattle.machine_state.proofs.Followers.{others-have}
use Rattle.machine_state.proofs.Told.{change-told}
use Rattle.machine_state.proofs.changes.telling.Telling.add_change.Goals as goal

pub add_followers-requires-clause-have : goal.add_followers-requires-clause-have
add_followers-requires-clause-have c =
    let self = c.args.self.now in
    let Has : Place → Type 0 = HasValue self.meta.now self.tree.now in
    subst (AllByRecursion Has) (sym c.followers-followers.ensures) (others-have Has (c.args.first.now ∷ []) self.planned.now.changed c.requires.can.changed_have)

pub add_followers-requires-clause-will_have : goal.add_followers-requires-clause-will_have
add_followers-requires-clause-will_have c =
    let self = c.args.self.now in
    let Has : Place → Type 0 = HasValue self.meta.now (after self.planned.now self.tree.now) in
    subst (AllByRecursion Has) (sym c.followers-followers.ensures) (others-have Has (c.args.first.now ∷ []) self.planned.now.changed c.requires.can.changed_will_have)

pub returns-clause-ok : goal.returns-clause-ok
returns-clause-ok c =
    let self = c.args.self.now in
    let new = after self.planned.now self.tree.now in
    let changed = self.planned.now.changed in
    on_ok_weaker c.add_followers.result
    (λ (follow : AddsFollowers self.meta.now new self.depth c.followers-followers.result.now c.push.new.self c.add_followers.new.trace).
    change-told self.meta.now new self.depth c.args.cause c.args.first.now changed c.followers-followers.result.now c.args.trace.now c.push.new.self c.add_followers.new.trace c.in_ok-line.line c.in_ok-line.ensures c.in_ok-push.ensures.ok c.followers-followers.ensures follow)
    c.add_followers.ensures.ok
