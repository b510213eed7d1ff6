use Rattle.std.proofs.Common.{◌≡◌, ◌+◌, ◌++◌, [], ◌∷◌, List, take, sym, ap, ◌∙◌, subst, arith}
use Rattle.std.proofs.lemmas.List.{take_more, take_all}
use Rattle.std.proofs.lemmas.List.Elements.{All-from_recursion}
use Rattle.binding_graph.specs.declared.place.Place.{Place}
use Rattle.prop_bindings.specs.Plans.{after}
use Rattle.machine_state.specs.Telling.{HasValue}
use Rattle.machine_state.specs.code.Planned.{AddsFollowers}
use Rattle.machine_state.proofs.Told.{no-followers, one-follower}
use Rattle.machine_state.proofs.changes.telling.Telling.add_followers.Goals as goal

pub loop-place-init : goal.loop-place-init
loop-place-init c = no-followers c.args.self.now.meta.now (after c.args.self.now.planned.now c.args.self.now.tree.now) c.args.self.now.depth c.args.trace.now

pub loop-place-preserved : goal.loop-place-preserved
loop-place-preserved c =
    let self = c.args.self.now in
    let followers = c.args.followers.now in
    let passed = take c.loop-place.place-index followers in
    let q = c.place-item.result in
    let new = after self.planned.now self.tree.now in
    let more : take (c.loop-place.place-index + 1) followers ≡ passed ++ q ∷ [] =
    take_more followers c.loop-place.place-index q c.loop-place-test.true ∙ ap (λ (z : Place). passed ++ z ∷ []) (sym c.place-item.is) in
    subst (λ (ps : List Place). AddsFollowers self.meta.now new self.depth ps c.args.trace.now c.push.new.self) (sym more)
    (one-follower self.meta.now new self.depth passed q c.args.trace.now c.loop-place.trace c.push.new.self c.in_ok-line.field-0 c.loop-place.invariant c.in_ok-line.ensures c.in_ok-push.ensures.ok)

pub line-requires-clause-has : goal.line-requires-clause-has
line-requires-clause-has c =
    let self = c.args.self.now in
    let Has : Place → Type 0 = HasValue self.meta.now self.tree.now in
    subst Has (sym c.place-item.is) (All-from_recursion Has c.args.followers.now c.requires.have c.loop-place.place-index c.place-item.result c.loop-place-test.true)

pub line-requires-clause-will_have : goal.line-requires-clause-will_have
line-requires-clause-will_have c =
    let self = c.args.self.now in
    let Has : Place → Type 0 = HasValue self.meta.now (after self.planned.now self.tree.now) in
    subst Has (sym c.place-item.is) (All-from_recursion Has c.args.followers.now c.requires.will_have c.loop-place.place-index c.place-item.result c.loop-place-test.true)

pub returns-clause-ok : goal.returns-clause-ok
returns-clause-ok c =
    let self = c.args.self.now in
    let new = after self.planned.now self.tree.now in
    let all : take c.loop-place.place-index c.args.followers.now ≡ c.args.followers.now = take_all c.loop-place.place-index c.args.followers.now (omega (arith, c.loop-place-test.false)) in
    subst (λ (ps : List Place). AddsFollowers self.meta.now new self.depth ps c.args.trace.now c.loop-place.trace) all c.loop-place.invariant
