use Rattle.std.proofs.Common.{◌++◌, ◌∷◌, ◌∙◌, [], List, take, ap, sym, subst}
use Rattle.std.proofs.lemmas.List.{append-nil, append_assoc}
use Rattle.binding_graph.specs.declared.numbering.Numbered.{Numbered}
use Rattle.binding_graph.specs.declared.place.Place.{Place}
use Rattle.prop_bindings.specs.Changes.{AreChanged, none_changed}
use Rattle.binding_graph.specs.code.Numbering.{places_of}
use Rattle.prop_bindings.specs.code.Parts.{ahead}
use Rattle.binding_graph.proofs.Numbers.{taken-all}
use Rattle.binding_graph.proofs.Ranked.{next-taken, taken-places}
use Rattle.binding_graph.proofs.Sorting.{next-numbered}
use Rattle.prop_bindings.proofs.changes.changed_among.Goals as goal

pub loop-target-init : goal.loop-target-init
loop-target-init c = subst (AreChanged c.args.tree.now (ahead c.args.values.now c.args.tree.now) []) (sym c.new-changed.ensures) none_changed

pub loop-target-preserved : goal.loop-target-preserved
loop-target-preserved c =
    subst (λ (ps : List Place). AreChanged c.args.tree.now (ahead c.args.values.now c.args.tree.now) ps c.add_changed.new.changed)
    (sym (next-taken c.args.targets.now c.loop-target.target-index c.target-item.result c.loop-target-test.true c.target-item.is))
    (c.in_ok-add_changed.ensures (take c.loop-target.target-index c.args.targets.now) c.loop-target.invariant)

pub loop-each-init : goal.loop-each-init
loop-each-init c =
    subst (λ (ps : List Place). AreChanged c.args.tree.now (ahead c.args.values.now c.args.tree.now) ps c.loop-target.changed)
    (taken-places c.args.targets.now c.loop-target.target-index c.loop-target-test.false ∙ sym (append-nil c.args.targets.now))
    c.loop-target.invariant

pub loop-each-preserved : goal.loop-each-preserved
loop-each-preserved c =
    let before : List Place = places_of (take c.loop-each.each-index c.args.others.now) in
    subst (λ (ps : List Place). AreChanged c.args.tree.now (ahead c.args.values.now c.args.tree.now) ps c.add_changed-in-loop-each.new.changed)
    (append_assoc c.args.targets.now before (c.each-item.result.place ∷ [])
    ∙ ap (λ (ps : List Place). c.args.targets.now ++ ps) (sym (next-numbered c.args.others.now c.loop-each.each-index c.each-item.result c.loop-each-test.true c.each-item.is)))
    (c.in_ok-add_changed-2.ensures (c.args.targets.now ++ before) c.loop-each.invariant)

pub returns : goal.returns
returns c =
    subst (λ (fs : List Numbered). AreChanged c.args.tree.now (ahead c.args.values.now c.args.tree.now) (c.args.targets.now ++ places_of fs) c.loop-each.changed) (taken-all c.args.others.now c.loop-each.each-index c.loop-each-test.false) c.loop-each.invariant
