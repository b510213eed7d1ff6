use Rattle.std.proofs.Common.{◌∷◌, ◌++◌, ◌∙◌, [], List, sym, subst}
use Rattle.std.proofs.lemmas.Bool.{false≢true}
use Rattle.binding_graph.specs.declared.place.Place.{Place}
use Rattle.prop_bindings.specs.Changes.{AreChanged}
use Rattle.prop_bindings.specs.code.Parts.{ahead}
use Rattle.prop_bindings.proofs.Assigned.{ahead-values}
use Rattle.prop_bindings.proofs.AssignedValues.{assigned-differs}
use Rattle.prop_bindings.proofs.Changed.{changed-more, stayed-more}
use Rattle.prop_bindings.proofs.Staying.{alike-by, alike-from}
use Rattle.prop_bindings.proofs.changes.add_changed.Goals as goal

pub returns-then-stays : goal.returns-then-stays
returns-then-stays c = λ ps changes. stayed-more c.args.tree.now (ahead c.args.values.now c.args.tree.now) c.args.place.now ps c.args.changed.now changes
    (alike-by c.args.tree.now (ahead c.args.values.now c.args.tree.now) (assigned-differs c.args.values.now.entries c.args.tree.now) c.args.place.now _ (sym (ahead-values c.args.values.now c.args.tree.now c.args.place.now)) (c.stays.ensures.0 c.if-stays.true))

pub returns : goal.returns
returns c = λ ps changes.
    subst (λ (cs : List Place). AreChanged c.args.tree.now (ahead c.args.values.now c.args.tree.now) (ps ++ c.args.place.now ∷ []) cs) (sym c.in_ok-push.ensures.ok)
    (changed-more c.args.tree.now (ahead c.args.values.now c.args.tree.now) c.args.place.now ps c.args.changed.now changes
    (λ alike. false≢true (sym c.if-stays.false ∙ c.stays.ensures.1 (alike-from c.args.tree.now (ahead c.args.values.now c.args.tree.now) (assigned-differs c.args.values.now.entries c.args.tree.now) c.args.place.now _ (sym (ahead-values c.args.values.now c.args.tree.now c.args.place.now)) alike))))
