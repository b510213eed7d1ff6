use Rattle.std.proofs.Common.{◌∙◌, ◌∷◌, [], List, sym, subst}
use Rattle.std.proofs.lemmas.Bool.{false≢true}
use Rattle.object_tree.specs.Objects.{change_life, written}
use Rattle.binding_graph.specs.declared.place.Place.{Place}
use Rattle.prop_bindings.specs.Changes.{AreChanged}
use Rattle.prop_bindings.proofs.Alone.{alone-changed, alone-stayed}
use Rattle.prop_bindings.proofs.changes.changed_alone.Goals as goal

pub returns-then-stays_alone : goal.returns-then-stays_alone
returns-then-stays_alone c =
    subst (λ (cs : List Place). AreChanged c.args.tree.now (change_life c.args.place.now.object (written c.args.place.now.property c.args.value.now) c.args.tree.now) (c.args.place.now ∷ []) cs)
    (sym c.new.ensures)
    (alone-stayed c.args.tree.now c.args.place.now c.args.value.now (c.stays_alone.ensures.0 c.if-stays_alone.true))

pub returns : goal.returns
returns c =
    subst (λ (cs : List Place). AreChanged c.args.tree.now (change_life c.args.place.now.object (written c.args.place.now.property c.args.value.now) c.args.tree.now) (c.args.place.now ∷ []) cs)
    (sym c.one.ensures)
    (alone-changed c.args.tree.now c.args.place.now c.args.value.now (λ same. false≢true (sym c.if-stays_alone.false ∙ c.stays_alone.ensures.1 same)))
