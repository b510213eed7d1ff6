use Rattle.std.proofs.Common.{◌∙◌, sym, ap}
use Rattle.name_indexes.specs.CallPlaces.{Layers, place_by}
use Rattle.name_indexes.proofs.Layers.{next_layer, this_layer}
use Rattle.name_indexes.proofs.Prefixes.{drop_end}
use Rattle.name_indexes.proofs.call_index.find_in.Goals as goal

pub loop-layer-preserved : goal.loop-layer-preserved
loop-layer-preserved c =
    c.loop-layer.invariant
    ∙ next_layer c.args.layers.now c.loop-layer.layer-index c.layer-item.result c.loop-layer-test.true c.layer-item.is c.args.count c.args.name.now
    (sym (rw c.get.ensures at c.in_default.ensures))

pub returns-in-Some : goal.returns-in-Some
returns-in-Some c =
    sym (c.loop-layer.invariant
    ∙ this_layer c.args.layers.now c.loop-layer.layer-index c.layer-item.result c.loop-layer-test.true c.layer-item.is c.args.count c.args.name.now c.in-Some.place
    (sym (rw c.get.ensures at c.in-Some.ensures)))

pub returns : goal.returns
returns c =
    sym (c.loop-layer.invariant
    ∙ ap (λ (ls : Layers). place_by ls c.args.count c.args.name.now) (drop_end c.args.layers.now c.loop-layer.layer-index c.loop-layer-test.false))
