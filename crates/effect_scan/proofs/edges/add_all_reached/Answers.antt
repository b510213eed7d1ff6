use Rattle.meta_model.proofs.Searches.{read_at}
use Rattle.effect_scan.specs.code.NodePlaces.{IsReached}
use Rattle.effect_scan.proofs.Gathering.{some_first, some_next, some_last}
use Rattle.effect_scan.proofs.edges.add_all_reached.Goals as goal

pub loop-effect-init : goal.loop-effect-init
loop-effect-init c = some_first (IsReached c.args.places.now c.args.class) c.args.effects.now _

pub loop-effect-preserved : goal.loop-effect-preserved
loop-effect-preserved c =
    some_next (IsReached c.args.places.now c.args.class) c.args.effects.now _ _ _ _ _ c.loop-effect-test.true (read_at c.args.effects.now c.loop-effect.effect-index _ c.loop-effect-test.true) c.loop-effect.invariant
    c.in_ok-add_reached.ensures

pub returns : goal.returns
returns c = some_last (IsReached c.args.places.now c.args.class) c.args.effects.now _ _ _ _ c.loop-effect-test.false c.loop-effect.invariant c.put_in_order.ensures
