use Rattle.rank_check.proofs.Listing.{item_lacks, set_more}
use Rattle.rank_check.proofs.sets.destroy_set.Goals as goal

pub returns-then-not-add_item : goal.returns-then-not-add_item
returns-then-not-add_item c = item_lacks c.args.meta.now c.args.items.now c.loop-place.place c.index-items-place.result c.loop-place-test.true c.index-items-place.is c.if-not-add_item.ensures

pub loop-place-preserved : goal.loop-place-preserved
loop-place-preserved c =
    set_more c.args.meta.now c.args.items.now c.loop-place.place c.index-items-place.result c.loop-place-test.true c.index-items-place.is _ _ c.if-not-add_item.ensures c.loop-place.invariant
