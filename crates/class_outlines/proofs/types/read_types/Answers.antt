use Rattle.std.proofs.Common.{rules}
use Rattle.name_indexes.proofs.Zips.{zip_push}
use Rattle.class_outlines.proofs.types.read_types.Goals as goal

pub loop-one-preserved : goal.loop-one-preserved
loop-one-preserved c =
    zip_push _ _ _ _ _ _ _ c.loop-one-test.true c.one-item.is (search rules) c.loop-one.invariant c.in_ok-push.ensures.ok
