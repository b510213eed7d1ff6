use Rattle.class_outlines.proofs.Zips.{zip_push}
use Rattle.meta_objects.specs.code.Outlined.{IndexesOutlined}
use Rattle.meta_objects.proofs.member_indexes.index_members.Goals as goal

pub loop-outline-preserved : goal.loop-outline-preserved
loop-outline-preserved c =
    zip_push IndexesOutlined _ _ _ _ _ _ c.loop-outline-test.true c.outline-item.is c.in_ok-index.ensures c.loop-outline.invariant c.in_ok-push.ensures.ok
