use Rattle.std.proofs.Common.{length}
use Rattle.class_sets.specs.Marks.{IsMarked}
use Rattle.meta_model.proofs.Zips.{zip_push}
use Rattle.effect_scan.specs.code.NodePlaces.{Lists}
use Rattle.effect_scan.proofs.closure.list_rows.Goals as goal

pub loop-set-preserved : goal.loop-set-preserved
loop-set-preserved c =
    zip_push (λ marks list. Lists (IsMarked marks) (length marks) list) _ _ _ _ _ _ c.loop-set-test.true c.set-item.is c.in_ok-list.ensures c.loop-set.invariant c.in_ok-push.ensures.ok
