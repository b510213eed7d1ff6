use Rattle.effect_scan.proofs.Gathered.{twins_none, twins_more}
use Rattle.effect_scan.proofs.sharing.twins.Goals as goal

pub loop-node-preserved : goal.loop-node-preserved
loop-node-preserved c = twins_more _ _ _ _ _ _ c.loop-node.invariant c.twin_of-twin.ensures c.in_ok-push.ensures.ok
