use Rattle.std.proofs.Common.{arith}
use Rattle.rank_graph.proofs.Grouping.{zip_more, are_group_all}
use Rattle.rank_graph.proofs.groups.group_of.Goals as goal

pub loop-row-preserved : goal.loop-row-preserved
loop-row-preserved c =
    zip_more _ _ _ c.row-item.result _ _ _ _ c.loop-row-test.true c.row-item.is c.as_slice.ensures c.bits_of.ensures c.in_ok-push.ensures.ok c.loop-row.invariant

pub returns : goal.returns
returns c = are_group_all _ _ _ _ (omega (arith, c.loop-row-test.false)) c.loop-row.invariant
