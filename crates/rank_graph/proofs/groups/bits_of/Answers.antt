use Rattle.rank_graph.proofs.Grouping.{group_more, group_other, group_taken}
use Rattle.rank_graph.proofs.groups.bits_of.Goals as goal
use Rattle.rank_graph.proofs.groups.bits_of.Goals.{then-class-group, else-class-group}

pub loop-class-preserved : goal.loop-class-preserved
loop-class-preserved c =
    group_taken _ _ _ _ c.loop-class-test.true (
    elim c.if-class-group.branch [
      | then-class-group w ↦ rw w.bits-is (group_more _ _ _ _ _ w.if-class-group.true w.with-bits.ensures c.loop-class.invariant)
      | else-class-group w ↦ rw w.bits-is (group_other _ _ _ _ w.if-class-group.false c.loop-class.invariant)
    ]
    )
