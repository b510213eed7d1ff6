use Rattle.std.proofs.Common.{arith}
use Rattle.rank_graph.proofs.Grouping.{ranks_of_groups, classes_of_groups}
use Rattle.rank_graph.proofs.groups.solve.Goals as goal

pub returns-clause-ranks : goal.returns-clause-ranks
returns-clause-ranks c = ranks_of_groups _ _ c.loop-group.group _ _ c.of.ensures (omega (arith, c.loop-group-test.false)) c.loop-group.invariant

pub returns-clause-classes : goal.returns-clause-classes
returns-clause-classes c =
    classes_of_groups _ _ c.loop-group.group _ _ c.args.classes c.of.ensures (omega (arith, c.loop-group-test.false, c.loop-group.auto)) c.requires.classes c.loop-group.invariant
