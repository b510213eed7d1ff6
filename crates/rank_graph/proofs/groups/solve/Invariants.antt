use Rattle.rank_graph.proofs.Grouping.{Grouped}
use Rattle.rank_graph.proofs.groups.solve.Given as goal

abbrev pub invariant-loop-group : goal.invariant-loop-group
invariant-loop-group l = Grouped l.rows l.own l.group l.groups
