use Rattle.std.proofs.Common.{length, ◌-◌}
use Rattle.rank_graph.specs.Searching.{PassesDone}
use Rattle.rank_graph.proofs.search.past_done.Given as goal

abbrev pub invariant-loop-at : goal.invariant-loop-at
invariant-loop-at l = PassesDone l.rows l.states l.fn.visit l.at

abbrev pub decreases-loop-at : goal.decreases-loop-at
decreases-loop-at l = length l.row - l.at.next
